-- A list of marks, one for each number in the order of the numbers: true where the number keeps its rule.
-- Assumes nothing.
use Rattle.std.specs.Prelude.{◌≡◌, Bool, true, cond, ◌&&◌, List, [], ◌∷◌, ◌++◌, map, length, ℕ, zero, suc, ◌+◌, ◌*◌, ◌<◌, ℤ, Result, Ok, Err}
use Rattle.whole.specs.Bounds.{is_zero}

-- the place of the first false mark; the count of the marks where none is false
unfoldable pub first_false : List Bool → ℕ
first_false [] = 0
first_false (m ∷ ms) = cond m (suc (first_false ms)) 0

-- the same place, where the first mark stands at place k
unfoldable pub place_from : ℕ → List Bool → ℕ
place_from k ms = k + first_false ms

-- what a check of marks answers, the first of which stands at place k: Ok where none is false, else the place of the first false one
unfoldable pub check_from : ℕ → List Bool → Result (Unit {0}) ℕ
check_from k [] = Ok tt
check_from k (m ∷ ms) = cond m (check_from (suc k) ms) (Err k)

-- every mark is true
unfoldable pub all_true : List Bool → Bool
all_true [] = true
all_true (m ∷ ms) = m && all_true ms

-- a test that each of 0, 1, .., n − 1 passes
unfoldable pub every : ℕ → (ℕ → Bool) → Bool
every zero f = true
every (suc n) f = every n f && f n

-- every number is zero: an absent row, a block that is not open, an asset of which nothing is held
unfoldable pub all_zero : List ℤ → Bool
all_zero numbers = all_true (map is_zero numbers)

-- piece i, then piece i + 1, and so on, n pieces in all
unfoldable pub pieces : {A : Type 0} → (ℕ → List A) → ℕ → ℕ → List A
pieces piece i zero = []
pieces piece i (suc n) = piece i ++ pieces piece (suc i) n

-- a check of each of n pieces, one after another, answers as their marks do: so many marks each, the first at place `at`
pub record AsMarks (answers : ℕ → Result (Unit {0}) ℕ → Type 0) (at size n : ℕ) (marks : ℕ → List Bool) : Type 0 where
  pub long : (k : ℕ) → k < n → length (marks k) ≡ size
  pub answer : (k : ℕ) (r : Result (Unit {0}) ℕ) → k < n → answers k r → r ≡ check_from (at + size * k) (marks k)
