-- Laws of lists of marks, over any list and place: the place of the first false one, marks one after another, and what follows
-- where all are true.
-- Assumes nothing.
use mathlib.Core.Path.{◌≡◌, refl, sym, ap, ◌∙◌, subst}
use mathlib.Core.Bool.{Bool, true, false}
use mathlib.Core.List.{List, [], ◌∷◌, ◌++◌, map}
use mathlib.Core.Logic.{⊎_elim}
use Prim.Native.Nat.{ℕ, zero, suc, ◌+◌, ◌*◌, ◌≤◌, ◌<◌}
use native.Mathlib.Nat.{eq-or-lt_of_le, mul-suc, mul-zero}
use native.Mathlib.Omega.{arith}
use lib.ListN.{length, get_or, length-append, get_or-map}
use Rattle.whole.specs.Marks.{first_false, place_from, all_true, pieces}
use Rattle.whole.proofs.Tests.{and_left, and_right, true_not_false}

-- ---- the place: every mark before it is true, and the mark at it is false
pub first_at_most : (ms : List Bool) → first_false ms ≤ length ms
unfolding first_false
first_at_most [] = omega arith
first_at_most (true ∷ ms) = let h = first_at_most ms in omega arith
first_at_most (false ∷ ms) = omega arith

pub true_before : (ms : List Bool) (k : ℕ) → k < first_false ms → get_or ms k true ≡ true
unfolding first_false
true_before [] k h = refl
true_before (true ∷ ms) zero h = refl
true_before (true ∷ ms) (suc k) h = true_before ms k (omega arith)
true_before (false ∷ ms) k h = absurd (omega arith)

pub false_at : (ms : List Bool) → first_false ms < length ms → get_or ms (first_false ms) true ≡ false
unfolding first_false
false_at [] h = absurd (omega arith)
false_at (true ∷ ms) h = false_at ms (omega arith)
false_at (false ∷ ms) h = refl

-- a true mark in front of them, of which nothing is asked: the place is counted past it
pub first_unasked : (k x : ℕ) (ms : List Bool) → x ≡ place_from (suc k) ms → x ≡ place_from k (true ∷ ms)
unfolding place_from first_false
first_unasked k x ms p = omega arith

-- ---- one list after another
pub first_in : (a b : List Bool) → first_false a < length a → first_false (a ++ b) ≡ first_false a
unfolding first_false
first_in [] b h = absurd (omega arith)
first_in (true ∷ a) b h = ap suc (first_in a b (omega arith))
first_in (false ∷ a) b h = refl

pub first_past : (a b : List Bool) → length a ≤ first_false a → first_false (a ++ b) ≡ length a + first_false b
unfolding first_false
first_past [] b h = omega arith
first_past (true ∷ a) b h = ap suc (first_past a b (omega arith)) ∙ omega arith
first_past (false ∷ a) b h = absurd (omega arith)

pub pieces_length : (f : ℕ → List Bool) (size i n : ℕ) → ((d : ℕ) → d < i + n → length (f d) ≡ size) → length (pieces f i n) ≡ size * n
unfolding pieces
pieces_length f size i zero h = sym (mul-zero size)
pieces_length f size i (suc n) h =
    length-append (f i) (pieces f (suc i) n)
    ∙ omega (arith, h i (omega arith), pieces_length f size (suc i) n (λ d l. h d (omega arith)), mul-suc size n)

-- ---- all true
pub all_of : (ms : List Bool) → length ms ≤ first_false ms → all_true ms ≡ true
unfolding first_false all_true
all_of [] h = refl
all_of (true ∷ ms) h = all_of ms (omega arith)
all_of (false ∷ ms) h = absurd (omega arith)

pub none_false : (ms : List Bool) → all_true ms ≡ true → first_false ms ≡ length ms
unfolding first_false all_true
none_false [] e = refl
none_false (true ∷ ms) e = ap suc (none_false ms e)
none_false (false ∷ ms) e = true_not_false e

pub not_all_of : (ms : List Bool) → first_false ms < length ms → all_true ms ≡ false
unfolding first_false all_true
not_all_of [] h = absurd (omega arith)
not_all_of (true ∷ ms) h = not_all_of ms (omega arith)
not_all_of (false ∷ ms) h = refl

pub some_false : (ms : List Bool) → all_true ms ≡ false → first_false ms < length ms
unfolding first_false all_true
some_false [] e = true_not_false (sym e)
some_false (true ∷ ms) e = let h = some_false ms e in omega arith
some_false (false ∷ ms) e = omega arith

pub all_at : (ms : List Bool) → all_true ms ≡ true → (k : ℕ) → get_or ms k true ≡ true
unfolding all_true
all_at [] e k = refl
all_at (m ∷ ms) e zero = and_left m (all_true ms) e
all_at (m ∷ ms) e (suc k) = all_at ms (and_right m (all_true ms) e) k

pub all_left : (a b : List Bool) → all_true (a ++ b) ≡ true → all_true a ≡ true
unfolding all_true
all_left [] b e = refl
all_left (true ∷ a) b e = all_left a b e
all_left (false ∷ a) b e = e

pub all_right : (a b : List Bool) → all_true (a ++ b) ≡ true → all_true b ≡ true
unfolding all_true
all_right [] b e = e
all_right (true ∷ a) b e = all_right a b e
all_right (false ∷ a) b e = true_not_false e

pub all_piece : (f : ℕ → List Bool) (i n d : ℕ) → i ≤ d → d < i + n → all_true (pieces f i n) ≡ true → all_true (f d) ≡ true
unfolding pieces
all_piece f i zero d p q e = absurd (omega arith)
all_piece f i (suc n) d p q e =
    ⊎_elim (λ h. subst (λ (k : ℕ). all_true (f k) ≡ true) h (all_left (f i) (pieces f (suc i) n) e))
    (λ h. all_piece f (suc i) n d h (omega arith) (all_right (f i) (pieces f (suc i) n) e))
    (eq-or-lt_of_le p)

-- and back, of one list after another and of pieces
pub all_both : (a b : List Bool) → all_true a ≡ true → all_true b ≡ true → all_true (a ++ b) ≡ true
unfolding all_true
all_both [] b e f = f
all_both (true ∷ a) b e f = all_both a b e f
all_both (false ∷ a) b e f = true_not_false e

pub all_pieces : (f : ℕ → List Bool) (i n : ℕ) → ((d : ℕ) → d < i + n → all_true (f d) ≡ true) → all_true (pieces f i n) ≡ true
unfolding pieces all_true
all_pieces f i zero h = refl
all_pieces f i (suc n) h = all_both (f i) (pieces f (suc i) n) (h i (omega arith)) (all_pieces f (suc i) n (λ d l. h d (omega arith)))

-- of marks made number by number
pub all_numbers : {A : Type 0} (f : A → Bool) (s : List A) (z : A) → f z ≡ true → all_true (map f s) ≡ true → (k : ℕ) → f (get_or s k z) ≡ true
unfolding all_true
all_numbers f s z out e k = sym (get_or-map f s k z) ∙ subst (λ (t : Bool). get_or (map f s) k t ≡ true) (sym out) (all_at (map f s) e k)
