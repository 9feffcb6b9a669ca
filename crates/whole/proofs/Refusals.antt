-- Laws of lists of refusals, over any list and place: a chain of tests that stops at the first refusal, one list after another, and what a
-- call leaves behind it.
-- Assumes nothing.
use mathlib.Core.Path.{◌≡◌, refl, sym, ◌∙◌}
use mathlib.Core.Bool.{Bool, true, false}
use mathlib.Core.List.{List, [], ◌∷◌, ◌++◌}
use Prim.Native.Nat.{ℕ, zero, suc}
use native.Mathlib.Omega.{arith}
use lib.Dec.{T}
use borrow.Author.Tests.{eq-eqb, ne_eqb}
use Rattle.whole.specs.Refusals.{Refusal, ◌gives◌, first_code, leaves}

-- ---- a chain of tests: those before missed, and this one hit
pub data Code : List Refusal → ℕ → Type 0 where
  none : Code [] 0
  hit : {t : Bool} {k : ℕ} {rs : List Refusal} → t ≡ true → Code (t gives k ∷ rs) k
  miss : {t : Bool} {k n : ℕ} {rs : List Refusal} → t ≡ false → Code rs n → Code (t gives k ∷ rs) n

pub code : {rs : List Refusal} {n : ℕ} → Code rs n → n ≡ first_code rs
unfolding first_code
code none = refl
code (hit e) = rw e refl
code (miss e p) = rw e (code p)

-- ---- a list in which every code is above 0: where it gives 0, no test of it holds
abbrev pub coded : List Refusal → Bool
coded [] = true
coded (t gives zero ∷ rs) = false
coded (t gives suc k ∷ rs) = coded rs

abbrev pub test_at : ℕ → List Refusal → Bool
test_at n [] = false
test_at zero (t gives k ∷ rs) = t
test_at (suc n) (t gives k ∷ rs) = test_at n rs

pub none_holds : (rs : List Refusal) → T (coded rs) → first_code rs ≡ 0 → (n : ℕ) → test_at n rs ≡ false
unfolding first_code
none_holds [] c e n = refl
none_holds (t gives zero ∷ rs) c e n = absurd c
none_holds (true gives suc k ∷ rs) c e n = absurd (omega arith)
none_holds (false gives suc k ∷ rs) c e zero = refl
none_holds (false gives suc k ∷ rs) c e (suc n) = none_holds rs c e n

-- ---- one list after another
pub refused : (a b : List Refusal) → (first_code a ≡ 0 → ⊥) → first_code (a ++ b) ≡ first_code a
unfolding first_code
refused [] b h = absurd (h refl)
refused (true gives k ∷ a) b h = refl
refused (false gives k ∷ a) b h = refused a b h

pub goes_on : (a b : List Refusal) → T (coded a) → first_code a ≡ 0 → first_code (a ++ b) ≡ first_code b
unfolding first_code
goes_on [] b c e = refl
goes_on (t gives zero ∷ a) b c e = absurd c
goes_on (true gives suc k ∷ a) b c e = absurd (omega arith)
goes_on (false gives suc k ∷ a) b c e = goes_on a b c e

pub first_zero : (a b : List Refusal) → first_code (a ++ b) ≡ 0 → first_code a ≡ 0
unfolding first_code
first_zero [] b e = refl
first_zero (true gives k ∷ a) b e = e
first_zero (false gives k ∷ a) b e = first_zero a b e

pub second_zero : (a b : List Refusal) → T (coded a) → first_code (a ++ b) ≡ 0 → first_code b ≡ 0
second_zero a b c e = sym (goes_on a b c (first_zero a b e)) ∙ e

-- as a call answers them: the first list's code where it is not 0, else the second's
module _ {n : ℕ} (a b : List Refusal) where
  pub stops : n ≡ first_code a → (n ≡ 0 → ⊥) → n ≡ first_code (a ++ b)
  stops e h = e ∙ sym (refused a b (λ z. h (e ∙ z)))

  pub follows : T (coded a) → first_code a ≡ 0 → n ≡ first_code b → n ≡ first_code (a ++ b)
  follows c z e = e ∙ sym (goes_on a b c z)

-- ---- what a call leaves
pub kept : {A : Type 0} (n : ℕ) (new old : A) → (n ≡ 0 → ⊥) → old ≡ leaves n new old
unfolding leaves
kept n new old h = rw (ne_eqb n 0 h)

pub changed : {A : Type 0} (n : ℕ) (new old : A) → n ≡ 0 → new ≡ leaves n new old
unfolding leaves
changed n new old e = rw (eq-eqb n 0 e)
