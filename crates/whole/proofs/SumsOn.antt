-- Laws of sums over those that pass a test, and what is asked of any way of adding: that a term which counts is counted once.
-- Assumes nothing.
use mathlib.Core.Path.{◌≡◌, refl, sym, ap, ap₂, ◌∙◌}
use mathlib.Core.Bool.{Bool, true, false, cond}
use mathlib.Core.Logic.{◌≢◌}
use Prim.Native.Nat.{ℕ, suc, ◌<◌}
use native.Mathlib.Omega.{arith}
use borrow.Author.Tests.{eq-eqb, ne_eqb}
use lib.Dec.{eqb}
use lib.IntN.{ℤ, pos, ◌+ℤ◌}
use Rattle.whole.specs.Sums.{Σ<, Σ<on}
use Rattle.whole.proofs.Expressions.{var, lit, ◌⊕◌, eq!, eq?}
use Rattle.whole.proofs.Sums.{sum_none, sum_suc, sum_same, sum_one, sum_zero}

pub on_none : (on : ℕ → Bool) (f : ℕ → ℤ) → Σ<on 0 on f ≡ pos 0
unfolding Σ<on
on_none on f = sum_none _

-- one more, which passes or does not
pub on_suc : (n : ℕ) (on : ℕ → Bool) (f : ℕ → ℤ) → Σ<on (suc n) on f ≡ Σ<on n on f +ℤ cond (on n) (f n) (pos 0)
unfolding Σ<on
on_suc n on f = sum_suc n _

-- the same where the same pass, with the same terms
pub on_same : (n : ℕ) (on on' : ℕ → Bool) (f g : ℕ → ℤ) → ((j : ℕ) → j < n → on j ≡ on' j) → ((j : ℕ) → j < n → on' j ≡ true → f j ≡ g j)
    → Σ<on n on f ≡ Σ<on n on' g
unfolding Σ<on
on_same n on on' f g same terms = sum_same n _ _ (λ j l. by (on j) (on' j) (same j l) (terms j l))
  where
    by : {x y : ℤ} (t t' : Bool) → t ≡ t' → (t' ≡ true → x ≡ y) → cond t x (pos 0) ≡ cond t' y (pos 0)
    by {x} {y} t true e h = ap₂ (λ (s : Bool) (z : ℤ). cond s z (pos 0)) e (h refl)
    by {x} {y} t false e h = ap (λ (s : Bool). cond s x (pos 0)) e

-- a way of adding in which term a counts: where it alone of the first n grows by x, so does what is added up
abbrev pub CountsOnce : ℕ → ((ℕ → ℤ) → ℤ) → ℕ → Type 0
CountsOnce n sum a = (f g : ℕ → ℤ) (x : ℤ) → ((j : ℕ) → j < n → j ≢ a → g j ≡ f j) → g a ≡ f a +ℤ x → sum g ≡ sum f +ℤ x

-- in the sum over those that pass, one that passes counts
pub on_counts : (n a : ℕ) (on : ℕ → Bool) → a < n → on a ≡ true → CountsOnce n (Σ<on n on) a
unfolding Σ<on
on_counts n a on l here f g x others e =
    let F = var (Σ< n (λ j. cond (on j) (f j) (pos 0))) in
    let G = var (Σ< n (λ j. cond (on j) (g j) (pos 0))) in
    eq! G (F ⊕ var x)
    (omega (
      arith,
      eq? (G ⊕ var (f a)) (F ⊕ var (g a))
          (rw here at (sum_one n a (λ j. cond (on j) (f j) (pos 0)) (λ j. cond (on j) (g j) (pos 0)) l
          (λ j q d. ap (λ (z : ℤ). cond (on j) z (pos 0)) (others j q d)))),
      eq? (var (g a)) (var (f a) ⊕ var x) e,
    ))

-- where one alone passes, the sum is its term
pub on_alone : (n i : ℕ) (on : ℕ → Bool) → i < n → ((j : ℕ) → j < n → on j ≡ eqb i j) → (f : ℕ → ℤ) → Σ<on n on f ≡ f i
unfolding Σ<on
on_alone n i on l alone f =
    let F = var (Σ< n (λ j. cond (on j) (f j) (pos 0))) in
    let Z = var (Σ< n (λ j. pos 0)) in
    let here = var (cond (on i) (f i) (pos 0)) in
    eq! F (var (f i))
    (omega (
      arith,
      eq? (F ⊕ lit 0) (Z ⊕ here)
          (sum_one n i (λ j. pos 0) (λ j. cond (on j) (f j) (pos 0)) l (λ j q d. term j q false (ne_eqb i j (λ e. d (sym e))))),
      eq? Z (lit 0) (sum_zero n (λ j. pos 0) (λ j q. refl)),
      eq? here (var (f i)) (term i l true (eq-eqb i i refl)),
    ))
  where
    term : (j : ℕ) → j < n → (t : Bool) → eqb i j ≡ t → cond (on j) (f j) (pos 0) ≡ cond t (f j) (pos 0)
    term j q t e = ap (λ (s : Bool). cond s (f j) (pos 0)) (alone j q ∙ e)
