-- A buffer that takes five figures, as the code fills it or turns it away. Assumes nothing.
use mathlib.Core.Path.{◌≡◌, refl}
use mathlib.Core.List.{List}
use Prim.Native.Nat.{ℕ}
use lib.ListN.{length}
use borrow.Author.Tests.{eq-eqb, ne_eqb}
use Rattle.whole.specs.Refusals.{wrong_length}
use Rattle.engine_c.specs.Face.{Filled, fills}

module _ {A : Type 0} (figures : List A) where
  pub turned_away : (code : ℕ) (five : List A) → (length figures ≡ 5 → ⊥) → ◌≡◌ {A = Filled A} (record { code = wrong_length; figures = figures }) (fills code five figures)
  unfolding fills
  turned_away code five h = rw (ne_eqb (length figures) 5 h) refl

  pub taken : {code meant : ℕ} {out five : List A} → length figures ≡ 5 → code ≡ meant → out ≡ five
      → ◌≡◌ {A = Filled A} (record { code = code; figures = out }) (fills meant five figures)
  unfolding fills
  taken l e q = rw (eq-eqb (length figures) 5 l) (λ i. record { code = e i; figures = q i })
