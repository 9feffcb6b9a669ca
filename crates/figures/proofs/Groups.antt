-- Laws of the groups of the discount (specs/Limit): an asset's part stands in at most one of them, and what one side of a group comes to.
-- Assumes nothing.
use mathlib.Core.Path.{◌≡◌, refl}
use mathlib.Core.Bool.{Bool, true, false, cond}
use Prim.Native.Nat.{ℕ, zero, suc, ◌+◌, ◌<◌}
use native.Mathlib.Omega.{arith}
use borrow.Author.Tests.{eqb-true, ne_eqb}
use lib.Dec.{eqb}
use lib.IntN.{ℤ, pos, ◌+ℤ◌}
use lib.Signed.{◌≤ℤ◌}
use Rattle.whole.specs.Sums.{Σ<}
use Rattle.whole.specs.Parts.{number}
use Rattle.whole.proofs.Expressions.{var, lit, ◌⊕◌, le! }
use Rattle.whole.proofs.Tabulated.{tabulated_at}
use Rattle.whole.proofs.Rules.{ints}
use Rattle.assets.specs.declared.parts.Part.{Part}
use Rattle.assets.proofs.Sizes.{choice_from_zero}
use Rattle.figures.specs.Limit.{in_group, by_group}

pub in_group_from_zero : (g : ℕ) (part : Part) {x : ℤ} → pos 0 ≤ℤ x → pos 0 ≤ℤ in_group g part x
unfolding in_group
in_group_from_zero g part h = choice_from_zero (eqb part.group g) h

-- a part stands in at most one of the groups 1 to n
module _ (part : Part) (x : ℤ) (z : pos 0 ≤ℤ x) where
  abbrev in_next : ℕ → ℤ
  in_next g = in_group (1 + g) part x

  no_group : (n : ℕ) → n < part.group → Σ< n in_next ≡ pos 0
  unfolding in_group Σ<
  no_group zero h = refl
  no_group (suc n) h =
      rw (no_group n (omega arith), ne_eqb part.group (1 + n) (λ (e : part.group ≡ 1 + n). absurd (omega arith))) refl

  pub one_group : (n : ℕ) → Σ< n in_next ≤ℤ x
  unfolding in_group Σ<
  one_group zero = z
  one_group (suc n) = by (eqb part.group (1 + n)) refl (one_group n)
    where
      by : (t : Bool) → eqb part.group (1 + n) ≡ t → Σ< n in_next ≤ℤ x → (Σ< n in_next +ℤ cond t x (pos 0)) ≤ℤ x
      by true e h = let q = eqb-true part.group (1 + n) e in rw (no_group n (omega arith)) (le! (lit 0 ⊕ var x) (var x) (omega arith))
      by false e h = le! (var (Σ< n in_next) ⊕ lit 0) (var x) (omega ints)

-- one side of group g, over the first n assets
pub side_at : (side : Part → ℤ) (parts : ℕ → Part) (n g : ℕ) → g < 9 → number (by_group side parts n) g ≡ Σ< n (λ a. in_group g (parts a) (side (parts a)))
unfolding by_group
side_at side parts n g l = tabulated_at _ 9 g (pos 0) l
