-- Laws of listed assets, and of the kind of a row in its table. Assumes nothing.
use mathlib.Core.Path.{◌≡◌, refl, ap, ◌∙◌}
use mathlib.Core.Bool.{false, not}
use mathlib.Core.List.{List}
use Prim.Native.Nat.{ℕ, ◌*◌, ◌≤◌, ◌<◌}
use native.Mathlib.Nat.{add-zero}
use native.Mathlib.Omega.{arith}
use lib.ListN.{length, get_or-eq_default}
use lib.IntN.{ℤ, pos}
use borrow.Author.Tests.{lt-ltb, le-ltb}
use Rattle.whole.specs.Bounds.{between}
use Rattle.whole.specs.Parts.{number}
use Rattle.whole.proofs.Parts.{part_at}
use Rattle.rates.specs.Row.{kind}
use Rattle.rates.specs.Tables.{row_of, listed}

module _ (table : List ℤ) (a : ℕ) where
  pub kind_at : kind (row_of table a) ≡ number table (64 * a)
  kind_at = part_at (pos 0) (64 * a) 64 table 0 (omega arith) ∙ ap (number table) (add-zero (64 * a))

  pub no_such_asset : 16 ≤ a → listed table a ≡ false
  unfolding listed
  no_such_asset h = simp (le-ltb a 16 h)

  pub listed_by_kind : a < 16 → listed table a ≡ not (between (pos 0) (number table (64 * a)) (pos 0))
  unfolding listed
  listed_by_kind h = rw (lt-ltb a 16 h, kind_at) refl

  pub no_row : a < 16 → length table ≤ 64 * a → listed table a ≡ false
  unfolding between
  no_row h l = listed_by_kind h ∙ rw (get_or-eq_default table (pos 0) {n = 64 * a} l) refl
