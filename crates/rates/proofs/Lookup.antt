-- What the lookup hands back. Assumes nothing.
use mathlib.Core.Path.{◌≡◌, refl, sym, ◌∙◌}
use mathlib.Core.Bool.{Bool, true, false}
use mathlib.Core.List.{List, []}
use Prim.Native.Nat.{ℕ, ◌<◌}
use lib.IntN.{ℤ}
use lib.ListN.{length}
use denote.Ref.{Bor}
use borrow.Author.Tests.{lt-ltb}
use Rattle.whole.proofs.Tests.{true_not_false}
use Rattle.rates.specs.Units.{assets, table_length}
use Rattle.rates.specs.Tables.{row_of, absent}
use Rattle.rates.specs.InForce.{in_force, has_row, lookup, StandsIn}

module _ (clearing own : List ℤ) (a : ℕ) where
  pub from_own : absent (row_of own a) ≡ false → in_force clearing own a ≡ row_of own a
  unfolding in_force
  from_own e = rw e refl

  pub from_clearing : absent (row_of own a) ≡ true → in_force clearing own a ≡ row_of clearing a
  unfolding in_force
  from_clearing e = rw e refl

  -- what holds of the clearing row, and of the own row where it is present, holds of the row in force
  pub of_either : (P : List ℤ → Type 0) → P (row_of clearing a) → (absent (row_of own a) ≡ false → P (row_of own a)) → P (in_force clearing own a)
  of_either P c o = by (absent (row_of own a)) refl
    where
      by : (b : Bool) → absent (row_of own a) ≡ b → P (in_force clearing own a)
      by true e = rw (from_clearing e) c
      by false e = rw (from_own e) (o e)

  pub no_row : has_row clearing own a ≡ false → [] ≡ lookup clearing own a
  unfolding lookup
  no_row e = rw e refl

  module _ (lc : length clearing ≡ table_length) (lo : length own ≡ table_length) (h : a < assets) where
    pub in_force_lem : lookup clearing own a ≡ in_force clearing own a
    unfolding lookup has_row
    in_force_lem = rw (lc, lo, lt-ltb a assets h) refl

    pub own_row : absent (row_of own a) ≡ false → lookup clearing own a ≡ row_of own a
    own_row e = in_force_lem ∙ from_own e

    pub clearing_row : absent (row_of own a) ≡ true → lookup clearing own a ≡ row_of clearing a
    clearing_row e = in_force_lem ∙ from_clearing e

-- ---- where no row is, it stands nowhere
pub stands_nowhere : (clearing own : Bor (List ℤ)) (a : ℕ) (row : Bor (List ℤ)) → has_row clearing.now own.now a ≡ false → StandsIn clearing own a row
stands_nowhere clearing own a row e t = true_not_false (sym e ∙ t)
