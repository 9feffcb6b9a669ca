-- What is shown of the figures of several blocks (clause 4.11, demand 3), for any test `on` of which accounts count. proofs/ proves each.
-- Assumes nothing.
use Rattle.std.specs.Prelude.{◌≡◌, Bool, true, List, ◌≢◌, ℕ, ◌<◌, eqb, ℤ, pos, nat_abs, ◌+ℤ◌, length, ◌≤ℤ◌}
use Rattle.rates.specs.Units.{assets}
use Rattle.rates.specs.Lent.{Tables}
use Rattle.rates.specs.Row.{covered_sales}
use Rattle.rates.specs.InForce.{in_force, cover_test}
use Rattle.rates.specs.Ranges.{TableRanges}
use Rattle.book.specs.Block.{accounts, block_length, account_kind, rubles}
use Rattle.book.specs.Changes.{moved}
use Rattle.figures.specs.Limit.{block_figures}
use Rattle.figures.specs.Joint.{figures_on}

-- where one account alone counts, they are its block's
abbrev pub AloneFigures : Type 0
AloneFigures = (on : ℕ → Bool) (i : ℕ) → i < accounts → ((j : ℕ) → j < accounts → on j ≡ eqb i j) → (blocks : ℕ → List ℤ) (tables : Tables)
    → figures_on on (nat_abs (account_kind (blocks i))) blocks tables ≡ block_figures (blocks i) tables

-- they depend on which accounts count, and on no block but theirs
abbrev pub FiguresAlike : Type 0
FiguresAlike = (on on' : ℕ → Bool) → ((j : ℕ) → j < accounts → on j ≡ on' j) → (blocks blocks' : ℕ → List ℤ)
    → ((j : ℕ) → j < accounts → on' j ≡ true → blocks j ≡ blocks' j) → (kind : ℕ) (tables : Tables)
    → figures_on on kind blocks tables ≡ figures_on on' kind blocks' tables

-- the blocks with `amount` of an asset, or of rubles, moved in block j, and no other change
pub record MovedIn (j asset : ℕ) (amount : ℤ) (blocks blocks' : ℕ → List ℤ) : Type 0 where
  pub sized : length (blocks j) ≡ block_length
  pub here : blocks' j ≡ moved (blocks j) asset amount
  pub others : (k : ℕ) → k < accounts → k ≢ j → blocks' k ≡ blocks k

-- demand 3's condition on an asset: its row in force passes the cover test and is not marked 2 (partial)
pub record Covered (tables : Tables) (asset : ℕ) : Type 0 where
  pub an_asset : asset < assets
  pub passes : cover_test (in_force tables.clearing tables.own asset) ≡ true
  pub not_partial : covered_sales (in_force tables.clearing tables.own asset) ≢ pos 2

-- demand 3's heart: more collateral of such an asset in the block of one that counts never lowers the limit of all
abbrev pub NeverLower : Type 0
NeverLower = (on : ℕ → Bool) (j : ℕ) → j < accounts → on j ≡ true → (a : ℕ) (amount : ℤ) → pos 0 ≤ℤ amount → (blocks blocks' : ℕ → List ℤ)
    → MovedIn j a amount blocks blocks' → (kind : ℕ) (tables : Tables) → TableRanges tables → Covered tables a
    → (figures_on on kind blocks tables).limit ≤ℤ (figures_on on kind blocks' tables).limit

-- and rubles raise it by exactly the sum
abbrev pub RublesRaise : Type 0
RublesRaise = (on : ℕ → Bool) (j : ℕ) → j < accounts → on j ≡ true → (amount : ℤ) (blocks blocks' : ℕ → List ℤ) → MovedIn j rubles amount blocks blocks'
    → (kind : ℕ) (tables : Tables) → (figures_on on kind blocks' tables).limit ≡ (figures_on on kind blocks tables).limit +ℤ amount
