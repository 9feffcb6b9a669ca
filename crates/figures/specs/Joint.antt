-- Clause 4.11: the five figures of several blocks that are valued together. Each asset is adjusted and valued within each block, the records are added,
-- and risk is taken of what they come to; rubles are added. Stated over what adds the blocks up, `sum`, the one kind that they have, and a function that
-- gives each account's block, so that it says nothing of which blocks these are, nor of where they stand.
-- Assumes nothing.
use Rattle.std.specs.Prelude.{Bool, List, ℕ, ℤ}
use Rattle.whole.specs.Sums.{Σ<on}
use Rattle.rates.specs.Units.{assets}
use Rattle.rates.specs.Lent.{Tables}
use Rattle.rates.specs.InForce.{in_force}
use Rattle.book.specs.Block.{accounts, block_of, holding_of}
use Rattle.book.specs.Members.{member_at, over_members}
use Rattle.book.specs.declared.members.Members.{Members}
use Rattle.assets.specs.Joint.{joint_of}
use Rattle.assets.specs.Part.{part_of}
use Rattle.assets.specs.declared.parts.Part.{Part}
use Rattle.figures.specs.Limit.{totals_of, figures_of, rubles_of}
use Rattle.figures.specs.declared.limit.Figures.{Figures}
use Rattle.figures.specs.declared.valued.Valued.{Valued}

module _ (sum : (ℕ → ℤ) → ℤ) (account_kind : ℕ) (blocks : ℕ → List ℤ) (tables : Tables) where
  unfoldable pub joint_part : ℕ → Part
  joint_part a =
      let row = in_force tables.clearing tables.own a in
      part_of row (joint_of sum account_kind row (λ j. holding_of (blocks j) a))

  unfoldable pub joint_figures : Figures ℤ
  joint_figures = figures_of (totals_of joint_part assets) tables.groups (sum (λ j. rubles_of (blocks j)))

-- of those accounts that pass a test: the figures of a settlement code are those of the accounts on it
abbrev pub figures_on : (ℕ → Bool) → ℕ → (ℕ → List ℤ) → Tables → Figures ℤ
figures_on on = joint_figures (Σ<on accounts on)

-- of the members of a list, as code has them
module _ (members : Members) (book : List ℤ) (tables : Tables) where
  abbrev pub member_part : ℕ → Part
  member_part = joint_part (over_members members) members.kind (block_of book) tables

  abbrev pub member_figures : Figures ℤ
  member_figures = joint_figures (over_members members) members.kind (block_of book) tables

-- member k's holding of asset a, in blocks that are valued together
abbrev pub holding_in : Valued → ℕ → ℕ → List ℤ
holding_in valued k a = holding_of (block_of valued.book.now (member_at valued.members k)) a
