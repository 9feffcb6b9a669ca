-- `Valued::part` meets its contract: the lookup gives the row in force, under which the members' records are added. Assumes nothing.
use mathlib.Core.Path.{◌≡◌, sym, ap, ◌∙◌, subst}
use mathlib.Core.List.{List}
use Prim.Native.Nat.{ℕ}
use lib.IntN.{ℤ}
use borrow.Author.Rules.{rules}
use Rattle.rates.specs.InForce.{in_force, lookup}
use Rattle.rates.specs.Ranges.{RowRanges}
use Rattle.rates.proofs.Lookup.{in_force_lem}
use Rattle.book.specs.Block.{block_of, holding_of}
use Rattle.book.specs.Members.{over_members}
use Rattle.book.specs.declared.members.Members.{Members}
use Rattle.assets.specs.Joint.{joint_of}
use Rattle.assets.specs.Part.{part_of}
use Rattle.assets.specs.Ranges.{AssetRanges}
use Rattle.assets.specs.declared.record.Asset.{Asset}
use Rattle.assets.proofs.Joint.{ranges_wider}
use Rattle.figures.specs.Joint.{joint_part}
use Rattle.figures.proofs.SeveralBlocks.{member_asset_range}
use Rattle.figures.proofs.valued.Valued.part.Goals as goal
use Rattle.figures.proofs.valued.Valued.part.Goals.{After-asset-x, After-row_in_force-row}

-- the row that the lookup hands back
looked_up : (c : After-row_in_force-row) → let a = c.args in c.row_in_force-row.result.now ≡ in_force a.tables.clearing.now a.tables.own.now a.a
looked_up c =
    let t = c.requires.0 in
    let found : c.row_in_force-row.result.now ≡ lookup c.args.tables.clearing.now c.args.tables.own.now c.args.a = search (rules, c.row_in_force-row.ensures) in
    found ∙ in_force_lem _ _ c.args.a t.clearing_long t.own_long c.requires.1

row_ranges : (c : After-row_in_force-row) → RowRanges c.row_in_force-row.result.now
row_ranges c = subst RowRanges (sym (looked_up c)) (c.requires.0.row c.args.a c.requires.1)

pub asset-x-requires : goal.asset-x-requires
asset-x-requires c = (row_ranges c, c.requires.1)

-- the record over the members, under a row
abbrev over : List ℤ → Members → ℕ → List ℤ → Asset
over book members a row = joint_of (over_members members) members.kind row (λ j. holding_of (block_of book j) a)

joined : (c : After-asset-x) → let a = c.args in
    c.asset-x.result ≡ over a.self.book.now a.self.members a.a (in_force a.tables.clearing.now a.tables.own.now a.a)
joined c = c.asset-x.ensures ∙ ap (over c.args.self.book.now c.args.self.members c.args.a) (looked_up c.before)

pub part_of-requires : goal.part_of-requires
part_of-requires c =
    let ranges = member_asset_range _ _ _ c.args.self.in_range c.requires.0 c.args.a c.requires.1 in
    (row_ranges c.before, ranges_wider _ 4 _ (subst (AssetRanges _) (sym (joined c)) ranges) c.args.self.in_range.few)

pub returns : goal.returns
unfolding joint_part
returns c =
    let found = c.before.before in
    c.part_of.ensures.0 ∙ (λ i. part_of (looked_up found i) (joined c.before i))
