-- `Valued::asset` meets its contract. The loop's invariant: x is the record over the members before k. Assumes nothing.
use mathlib.Core.Path.{◌≡◌, refl, sym, ap, ◌∙◌, subst}
use Prim.Native.Nat.{ℕ, ◌<◌}
use native.Mathlib.Omega.{arith}
use Rattle.book.specs.Ranges.{HoldingRanges}
use Rattle.book.specs.Members.{member_at}
use Rattle.assets.specs.Asset.{asset_under, asset_of}
use Rattle.assets.specs.Joint.{with_record}
use Rattle.assets.specs.Ranges.{AssetRanges}
use Rattle.assets.proofs.Sizes.{asset_ranges}
use Rattle.assets.proofs.Joint.{record_first, record_turn, record_ranges, ranges_wider}
use Rattle.figures.specs.Joint.{holding_in}
use Rattle.figures.proofs.valued.Valued.asset.Invariants.{of, over}
use Rattle.figures.proofs.valued.Valued.asset.Goals as goal
use Rattle.figures.proofs.valued.Valued.asset.Goals.{Start}

-- member k's holding and record are in range
holding_range : (s : Start) (k : ℕ) → k < s.args.self.members.count → HoldingRanges (holding_in s.args.self k s.args.a)
holding_range s k l = (s.args.self.in_range.block k l).holding s.args.a s.requires.1

asset_range : (s : Start) (k : ℕ) → k < s.args.self.members.count → let v = s.args.self in
    AssetRanges 1 (of v.book.now v.members.kind s.args.row.now s.args.a (member_at v.members k))
asset_range s k l = asset_ranges _ _ s.requires.0 _ (holding_range s k l)

pub loop-k-preserved : goal.loop-k-preserved
loop-k-preserved c =
    let l = c.loop-k in
    let v = c.args.self in
    let xs = of v.book.now v.members.kind c.args.row.now c.args.a in
    let made = c.asset_of-y.ensures.0 ∙ ap (asset_of v.members.kind c.args.row.now) c.holding-in-loop-k.ensures in
    record_turn (member_at v.members) _ xs l.k l.x _ l.invariant (c.with_record-x.ensures ∙ ap (with_record l.x) made)

pub asset_of-x-requires : goal.asset_of-x-requires
asset_of-x-requires c = let s = c.before in (s.requires.0, subst HoldingRanges (sym c.holding.ensures) (holding_range s 0 c.args.self.in_range.some))

pub loop-k-init : goal.loop-k-init
unfolding asset_under
loop-k-init c =
    let v = c.args.self in
    let made = c.asset_of-x.ensures.0 ∙ ap (asset_of v.members.kind c.args.row.now) c.holding.ensures in
    let xs = of v.book.now v.members.kind c.args.row.now c.args.a in
    made ∙ record_first (member_at v.members) _ xs refl (asset_range c.before.before 0 v.in_range.some).size

pub asset_of-y-requires : goal.asset_of-y-requires
asset_of-y-requires c =
    let s = c.before.before.before.before.before in
    (s.requires.0, subst HoldingRanges (sym c.holding-in-loop-k.ensures) (holding_range s c.loop-k.k (omega arith)))

pub with_record-x-requires : goal.with_record-x-requires
with_record-x-requires c =
    let l = c.loop-k in
    let s = c.before.before.before.before.before.before in
    let v = c.args.self in
    let xs = of v.book.now v.members.kind c.args.row.now c.args.a in
    let few = v.in_range.few in
    let over-passed = record_ranges (member_at v.members) _ xs l.k (omega arith) (λ k q. asset_range s k (omega arith)) in
    (ranges_wider l.k 3 l.x (subst (AssetRanges l.k) (sym l.invariant) over-passed) (omega arith), c.asset_of-y.ensures.1)

pub returns : goal.returns
returns c =
    let l = c.loop-k in
    let v = c.args.self in
    let some = v.in_range.some in
    let e : l.k ≡ v.members.count = omega arith in
    l.invariant ∙ ap (over v.book.now v.members c.args.row.now c.args.a) e
