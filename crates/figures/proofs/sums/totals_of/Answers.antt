-- `sums::totals_of` meets its contract: before asset a the sums are those over the assets passed. Assumes nothing.
use mathlib.Core.Path.{◌≡◌, refl, sym, ap, ◌∙◌, subst}
use mathlib.Core.List.{List}
use Prim.Native.Nat.{ℕ, ◌+◌, ◌<◌, ◌^◌}
use native.Mathlib.Omega.{arith}
use lib.IntN.{ℤ, ◌+ℤ◌}
use lib.ListN.{set}
use mir.Syntax.{w64}
use mir.Val.{SFits, to_z}
use mir.Facts.{to_z-of_z}
use borrow.Author.Rules.{rules}
use Rattle.whole.specs.Bounds.{◌within◌, ◌upto◌}
use Rattle.whole.specs.Sums.{Σ<}
use Rattle.whole.specs.Parts.{number, tabulated}
use Rattle.whole.proofs.Bounds.{upto_within}
use Rattle.whole.proofs.Expressions.{var, ◌⊕◌}
use Rattle.whole.proofs.InRange.{sum_runs}
use Rattle.whole.proofs.Machine.{back, need!, runs}
use Rattle.whole.proofs.Summing.{withins}
use Rattle.whole.proofs.Every.{every_at}
use Rattle.whole.proofs.Tests.{passed}
use Rattle.rates.specs.Lent.{numbers_of}
use Rattle.assets.specs.Ranges.{PartRanges}
use Rattle.assets.specs.declared.parts.Part.{Part}
use Rattle.book.specs.Changes.{added}
use Rattle.figures.specs.Limit.{by_group, totals_of, with_part}
use Rattle.figures.specs.Joint.{member_part}
use Rattle.figures.specs.Ranges.{GroupRanges, TotalRanges}
use Rattle.figures.specs.declared.sums.Totals.{Totals}
use Rattle.figures.proofs.sums.Steps.{no_part, totals_turn, totals_range, ranges_wider}
use Rattle.figures.proofs.SeveralBlocks.{member_part_range, member_part_none}
use Rattle.figures.proofs.sums.totals_of.Invariants.{sums}
use Rattle.figures.proofs.sums.totals_of.Goals as goal
use Rattle.figures.proofs.sums.totals_of.Goals.{After-part-part, After-struct_told-in-loop-a-1, After-struct_told-in-loop-a-2-1, After-struct_told-in-loop-a-3-1, After-struct_told-in-loop-a-4-1, At-loop-a, Start}

-- the assets' parts, and their ranges
abbrev parts : Start → ℕ → Part
parts s = member_part s.args.valued.members s.args.valued.book.now (numbers_of s.args.tables)

part_range : (s : Start) (a : ℕ) → a < 16 → PartRanges (parts s a)
part_range s a l = member_part_range _ _ _ s.args.valued.in_range s.requires a l

pub loop-a-init : goal.loop-a-init
unfolding totals_of by_group Σ< tabulated
loop-a-init c = refl

-- where no member holds the asset the sums are as they were, which is what its part adds
pub loop-a-preserved-then-none_holds : goal.loop-a-preserved-then-none_holds
loop-a-preserved-then-none_holds c =
    let l = c.loop-a in
    let s = c.before.before.before.before in
    let empty = passed c.none_holds.ensures c.if-none_holds.true in
    let nothing = member_part_none _ _ _ s.args.valued.in_range s.requires l.a (omega arith) (λ k q. every_at _ _ k q empty) in
    totals_turn (parts s) l.a _ _ (part_range s l.a (omega arith)) l.invariant (sym (no_part _ _ nothing))

-- ---- a number added to a sum, and to a number of a side
abbrev Summed : ℤ → ℤ → Type 0
Summed total x = SFits w64 (total +ℤ back x) × (back (total +ℤ back x) ≡ total +ℤ x)

summed : (total x : ℤ) {A B : ℕ} → total within A → x within B → A + B < 2 ^ 63 → Summed total x
summed total x {A} {B} h k l =
    let fits : SFits w64 (total +ℤ back x) = rw (to_z-of_z k.fits) (withins.added {j = A + B} h k (omega arith) l).fits in
    (fits, to_z-of_z fits ∙ ap (λ (z : ℤ). total +ℤ z) (to_z-of_z k.fits))

abbrev Raised : List ℤ → ℕ → ℤ → Type 0
Raised risks g x = SFits w64 (back (number risks g) +ℤ back x) × (back (back (number risks g) +ℤ back x) ≡ number risks g +ℤ x)

raised : (risks : List ℤ) (g : ℕ) (x : ℤ) → GroupRanges 15 risks → g < 9 → x upto 640000000000000 → Raised risks g x
raised risks g x r l k =
    let e = var (number risks g) ⊕ var x in
    let ok = sum_runs (upto_within (r.each g l)) (upto_within k) (omega arith) in
    (need! e ok, runs e ok)

-- ---- where an asset is held: its part is added
module _ (m : After-part-part) where
  abbrev start : Start
  start = m.before.before.before.before.before

  abbrev turn : At-loop-a
  turn = m.before.before.before.before

  abbrev part : Part
  part = m.part-part.result

  abbrev so_far : Totals
  so_far = let l = turn.loop-a in sums (to_z w64 l.valuation-bits) (to_z w64 l.market-bits) (to_z w64 l.interest-bits) l.long l.short

  asset_below : turn.loop-a.a < 16
  asset_below = omega arith

  part_ranges : PartRanges part
  part_ranges = subst PartRanges (sym m.part-part.ensures) (part_range start turn.loop-a.a asset_below)

  sum_ranges : TotalRanges 15 so_far
  sum_ranges =
      let l = turn.loop-a in
      let over = totals_range (parts start) (part_range start) l.a (omega arith) in
      ranges_wider l.a 15 _ (subst (TotalRanges l.a) (sym l.invariant) over) (omega arith)

  valuation_summed : Summed (to_z w64 turn.loop-a.valuation-bits) part.worth
  valuation_summed = summed (to_z w64 turn.loop-a.valuation-bits) part.worth sum_ranges.valuation_within part_ranges.worth_within (omega arith)

  market_summed : Summed (to_z w64 turn.loop-a.market-bits) part.market
  market_summed = summed (to_z w64 turn.loop-a.market-bits) part.market (upto_within sum_ranges.market_upto) (upto_within part_ranges.market_upto) (omega arith)

  interest_summed : Summed (to_z w64 turn.loop-a.interest-bits) part.interest
  interest_summed = summed (to_z w64 turn.loop-a.interest-bits) part.interest (upto_within sum_ranges.interest_upto) (upto_within part_ranges.interest_upto) (omega arith)

  long_raised : Raised turn.loop-a.long part.group part.long
  long_raised = raised turn.loop-a.long part.group part.long sum_ranges.long_range part_ranges.group_below part_ranges.long_upto

  short_raised : Raised turn.loop-a.short part.group part.short
  short_raised = raised turn.loop-a.short part.group part.short sum_ranges.short_range part_ranges.group_below part_ranges.short_upto

-- where the part was made, seen from where its numbers are added
abbrev at_market : After-struct_told-in-loop-a-1 → After-part-part
at_market c = c.before.before.before.before.before

abbrev at_interest : After-struct_told-in-loop-a-2-1 → After-part-part
at_interest c = c.before.before.before.before.before.before.before

abbrev at_long : After-struct_told-in-loop-a-3-1 → After-part-part
at_long c = c.before.before.before.before.before.before.before.before.before.before

abbrev at_short : After-struct_told-in-loop-a-4-1 → After-part-part
at_short c = c.before.before.before.before.before.before.before.before.before.before.before.before

pub loop-a-preserved : goal.loop-a-preserved
unfolding with_part added
loop-a-preserved c =
    let m = at_short c in
    let l = (turn m).loop-a in
    let valuation = (valuation_summed m).1 in
    let market = (market_summed m).1 in
    let interest = (interest_summed m).1 in
    let long = ap (set l.long (part m).group) (long_raised m).1 in
    let short = ap (set l.short (part m).group) (short_raised m).1 in
    let with_this : _ ≡ with_part (so_far m) (part m) = λ i. sums (valuation i) (market i) (interest i) (long i) (short i) in
    totals_turn (parts (start m)) l.a _ _ (part_range (start m) l.a (omega arith)) l.invariant (with_this ∙ ap (with_part (so_far m)) m.part-part.ensures)

pub returns : goal.returns
returns c =
    let l = c.loop-a in
    let e : l.a ≡ 16 = omega arith in
    l.invariant ∙ ap (totals_of (parts c.before.before)) e

pub overflow_add-valuation : goal.overflow_add-valuation
overflow_add-valuation c = (valuation_summed c.before.before.before).0

pub overflow_add-market : goal.overflow_add-market
overflow_add-market c = (market_summed (at_market c)).0

pub overflow_add-interest : goal.overflow_add-interest
overflow_add-interest c = (interest_summed (at_interest c)).0

pub offset_bounds-long-group : goal.offset_bounds-long-group
offset_bounds-long-group c = let below = (part_ranges (at_interest c)).group_below in search rules

pub bounds-long-group : goal.bounds-long-group
bounds-long-group c = (part_ranges (at_interest c)).group_below

pub overflow_add-long : goal.overflow_add-long
overflow_add-long c = (long_raised (at_long c)).0

pub bounds-long-group-in-loop-a : goal.bounds-long-group-in-loop-a
bounds-long-group-in-loop-a c = (part_ranges (at_long c)).group_below

pub offset_bounds-short-group : goal.offset_bounds-short-group
offset_bounds-short-group c = let below = (part_ranges (at_long c)).group_below in search rules

pub bounds-short-group : goal.bounds-short-group
bounds-short-group c = (part_ranges (at_long c)).group_below

pub overflow_add-short : goal.overflow_add-short
overflow_add-short c = (short_raised (at_short c)).0

pub bounds-short-group-in-loop-a : goal.bounds-short-group-in-loop-a
bounds-short-group-in-loop-a c = (part_ranges (at_short c)).group_below
