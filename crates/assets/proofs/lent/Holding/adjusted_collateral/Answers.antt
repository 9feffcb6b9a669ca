-- `Holding::adjusted_collateral` meets its contract: N is the raw collateral and the trades. Assumes nothing.
use mathlib.Core.Path.{◌≡◌, sym, ap, ◌∙◌, subst}
use lib.IntN.{ℤ, ◌+ℤ◌}
use mir.Facts.{to_z-of_z}
use Rattle.whole.specs.Bounds.{◌within◌}
use Rattle.whole.proofs.Expressions.{Expression, var, ◌⊕◌, is}
use Rattle.whole.proofs.Machine.{Runs, held, need!, runs}
use Rattle.whole.proofs.Rules.{ints}
use Rattle.book.specs.Block.{collateral}
use Rattle.assets.specs.Asset.{trades, adjusted_collateral}
use Rattle.assets.specs.Risk.{position_sum}
use Rattle.assets.specs.Ranges.{PositionRanges}
use Rattle.assets.proofs.record.Positions.{net_ranges, nets_summed, trades_within}
use Rattle.assets.proofs.lent.Holding.adjusted_collateral.Goals as goal
use Rattle.assets.proofs.lent.Holding.adjusted_collateral.Goals.{After-held-1, After-sum_of-traded}

pub sum_of-traded-requires : goal.sum_of-traded-requires
sum_of-traded-requires c = subst PositionRanges (sym c.requires.1) (net_ranges _ c.args.self.in_range)

-- T
traded : (c : After-sum_of-traded) → c.sum_of-traded.result ≡ trades c.args.self.numbers.now
traded c = c.sum_of-traded.ensures.0 ∙ ap position_sum c.requires.1 ∙ nets_summed _

traded_within : (c : After-sum_of-traded) → c.sum_of-traded.result within 8000000
traded_within c = subst (λ (t : ℤ). t within 8000000) (sym (traded c)) (trades_within _ c.args.self.in_range)

abbrev whole : After-held-1 → Expression
whole c = var (collateral c.args.self.numbers.now) ⊕ var c.sum_of-traded.result

ok : (c : After-held-1) → Runs (whole c)
ok c = let h = c.args.self.in_range.collateral_within in let t = traded_within c.before in omega ints

raw : (c : After-held-1) → let holding = c.args.self.numbers.now in held (whole c) ≡ collateral holding +ℤ trades holding
raw c = runs (whole c) (ok c) ∙ ap (λ (t : ℤ). collateral c.args.self.numbers.now +ℤ t) (traded c.before)

pub overflow_add-held : goal.overflow_add-held
overflow_add-held c = need! (whole c) (ok c)

pub adjust-requires : goal.adjust-requires
adjust-requires c =
    let h = c.args.self.in_range.collateral_within in let t = traded_within c.before in
    rw (runs (whole c) (ok c), to_z-of_z h.fits) (c.requires.0, h, omega (ints, is (whole c)))

pub returns : goal.returns
unfolding adjusted_collateral
returns c =
    let h = c.args.self.in_range.collateral_within in let r = c.adjust.ensures in
    rw (to_z-of_z r.1.fits) (rw (raw c.before, to_z-of_z h.fits) at r.0, r.1)
