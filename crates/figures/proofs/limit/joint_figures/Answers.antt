-- `limit::joint_figures` meets its contract: the figures of the members' sums over the assets, of the groups and of their rubles. Assumes nothing.
use mathlib.Core.Path.{sym, ◌∙◌, subst}
use native.Mathlib.Omega.{arith}
use mir.Facts.{to_z-of_z}
use Rattle.whole.proofs.Rules.{ints}
use Rattle.figures.specs.Limit.{figures_of}
use Rattle.figures.specs.Joint.{joint_figures}
use Rattle.figures.specs.Ranges.{TotalRanges}
use Rattle.figures.proofs.limit.Discount.{percent_ranges}
use Rattle.figures.proofs.sums.Steps.{totals_range}
use Rattle.figures.proofs.SeveralBlocks.{member_part_range}
use Rattle.figures.proofs.limit.joint_figures.Goals as goal

pub figures_of-requires : goal.figures_of-requires
figures_of-requires c =
    let p = c.requires in
    let totals = totals_range _ (λ a l. member_part_range _ _ _ p.0 p.1 a l) 16 (omega arith) in
    (subst (TotalRanges 16) (sym c.totals_of-totals.ensures) totals, percent_ranges p.1, let h = c.joint_rubles-rubles.ensures.size in omega ints)

pub returns : goal.returns
unfolding joint_figures
returns c =
    let totals = c.totals_of-totals.ensures in
    let r = c.joint_rubles-rubles.ensures in
    let rubles = to_z-of_z r.size.fits ∙ r.value in
    c.figures_of.ensures ∙ (λ i. figures_of (totals i) c.args.tables.groups.now (rubles i))
