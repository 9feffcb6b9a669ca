-- `rolling::roll_fits` meets its contract: the sum of the rubles and the sum of each asset are asked. Assumes nothing.
use mathlib.Core.Path.{refl, sym, ◌∙◌}
use borrow.Author.Tests.{tests}
use Rattle.std.proofs.Common.{rules}
use Rattle.std.proofs.lemmas.Iterator.{YieldsList-from_range, serves_from_Range}
use Rattle.std.proofs.lemmas.Iterator.Search.{all_from_yields_List}
use Rattle.whole.specs.Parts.{part}
use Rattle.whole.proofs.Tests.{passed, failed, first_out, and_then}
use Rattle.book.proofs.Asked.{all_asked}
use Rattle.book.proofs.InBounds.{ruble_ranges, holding_ranges}
use Rattle.book.proofs.rolling.RollFits.{holding_fits, rolled_in_bounds}
use Rattle.book.proofs.rolling.roll_fits.Goals as goal

pub rubles_fit-requires : goal.rubles_fit-requires
unfolding part
rubles_fit-requires c = let p = c.requires in ruble_ranges _ p.long p.in_bounds

pub all-requires-clause-callable : goal.all-requires-clause-callable
all-requires-clause-callable c =
    let p = c.requires in
    serves_from_Range (λ x q k. search rules) (λ x low high. let ranges = holding_ranges c.args.block.now p.long p.in_bounds x high in search (rules, ranges))

pub returns-then-rubles_fit : goal.returns-then-rubles_fit
unfolding part
returns-then-rubles_fit c =
    let p = c.requires in
    let asked = all_from_yields_List (holding_fits c.args.block.now) _ _ c.all.result c.all.ensures.ran (YieldsList-from_range 0 16 16 refl refl)
    (λ x b q k. search (rules, tests)) in
    and_then _ _ (passed c.rubles_fit.ensures c.if-rubles_fit.true) (asked ∙ all_asked (holding_fits c.args.block.now) 16) ∙ sym (rolled_in_bounds _ p.long p.in_bounds)

pub returns-else-rubles_fit : goal.returns-else-rubles_fit
unfolding part
returns-else-rubles_fit c =
    let p = c.requires in
    c.if-rubles_fit.false ∙ sym (rolled_in_bounds _ p.long p.in_bounds ∙ first_out _ _ (failed c.rubles_fit.ensures c.if-rubles_fit.false))
