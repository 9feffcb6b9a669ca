-- `risk::long_sum` meets its contract: it sums the long units of eight dates, at most eight million each. Assumes nothing.
use mathlib.Core.Path.{ap, ◌∙◌}
use native.Mathlib.Omega.{arith}
use borrow.Author.Rules.{rules}
use Rattle.std.proofs.lemmas.Iterator.{YieldsList-from_slice, YieldsList-from_map}
use Rattle.std.specs.Slice.Iter.{iter_rest}
use Rattle.whole.proofs.Summing.{uptos, from_map, sum_fits, sum_made}
use Rattle.assets.specs.Risk.{long, long_sum}
use Rattle.assets.proofs.risk.Sides.{long_upto}
use Rattle.assets.proofs.risk.long_sum.Goals as goal

pub sum-requires-clause-fits : goal.sum-requires-clause-fits
sum-requires-clause-fits c =
    let p = c.requires in
    let map = c.map.ensures in
    let slice = YieldsList-from_slice c.args.positions (ap iter_rest map.source ∙ c.iter.ensures.rest) in
    sum_fits uptos {B = 8000000} {n = 8} (from_map _ p.size long (YieldsList-from_map _ long slice map.closure (λ x r q k. search rules))) (omega arith)
    (λ d l. long_upto (p.each d l) (omega arith))

pub returns : goal.returns
unfolding long_sum
returns c =
    let p = c.requires in
    let map = c.map.ensures in
    let slice = YieldsList-from_slice c.args.positions (ap iter_rest map.source ∙ c.iter.ensures.rest) in
    sum_made uptos {B = 8000000} {n = 8} (from_map _ p.size long (YieldsList-from_map _ long slice map.closure (λ x r q k. search rules))) (omega arith)
    (λ d l. long_upto (p.each d l) (omega arith)) c.sum.ensures.ran
