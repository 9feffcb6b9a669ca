-- `limit::discounts` meets its contract: it sums the discounts of eight groups. Assumes nothing.
use native.Mathlib.Omega.{arith}
use borrow.Author.Rules.{rules}
use Rattle.whole.proofs.Summing.{uptos, from_range, sum_fits, sum_made}
use Rattle.figures.specs.Limit.{discount_of}
use Rattle.figures.proofs.limit.Discount.{group_discount_upto}
use Rattle.figures.proofs.limit.discounts.Goals as goal

pub sum-requires-clause-fits : goal.sum-requires-clause-fits
sum-requires-clause-fits c =
    let a = c.args in
    let p = c.requires in
    let map = c.map.ensures in
    sum_fits uptos {B = 10240000000000000} {n = 8} (from_range _ (discount_of a.groups.now a.longs a.shorts) map.source map.closure (λ x r q k. search rules)) (omega arith)
    (λ g l. group_discount_upto p.0 p.1 p.2 g l)

pub returns : goal.returns
returns c =
    let a = c.args in
    let p = c.requires in
    let map = c.map.ensures in
    sum_made uptos (from_range _ (discount_of a.groups.now a.longs a.shorts) map.source map.closure (λ x r q k. search rules)) (omega arith)
    (λ g l. group_discount_upto p.0 p.1 p.2 g l) c.sum.ensures.ran
