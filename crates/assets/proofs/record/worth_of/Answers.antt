-- `record::worth_of` meets its contract: it sums the worth of eight dates, thirty million million each at most. Assumes nothing.
use native.Mathlib.Omega.{arith}
use borrow.Author.Rules.{rules}
use Rattle.std.proofs.lemmas.Iterator.{serves_from_Range}
use Rattle.whole.proofs.Summing.{withins, from_range, sum_fits, sum_made}
use Rattle.assets.specs.Asset.{worth_of}
use Rattle.assets.proofs.record.Positions.{worth_within}
use Rattle.assets.proofs.record.worth_of.Goals as goal

pub sum-requires-clause-can : goal.sum-requires-clause-can
sum-requires-clause-can c =
    let map = c.map.ensures in
    (tt, rw (map.source, map.closure) (serves_from_Range (λ x q k. search rules) (λ x l h. search rules)))

pub sum-requires-clause-fits : goal.sum-requires-clause-fits
sum-requires-clause-fits c =
    let a = c.args in
    let map = c.map.ensures in
    sum_fits withins (from_range _ (worth_of a.row.numbers.now a.holding.numbers.now a.c) map.source map.closure (λ x r q k. search rules)) (omega arith)
    (worth_within _ a.row.in_range _ a.holding.in_range _ c.requires)

pub returns : goal.returns
returns c =
    let a = c.args in
    let map = c.map.ensures in
    sum_made withins (from_range _ (worth_of a.row.numbers.now a.holding.numbers.now a.c) map.source map.closure (λ x r q k. search rules)) (omega arith)
    (worth_within _ a.row.in_range _ a.holding.in_range _ c.requires) c.sum.ensures.ran
