-- `limit::joint_rubles` meets its contract: it sums the members' rubles. Assumes nothing.
use native.Mathlib.Omega.{arith}
use borrow.Author.Rules.{rules}
use Rattle.whole.proofs.Bounds.{wider}
use Rattle.whole.proofs.Summing.{withins, from_range, sum_fits, sum_made}
use Rattle.book.specs.Block.{block_of}
use Rattle.book.specs.Members.{member_at}
use Rattle.figures.specs.Limit.{rubles_of}
use Rattle.figures.proofs.limit.Rubles.{rubles_within}
use Rattle.figures.proofs.limit.joint_rubles.Goals as goal

pub sum-requires-clause-fits : goal.sum-requires-clause-fits
sum-requires-clause-fits c =
    let a = c.args in
    let map = c.map.ensures in
    let few = a.valued.in_range.few in
    sum_fits withins {B = 900000000000000} {n = a.valued.members.count}
    (from_range _ (λ k. rubles_of (block_of a.valued.book.now (member_at a.valued.members k))) map.source map.closure (λ x r q k. search rules)) (omega arith)
    (λ k l. rubles_within _ (a.valued.in_range.block k l))

pub returns : goal.returns
returns c =
    let a = c.args in
    let map = c.map.ensures in
    let few = a.valued.in_range.few in
    let all = sum_made withins {B = 900000000000000} {n = a.valued.members.count}
    (from_range _ (λ k. rubles_of (block_of a.valued.book.now (member_at a.valued.members k))) map.source map.closure (λ x r q k. search rules)) (omega arith)
    (λ k l. rubles_within _ (a.valued.in_range.block k l)) c.sum.ensures.ran in
    record { value = all.0; size = wider 3600000000000000 all.1 (omega arith) }
