-- `record::with_record` meets its contract: what the closure gives of a date is the sum of its two positions. Assumes nothing.
use native.Mathlib.Omega.{arith}
use borrow.Author.Rules.{rules}
use lib.IntN.{◌+ℤ◌}
use Rattle.whole.specs.Parts.{number}
use Rattle.whole.proofs.Expressions.{var, ◌⊕◌}
use Rattle.whole.proofs.InRange.{sum_runs}
use Rattle.whole.proofs.Machine.{runs}
use Rattle.whole.proofs.Rules.{ints}
use Rattle.whole.proofs.Tabulated.{from_fn_is, serves_each}
use Rattle.assets.specs.Joint.{with_record}
use Rattle.assets.proofs.Sizes.{positions_range}
use Rattle.assets.proofs.record.with_record.Goals as goal

pub from_fn-requires : goal.from_fn-requires
from_fn-requires c =
    let before = positions_range 3 _ c.requires.0 (omega arith) in
    let more = positions_range 1 _ c.requires.1 (omega arith) in
    let long = before.size in
    let long' = more.size in
    (omega arith, serves_each (λ d q k. search rules) (λ d l. let h = before.each d l in let k = more.each d l in search (rules, ints)))

pub returns : goal.returns
unfolding with_record
returns c =
    let x = c.args.x in
    let y = c.args.y in
    let before = positions_range 3 _ c.requires.0 (omega arith) in
    let more = positions_range 1 _ c.requires.1 (omega arith) in
    let worth = runs (var x.worth ⊕ var y.worth) (sum_runs c.requires.0.worth_within c.requires.1.worth_within (omega arith)) in
    let positions = from_fn_is _ (λ d. number x.positions d +ℤ number y.positions d)
    (λ d z q l k. let h = before.each d l in let m = more.each d l in let e = runs (var (number x.positions d) ⊕ var (number y.positions d)) (sum_runs h m (omega arith)) in search (rules, e))
    c.from_fn.ensures.items in
    λ i. record { regime = x.regime; worth = worth i; positions = positions i }
