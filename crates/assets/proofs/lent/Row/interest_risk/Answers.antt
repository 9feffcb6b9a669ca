-- `Row::interest_risk` meets its contract: it sums the interest of eight dates, and takes the size of the sum. Assumes nothing.
use mathlib.Core.Path.{◌≡◌, ap, ◌∙◌}
use native.Mathlib.Omega.{arith}
use mir.Facts.{to_z-of_z}
use borrow.Author.Rules.{rules}
use Rattle.whole.specs.Numbers.{abs_ℤ}
use Rattle.whole.specs.Bounds.{◌within◌}
use Rattle.whole.specs.Sums.{Σ<}
use Rattle.whole.proofs.Machine.{back}
use Rattle.whole.proofs.Rules.{ints}
use Rattle.whole.proofs.Summing.{withins, from_range, sum_fits, sum_made}
use Rattle.assets.specs.Risk.{interest_of, interest_risk}
use Rattle.assets.proofs.risk.Sides.{interest_within}
use Rattle.assets.proofs.lent.Row.interest_risk.Goals as goal
use Rattle.assets.proofs.lent.Row.interest_risk.Goals.{After-sum-sum}

pub sum-sum-requires-clause-fits : goal.sum-sum-requires-clause-fits
sum-sum-requires-clause-fits c =
    let a = c.args in
    let p = c.args.self.in_range in
    let map = c.map.ensures in
    sum_fits withins {B = 80000000000000} {n = 8}
    (from_range _ (interest_of a.self.numbers.now a.positions) map.source map.closure (λ x r q k. search rules)) (omega arith)
    (λ d l. interest_within _ p d l _ (c.requires.each d l))

-- the sum
summed : (c : After-sum-sum) → let a = c.args in let sum = back c.sum-sum.result in
    (sum ≡ Σ< 8 (interest_of a.self.numbers.now a.positions)) × (sum within 640000000000000)
summed c =
    let a = c.args in
    let p = c.args.self.in_range in
    let map = c.map.ensures in
    sum_made withins (from_range _ (interest_of a.self.numbers.now a.positions) map.source map.closure (λ x r q k. search rules)) (omega arith)
    (λ d l. interest_within _ p d l _ (c.requires.each d l)) c.sum-sum.ensures.ran

pub size-requires : goal.size-requires
size-requires c = let h = (summed c).1.size in omega arith

pub returns : goal.returns
unfolding interest_risk
returns c =
    let r = c.size.ensures in
    let e = summed c.before in
    (to_z-of_z r.1 ∙ r.0 ∙ ap abs_ℤ e.0, omega ints)
