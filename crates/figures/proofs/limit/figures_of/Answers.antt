-- `limit::figures_of` meets its contract: straight arithmetic in range; the five make the record. Assumes nothing.
use mathlib.Core.Path.{◌∙◌, ap}
use lib.IntN.{ℤ, ◌+ℤ◌}
use mir.Facts.{to_z-of_z}
use Rattle.whole.proofs.Expressions.{Expression, var, ◌⊕◌, ◌⊖◌, value}
use Rattle.whole.proofs.Machine.{Runs, need!, runs}
use Rattle.whole.proofs.Rules.{ints}
use Rattle.figures.specs.Limit.{discount, single_limit, figures_of}
use Rattle.figures.proofs.limit.figures_of.Goals as goal
use Rattle.figures.proofs.limit.figures_of.Goals.{After-discounts-discount, After-struct_told-3-1, Start}

abbrev start : After-discounts-discount → Start
start c = c.before.before.before

abbrev valuation : After-discounts-discount → Expression
valuation c = var (start c).args.totals.valuation ⊕ var (start c).args.rubles

abbrev less_market : After-discounts-discount → Expression
less_market c = valuation c ⊖ var (start c).args.totals.market

abbrev less_risks : After-discounts-discount → Expression
less_risks c = less_market c ⊖ var (start c).args.totals.interest

abbrev limit : After-discounts-discount → Expression
limit c = less_risks c ⊕ var c.discounts-discount.result

ok : (c : After-discounts-discount) → Runs (limit c)
ok c =
    let t = (start c).requires.0 in
    let v = t.valuation_within in let m = t.market_upto in let i = t.interest_upto in let r = (start c).requires.2 in let d = c.discounts-discount.ensures.1 in omega ints

-- where the limit is worked out, the discount is four steps back
abbrev back_there : After-struct_told-3-1 → After-discounts-discount
back_there c = c.before.before.before.before

pub returns : goal.returns
unfolding figures_of discount single_limit
returns c =
    let k = back_there c in
    let t = (start k).requires.0 in
    let d = k.discounts-discount.ensures in
    let discounted = to_z-of_z d.1.fits ∙ d.0 in
    let valued = runs (valuation k) (ok k).0.0.0 in
    let market = to_z-of_z t.market_upto.fits in
    let interest = to_z-of_z t.interest_upto.fits in
    let limited = runs (limit k) (ok k) ∙ ap (λ (z : ℤ). value (less_risks k) +ℤ z) d.0 in
    λ i. record { valuation = valued i; market = market i; interest = interest i; discount = discounted i; limit = limited i }

pub overflow_add-valuation : goal.overflow_add-valuation
overflow_add-valuation c = let k = c.before.before.before in need! (valuation k) (ok k).0.0.0

pub overflow_sub-limit : goal.overflow_sub-limit
overflow_sub-limit c = let k = back_there c in need! (less_market k) (ok k).0.0

pub overflow_sub-limit-2 : goal.overflow_sub-limit-2
overflow_sub-limit-2 c = let k = back_there c in need! (less_risks k) (ok k).0

pub overflow_add-limit : goal.overflow_add-limit
overflow_add-limit c = let k = back_there c in need! (limit k) (ok k)
