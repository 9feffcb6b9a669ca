-- `record::left_out` meets its contract: the two tests are the definition's. Assumes nothing.
use mathlib.Core.Path.{◌≡◌, refl}
use mathlib.Core.Bool.{true}
use lib.IntN.{pos}
use mir.Facts.{to_z-of_z}
use borrow.Author.Rules.{rules}
use Rattle.whole.specs.Bounds.{equal}
use Rattle.whole.proofs.InRange.{zero_upto}
use Rattle.whole.proofs.Tests.{left, taken}
use Rattle.rates.specs.Row.{kind}
use Rattle.assets.specs.Collateral.{share_in_force}
use Rattle.assets.specs.Asset.{left_out}
use Rattle.assets.proofs.record.left_out.Goals as goal
use Rattle.assets.proofs.record.left_out.Goals.{After-lies_between, Else-not-number_is}

currency : (c : Else-not-number_is) → equal (kind c.args.row.numbers.now) (pos 2) ≡ true
currency c = left c.number_is.ensures c.if-not-number_is.false-raw

asked : (c : After-lies_between) → c.lies_between.result ≡ equal (share_in_force c.args.regime c.args.kind c.args.row.numbers.now) (pos 0)
asked c = let h = c.share_in_force-share.ensures in rw (to_z-of_z h.1.fits, h.0) at c.lies_between.ensures

pub returns-then-not-number_is : goal.returns-then-not-number_is
unfolding left_out
returns-then-not-number_is c = (rw (taken c.number_is.ensures c.if-not-number_is.true-raw) refl, zero_upto 1000000)

pub returns-then-not-lies_between : goal.returns-then-not-lies_between
unfolding left_out
returns-then-not-lies_between c = (rw (currency c.before.before.before, taken (asked c.before) c.if-not-lies_between.true-raw) refl, zero_upto 1000000)

pub returns : goal.returns
unfolding left_out
returns c =
    let e = c.before in let h = e.args.holding.in_range.claim_upto 0 (search rules) in
    rw (to_z-of_z h.fits, currency e.before.before.before, left (asked e.before) e.if-not-lies_between.false-raw) (refl, h)
