-- `rates::cover::passes` meets its contract: a listed row is held to the test, both sides of which fit.
-- Assumes nothing.
use mathlib.Core.Path.{sym, ap, ap₂, ◌∙◌}
use mathlib.Core.Bool.{not}
use lib.IntN.{ℤ, ◌-ℤ◌, ◌*ℤ◌}
use lib.Signed.{le_z}
use Rattle.whole.proofs.Tests.{passed, failed, first_out, and_then}
use Rattle.rates.specs.Units.{the_whole}
use Rattle.rates.specs.Row.{price, level}
use Rattle.rates.specs.InForce.{cover_test}
use Rattle.rates.proofs.CoverTest.{fits, test_back}
use Rattle.rates.proofs.cover.passes.Goals as goal

pub returns-then-number_is : goal.returns-then-number_is
unfolding cover_test
returns-then-number_is c = sym (first_out _ _ (ap not (passed c.number_is.ensures c.if-number_is.true)))

pub returns : goal.returns
unfolding cover_test
returns c =
    let row = c.args.row.now in
    and_then _ _ (ap not (failed c.number_is.ensures c.if-number_is.false))
    (test_back row c.requires c.highest_rate-rate.ensures.1 c.outer_width-width.ensures.1
    ∙ ap₂ (λ (rate v : ℤ). le_z (rate *ℤ price row) (the_whole *ℤ (level row 0 -ℤ v))) c.highest_rate-rate.ensures.0 c.outer_width-width.ensures.0)

pub overflow_mul-result : goal.overflow_mul-result
overflow_mul-result c = search fits

pub overflow_add-result : goal.overflow_add-result
overflow_add-result c = search fits

pub overflow_sub-result : goal.overflow_sub-result
overflow_sub-result c = search fits

pub overflow_mul-result-2 : goal.overflow_mul-result-2
overflow_mul-result-2 c = search fits
