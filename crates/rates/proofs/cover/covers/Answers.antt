-- `rates::cover::covers` meets its contract: a row of another length or with a broken number is not sound; a sound one is in its ranges.
-- Assumes nothing.
use mathlib.Core.Path.{◌≡◌, sym, ap, ◌∙◌}
use mathlib.Core.Bool.{true}
use lib.ListN.{length}
use borrow.Author.Tests.{ne_eqb}
use Rattle.whole.proofs.Tests.{first_out, and_then}
use Rattle.rates.specs.InForce.{sound_row, cover_test}
use Rattle.rates.proofs.Ranges.{row_ranges, sound_by, broken_by}
use Rattle.rates.proofs.cover.covers.Goals as goal
use Rattle.rates.proofs.cover.covers.Goals.{Then-is_ok}

sound : (c : Then-is_ok) → sound_row c.in-Some.row.now ≡ true
sound c =
    let whole = c.in-Some.ensures.cases in
    sound_by _ (ap length whole.same ∙ whole.long) _ c.check_row.ensures (sym c.is_ok.ensures.value ∙ c.if-is_ok.true)

pub returns-in_default : goal.returns-in_default
unfolding sound_row
returns-in_default c = sym (first_out _ _ (first_out _ _ (ne_eqb _ _ c.in_default.ensures.cases)))

pub returns-else-is_ok : goal.returns-else-is_ok
returns-else-is_ok c =
    let whole = c.in-Some.ensures.cases in
    let broken = broken_by _ (ap length whole.same ∙ whole.long) _ c.check_row.ensures (sym c.is_ok.ensures.value ∙ c.if-is_ok.false) in
    c.if-is_ok.false ∙ sym (first_out _ _ (ap sound_row (sym whole.same) ∙ broken))

pub passes-requires : goal.passes-requires
passes-requires c = row_ranges _ (sound c)

pub returns-then-is_ok : goal.returns-then-is_ok
returns-then-is_ok c =
    let same = c.in-Some.ensures.cases.same in
    and_then _ _ (ap sound_row (sym same) ∙ sound c.before) (c.passes.ensures ∙ ap cover_test same)
