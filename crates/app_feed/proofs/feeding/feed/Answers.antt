-- `feeding::feed` meets its contract: the count, the report's code, the size of its figures, and then its figures. Assumes nothing.
use mathlib.Core.Path.{◌≡◌, refl, sym, ap, ◌∙◌, subst}
use mathlib.Core.Bool.{Bool, true, not}
use mathlib.Core.List.{List, [], ◌∷◌}
use Prim.Native.Nat.{ℕ}
use lib.IntN.{ℤ}
use lib.ListN.{length}
use Rattle.whole.specs.Refusals.{◌gives◌, first_code, out_of_bounds}
use Rattle.whole.proofs.Refusals.{Code, none, hit, miss}
use Rattle.whole.proofs.Tests.{passed, failed, denied, refuted}
use Rattle.whole.specs.declared.codes.Refusal.TheVariants.{WrongLength, OutOfBounds}
use Rattle.rates.specs.Lent.{Tables, numbers_of}
use Rattle.figures.specs.Ranges.{Below2^53}
use Rattle.engine.specs.State.{State, state}
use Rattle.engine.specs.Refused.{place_of, figures_at}
use Rattle.engine.specs.Report.{Reported, report_of}
use Rattle.engine.proofs.Exits.{refusal_not_0}
use Rattle.engine.proofs.Reports.{figures_reported}
use Rattle.app_feed.specs.Floats.{floats_of, all_below, AllHaveBits}
use Rattle.app_feed.specs.Gauge.{gauge_of, Balanced}
use Rattle.app_feed.specs.Feed.{feed_refusals, fed_of}
use Rattle.app_feed.proofs.Exact.{all_have_bits}
use Rattle.app_feed.proofs.Reported.{below_tested, report_balanced}
use Rattle.app_feed.proofs.Refused.{told, code_is, zeros, exit_zeros}
use Rattle.app_feed.proofs.Sending.{count_wrong, report_wrong, report_right, sends}
use Rattle.app_feed.proofs.feeding.feed.Goals as goal

-- ---- the report of an account of what is lent
module _ (lends : Tables) (account : ℤ) (kept : State) where
  -- its figures, where it answers 0
  module _ {r : Reported} (e : r ≡ report_of lends (place_of account) kept) (done : r.code ≡ 0) where
    answered : (report_of lends (place_of account) kept).code ≡ 0
    answered = sym (ap (λ (r : Reported). r.code) e) ∙ done

    balanced : Balanced r.figures
    balanced = subst (λ (r : Reported). Balanced r.figures) (sym e) (report_balanced lends (place_of account) kept answered)

    found : r.figures ≡ figures_at lends (place_of account) kept
    found = ap (λ (r : Reported). r.figures) e ∙ figures_reported lends (place_of account) kept answered

    -- ---- the size of its figures
    asked : {t : Bool} → t ≡ all_below r.figures → t ≡ all_below (figures_at lends (place_of account) kept)
    asked f = f ∙ ap all_below found

    below : {t : Bool} → t ≡ all_below r.figures → t ≡ true → Below2^53 r.figures
    below f h = subst Below2^53 (sym found) ((below_tested (figures_at lends (place_of account) kept)).only (passed (asked f) h))

    -- the whole code, from the test
    after_size : (numbers : List ℕ) {n : ℕ} → length numbers ≡ 5 → Code (not (all_below (figures_at lends (place_of account) kept)) gives out_of_bounds ∷ []) n
        → n ≡ first_code (feed_refusals lends (place_of account) kept (length numbers))
    after_size numbers long p = report_right lends (place_of account) kept numbers long (sym (code_is lends account kept e) ∙ done) p

pub returns-then-bits-ne-COUNT : goal.returns-then-bits-ne-COUNT
returns-then-bits-ne-COUNT c = let a = c.args in
    zeros _ _ _ _ WrongLength (count_wrong (numbers_of a.tables) (place_of a.account) (state a.book.now) a.bits.now c.if-bits-ne-COUNT.true)

pub returns-in_err-found : goal.returns-in_err-found
returns-in_err-found c =
    let a = c.args in
    let tables = numbers_of a.tables in
    let s = state a.book.now in
    exit_zeros tables (place_of a.account) s a.bits.now _ _ c.from_residual.ensures.1
    (report_wrong tables (place_of a.account) s a.bits.now c.if-bits-ne-COUNT.false
    (code_is tables a.account s (told tables a.account s c.ranges.account c.in_err-found.ensures)) (refusal_not_0 _))

pub returns-then-not-all_below : goal.returns-then-not-all_below
returns-then-not-all_below c =
    let a = c.args in
    let tables = numbers_of a.tables in
    let s = state a.book.now in
    let e = told tables a.account s c.ranges.account c.in_ok-found.ensures in
    let above = refuted (failed (asked tables a.account s e refl c.all_below.ensures) c.if-not-all_below.true) in
    zeros tables (place_of a.account) s a.bits.now OutOfBounds (after_size tables a.account s e refl a.bits.now c.if-bits-ne-COUNT.false (hit above))

pub floats_of-figures-requires : goal.floats_of-figures-requires
floats_of-figures-requires c =
    let tables = numbers_of c.args.tables in
    let s = state c.args.book.now in
    let e = told tables c.args.account s c.ranges.account c.in_ok-found.ensures in
    below tables c.args.account s e refl c.all_below.ensures c.if-not-all_below.false

pub gauge_of-gauge-requires : goal.gauge_of-gauge-requires
gauge_of-gauge-requires c =
    let tables = numbers_of c.args.tables in
    let s = state c.args.book.now in
    let e = told tables c.args.account s c.ranges.account c.in_ok-found.ensures in
    (below tables c.args.account s e refl c.all_below.ensures c.if-not-all_below.false, balanced tables c.args.account s e refl)

pub bits_of-requires : goal.bits_of-requires
bits_of-requires c =
    let tables = numbers_of c.args.tables in
    let s = state c.args.book.now in
    let e = told tables c.args.account s c.ranges.account c.in_ok-found.ensures in
    subst AllHaveBits (sym c.floats_of-figures.ensures) (all_have_bits _ (below tables c.args.account s e refl c.all_below.ensures c.if-not-all_below.false))

pub returns : goal.returns
unfolding fed_of
returns c =
    let tables = numbers_of c.args.tables in
    let s = state c.args.book.now in
    let bits = c.args.bits.now in
    let e = told tables c.args.account s c.ranges.account c.in_ok-found.ensures in
    let within = denied (passed (asked tables c.args.account s e refl c.all_below.ensures) c.if-not-all_below.false) in
    let f = found tables c.args.account s e refl in
    sends tables (place_of c.args.account) s bits (sym (after_size tables c.args.account s e refl bits c.if-bits-ne-COUNT.false (miss within none)))
    (λ i. record { code = 0; figures = (c.floats_of-figures.ensures ∙ ap floats_of f) i; gauge = (c.gauge_of-gauge.ensures ∙ ap gauge_of f) i })
    (c.copy_from_slice.ensures.after ∙ c.bits_of.ensures)
