-- `reporting::report` meets its contract: a refusal's code, or the account's figures. Assumes nothing.
use mathlib.Core.Path.{sym}
use Prim.Native.Nat.{ℕ}
use Rattle.rates.specs.Lent.{numbers_of}
use Rattle.engine.specs.State.{state}
use Rattle.engine.specs.Refused.{place_of, report_refusals}
use Rattle.engine.proofs.Gates.{at_place, of_account, report_passed}
use Rattle.engine.proofs.Reports.{exit_reported, reported}
use Rattle.engine.proofs.reporting.report.Goals as goal

pub returns-in_err-i : goal.returns-in_err-i
returns-in_err-i c = let t = numbers_of c.args.tables in let s = state c.args.book.now in
    exit_reported t (place_of c.args.account) s _ _ c.from_residual.ensures.1
    (of_account (λ (i : ℕ). report_refusals t i s) c.ranges.account c.in_err-i.ensures.code)

pub figures_at-figures-requires : goal.figures_at-figures-requires
figures_at-figures-requires c = let t = numbers_of c.args.tables in let s = state c.args.book.now in let f = c.ranges.account in
    rw (at_place f c.in_ok-i.ensures.place)
    (report_passed t (place_of c.args.account) s (sym (of_account (λ (i : ℕ). report_refusals t i s) f c.in_ok-i.ensures.code))).judgeable

pub returns : goal.returns
returns c = let t = numbers_of c.args.tables in let s = state c.args.book.now in let f = c.ranges.account in
    reported t (place_of c.args.account) s (of_account (λ (i : ℕ). report_refusals t i s) f c.in_ok-i.ensures.code) (at_place f c.in_ok-i.ensures.place)
    c.figures_at-figures.ensures
