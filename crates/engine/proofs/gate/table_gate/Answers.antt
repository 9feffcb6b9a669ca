-- `gate::table_gate` meets its contract: the table check's code is the gate's where the book has its length, and the account is looked at last.
-- Assumes nothing.
use mathlib.Core.Path.{sym, ◌∙◌}
use mir.Facts.{to_z-of_z}
use Rattle.whole.proofs.Parameters.{codes}
use Rattle.engine.proofs.Exits.{refusal_not_0, exit_code}
use Rattle.engine.proofs.Gates.{checked_code, tables_refused, tables_passed}
use Rattle.engine.proofs.gate.table_gate.Goals as goal

pub returns-then-book-ne-BOOK_LENGTH-clause-code : goal.returns-then-book-ne-BOOK_LENGTH-clause-code
returns-then-book-ne-BOOK_LENGTH-clause-code c = search codes

pub returns-in_err-check_tables-clause-code : goal.returns-in_err-check_tables-clause-code
returns-in_err-check_tables-clause-code c =
    exit_code _ _ c.from_residual.ensures.1
    ∙ tables_refused _ _ _ c.if-book-ne-BOOK_LENGTH.false (checked_code _ c.in_err-check_tables.ensures) (refusal_not_0 _)

pub returns-clause-code : goal.returns-clause-code
returns-clause-code c =
    tables_passed _ _ _ c.if-book-ne-BOOK_LENGTH.false (sym (checked_code _ c.in_ok-check_tables.ensures))
    (simp (to_z-of_z c.ranges.account) at c.place.ensures.code)
