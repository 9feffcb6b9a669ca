-- `rates::tables::check_clearing_row` meets its contract: a row that is absent breaks no rule. Assumes nothing.
use mathlib.Core.Path.{sym, ap, ◌∙◌}
use mathlib.Core.List.{List}
use native.Mathlib.Omega.{arith}
use Prim.Native.Nat.{◌*◌}
use lib.IntN.{ℤ}
use lib.ListN.{length}
use Rattle.whole.specs.Marks.{check_from}
use Rattle.whole.proofs.Tests.{passed}
use Rattle.whole.proofs.Checks.{ok_by, err_inside}
use Rattle.rates.specs.Rules.{row_marks}
use Rattle.rates.specs.Tables.{absent, clearing_marks}
use Rattle.rates.proofs.Counts.{row_long, row_count}
use Rattle.rates.proofs.Zeros.{absent_right}
use Rattle.rates.proofs.tables.check_clearing_row.Goals as goal

pub returns-then-is_absent : goal.returns-then-is_absent
unfolding clearing_marks
returns-then-is_absent c = ok_by _ _ (absent_right _ (ap absent (sym c.row_of-row.ensures) ∙ passed c.is_absent.ensures c.if-is_absent.true))

pub told_from-requires : goal.told_from-requires
told_from-requires c =
    (omega arith, err_inside _ 64 _ (row_count _ (ap length c.row_of-row.ensures ∙ row_long _ c.told-clearing c.args.asset c.requires)) c.check_row.ensures)

pub returns : goal.returns
unfolding clearing_marks
returns c = c.told_from.ensures _ c.check_row.ensures ∙ ap (λ (row : List ℤ). check_from (64 * c.args.asset) (row_marks row)) c.row_of-row.ensures
