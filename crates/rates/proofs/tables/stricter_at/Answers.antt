-- `rates::tables::stricter_at` meets its contract: the rows are those of the asset. Assumes nothing.
use mathlib.Core.Path.{ap₂, ◌∙◌}
use mathlib.Core.List.{List}
use native.Mathlib.Omega.{arith}
use Prim.Native.Nat.{◌+◌, ◌*◌}
use lib.IntN.{ℤ}
use Rattle.whole.specs.Marks.{check_from, all_true}
use Rattle.whole.proofs.Checks.{err_inside}
use Rattle.whole.proofs.Marks.{all_piece}
use Rattle.rates.specs.Units.{assets}
use Rattle.rates.specs.Tables.{own_row_marks, own_marks, stricter_own_row, stricter_at}
use Rattle.rates.proofs.Counts.{stricter_own_count}
use Rattle.rates.proofs.tables.stricter_at.Goals as goal

pub stricter_where_present-requires : goal.stricter_where_present-requires
unfolding own_marks
stricter_where_present-requires c = ap₂ (λ (own clearing : List ℤ). all_true (own_row_marks own clearing)) c.own_row_of-rows.ensures.0 c.own_row_of-rows.ensures.1 ∙ all_piece (own_marks c.args.clearing.now c.args.own.now) 0 assets c.args.asset (omega arith) (omega arith) c.requires.1

pub told_from-requires : goal.told_from-requires
told_from-requires c = (omega arith, err_inside _ 64 _ (stricter_own_count _ _) c.stricter_where_present.ensures)

pub returns : goal.returns
unfolding stricter_at
returns c =
    c.told_from.ensures _ c.stricter_where_present.ensures
    ∙ ap₂ (λ (own clearing : List ℤ). check_from (1024 + 64 * c.args.asset) (stricter_own_row own clearing)) c.own_row_of-rows.ensures.0 c.own_row_of-rows.ensures.1
