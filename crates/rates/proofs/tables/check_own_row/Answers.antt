-- `rates::tables::check_own_row` meets its contract: the rows are those of the asset. Assumes nothing.
use mathlib.Core.Path.{ap, ap₂, ◌∙◌}
use mathlib.Core.List.{List}
use native.Mathlib.Omega.{arith}
use Prim.Native.Nat.{◌+◌, ◌*◌}
use lib.IntN.{ℤ}
use lib.ListN.{length}
use Rattle.whole.specs.Marks.{check_from}
use Rattle.whole.proofs.Checks.{err_inside}
use Rattle.rates.specs.Tables.{own_row_marks, own_marks}
use Rattle.rates.proofs.Counts.{row_long, own_row_count}
use Rattle.rates.proofs.tables.check_own_row.Goals as goal

pub told_from-requires : goal.told_from-requires
told_from-requires c =
    (omega arith, err_inside _ 64 _ (own_row_count _ _ (ap length c.own_row_of-rows.ensures.0 ∙ row_long _ c.told-own c.args.asset c.requires)) c.check_beside.ensures)

pub returns : goal.returns
unfolding own_marks
returns c =
    c.told_from.ensures _ c.check_beside.ensures
    ∙ ap₂ (λ (own clearing : List ℤ). check_from (1024 + 64 * c.args.asset) (own_row_marks own clearing)) c.own_row_of-rows.ensures.0 c.own_row_of-rows.ensures.1
