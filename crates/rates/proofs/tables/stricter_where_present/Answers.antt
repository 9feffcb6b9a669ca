-- `rates::tables::stricter_where_present` meets its contract: a row that keeps its rules is absent exactly where it has no kind. Assumes nothing.
use mathlib.Core.Path.{refl, sym, ◌∙◌}
use native.Mathlib.Omega.{arith}
use borrow.Author.Rules.{rules}
use borrow.Author.Tests.{eq-eqb, ne_eqb}
use Rattle.whole.specs.Marks.{check_from}
use Rattle.whole.proofs.Bounds.{same_literal}
use Rattle.rates.specs.Tables.{stricter_own_row}
use Rattle.rates.proofs.Sound.{absent_by_kind}
use Rattle.rates.proofs.tables.stricter_where_present.Goals as goal

pub returns-then-rows-eq0 : goal.returns-then-rows-eq0
unfolding stricter_own_row check_from
returns-then-rows-eq0 c = rw (absent_by_kind _ _ c.requires ∙ sym (same_literal 0 (omega arith) (search rules)) ∙ eq-eqb _ _ c.if-rows-eq0.true) refl

pub returns : goal.returns
unfolding stricter_own_row
returns c = rw (absent_by_kind _ _ c.requires ∙ sym (same_literal 0 (omega arith) (search rules)) ∙ ne_eqb _ _ c.if-rows-eq0.false) c.stricter.ensures
