-- `rates::tables::own_kind_right` meets its contract: the kinds are compared, and then the clearing row is looked at. Assumes nothing.
use mathlib.Core.Path.{sym, ap, ◌∙◌}
use mathlib.Core.Bool.{not}
use native.Mathlib.Omega.{arith}
use borrow.Author.Rules.{rules}
use borrow.Author.Tests.{eq-eqb}
use Rattle.whole.proofs.Bounds.{same_bits, same_literal}
use Rattle.whole.proofs.Tests.{and_then}
use Rattle.rates.specs.Tables.{own_kind_right}
use Rattle.rates.proofs.tables.own_kind_right.Goals as goal

pub returns-then-rows : goal.returns-then-rows
unfolding own_kind_right
returns-then-rows c = and_then _ _ (sym (same_bits (search rules) (search rules)) ∙ eq-eqb _ _ c.if-rows.true) (ap not (same_literal 0 (omega arith) (search rules)))
