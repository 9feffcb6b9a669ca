-- `rates::row::equal_for_commodity` meets its contract: equality is asked where the kind is 3. Assumes nothing.
use mathlib.Core.Path.{sym, ◌∙◌}
use native.Mathlib.Omega.{arith}
use borrow.Author.Rules.{rules}
use borrow.Author.Tests.{eq-eqb}
use Rattle.whole.proofs.Bounds.{same_bits, same_literal}
use Rattle.whole.proofs.Tests.{where_so}
use Rattle.rates.proofs.row.equal_for_commodity.Goals as goal

pub returns-else-row-ne-COMMODITY : goal.returns-else-row-ne-COMMODITY
returns-else-row-ne-COMMODITY c =
    same_bits (search rules) (search rules) ∙ where_so _ _ (sym (same_literal 3 (omega arith) (search rules)) ∙ eq-eqb _ _ c.if-row-ne-COMMODITY.false)
