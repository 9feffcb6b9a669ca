-- `terms::trade_of` meets its contract: asset, date and side are none of them negative. Assumes nothing.
use native.Mathlib.Omega.{arith}
use borrow.Author.Rules.{sfits_of}
use Rattle.whole.proofs.Parameters.{index}
use Rattle.book.proofs.Allowed.{asset_in, date_in, side_in}
use Rattle.book.proofs.terms.trade_of.Goals as goal

pub overflow_cast-result : goal.overflow_cast-result
overflow_cast-result c = index 15 (omega arith) (sfits_of c.struct_told-1.given.0.1) (asset_in _ c.requires)

pub overflow_cast-result-2 : goal.overflow_cast-result-2
overflow_cast-result-2 c = index 7 (omega arith) (sfits_of c.struct_told-2-1.given.1.0.1) (date_in _ c.requires)

pub overflow_cast-result-3 : goal.overflow_cast-result-3
overflow_cast-result-3 c = index 1 (omega arith) (sfits_of c.struct_told-3-1.given.1.1.0.1) (side_in _ c.requires)
