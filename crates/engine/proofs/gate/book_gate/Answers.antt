-- `gate::book_gate` meets its contract: the two tests are the two refusals. Assumes nothing.
use mir.Facts.{to_z-of_z}
use Rattle.whole.proofs.Parameters.{codes}
use Rattle.engine.proofs.Gates.{book_passes}
use Rattle.engine.proofs.gate.book_gate.Goals as goal

pub returns-then-book-ne-BOOK_LENGTH-clause-code : goal.returns-then-book-ne-BOOK_LENGTH-clause-code
returns-then-book-ne-BOOK_LENGTH-clause-code c = search codes

pub returns-clause-code : goal.returns-clause-code
returns-clause-code c = book_passes _ _ c.if-book-ne-BOOK_LENGTH.false (simp (to_z-of_z c.ranges.account) at c.place.ensures.code)
