-- `changes::most_of` meets its contract. Assumes nothing.
use borrow.Author.Tests.{eq-eqb, ne_eqb}
use Rattle.whole.proofs.Rules.{ints}
use Rattle.book.specs.Changes.{most_of}
use Rattle.book.proofs.changes.most_of.Goals as goal

pub returns-then-asset-eq-RUBLES : goal.returns-then-asset-eq-RUBLES
unfolding most_of
returns-then-asset-eq-RUBLES c = (simp (eq-eqb _ 255 c.if-asset-eq-RUBLES.true), record { low = omega ints; high = omega ints; fits = omega ints })

pub returns-else-asset-eq-RUBLES : goal.returns-else-asset-eq-RUBLES
unfolding most_of
returns-else-asset-eq-RUBLES c = (simp (ne_eqb _ 255 c.if-asset-eq-RUBLES.false), record { low = omega ints; high = omega ints; fits = omega ints })
