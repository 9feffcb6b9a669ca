-- `changes::move_at` meets its contract: an asset that is not 255 is one of the sixteen. Assumes nothing.
use mathlib.Core.Logic.{⊎_elim}
use Prim.Native.Nat.{◌<◌}
use native.Mathlib.Omega.{arith}
use borrow.Author.Tests.{eq-eqb, ne_eqb}
use Rattle.book.specs.Block.{move_at}
use Rattle.book.proofs.changes.move_at.Goals as goal
use Rattle.book.proofs.changes.move_at.Goals.{Else-asset-eq-RUBLES}

an_asset : (c : Else-asset-eq-RUBLES) → c.args.asset < 16
an_asset c = ⊎_elim (λ l. l) (λ e. absurd (c.if-asset-eq-RUBLES.false e)) c.requires

pub returns-then-asset-eq-RUBLES : goal.returns-then-asset-eq-RUBLES
unfolding move_at
returns-then-asset-eq-RUBLES c = (simp (eq-eqb _ 255 c.if-asset-eq-RUBLES.true), omega arith)

pub returns-else-asset-eq-RUBLES : goal.returns-else-asset-eq-RUBLES
unfolding move_at
returns-else-asset-eq-RUBLES c = let l = an_asset c in (simp (ne_eqb _ 255 c.if-asset-eq-RUBLES.false), omega arith)
