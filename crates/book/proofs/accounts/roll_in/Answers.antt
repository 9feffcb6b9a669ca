-- `accounts::roll_in` meets its contract: the block is lent, rolled, and given back. Assumes nothing.
use Rattle.book.specs.Roll.{rolled}
use Rattle.book.specs.Ranges.{Bounded}
use Rattle.book.proofs.AtAccount.{back_at, of_lent}
use Rattle.book.proofs.accounts.roll_in.Goals as goal

pub roll-requires : goal.roll-requires
roll-requires c = of_lent c.args.book.now c.args.i Bounded c.requires.1

pub returns : goal.returns
returns c = let a = c.args in
    back_at a.book.now a.i rolled c.roll.ensures
