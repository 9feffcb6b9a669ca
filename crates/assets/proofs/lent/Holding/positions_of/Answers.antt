-- `Holding::positions_of` meets its contract: what the closure gives of a date is that date's position. Assumes nothing.
use borrow.Author.Rules.{rules}
use Rattle.whole.proofs.Tabulated.{from_fn_is}
use Rattle.assets.specs.Asset.{position}
use Rattle.assets.proofs.lent.Holding.positions_of.Goals as goal

pub returns : goal.returns
returns c = from_fn_is _ (position c.args.self.numbers.now c.args.c) (λ d y q l k. search rules) c.from_fn.ensures.items
