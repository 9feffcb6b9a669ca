-- `rates::tables::told_from` meets its contract: the same marks are counted from another place. Assumes nothing.
use borrow.Author.Rules.{rules}
use Rattle.whole.proofs.Checks.{told_from}
use Rattle.rates.proofs.tables.told_from.Goals as goal

pub returns : goal.returns
returns c marks e = told_from c.args.at marks c.args.answer _ e (search rules)
