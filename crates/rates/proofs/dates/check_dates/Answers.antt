-- `rates::dates::check_dates` meets its contract: each date answers as its five marks do. Assumes nothing.
use borrow.Author.Rules.{rules}
use Rattle.rates.specs.Row.{dates_at}
use Rattle.rates.specs.Rules.{date_marks}
use Rattle.rates.proofs.Counts.{date_count}
use Rattle.rates.proofs.dates.check_dates.Goals as goal

pub returns : goal.returns
returns c = c.each.ensures dates_at 5 (date_marks c.args.row.now) (record { long = λ d l. date_count _ d; answer = λ d r l said. search rules })
