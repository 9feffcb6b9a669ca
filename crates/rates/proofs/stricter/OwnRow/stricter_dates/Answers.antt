-- `rates::stricter::OwnRow::stricter_dates` meets its contract: each date answers as its five marks do. Assumes nothing.
use borrow.Author.Rules.{rules}
use Rattle.rates.specs.Row.{dates_at}
use Rattle.rates.specs.Stricter.{stricter_date}
use Rattle.rates.proofs.Counts.{stricter_date_count}
use Rattle.rates.proofs.stricter.OwnRow.stricter_dates.Goals as goal

pub returns : goal.returns
returns c =
    c.each.ensures dates_at 5 (stricter_date c.args.self.own.now c.args.self.clearing.now)
    (record { long = λ d l. stricter_date_count _ _ d; answer = λ d r l said. search rules })
