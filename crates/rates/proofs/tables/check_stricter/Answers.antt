-- `rates::tables::check_stricter` meets its contract: each row answers as its marks do. Assumes nothing.
use borrow.Author.Rules.{rules}
use Rattle.rates.specs.Units.{row_length, table_length}
use Rattle.rates.specs.Tables.{stricter_at}
use Rattle.rates.proofs.Counts.{stricter_at_count}
use Rattle.rates.proofs.tables.check_stricter.Goals as goal

pub returns : goal.returns
returns c =
    let a = c.args in
    c.each.ensures table_length row_length (stricter_at a.clearing.now a.own.now)
    (record { long = λ k l. stricter_at_count a.clearing.now a.own.now k; answer = λ k r l said. search rules })
