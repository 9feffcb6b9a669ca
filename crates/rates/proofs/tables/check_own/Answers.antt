-- `rates::tables::check_own` meets its contract: each row answers as its marks do. Assumes nothing.
use borrow.Author.Rules.{rules}
use Rattle.rates.specs.Units.{row_length, table_length}
use Rattle.rates.specs.Tables.{own_marks}
use Rattle.rates.proofs.Counts.{own_marks_count}
use Rattle.rates.proofs.tables.check_own.Goals as goal

pub returns : goal.returns
returns c =
    let a = c.args in
    c.each.ensures table_length row_length (own_marks a.clearing.now a.own.now)
    (record { long = own_marks_count a.clearing.now a.own.now c.told-own; answer = λ k r l said. search rules })
