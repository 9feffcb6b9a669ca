-- `rates::tables::check_clearing` meets its contract: each row answers as its marks do. Assumes nothing.
use Prim.Native.Nat.{◌*◌}
use native.Mathlib.Nat.{zero-add}
use borrow.Author.Rules.{rules}
use Rattle.rates.specs.Units.{row_length}
use Rattle.rates.specs.Tables.{clearing_marks}
use Rattle.rates.proofs.Counts.{clearing_row_count}
use Rattle.rates.proofs.tables.check_clearing.Goals as goal

pub returns : goal.returns
returns c =
    let clearing = c.args.clearing.now in
    c.each.ensures 0 row_length (clearing_marks clearing) (record {
      long = clearing_row_count clearing c.told-clearing;
      answer = λ a r l said. rw (zero-add (64 * a)) (search rules);
    })
