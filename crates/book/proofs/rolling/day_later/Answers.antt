-- `rolling::day_later` meets its contract: the numbers of dates 1 to 7 are copied to dates 0 to 6. Assumes nothing.
use mathlib.Core.Path.{ap, ◌∙◌}
use mathlib.Core.List.{List}
use lib.IntN.{ℤ, pos}
use lib.ListN.{set}
use Rattle.book.proofs.rolling.DayLater.{stepped_on}
use Rattle.book.proofs.rolling.day_later.Goals as goal

pub returns : goal.returns
returns c =
    let copied = rw c.requires at c.copy_within.ensures.after in
    ap (λ (s : List ℤ). set s 7 (pos 0)) copied ∙ stepped_on c.args.numbers.now c.requires
