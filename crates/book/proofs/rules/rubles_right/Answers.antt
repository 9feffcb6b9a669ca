-- `rules::rubles_right` meets its contract: the rubles are the part from 1 to 10. Assumes nothing.
use Rattle.whole.specs.Parts.{part}
use Rattle.book.proofs.rules.rubles_right.Goals as goal

pub returns : goal.returns
unfolding part
returns c = c.all_between.ensures
