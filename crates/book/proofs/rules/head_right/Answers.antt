-- `rules::head_right` meets its contract: its tests are the marks, in their order. Assumes nothing.
use Rattle.whole.specs.Marks.{all_true}
use Rattle.whole.proofs.Lists.{and-true}
use Rattle.whole.proofs.Chains.{and_assoc, and_same}
use Rattle.book.specs.Rules.{head_marks}
use Rattle.book.proofs.rules.head_right.Goals as goal

pub returns : goal.returns
unfolding head_marks all_true
returns c = simp (and_assoc, and-true) (search and_same depth 20)
