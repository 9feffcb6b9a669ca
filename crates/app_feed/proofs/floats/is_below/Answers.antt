-- `floats::is_below` meets its contract: the test is one of bounds. Assumes nothing.
use lib.IntN.{pos, neg_ℤ}
use Rattle.whole.proofs.Parameters.{heard}
use Rattle.app_feed.specs.Floats.{most_exact}
use Rattle.app_feed.proofs.floats.is_below.Goals as goal

pub returns : goal.returns
returns c = heard (neg_ℤ (pos most_exact)) (pos most_exact) c.ranges.kopecks c.lies_between.ensures
