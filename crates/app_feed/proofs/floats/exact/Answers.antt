-- `floats::exact` meets its contract: a number below 2^53 in size is one that the cast keeps. Assumes nothing.
use mir.Facts.{to_z-of_z}
use Rattle.app_feed.proofs.Exact.{in_float_lem}
use Rattle.app_feed.proofs.floats.exact.Goals as goal

pub int_to_float-result : goal.int_to_float-result
int_to_float-result c = rw (to_z-of_z c.ranges.kopecks) (in_float_lem c.args.kopecks c.requires)
