-- `gauge::gauge_of` meets its contract: the tests pick the case, and each number that is cast is below 2^53 in size. Assumes nothing.
use Rattle.whole.proofs.Machine.{need! }
use Rattle.app_feed.proofs.Gauges.{shortfall, risks, used_up, shortfall_runs, risks_run, used_runs, shortfall_small, gauges, shows_over, shows_share}
use Rattle.app_feed.proofs.gauge.gauge_of.Goals as goal

pub overflow_sub-limit : goal.overflow_sub-limit
overflow_sub-limit c = need! (shortfall c.args.f) (shortfall_runs c.requires.0)

pub exact-requires : goal.exact-requires
exact-requires c = shortfall_small c.requires.0

pub returns-then-limit-lt0 : goal.returns-then-limit-lt0
returns-then-limit-lt0 c = shows_over c.args.f c.requires.0 (search gauges) (search gauges) (search gauges)

pub overflow_add-used : goal.overflow_add-used
overflow_add-used c = need! (risks c.args.f) (risks_run c.requires.0)

pub overflow_sub-used : goal.overflow_sub-used
overflow_sub-used c = need! (used_up c.args.f) (used_runs c.requires.0)

pub returns : goal.returns
returns c = shows_share c.args.f c.requires.0 (search gauges) (search gauges) (search gauges) (search gauges)
