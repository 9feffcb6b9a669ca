-- `gauge::Gauge::shown` meets its contract: what the variant carries, and the float of zero where it carries nothing. Assumes nothing.
use Rattle.app_feed.proofs.gauge.Gauge.shown.Goals as goal

-- there the gauge is the empty one
pub returns-in-Empty : goal.returns-in-Empty
returns-in-Empty c = rw c.in-Empty.is c.exact.ensures
