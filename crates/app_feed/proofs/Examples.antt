-- The examples, computed by the checker from the definitions. Assumes nothing.
use mathlib.Core.Path.{refl}
use lib.Ieee.{div, of_int, to_bits}
use Rattle.app_feed.specs.Floats.{floats_of, bits_of}
use Rattle.app_feed.specs.Gauge.{gauge_of}
use Rattle.app_feed.specs.Examples.{ExamplesMet}

pub examples_met : ExamplesMet
unfolding bits_of floats_of gauge_of of_int div to_bits
examples_met = refl
