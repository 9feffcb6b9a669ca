-- `engine_c::single_limit_app_read` meets its contract: a buffer of five takes the five floats, any other is turned away. Assumes nothing.
use mathlib.Core.Path.{◌≡◌, refl, ap, ◌∙◌}
use mathlib.Core.List.{List, [], ◌∷◌}
use lib.Ieee.{Float, binary64, of_int, of_bits}
use Rattle.figures.specs.Limit.{five}
use Rattle.engine.specs.Report.{no_figures}
use Rattle.app_feed.specs.Floats.{floats_of}
use Rattle.app_feed.specs.Received.{Received}
use Rattle.engine_c.specs.Face.{filled_floats}
use Rattle.engine_c.proofs.Filling.{turned_away, taken}
use Rattle.engine_c.proofs.single_limit_app_read.Goals as goal

-- the literal 0.0 is the float of zero
zeros : let z = of_bits binary64 0 in ◌≡◌ {A = List Float} (z ∷ z ∷ z ∷ z ∷ z ∷ []) (five (floats_of no_figures))
unfolding floats_of of_int of_bits
zeros = refl

pub returns-in_default : goal.returns-in_default
unfolding filled_floats
returns-in_default c = rw c.from.ensures (turned_away _ _ _ c.in_default.ensures.cases)

pub returns-in-Ok : goal.returns-in-Ok
unfolding filled_floats
returns-in-Ok c =
    let r = c.in-Ok.ensures in
    taken c.args.figures.now c.in-Some.ensures.cases.long (ap (λ (r : Received). r.code) r) (c.five.ensures ∙ ap (λ (r : Received). five r.figures) r)

pub returns-in-Err : goal.returns-in-Err
unfolding filled_floats
returns-in-Err c =
    let r = c.in-Err.ensures in
    taken c.args.figures.now c.in-Some.ensures.cases.long (c.from-in-Err.ensures ∙ ap (λ (r : Received). r.code) r) (zeros ∙ ap (λ (r : Received). five r.figures) r)
