-- The lists of specs/Examples, by computing. Assumes nothing.
use mathlib.Core.Path.{refl}
use Rattle.whole.specs.Bounds.{between}
use Rattle.whole.specs.Parts.{part}
use Rattle.settlement.specs.Code.{on_code}
use Rattle.settlement.specs.Members.{list_of}
use Rattle.settlement.specs.Examples.{ExamplesMet}

pub examples_met : ExamplesMet
unfolding between part on_code list_of
examples_met = refl
