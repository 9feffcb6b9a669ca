-- `whole::check_between` meets its contract: what is left from number k on answers as all did. Assumes nothing.
use mathlib.Core.Path.{◌≡◌}
use mathlib.Core.Bool.{Bool}
use lib.IntN.{ℤ, pos}
use Rattle.whole.specs.Bounds.{between}
use Rattle.whole.proofs.Checks.{from_number}
use Rattle.whole.proofs.check_between.Given as goal

abbrev pub inside : ℤ → ℤ → ℤ → Bool
inside low high x = between low x high

abbrev pub invariant-loop-k : goal.invariant-loop-k
invariant-loop-k l = let f = inside l.low l.high in from_number (pos 0) f l.numbers l.at 0 ≡ from_number (pos 0) f l.numbers l.at l.k
