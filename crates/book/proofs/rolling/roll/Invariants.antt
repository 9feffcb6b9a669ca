-- `rolling::roll` meets its contract. The loop's invariant: the rubles and the holdings before a are rolled. Assumes nothing.
use mathlib.Core.Path.{◌≡◌}
use mathlib.Core.List.{List}
use lib.IntN.{ℤ}
use lib.ListN.{length}
use Rattle.book.proofs.Rolled.{rolled_to}
use Rattle.book.proofs.rolling.roll.Given as goal

abbrev pub invariant-loop-a : goal.invariant-loop-a
invariant-loop-a l = (length l.block ≡ 288) × ((found : List ℤ) → length found ≡ 288 → l.initial.block ≡ rolled_to 0 found → l.block ≡ rolled_to l.a found)
