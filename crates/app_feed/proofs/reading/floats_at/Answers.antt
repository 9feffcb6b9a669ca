-- `reading::floats_at` meets its contract: each of the five is a pattern. Assumes nothing.
use mathlib.Core.Path.{◌≡◌, refl, sym, subst}
use mathlib.Core.Bool.{true}
use mathlib.Core.List.{List, map}
use Prim.Native.Nat.{ℕ}
use lib.Dec.{T}
use lib.ListN.{get_or}
use Rattle.whole.specs.Marks.{all_true}
use Rattle.app_feed.specs.Floats.{floats_at}
use Rattle.app_feed.specs.Received.{is_pattern}
use Rattle.app_feed.proofs.Patterns.{each_pattern}
use Rattle.app_feed.proofs.reading.floats_at.Goals as goal

each : (bits : List ℕ) → all_true (map is_pattern bits) ≡ true → (k : ℕ) → T (is_pattern (get_or bits k 0))
each bits e k = subst T (sym (each_pattern bits e k)) tt

pub returns : goal.returns
unfolding floats_at
returns c = refl

pub float_from_bits-result : goal.float_from_bits-result
float_from_bits-result c = each c.args.bits.now c.requires 0

pub float_from_bits-result-2 : goal.float_from_bits-result-2
float_from_bits-result-2 c = each c.args.bits.now c.requires 1

pub float_from_bits-result-3 : goal.float_from_bits-result-3
float_from_bits-result-3 c = each c.args.bits.now c.requires 2

pub float_from_bits-result-4 : goal.float_from_bits-result-4
float_from_bits-result-4 c = each c.args.bits.now c.requires 3

pub float_from_bits-result-5 : goal.float_from_bits-result-5
float_from_bits-result-5 c = each c.args.bits.now c.requires 4
