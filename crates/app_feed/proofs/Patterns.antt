-- Numbers that are all patterns of floats, one by one. Assumes nothing.
use mathlib.Core.Path.{◌≡◌, refl}
use mathlib.Core.Bool.{true}
use mathlib.Core.List.{List, map}
use Prim.Native.Nat.{ℕ}
use lib.ListN.{get_or}
use lib.Ieee.{nan_bits}
use Rattle.whole.specs.Marks.{all_true}
use Rattle.whole.proofs.Marks.{all_numbers}
use Rattle.app_feed.specs.Received.{is_pattern}

-- past the last number zeros are read, and zero is a pattern
zero_is : is_pattern 0 ≡ true
unfolding nan_bits
zero_is = refl

pub each_pattern : (bits : List ℕ) → all_true (map is_pattern bits) ≡ true → (k : ℕ) → is_pattern (get_or bits k 0) ≡ true
each_pattern bits = all_numbers is_pattern bits 0 zero_is
