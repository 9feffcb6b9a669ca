-- `reading::is_pattern` meets its contract: without its sign a NaN's pattern is above that of an infinity. Assumes nothing.
use mathlib.Core.Path.{◌≡◌, refl, sym, ap, ◌∙◌}
use mathlib.Core.Bool.{Bool, true, false, not}
use Prim.Native.Nat.{ℕ, ◌%◌}
use lib.Dec.{leb, ltb}
use lib.Ieee.{binary64}
use lib.Ieee.Bits.{nan_bits_above}
use borrow.Author.Tests.{lt-ltb, le-ltb, leb-true, leb-false}
use Rattle.app_feed.proofs.reading.is_pattern.Goals as goal

not_above : (a b : ℕ) → leb a b ≡ not (ltb b a)
not_above a b = go (leb a b) refl
  where
    go : (t : Bool) → leb a b ≡ t → t ≡ not (ltb b a)
    go true e = sym (ap not (le-ltb b a (leb-true a b e)))
    go false e = sym (ap not (lt-ltb b a (leb-false a b e)))

pub returns : goal.returns
returns c = not_above (c.args.bits % 9223372036854775808) 9218868437227405312 ∙ sym (ap not (nan_bits_above binary64 c.args.bits))
