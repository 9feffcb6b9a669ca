-- The share that is used: a quotient of two floats that are whole numbers is the exact fraction, rounded once; it lies from 0 to 1, and no float is
-- nearer. Assumes nothing.
use mathlib.Core.Path.{◌≡◌, sym, ap, ◌∙◌, subst}
use mathlib.Core.Bool.{Bool, true, false, cond, true≢false}
use Prim.Native.Nat.{ℕ, ◌*◌, ◌≤◌, ◌<◌, ◌^◌}
use native.Mathlib.Nat.{mul-one, mul_comm, mul_assoc, mul_left_comm, mul-pos}
use native.Mathlib.Omega.{arith}
use lib.Dec.{T, eqb}
use lib.IntN.{ℤ, pos, negsuc, nat_abs}
use lib.Signed.{◌≤ℤ◌, ◌<ℤ◌}
use lib.Ieee.{Float, nan, inf, fin, Format, binary64, up, down, round, of_int, div, le}
use lib.Ieee.Exact.{HasValue}
use lib.Ieee.Fits.{down_pos}
use lib.Ieee.Order.{round_mono}
use lib.Ieee.Positive.{first_pos}
use lib.Ieee.Scale.{round_same, finite}
use borrow.Author.Tests.{ne_eqb}
use Rattle.whole.proofs.Rules.{ints}
use Rattle.app_feed.specs.Floats.{float}
use Rattle.app_feed.specs.Promised.{NoneNearer, IsShare}
use Rattle.app_feed.proofs.Exact.{is_exactly}
use Rattle.app_feed.proofs.Nearest.{rounded_nearest}

-- a / c over b / d, where a = n c and b = v d
cross : (a b c d n v : ℕ) → a ≡ n * c → b ≡ v * d → a * d * v ≡ n * (b * c)
cross a b c d n v e f = rw (e, f) (simp (mul_assoc, mul_comm, mul_left_comm))

above : (n : ℕ) → 0 < n → n ≡ 0 → ⊥
above n h e = omega arith

pub div_whole : (f : Format) (x y : Float) (n v : ℕ) → 0 < v → HasValue x false n 1 → HasValue y false v 1 → div f x y ≡ round f false n v
unfolding div
div_whole f nan y n v p h k = absurd h
div_whole f (inf s) y n v p h k = absurd h
div_whole f (fin true a e) y n v p h k = absurd (true≢false h.0)
div_whole f (fin false a e) nan n v p h k = absurd k
div_whole f (fin false a e) (inf t) n v p h k = absurd k
div_whole f (fin false a e) (fin true b d) n v p h k = absurd (true≢false k.0)
div_whole f (fin false a e) (fin false b d) n v p h k =
    let x : a * up e ≡ n * down e = sym (mul-one (a * up e)) ∙ h.1 in
    let y : b * up d ≡ v * down d = sym (mul-one (b * up d)) ∙ k.1 in
    let positive : 0 < b * up d = subst (λ (z : ℕ). 0 < z) (sym y) (mul-pos p (down_pos d)) in
    ap (λ (t : Bool). cond t (cond (eqb a 0) nan (inf false)) (round f false (a * up e * down d) (b * up d * down e)))
    (ne_eqb b 0 (above b (first_pos b (up d) positive)))
    ∙ round_same f false (a * up e * down d) (b * up d * down e) n v (mul-pos positive (down_pos e)) p (cross (a * up e) (b * up d) (down e) (down d) n v x y)

-- what lies between two whole numbers is finite
valued : (x : Float) (n : ℕ) → HasValue x false n 1 → T (finite x)
valued nan n h = h
valued (inf s) n h = h
valued (fin s m e) n h = tt

between : (a b x : Float) → T (finite a) → T (finite b) → T (le a x) → T (le x b) → T (finite x)
unfolding le
between nan b x p q h k = absurd p
between (inf s) b x p q h k = absurd p
between (fin s m e) nan x p q h k = absurd q
between (fin s m e) (inf t) x p q h k = absurd q
between (fin s m e) (fin t n d) nan p q h k = absurd k
between (fin s m e) (fin t n d) (inf true) p q h k = absurd h
between (fin s m e) (fin t n d) (inf false) p q h k = absurd k
between (fin s m e) (fin t n d) (fin u o c) p q h k = tt

-- of whole numbers from 0 up, the second above 0
module _ (n v : ℕ) (inside : n ≤ v) (positive : 0 < v) (small : v < 2 ^ 53) where
  quotient : div binary64 (float (pos n)) (float (pos v)) ≡ round binary64 false n v
  quotient = div_whole binary64 (float (pos n)) (float (pos v)) n v positive (is_exactly (pos n) (omega arith)) (is_exactly (pos v) small)

  from_0 : T (le (float (pos 0)) (round binary64 false n v))
  unfolding of_int
  from_0 = round_mono binary64 0 1 n v (omega arith) positive (omega arith)

  to_1 : T (le (round binary64 false n v) (float (pos 1)))
  unfolding of_int
  to_1 = round_mono binary64 n v 1 1 positive (omega arith) (omega arith)

  finite_share : T (finite (round binary64 false n v))
  finite_share =
      between (float (pos 0)) (float (pos 1)) (round binary64 false n v) (valued (float (pos 0)) 0 (is_exactly (pos 0) (omega arith)))
      (valued (float (pos 1)) 1 (is_exactly (pos 1) (omega arith))) from_0 to_1

pub share : (part whole : ℤ) → pos 0 ≤ℤ part → part ≤ℤ whole → pos 0 <ℤ whole → nat_abs whole < 2 ^ 53
    → IsShare (div binary64 (float part) (float whole)) part whole
share (negsuc n) whole low high positive small = absurd low.le
share (pos n) (negsuc v) low high positive small = absurd positive.lt
share (pos n) (pos v) low high positive small =
    let inside : n ≤ v = omega ints in
    let above-0 : 0 < v = omega ints in
    let q = quotient n v inside above-0 small in
    record {
      from_zero = low;
      to_whole = high;
      rounded_once = q;
      is_finite = subst (λ (x : Float). T (finite x)) (sym q) (finite_share n v inside above-0 small);
      nearest = subst (λ (x : Float). NoneNearer x n v) (sym q) (rounded_nearest binary64 n v above-0 (finite_share n v inside above-0 small));
      at_least_0 = subst (λ (x : Float). T (le (float (pos 0)) x)) (sym q) (from_0 n v inside above-0 small);
      at_most_1 = subst (λ (x : Float). T (le x (float (pos 1)))) (sym q) (to_1 n v inside above-0 small);
    }
