-- The charge of n units as n grows, and what every such function of n has: it is 0 at 0, never falls, and grows by at most W for each unit.
-- Assumes nothing.
use mathlib.Core.Path.{◌≡◌, sym, ap, ap₂, ◌∙◌, subst}
use Prim.Native.Nat.{ℕ, ◌+◌, ◌*◌, ◌≤◌, ◌<◌, ◌^◌}
use native.Mathlib.Nat.{mul-le-mul, mul-add}
use native.Mathlib.Omega.{arith}
use lib.IntN.{ℤ, pos, neg_ℤ, nat_abs, ◌+ℤ◌, ◌-ℤ◌, ◌*ℤ◌, *ℤ-zero}
use lib.Signed.{◌≤ℤ◌}
use Rattle.whole.specs.Numbers.{min_ℤ, max_ℤ}
use Rattle.whole.specs.Bounds.{◌within◌, ◌upto◌}
use Rattle.whole.proofs.Expressions.{var, lit, neg, ◌⊕◌, ◌⊖◌, ◌⊛◌, ◌⊓◌, ◌⊔◌, is, le!, eq!, le?, eq?}
use Rattle.whole.proofs.Bounds.{within_fits}
use Rattle.whole.proofs.PlusMinus.{abs_is, one_is_zero}
use Rattle.whole.proofs.Numbers.{≤ℤ-trans, +ℤ-mono, *ℤ-mono, *ℤ-monoʳ, *ℤ-step, *ℤ-distribˡ, abs_add, abs_mul}
use Rattle.whole.proofs.Rules.{ints}
use Rattle.assets.specs.Risk.{charge, long, short}

-- 0 at 0, never falls, grows by at most W for each unit
pub record Slope (W : ℤ) (F : ℤ → ℤ) : Type 0 where
  pub none : F (pos 0) ≡ pos 0
  pub mono : (n m : ℤ) → n ≤ℤ m → F n ≤ℤ F m
  pub step : (n m : ℤ) → n ≤ℤ m → F m ≤ℤ (F n +ℤ W *ℤ (m -ℤ n))

-- W for each unit of two parts is W for each unit of the whole
in_parts : (W X Y Z : ℤ) → X +ℤ Y ≡ Z → W *ℤ X +ℤ W *ℤ Y ≡ W *ℤ Z
in_parts W X Y Z e = sym (*ℤ-distribˡ W X Y) ∙ ap (λ (z : ℤ). W *ℤ z) e

-- ---- one rate, and another rate beyond a limit
pub linear : (W rate : ℤ) → pos 0 ≤ℤ rate → rate ≤ℤ W → Slope W (λ n. rate *ℤ n)
linear W rate h k = record { none = *ℤ-zero rate; mono = λ n m l. *ℤ-mono rate n m h l; step = λ n m l. *ℤ-step W rate n m h k l }

module _ (W rate limit : ℤ) (F : ℤ → ℤ) (s : Slope W F) (h : pos 0 ≤ℤ rate) (k : rate ≤ℤ W) (z : pos 0 ≤ℤ limit) where
  -- F up to the limit, the rate beyond it
  abbrev pub beyond_limit : ℤ → ℤ
  beyond_limit n = F (min_ℤ n limit) +ℤ rate *ℤ max_ℤ (pos 0) (n -ℤ limit)

  below_limit : (n m : ℤ) → n ≤ℤ m → min_ℤ n limit ≤ℤ min_ℤ m limit
  below_limit n m q = le! (var n ⊓ var limit) (var m ⊓ var limit) (omega ints)

  above_limit : (n m : ℤ) → n ≤ℤ m → max_ℤ (pos 0) (n -ℤ limit) ≤ℤ max_ℤ (pos 0) (m -ℤ limit)
  above_limit n m q = le! (lit 0 ⊔ (var n ⊖ var limit)) (lit 0 ⊔ (var m ⊖ var limit)) (omega ints)

  beyond_none : beyond_limit (pos 0) ≡ pos 0
  beyond_none =
      ap₂ (λ (x y : ℤ). F x +ℤ rate *ℤ y) (eq! (lit 0 ⊓ var limit) (lit 0) (omega ints)) (eq! (lit 0 ⊔ (lit 0 ⊖ var limit)) (lit 0) (omega ints))
      ∙ ap₂ ◌+ℤ◌ s.none (*ℤ-zero rate)

  beyond_mono : (n m : ℤ) → n ≤ℤ m → beyond_limit n ≤ℤ beyond_limit m
  beyond_mono n m q = +ℤ-mono (s.mono _ _ (below_limit n m q)) (*ℤ-mono rate _ _ h (above_limit n m q))

  beyond_step : (n m : ℤ) → n ≤ℤ m → beyond_limit m ≤ℤ (beyond_limit n +ℤ W *ℤ (m -ℤ n))
  beyond_step n m q =
      let X = min_ℤ m limit -ℤ min_ℤ n limit in
      let Y = max_ℤ (pos 0) (m -ℤ limit) -ℤ max_ℤ (pos 0) (n -ℤ limit) in
      let whole = eq! (var m ⊓ var limit ⊖ var n ⊓ var limit ⊕ (lit 0 ⊔ (var m ⊖ var limit) ⊖ lit 0 ⊔ (var n ⊖ var limit))) (var m ⊖ var n) (omega arith) in
      let low = var (F (min_ℤ n limit)) in
      let low' = var (F (min_ℤ m limit)) in
      let high = var (rate *ℤ max_ℤ (pos 0) (n -ℤ limit)) in
      let high' = var (rate *ℤ max_ℤ (pos 0) (m -ℤ limit)) in
      le! (low' ⊕ high') (low ⊕ high ⊕ var (W *ℤ (m -ℤ n)))
      (omega (
        arith,
        le? low' (low ⊕ var (W *ℤ X)) (s.step _ _ (below_limit n m q)),
        le? high' (high ⊕ var (W *ℤ Y)) (*ℤ-step W rate _ _ h k (above_limit n m q)),
        eq? (var (W *ℤ X) ⊕ var (W *ℤ Y)) (var (W *ℤ (m -ℤ n))) (in_parts W X Y (m -ℤ n) whole),
      ))

  pub beyond : Slope W beyond_limit
  beyond = record { none = beyond_none; mono = beyond_mono; step = beyond_step }

-- the charge of n units, at rates from 0 to W
pub charge_slope : (W base raised limit : ℤ) → pos 0 ≤ℤ base → base ≤ℤ W → pos 0 ≤ℤ raised → raised ≤ℤ W → pos 0 ≤ℤ limit → Slope W (charge base raised limit)
unfolding charge
charge_slope W base raised limit hb kb hr kr z = beyond W raised limit (λ n. base *ℤ n) (linear W base hb kb) hr kr z

-- ---- how large it is
module _ {W : ℤ} {F : ℤ → ℤ} (s : Slope W F) (n : ℤ) (h : pos 0 ≤ℤ n) where
  pub slope_from_zero : pos 0 ≤ℤ F n
  slope_from_zero = subst (λ (z : ℤ). z ≤ℤ F n) s.none (s.mono (pos 0) n h)

  pub slope_below : F n ≤ℤ (W *ℤ n)
  slope_below =
      le! (var (F n)) (var W ⊛ var n)
      (omega (ints, s.none, le? (var (F n)) (var (F (pos 0)) ⊕ var W ⊛ (var n ⊖ lit 0)) (s.step (pos 0) n h)))

pub slope_upto : {W : ℤ} {F : ℤ → ℤ} {n : ℤ} {k : ℕ} (A : ℕ) → Slope W F → W ≤ℤ pos A → n upto k → A * k < 2 ^ 63 → F n upto (A * k)
slope_upto {W} {F} {n} {k} A s w h l =
    let low = slope_from_zero s n h.low in
    let high = ≤ℤ-trans (slope_below s n h.low) (≤ℤ-trans (*ℤ-monoʳ n W (pos A) h.low w) (*ℤ-mono (pos A) n (pos k) (omega ints) h.high)) in
    record { low = low; high = high; fits = omega ints }

-- ---- at rates of either sign: at most A for each unit, in size
module _ {A : ℕ} {base raised limit : ℤ} (hb : base within A) (hr : raised within A) (hl : pos 0 ≤ℤ limit) where
  pub charge_within : {n : ℤ} {k : ℕ} → n upto k → A * k < 2 ^ 63 → charge base raised limit n within (A * k)
  unfolding charge
  charge_within {n} {k} h l =
      let inner = min_ℤ n limit in
      let outer = max_ℤ (pos 0) (n -ℤ limit) in
      let both : nat_abs inner + nat_abs outer ≤ k
      = omega (ints, h, abs_is inner, one_is_zero inner, abs_is outer, one_is_zero outer, is (var n ⊓ var limit), is (lit 0 ⊔ (var n ⊖ var limit))) in
      let first : nat_abs (base *ℤ inner) ≤ A * nat_abs inner = rw (abs_mul base inner) (mul-le-mul hb.size (omega arith)) in
      let second : nat_abs (raised *ℤ outer) ≤ A * nat_abs outer = rw (abs_mul raised outer) (mul-le-mul hr.size (omega arith)) in
      let most : A * (nat_abs inner + nat_abs outer) ≤ A * k = mul-le-mul (omega arith) both in
      let sum = abs_add (base *ℤ inner) (raised *ℤ outer) in
      within_fits _ (A * k) (omega (arith, mul-add A (nat_abs inner) (nat_abs outer))) l

-- the part above the limit is what the part up to it leaves
pub above_left : (n limit : ℤ) → n -ℤ min_ℤ n limit ≡ max_ℤ (pos 0) (n -ℤ limit)
above_left n limit = eq! (var n ⊖ var n ⊓ var limit) (lit 0 ⊔ (var n ⊖ var limit)) (omega arith)

-- rates turned round turn the charge round
pub charge_turned : (base raised limit n : ℤ) → charge (neg_ℤ base) (neg_ℤ raised) limit n ≡ neg_ℤ (charge base raised limit n)
unfolding charge
charge_turned base raised limit n =
    let inner = var (min_ℤ n limit) in
    let outer = var (max_ℤ (pos 0) (n -ℤ limit)) in
    eq! (neg (var base) ⊛ inner ⊕ neg (var raised) ⊛ outer) (neg (var base ⊛ inner ⊕ var raised ⊛ outer)) (omega arith)

-- ---- F of the long units less G of the short: never falls, and grows by at most W for each unit
module _ (W : ℤ) (F G : ℤ → ℤ) (f : Slope W F) (g : Slope W G) (x y : ℤ) (h : x ≤ℤ y) where
  longer : long x ≤ℤ long y
  longer = le! (lit 0 ⊔ var x) (lit 0 ⊔ var y) (omega ints)

  shorter : short y ≤ℤ short x
  shorter = le! (lit 0 ⊔ neg (var y)) (lit 0 ⊔ neg (var x)) (omega ints)

  pub signed_mono : (F (long x) -ℤ G (short x)) ≤ℤ (F (long y) -ℤ G (short y))
  signed_mono =
      le! (var (F (long x)) ⊖ var (G (short x))) (var (F (long y)) ⊖ var (G (short y)))
      (omega (arith, le? (var (F (long x))) (var (F (long y))) (f.mono _ _ longer), le? (var (G (short y))) (var (G (short x))) (g.mono _ _ shorter)))

  pub signed_step : (F (long y) -ℤ G (short y)) ≤ℤ (F (long x) -ℤ G (short x) +ℤ W *ℤ (y -ℤ x))
  signed_step =
      let X = long y -ℤ long x in
      let Y = short x -ℤ short y in
      let whole = eq! (lit 0 ⊔ var y ⊖ lit 0 ⊔ var x ⊕ (lit 0 ⊔ neg (var x) ⊖ lit 0 ⊔ neg (var y))) (var y ⊖ var x) (omega arith) in
      let a = var (F (long x)) in
      let a' = var (F (long y)) in
      let b = var (G (short x)) in
      let b' = var (G (short y)) in
      le! (a' ⊖ b') (a ⊖ b ⊕ var (W *ℤ (y -ℤ x)))
      (omega (
        arith,
        le? a' (a ⊕ var (W *ℤ X)) (f.step _ _ longer),
        le? b (b' ⊕ var (W *ℤ Y)) (g.step _ _ shorter),
        eq? (var (W *ℤ X) ⊕ var (W *ℤ Y)) (var (W *ℤ (y -ℤ x))) (in_parts W X Y (y -ℤ x) whole),
      ))
