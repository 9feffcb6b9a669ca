-- The library's `round` gives the nearest value: no value of the format lies nearer to the fraction. In units of the format's smallest value a fraction is
-- rounded to a multiple of 2^k, and any other value is such a multiple too or is below all of them. Assumes nothing.
use mathlib.Core.Path.{◌≡◌, refl, sym, ap, ap₂, ◌∙◌, subst}
use mathlib.Core.Bool.{Bool, true, false, not, ◌&&◌, true≢false}
use mathlib.Core.Logic.{◌⊎◌, ⊎_elim, inl, inr}
use Prim.Native.Nat.{ℕ, zero, suc, ◌+◌, ◌-◌, ◌*◌, ◌/◌, ◌%◌, ◌^◌, ◌≤◌, ◌<◌, compare, Ordering}
use native.Mathlib.Nat.{zero-mul, mul-one, not-le_of_lt, le_trans, le_of_eq, le_of_lt, mul_comm, mul_assoc, mul_left_comm, mul_right_comm, mul-add, add-mul, mul-sub, mul-pos, mul-le-mul_right, le_of_mul-le-mul_right, le-div_iff_mul-le, mod-lt, div-add-mod'}
use native.Mathlib.Omega.{arith}
use lib.Dec.{T, is_le, compare_is_eq, eqb, ltb, leb, leb→le, nleb→lt, eqb→eq, ltb→lt}
use lib.IntN.{ℤ, pos, negsuc}
use lib.Pow.{pow-lt, pow-add, pow_pos, pow_mono}
use lib.Ieee.{Float, nan, inf, fin, Format, prec, emax, low, up, down, size, nearest, round, fits}
use lib.Ieee.Digits.{size_reaches}
use lib.Ieee.Exact.{HasValue}
use lib.Ieee.Fits.{two, two-le_pos, and_l, and_r}
use lib.Ieee.Nearest.{closest}
use lib.Ieee.Order.{drop, kept}
use lib.Ieee.Positive.{num, den}
use lib.Ieee.Scale.{grid, finite, round_val, round_under}
use borrow.Author.Tests.{leb-true, leb-false}
use Rattle.app_feed.specs.Promised.{gap, apart}

-- ---- distances
gap_scaled : (c a b : ℕ) → gap (c * a) (c * b) ≡ c * gap a b
gap_scaled c a b = sym (mul-add c (a - b) (b - a) ∙ ap₂ ◌+◌ (mul-sub c a b) (mul-sub c b a))

side : (a b : ℕ) → (a ≤ b) ⊎ (b < a)
side a b = go (leb a b) refl
  where
    go : (t : Bool) → leb a b ≡ t → (a ≤ b) ⊎ (b < a)
    go true e = inl (leb-true a b e)
    go false e = inr (leb-false a b e)

-- ---- w u + r, with r below u: of all multiples of u the nearer of its two neighbours is nearest
module _ (w r u q : ℕ) (inside : r < u) where
  other : (q * u ≤ w * u) ⊎ (w * u + u ≤ q * u)
  other =
      ⊎_elim (λ h. inl (mul-le-mul_right u h)) (λ h. inr (let l = mul-le-mul_right u h in let e = add-mul 1 w u in omega arith)) (side q w)

  below : r * 2 ≤ u → gap (w * u) (w * u + r) ≤ gap (q * u) (w * u + r)
  below h = ⊎_elim (λ l. omega arith) (λ l. omega arith) other

  above : u ≤ r * 2 → gap (suc w * u) (w * u + r) ≤ gap (q * u) (w * u + r)
  above h = let e = add-mul 1 w u in ⊎_elim (λ l. omega arith) (λ l. omega arith) other

-- as the library picks it: by how twice the remainder compares with u, and at a tie the even one
picked : (w r u q : ℕ) → r < u → (o : Ordering) → compare (r * 2) u ≡ o → gap (nearest w o * u) (w * u + r) ≤ gap (q * u) (w * u + r)
picked w r u q inside Ordering.lt e = below w r u q inside (leb→le (r * 2) u (subst (λ (o : Ordering). T (is_le o)) (sym e) tt))
picked w r u q inside Ordering.gt e = above w r u q inside (le_of_lt (nleb→lt (r * 2) u (subst (λ (o : Ordering). T (not (is_le o))) (sym e) tt)))
picked w r u q inside Ordering.eq e = tie (w % 2) (mod-lt w (omega arith))
  where
    half : r * 2 ≡ u
    half = eqb→eq (r * 2) u (subst (λ (o : Ordering). T (compare_is_eq o)) (sym e) tt)

    tie : (t : ℕ) → t < 2 → gap ((w + t) * u) (w * u + r) ≤ gap (q * u) (w * u + r)
    tie zero h = rw (let z : w + 0 ≡ w = omega arith in z) (below w r u q inside (le_of_eq half))
    tie (suc zero) h = rw (let z : w + 1 ≡ suc w = omega arith in z) (above w r u q inside (le_of_eq (sym half)))
    tie (suc (suc t)) h = absurd (omega arith)

closest_near : (n u q : ℕ) → 0 < u → gap (closest n u * u) n ≤ gap (q * u) n
closest_near n u q h =
    subst (λ (z : ℕ). gap (closest n u * u) z ≤ gap (q * u) z) (div-add-mod' n u) (picked (n / u) (n % u) u q (mod-lt n h) (compare (n % u * 2) u) refl)

-- ---- any m 2^j with at most p digits is no nearer to n / v than what is kept of it with p digits
module _ (p n v m j : ℕ) (digits : 0 < p) (positive : 0 < v) (short : m < 2 ^ p) where
  abbrev k : ℕ
  k = drop p n v

  abbrev u : ℕ
  u = v * 2 ^ k

  any : (q : ℕ) → gap (kept p n v * 2 ^ k * v) n ≤ gap (q * u) n
  any q = subst (λ (z : ℕ). gap z n ≤ gap (q * u) n) (turned (kept p n v)) (closest_near n u q (mul-pos positive (pow_pos k)))
    where
      turned : (c : ℕ) → c * u ≡ c * 2 ^ k * v
      turned c = simp (mul_assoc, mul_comm, mul_left_comm)

  -- a multiple of 2^k
  coarse : k ≤ j → gap (kept p n v * 2 ^ k * v) n ≤ gap (m * 2 ^ j * v) n
  coarse h = subst (λ (z : ℕ). gap (kept p n v * 2 ^ k * v) n ≤ gap z n) e (any (m * 2 ^ (j - k)))
    where
      whole : j - k + k ≡ j
      whole = omega arith

      e : m * 2 ^ (j - k) * u ≡ m * 2 ^ j * v
      e = rw (sym (ap (λ (i : ℕ). 2 ^ i) whole), pow-add 2 (j - k) k) (simp (mul_assoc, mul_comm, mul_left_comm))

  -- one that is not lies below 2^(p − 1) 2^k, which is such a multiple and at most n / v
  fine : j < k → gap (kept p n v * 2 ^ k * v) n ≤ gap (m * 2 ^ j * v) n
  fine h = le_trans (any (2 ^ (p - 1))) (farther (m * 2 ^ j * v) (2 ^ (p - 1) * u) n low_enough high_enough)
    where
      farther : (a b n : ℕ) → a ≤ b → b ≤ n → gap b n ≤ gap a n
      farther a b n x y = omega arith

      in_use : p - 1 + k < size (n / v)
      in_use = omega arith

      lined : (c : ℕ) → 2 ^ c ≤ n / v → 2 ^ c * v ≤ n
      lined c x = (le-div_iff_mul-le positive).0 x

      same : 2 ^ (p - 1 + k) * v ≡ 2 ^ (p - 1) * u
      same = rw (pow-add 2 (p - 1) k) (simp (mul_assoc, mul_comm, mul_left_comm))

      high_enough : 2 ^ (p - 1) * u ≤ n
      high_enough = subst (λ (z : ℕ). z ≤ n) same (lined (p - 1 + k) (size_reaches (n / v) (p - 1 + k) in_use))

      low_enough : m * 2 ^ j * v ≤ 2 ^ (p - 1) * u
      low_enough =
          subst (λ (z : ℕ). m * 2 ^ j * v ≤ z) same
          (mul-le-mul_right v (le_trans (mul-le-mul_right (2 ^ j) (le_of_lt short)) (le_trans (le_of_eq (sym (pow-add 2 p j))) (pow_mono (omega arith)))))

  none_on_grid : gap (kept p n v * 2 ^ k * v) n ≤ gap (m * 2 ^ j * v) n
  none_on_grid = ⊎_elim coarse fine (side k j)

-- ---- a finite value of the format, in units of its smallest: m 2^j with at most prec digits
record OnGrid (f : Format) (y : Float) : Type 0 where
  m : ℕ
  j : ℕ
  short : m < 2 ^ prec f
  same : num y * 2 ^ low f ≡ m * 2 ^ j * den y

-- the exponents that a format has
in_reach : (k l : ℕ) → 2 ^ k ≤ 2 ^ l → k ≤ l
in_reach k l h = ⊎_elim (λ x. x) (λ x. absurd (not-le_of_lt (pow-lt x) h)) (side k l)

-- what a value that is not zero keeps: its digits, and its exponent
record Kept (f : Format) (m : ℕ) (e : ℤ) : Type 0 where
  digits : m < 2 ^ prec f
  reach : down e ≤ 2 ^ low f

keeps : (f : Format) (s : Bool) (m : ℕ) (e : ℤ) → T (fits f (fin s (suc m) e)) → Kept f (suc m) e
unfolding fits
keeps f s m e h =
    let odd = eqb (suc m % 2) 1 in
    let short = ltb (suc m) (2 ^ prec f) in
    let near = leb (down e) (2 ^ low f) in
    let small = ltb (suc m * up e) (2 ^ suc (emax f) * down e) in
    let first = and_l (odd && short && near) small h in
    record {
      digits = ltb→lt (suc m) (2 ^ prec f) (and_r odd short (and_l (odd && short) near first));
      reach = leb→le (down e) (2 ^ low f) (and_r (odd && short) near first);
    }

on_grid : (f : Format) (s : Bool) (m : ℕ) (e : ℤ) → T (fits f (fin s m e)) → OnGrid f (fin s m e)
on_grid f s zero e h = record { m = 0; j = 0; short = pow_pos (prec f); same = simp zero-mul }
on_grid f s (suc m) (pos k) h = record {
  m = suc m;
  j = k + low f;
  short = (keeps f s m (pos k) h).digits;
  same = rw (pow-add 2 k (low f)) (simp (mul_assoc, mul-one));
}
on_grid f s (suc m) (negsuc k) h = record {
  m = suc m;
  j = low f - suc k;
  short = (keeps f s m (negsuc k) h).digits;
  same = again (low f) (in_reach (suc k) (low f) (keeps f s m (negsuc k) h).reach);
}
  where
    again : (l : ℕ) → suc k ≤ l → suc m * 1 * 2 ^ l ≡ suc m * 2 ^ (l - suc k) * 2 ^ suc k
    again l h =
        let e : l - suc k + suc k ≡ l = omega arith in
        ap₂ ◌*◌ (mul-one (suc m)) (ap (λ (i : ℕ). 2 ^ i) (sym e) ∙ pow-add 2 (l - suc k) (suc k)) ∙ sym (mul_assoc (suc m) (2 ^ (l - suc k)) (2 ^ suc k))

-- ---- a value's distance from n / v, in units
unit_gap : (a d l g n v : ℕ) → a * l ≡ g * d → gap (a * v) (n * d) * l ≡ gap (g * v) (n * l) * d
unit_gap a d l g n v e =
    mul_comm (gap (a * v) (n * d)) l
    ∙ sym (gap_scaled l (a * v) (n * d))
    ∙ ap₂ gap left right
    ∙ gap_scaled d (g * v) (n * l)
    ∙ mul_comm d (gap (g * v) (n * l))
  where
    left : l * (a * v) ≡ d * (g * v)
    left = sym (mul_assoc l a v) ∙ ap (λ (z : ℕ). z * v) (mul_comm l a ∙ e ∙ mul_comm g d) ∙ mul_assoc d g v

    right : l * (n * d) ≡ d * (n * l)
    right = simp (mul_assoc, mul_comm, mul_left_comm)

-- of one below zero
unit_sum : (a d l g n v : ℕ) → a * l ≡ g * d → (a * v + n * d) * l ≡ (g * v + n * l) * d
unit_sum a d l g n v e =
    add-mul (a * v) (n * d) l
    ∙ ap₂ ◌+◌ (mul_right_comm a v l ∙ ap (λ (z : ℕ). z * v) e ∙ mul_right_comm g d v) (mul_right_comm n d l)
    ∙ sym (add-mul (g * v) (n * l) d)

module _ (f : Format) (n v : ℕ) (positive : 0 < v) where
  abbrev units : ℕ
  units = n * 2 ^ low f

  abbrev g : ℕ
  g = grid f n v

  least : (m j : ℕ) → m < 2 ^ prec f → gap (g * v) units ≤ gap (m * 2 ^ j * v) units
  least m j short = none_on_grid (prec f) units v m j (two-le_pos (prec f) (two f)) positive short

  -- the two distances over one denominator
  compared : (ax dx ay dy hx hy l : ℕ) → 0 < l → ax * l ≡ hx * dx → ay * l ≡ hy * dy → hx ≤ hy → ax * dy ≤ ay * dx
  compared ax dx ay dy hx hy l positive x y h =
      le_of_mul-le-mul_right
      (le_trans (le_of_eq (mul_right_comm ax dy l ∙ ap (λ (z : ℕ). z * dy) x))
      (le_trans (mul-le-mul_right dy (mul-le-mul_right dx h))
      (le_of_eq (mul_right_comm hy dx dy ∙ ap (λ (z : ℕ). z * dx) (sym y) ∙ mul_right_comm ay l dx))))
      positive

  none_nearer : (x y : Float) → HasValue x false g (2 ^ low f) → T (finite y) → T (fits f y) → apart x n v * den y ≤ apart y n v * den x
  none_nearer nan y h t fit = absurd h
  none_nearer (inf s) y h t fit = absurd h
  none_nearer (fin true a e) y h t fit = absurd (true≢false h.0)
  none_nearer (fin false a e) nan h t fit = absurd t
  none_nearer (fin false a e) (inf s) h t fit = absurd t
  none_nearer (fin false a e) (fin false b d) h t fit =
      let on = on_grid f false b d fit in
      compared _ (down e) _ (down d) _ _ (2 ^ low f) (pow_pos (low f)) (unit_gap (a * up e) (down e) (2 ^ low f) g n v h.1)
      (unit_gap (b * up d) (down d) (2 ^ low f) (on.m * 2 ^ on.j) n v on.same) (least on.m on.j on.short)
  none_nearer (fin false a e) (fin true b d) h t fit =
      let on = on_grid f true b d fit in
      compared _ (down e) _ (down d) _ _ (2 ^ low f) (pow_pos (low f)) (unit_gap (a * up e) (down e) (2 ^ low f) g n v h.1)
      (unit_sum (b * up d) (down d) (2 ^ low f) (on.m * 2 ^ on.j) n v on.same) (farther_still (on.m * 2 ^ on.j * v))
    where
      farther_still : (z : ℕ) → gap (g * v) units ≤ z + units
      farther_still z = le_trans (least 0 0 (pow_pos (prec f))) (le_trans (le_of_eq (ap (λ (c : ℕ). gap c units) (zero-mul v))) (omega arith))

  pub rounded_nearest : T (finite (round f false n v)) → (y : Float) → T (finite y) → T (fits f y)
      → apart (round f false n v) n v * den y ≤ apart y n v * den (round f false n v)
  rounded_nearest t y = none_nearer (round f false n v) y (round_val f n v (round_under f n v t))
