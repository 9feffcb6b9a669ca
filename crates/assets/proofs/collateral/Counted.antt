-- Laws of C' (specs/Collateral): what of the collateral counts, by what is free of it and by what is taken of it, and that C' is never larger
-- than C. Both rest on two facts of what is taken: as C grows it does not fall, and does not grow faster.
-- Assumes nothing.
use mathlib.Core.Path.{◌≡◌, refl, sym, ap, ◌∙◌}
use mathlib.Core.Logic.{⊎_elim}
use Prim.Native.Nat.{ℕ, ◌≤◌, ◌<◌, ◌^◌}
use native.Mathlib.Omega.{arith}
use lib.IntN.{ℤ, pos, nat_abs, ◌+ℤ◌, ◌-ℤ◌, ◌*ℤ◌}
use lib.Signed.{◌≤ℤ◌, ◌<ℤ◌}
use Rattle.whole.specs.Numbers.{min_ℤ, max_ℤ, divided_down}
use Rattle.whole.specs.Bounds.{◌within◌, ◌upto◌}
use Rattle.whole.proofs.PlusMinus.{abs_is, one_is_zero}
use Rattle.whole.proofs.Expressions.{Expression, var, lit, ◌⊕◌, ◌⊖◌, ◌⊛◌, ◌⊓◌, ◌⊔◌, value, is, le!, eq!, le?}
use Rattle.whole.proofs.Rules.{ints}
use Rattle.whole.proofs.Numbers.{<ℤ-or-≥ℤ, *ℤ-mono, *ℤ-step}
use Rattle.whole.proofs.Rounding.{down_below, down_greatest, down_mono}
use Rattle.whole.proofs.Bounds.{within_fits}
use Rattle.assets.specs.Collateral.{counted, adjusted}
use Rattle.assets.specs.Ranges.{ShareRange}
use Rattle.assets.specs.declared.collateral.Regime.{Regime}
use Rattle.assets.specs.declared.collateral.Regime.TheVariants.{Special, NotRecorded, Partial, Accepted}

-- ---- the share that is taken of a collateral
abbrev pub taken : ℤ → ℤ → ℤ
taken share held = divided_down (share *ℤ held) 10000

taken_of_none : (share : ℤ) → taken share (pos 0) ≡ pos 0
unfolding divided_down
taken_of_none share = rw (eq! (var share ⊛ lit 0) (lit 0) (omega arith)) refl

module _ (share : ℤ) (s : share upto 10000) where
  -- as the collateral grows it does not fall, and does not grow faster
  pub taken_rises : (held held' : ℤ) → held ≤ℤ held' → taken share held ≤ℤ taken share held'
  taken_rises held held' h = down_mono 10000 (omega arith) (share *ℤ held) (share *ℤ held') (*ℤ-mono share held held' s.low h)

  ten_thousandfold : (held held' : ℤ) → held ≤ℤ held' → (pos 10000 *ℤ (taken share held' -ℤ (held' -ℤ held))) ≤ℤ (share *ℤ held)
  ten_thousandfold held held' h =
      let below = down_below 10000 (omega arith) (share *ℤ held') in
      let step = *ℤ-step (pos 10000) share held held' s.low s.high h in
      le! (lit 10000 ⊛ (var (taken share held') ⊖ (var held' ⊖ var held))) (var share ⊛ var held)
      (omega (
        arith,
        le? (lit 10000 ⊛ var (taken share held')) (var share ⊛ var held') below,
        le? (var share ⊛ var held') (var share ⊛ var held ⊕ lit 10000 ⊛ (var held' ⊖ var held)) step,
      ))

  pub taken_slope : (held held' : ℤ) → held ≤ℤ held' → (taken share held' -ℤ taken share held) ≤ℤ (held' -ℤ held)
  taken_slope held held' h =
      let before = taken share held in let after = taken share held' in
      let most = down_greatest 10000 (omega arith) (share *ℤ held) (after -ℤ (held' -ℤ held)) (ten_thousandfold held held' h) in
      le! (var after ⊖ var before) (var held' ⊖ var held) (omega (arith, le? (var after ⊖ (var held' ⊖ var held)) (var before) most))

  -- so of a collateral from 0 up it is not negative
  pub taken_from_zero : (held : ℤ) → pos 0 ≤ℤ held → pos 0 ≤ℤ taken share held
  taken_from_zero held h = let a = taken_rises (pos 0) held h in omega (ints, taken_of_none share)

-- ---- C' by what is free of C, min(N, C), and by what is taken of C
abbrev pub kept : ℤ → ℤ → ℤ → Expression
kept held free part = var held ⊖ var free ⊔ lit 0 ⊕ lit 0 ⊔ (var free ⊓ var part)

min_assoc : (x y z : ℤ) → min_ℤ x (min_ℤ y z) ≡ min_ℤ (min_ℤ x y) z
min_assoc x y z = eq! (var x ⊓ (var y ⊓ var z)) ((var x ⊓ var y) ⊓ var z) (omega arith)

module _ (share held net free : ℤ) (is_free : free ≡ min_ℤ net held) where
  pub counted_kept : counted share held net ≡ value (kept held free (taken share held))
  unfolding counted
  counted_kept = rw (is_free, min_assoc net held (taken share held)) refl

  -- where nothing is free, all of it counts
  pub none_free : free ≤ℤ pos 0 → counted share held net ≡ held
  none_free h = rw counted_kept (eq! (kept held free (taken share held)) (var held) (omega ints))

  -- else what is not free counts, and of what is free as much as is taken
  pub some_free : share upto 10000 → pos 0 <ℤ free → counted share held net ≡ held -ℤ free +ℤ min_ℤ free (taken share held)
  some_free s h =
      let a = taken_from_zero share s held (omega ints) in
      rw counted_kept (eq! (kept held free (taken share held)) (var held ⊖ var free ⊕ var free ⊓ var (taken share held)) (omega ints))

-- as code makes it, of what is owned: of a debt nothing is free and nothing is taken
module _ (share : ℤ) (s : share upto 10000) (held net : ℤ) where
  abbrev by_owned : ℤ → ℤ
  by_owned owned = let free = max_ℤ (pos 0) (min_ℤ net owned) in held -ℤ free +ℤ min_ℤ free (taken share owned)

  counted_owned : counted share held net ≡ by_owned (max_ℤ (pos 0) held)
  counted_owned = ⊎_elim debt credit (<ℤ-or-≥ℤ held (pos 0))
    where
      debt : held <ℤ pos 0 → counted share held net ≡ by_owned (max_ℤ (pos 0) held)
      debt h =
          let free = max_ℤ (pos 0) (min_ℤ net (pos 0)) in
          none_free share held net (min_ℤ net held) refl (le! (var net ⊓ var held) (lit 0) (omega ints))
          ∙ sym (ap by_owned (eq! (lit 0 ⊔ var held) (lit 0) (omega ints)) ∙ ap (λ (x : ℤ). held -ℤ free +ℤ min_ℤ free x) (taken_of_none share)
          ∙ eq! (var held ⊖ lit 0 ⊔ (var net ⊓ lit 0) ⊕ (lit 0 ⊔ (var net ⊓ lit 0)) ⊓ lit 0) (var held) (omega arith))

      credit : pos 0 ≤ℤ held → counted share held net ≡ by_owned (max_ℤ (pos 0) held)
      credit h =
          let a = taken_from_zero share s held h in
          let part = var (taken share held) in
          let free = lit 0 ⊔ (var net ⊓ var held) in
          counted_kept share held net (min_ℤ net held) refl
          ∙ eq! (var held ⊖ (var net ⊓ var held) ⊔ lit 0 ⊕ lit 0 ⊔ ((var net ⊓ var held) ⊓ part)) (var held ⊖ free ⊕ free ⊓ part) (omega ints)
          ∙ sym (ap by_owned (eq! (lit 0 ⊔ var held) (var held) (omega ints)))

  -- and by the steps that it takes
  pub counted_made : {owned free part least : ℤ} → owned ≡ max_ℤ (pos 0) held → free ≡ max_ℤ (pos 0) (min_ℤ net owned) → part ≡ taken share owned
      → least ≡ min_ℤ free part → held -ℤ free +ℤ least ≡ counted share held net
  counted_made o f p l = rw (l, f, p, o) (sym counted_owned)

-- ---- how large it is
module _ (share : ℤ) (s : share upto 10000) (held net : ℤ) where
  free_at_most : min_ℤ net held ≤ℤ held
  free_at_most = le! (var net ⊓ var held) (var held) (omega arith)

  counted_from_zero : pos 0 ≤ℤ held → pos 0 ≤ℤ counted share held net
  counted_from_zero h =
      let f = free_at_most in let a = taken_from_zero share s held h in
      rw (counted_kept share held net (min_ℤ net held) refl) (le! (lit 0) (kept held (min_ℤ net held) (taken share held)) (omega ints))

  counted_at_most : pos 0 ≤ℤ held → counted share held net ≤ℤ held
  counted_at_most h =
      rw (counted_kept share held net (min_ℤ net held) refl) (le! (kept held (min_ℤ net held) (taken share held)) (var held) (omega ints))

  counted_size : nat_abs (counted share held net) ≤ nat_abs held
  counted_size =
      ⊎_elim
      (λ (h : held <ℤ pos 0). let f = free_at_most in rw (none_free share held net (min_ℤ net held) refl (omega ints)) (omega arith))
      (λ (h : pos 0 ≤ℤ held). let a = counted_from_zero h in let b = counted_at_most h in
      omega (ints, abs_is held, abs_is (counted share held net), one_is_zero (counted share held net)))
      (<ℤ-or-≥ℤ held (pos 0))

-- |C'| is at most |C|
pub adjusted_size : (regime : Regime) (held net : ℤ) → ShareRange regime → nat_abs (adjusted regime held net) ≤ nat_abs held
adjusted_size Special held net s = omega arith
adjusted_size NotRecorded held net s =
    omega (ints, is (lit 0 ⊓ var held), abs_is held, abs_is (min_ℤ (pos 0) held), one_is_zero (min_ℤ (pos 0) held), one_is_zero held)
adjusted_size (Partial share) held net s = counted_size share s held net
adjusted_size (Accepted share) held net s = counted_size share s held net

pub adjusted_within : {k : ℕ} (regime : Regime) (held net : ℤ) → k < 2 ^ 63 → held within k → ShareRange regime → adjusted regime held net within k
adjusted_within regime held net l h s =
    within_fits (adjusted regime held net) _ (let a = adjusted_size regime held net s in let b = h.size in omega arith) l
