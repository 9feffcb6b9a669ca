-- `Row::interest_of` meets its contract: the side of the position chooses the two widths, and the charge of its size at these is the date's amount.
-- Assumes nothing.
use mathlib.Core.Path.{◌≡◌, sym, ap, ◌∙◌, subst}
use mathlib.Core.List.{List}
use Prim.Native.Nat.{ℕ, ◌<◌}
use native.Mathlib.Omega.{arith}
use lib.IntN.{ℤ}
use mir.Facts.{to_z-of_z}
use Rattle.whole.specs.Numbers.{abs_ℤ}
use Rattle.whole.specs.Parts.{number}
use Rattle.whole.specs.Bounds.{◌within◌, ◌upto◌}
use Rattle.whole.proofs.InRange.{upto_wider, upto_back}
use Rattle.whole.proofs.Machine.{back}
use Rattle.rates.specs.Row.{interest_limit}
use Rattle.rates.specs.Ranges.{RowRanges}
use Rattle.assets.specs.Risk.{side_of, charge}
use Rattle.assets.specs.Ranges.{PositionRanges}
use Rattle.assets.proofs.risk.Sides.{size_upto, width_of, widths_within, interest_by_side, interest_within}
use Rattle.assets.proofs.lent.Row.interest_of.Goals as goal

-- what the function works out, from the row and the positions alone
module _ (row positions : List ℤ) (d : ℕ) (ranges : RowRanges row) (held : PositionRanges positions) (l : d < 8) where
  abbrev position : ℤ
  position = number positions d

  position_within : position within 8000000
  position_within = held.each d l

  abbrev width_at : ℕ → ℕ → ℤ
  width_at = width_of row ranges d l

  abbrev charge_on : ℕ → ℤ
  charge_on side = charge (width_at 1 side) (width_at 3 side) (interest_limit row) (abs_ℤ position)

  -- the position's size, read back from its bits
  sized : {size : ℤ} → size ≡ abs_ℤ (back position) → (size ≡ abs_ℤ position) × (size upto 8000000)
  sized {size} e =
      let same : size ≡ abs_ℤ position = e ∙ ap abs_ℤ (to_z-of_z position_within.fits) in
      (same, rw same (size_upto position_within (omega arith)))

-- the two widths
pub width-inner-requires : goal.width-inner-requires
width-inner-requires c =
    let p = c.args.self.in_range in let q = c.requires in
    let long = p.long in let below = c.side_of-side.ensures.1 in
    (omega arith, omega arith, (widths_within _ p c.args.d q.1 c.side_of-side.result below).0)

pub width-outer-requires : goal.width-outer-requires
width-outer-requires c =
    let p = c.args.self.in_range in let q = c.requires in
    let long = p.long in let below = c.side_of-side.ensures.1 in
    (omega arith, omega arith, (widths_within _ p c.args.d q.1 c.side_of-side.result below).1)

pub size-requires : goal.size-requires
size-requires c =
    let p = c.args.self.in_range in let q = c.requires in
    let h = position_within c.args.self.numbers.now c.args.positions c.args.d p q.0 q.1 in
    rw (to_z-of_z h.fits) (let l = h.size in omega arith)

-- a width, read back
width_back : {x : ℤ} → x within 10000000 → back x within 10000000
width_back h = subst (λ (z : ℤ). z within 10000000) (sym (to_z-of_z h.fits)) h

pub charge_of-requires : goal.charge_of-requires
charge_of-requires c =
    let p = c.args.self.in_range in let q = c.requires in
    let size = sized c.args.self.numbers.now c.args.positions c.args.d p q.0 q.1 c.size.ensures.0 in (
      width_back c.width-inner.ensures.value.1,
      width_back c.width-outer.ensures.value.1,
      upto_back p.interest_upto,
      upto_back (upto_wider 64000000 size.1 (omega arith)),
    )

pub returns : goal.returns
returns c =
    let a = c.args in
    let p = c.args.self.in_range in let q = c.requires in
    let held = position_within a.self.numbers.now a.positions a.d p q.0 q.1 in
    let charged = charge_on a.self.numbers.now a.positions a.d p q.0 q.1 in
    let side = c.side_of-side.ensures.0 ∙ ap side_of (to_z-of_z held.fits) in
    let r = c.charge_of.ensures.value in
    let inner = c.width-inner.ensures.value in
    let outer = c.width-outer.ensures.value in
    let limit = to_z-of_z p.interest_upto.fits in
    let units = to_z-of_z c.size.ensures.1 ∙ (sized a.self.numbers.now a.positions a.d p q.0 q.1 c.size.ensures.0).0 in
    let made : back c.charge_of.result ≡ charged c.side_of-side.result
    = to_z-of_z r.1.fits ∙ r.0
    ∙ (λ i. charge ((to_z-of_z inner.1.fits ∙ inner.0) i) ((to_z-of_z outer.1.fits ∙ outer.0) i) (limit i) (units i)) in
    let e = made ∙ ap charged side ∙ interest_by_side _ p a.d q.1 a.positions in
    (e, subst (λ (z : ℤ). z within 80000000000000) (sym e) (interest_within _ p a.d q.1 a.positions held))
