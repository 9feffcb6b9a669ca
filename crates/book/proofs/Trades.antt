-- Laws of a trade: its money, the two numbers that it changes, and when the block is in bounds after it. Assumes nothing.
use mathlib.Core.Path.{◌≡◌, refl, sym, ap, ◌∙◌, subst}
use mathlib.Core.Logic.{◌≢◌}
use mathlib.Core.Bool.{Bool, true, false, cond, ◌&&◌}
use mathlib.Core.List.{List}
use Prim.Native.Nat.{ℕ, ◌+◌, ◌*◌, ◌<◌}
use native.Mathlib.Omega.{arith}
use lib.Dec.{eqb}
use lib.IntN.{ℤ, pos, neg_ℤ, ◌+ℤ◌}
use lib.ListN.{length, set}
use lib.Seq.{get_or-set_other}
use borrow.Author.Tests.{eq-eqb, ne_eqb}
use Rattle.whole.specs.Bounds.{◌within◌, ◌upto◌}
use Rattle.whole.specs.Parts.{number}
use Rattle.whole.proofs.Bounds.{upto_within, wider}
use Rattle.whole.proofs.PlusMinus.{neg_is}
use Rattle.whole.proofs.Rules.{ints}
use Rattle.whole.proofs.Tests.{second_out}
use Rattle.book.specs.Block.{trade_at, ruble_net_at}
use Rattle.book.specs.Rules.{rubles_right, quantity_right, in_bounds}
use Rattle.book.specs.Changes.{added, money_of, traded, reversed}
use Rattle.book.specs.Ranges.{TradeRanges, Tradable}
use Rattle.book.specs.declared.changes.Trade.{Trade}
use Rattle.book.proofs.Amounts.{large, negative_within}
use Rattle.book.proofs.Changed.{added_length, number_beside}
use Rattle.book.proofs.InBounds.{ruble_at, quantity_at_lem}
use Rattle.book.proofs.Replaced.{trade_bounds}

-- ---- a trade's money
module _ (t : Trade) where
  pub money_buy : t.side ≡ 0 → money_of t ≡ neg_ℤ t.money
  unfolding money_of
  money_buy e = simp (eq-eqb t.side 0 e)

  pub money_sell : (t.side ≡ 0 → ⊥) → money_of t ≡ t.money
  unfolding money_of
  money_sell h = simp (ne_eqb t.side 0 h)

pub money_within : {t : Trade} → TradeRanges t → money_of t within large
unfolding money_of
money_within {t} r = go (eqb t.side 0)
  where
    go : (b : Bool) → cond b (neg_ℤ t.money) t.money within large
    go true = negative_within r.money_within
    go false = r.money_within

pub money_reversed : (t : Trade) → money_of (reversed t) ≡ neg_ℤ (money_of t)
unfolding money_of reversed
money_reversed t = go (eqb t.side 0)
  where
    go : (b : Bool) → cond b (neg_ℤ (neg_ℤ t.money)) (neg_ℤ t.money) ≡ neg_ℤ (cond b (neg_ℤ t.money) t.money)
    go true = refl
    go false = refl

pub reversed_ranges : {t : Trade} → TradeRanges t → TradeRanges (reversed t)
unfolding reversed
reversed_ranges {t} r = record {
  asset_below = r.asset_below;
  date_below = r.date_below;
  side_below = r.side_below;
  quantity_within = omega (ints, neg_is t.quantity, r.quantity_within);
  money_within = negative_within r.money_within;
}

-- ---- a trade: the two numbers of a block that it changes, and what they become
abbrev pub quantity_at : Trade → ℕ
quantity_at t = trade_at t.asset t.date t.side

abbrev pub net_at : Trade → ℕ
net_at t = ruble_net_at t.date

abbrev pub quantity_after : List ℤ → Trade → ℤ
quantity_after block t = number block (quantity_at t) +ℤ t.quantity

abbrev pub net_after : List ℤ → Trade → ℤ
net_after block t = number block (net_at t) +ℤ money_of t

-- where they stand
module _ (t : Trade) (r : TradeRanges t) where
  pub in_holding : quantity_at t ≡ 16 + 17 * t.asset + (1 + (8 * t.side + t.date))
  in_holding = omega arith

  pub among_quantities : 8 * t.side + t.date < 16
  among_quantities = omega arith

  pub net_apart : net_at t ≢ quantity_at t
  net_apart e = omega arith

  module _ (block : List ℤ) (long : length block ≡ 288) where
    pub quantity_inside : quantity_at t < length block
    quantity_inside = omega arith

    pub net_inside : net_at t < length block
    net_inside = omega arith

module _ (block : List ℤ) (t : Trade) (p : Tradable block t) where
  pub quantity_before : number block (quantity_at t) within large
  quantity_before = wider large (upto_within (subst (λ (k : ℕ). number block k upto 1000000) (sym (in_holding t p.ranges))
      (quantity_at_lem block p.bounded.long p.bounded.in_bounds t.asset (8 * t.side + t.date) p.ranges.asset_below (among_quantities t p.ranges)))) (omega arith)

  pub net_before : number block (net_at t) within large
  net_before = let r = p.ranges in
      subst (λ (k : ℕ). number block k within large) (let e : 1 + (1 + t.date) ≡ 2 + t.date = omega arith in e)
      (ruble_at block p.bounded.long p.bounded.in_bounds (1 + t.date) (omega arith))

  trade_in_bounds : in_bounds (traded block t) ≡ rubles_right (net_after block t) && quantity_right (quantity_after block t)
  unfolding traded added
  trade_in_bounds =
      ap (λ (z : ℤ). in_bounds (set (set block (quantity_at t) (quantity_after block t)) (net_at t) (z +ℤ money_of t)))
      (get_or-set_other block (quantity_at t) (net_at t) (quantity_after block t) (pos 0) (net_apart t p.ranges))
      ∙ trade_bounds block p.bounded.long p.bounded.in_bounds (quantity_at t) t.asset (8 * t.side + t.date) t.date (quantity_after block t) (net_after block t)
      p.ranges.asset_below (among_quantities t p.ranges) p.ranges.date_below (in_holding t p.ranges)

  pub quantity_out : quantity_right (quantity_after block t) ≡ false → in_bounds (traded block t) ≡ false
  quantity_out e = trade_in_bounds ∙ second_out (rubles_right (net_after block t)) (quantity_right (quantity_after block t)) e

  -- where the quantity keeps its bounds, the net alone decides
  pub net_alone : quantity_right (quantity_after block t) ≡ true → in_bounds (traded block t) ≡ rubles_right (net_after block t)
  net_alone e = trade_in_bounds ∙ rw e (and-true (rubles_right (net_after block t)))
    where
      and-true : (b : Bool) → b && true ≡ b
      and-true true = refl
      and-true false = refl

  -- after its first number was changed
  module _ (x : ℤ) where
    pub net_inside_then : net_at t < length (added block (quantity_at t) x)
    net_inside_then = rw (added_length block (quantity_at t) x) (net_inside t p.ranges block p.bounded.long)

    pub net_then : number (added block (quantity_at t) x) (net_at t) within large
    net_then = rw (number_beside block (quantity_at t) x (net_at t) (net_apart t p.ranges)) net_before
