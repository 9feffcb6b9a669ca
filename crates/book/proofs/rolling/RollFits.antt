-- Laws of a rolled block's bounds: of a block in bounds only the seventeen sums can leave them. Assumes nothing.
use mathlib.Core.Path.{◌≡◌, sym, ap, ap₂, ◌∙◌}
use mathlib.Core.Bool.{Bool, true, ◌&&◌}
use mathlib.Core.List.{List, [], ◌∷◌}
use Prim.Native.Nat.{ℕ, ◌<◌}
use lib.IntN.{ℤ, pos}
use lib.ListN.{length, drop, take}
use lib.Seq.{drop-drop}
use Rattle.whole.specs.Marks.{all_true, every}
use Rattle.whole.specs.Parts.{part, number}
use Rattle.whole.proofs.Tests.{both}
use Rattle.whole.proofs.Every.{every_same}
use Rattle.book.specs.Block.{ruble_numbers, holding_of}
use Rattle.book.specs.Rules.{rubles_right, collateral_right, quantity_right, holding_right, in_bounds, holding_right_at}
use Rattle.book.specs.Roll.{day_later, rolled_rubles, rolled_holding, rolled}
use Rattle.whole.proofs.Lists.{all, all_append, all_take, all_drop, and-true}
use Rattle.book.proofs.Blocks.{holding_length_lem}
use Rattle.book.proofs.InBounds.{zero_rubles, zero_quantity, rubles_right_lem, quantities_right, holding_right_at_lem}
use Rattle.book.proofs.Rolled.{rolled_rubles_lem, rolled_holding_lem}

-- ---- numbers that step on keep a rule that 0 keeps
later_right : (f : ℤ → Bool) (xs : List ℤ) → f (pos 0) ≡ true → all f xs ≡ true → all f (day_later xs) ≡ true
unfolding day_later all_true
later_right f xs z e =
    all_append f (drop 1 xs) (pos 0 ∷ []) ∙ both (all f (drop 1 xs)) (f (pos 0) && true) (all_drop f 1 xs e) (and-true (f (pos 0)) ∙ z)

-- ---- what the two kinds of stretches come to: the test of the sum
rubles_come_to : (rubles : List ℤ) → all rubles_right rubles ≡ true → all rubles_right (rolled_rubles rubles) ≡ rubles_right (number (rolled_rubles rubles) 0)
unfolding rolled_rubles all_true part
rubles_come_to rubles e =
    ap (λ (b : Bool). rubles_right (number (rolled_rubles rubles) 0) && b)
    (later_right rubles_right (take 8 (drop 1 rubles)) zero_rubles (all_take rubles_right 8 (drop 1 rubles) (all_drop rubles_right 1 rubles e)))
    ∙ and-true (rubles_right (number (rolled_rubles rubles) 0))

holding_comes_to : (holding : List ℤ) → all quantity_right (drop 1 holding) ≡ true → holding_right (rolled_holding holding) ≡ collateral_right (number (rolled_holding holding) 0)
unfolding holding_right rolled_holding part
holding_comes_to holding e =
    ap (λ (b : Bool). collateral_right (number (rolled_holding holding) 0) && b)
    (all_append quantity_right (day_later (take 8 (drop 1 holding))) (day_later (take 8 (drop 9 holding)))
    ∙ both (all quantity_right (day_later (take 8 (drop 1 holding)))) (all quantity_right (day_later (take 8 (drop 9 holding))))
    (later_right quantity_right (take 8 (drop 1 holding)) zero_quantity (all_take quantity_right 8 (drop 1 holding) e))
    (later_right quantity_right (take 8 (drop 9 holding)) zero_quantity (all_take quantity_right 8 (drop 9 holding)
    (ap (all quantity_right) (sym (drop-drop 8 1 holding)) ∙ all_drop quantity_right 8 (drop 1 holding) e))))
    ∙ and-true (collateral_right (number (rolled_holding holding) 0))

-- ---- the seventeen sums of a block
abbrev pub rubles_fit : List ℤ → Bool
rubles_fit block = rubles_right (number (rolled_rubles (ruble_numbers block)) 0)

abbrev pub holding_fits : List ℤ → ℕ → Bool
holding_fits block a = collateral_right (number (rolled_holding (holding_of block a)) 0)

module _ (block : List ℤ) (long : length block ≡ 288) (right : in_bounds block ≡ true) where
  rubles_then : all rubles_right (ruble_numbers (rolled block)) ≡ rubles_fit block
  rubles_then = ap (all rubles_right) (rolled_rubles_lem block long) ∙ rubles_come_to (ruble_numbers block) (rubles_right_lem block long right)

  holding_then : (a : ℕ) → a < 16 → holding_right (holding_of (rolled block) a) ≡ holding_fits block a
  holding_then a l =
      ap holding_right (rolled_holding_lem block long a l)
      ∙ holding_comes_to (holding_of block a) (quantities_right (holding_of block a) (holding_length_lem block long a l) (holding_right_at_lem block long right a l))

  -- each of its numbers that could leave its bounds is one of them
  pub rolled_in_bounds : in_bounds (rolled block) ≡ rubles_fit block && every 16 (holding_fits block)
  unfolding in_bounds
  rolled_in_bounds = ap₂ ◌&&◌ rubles_then (every_same (holding_right_at (rolled block)) (holding_fits block) 16 holding_then)
