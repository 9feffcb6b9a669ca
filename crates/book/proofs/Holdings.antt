-- Laws of the two tests that are asked asset by asset, whether each holding keeps its bounds and whether something is held of an unlisted asset.
-- Assumes nothing.
use mathlib.Core.Path.{◌≡◌, refl, sym, ap, ◌∙◌}
use mathlib.Core.Logic.{◌⊎◌, inl, inr, ⊎_elim, ◌≢◌}
use mathlib.Core.Bool.{Bool, true, false, ◌&&◌, ◌||◌}
use mathlib.Core.List.{List}
use Prim.Native.Nat.{ℕ, zero, suc, ◌<◌}
use native.Mathlib.Omega.{arith}
use lib.IntN.{ℤ}
use Rattle.whole.specs.Marks.{all_zero, every}
use Rattle.whole.proofs.Numbers.{lt_or_ge}
use Rattle.whole.proofs.Tests.{second_out}
use Rattle.whole.proofs.Every.{every_at, every_by, every_same}
use Rattle.rates.specs.Tables.{listed}
use Rattle.book.specs.Block.{holding_of}
use Rattle.book.specs.Rules.{holding_right, holding_right_at, listed_if_held, holds_listed}

-- two tests of each, by one look at each
pub every_both : (f g : ℕ → Bool) (n : ℕ) → every n (λ a. f a && g a) ≡ every n f && every n g
unfolding every
every_both f g zero = refl
every_both f g (suc n) = ap (λ (t : Bool). t && (f n && g n)) (every_both f g n) ∙ middle (every n f) (every n g) (f n) (g n)
  where
    middle : (a b c d : Bool) → (a && b) && (c && d) ≡ (a && c) && (b && d)
    middle false b c d = refl
    middle true true c d = refl
    middle true false c d = sym (second_out c false refl)

-- two blocks with the same holdings
pub holdings_same : (block other : List ℤ) (n : ℕ) → ((a : ℕ) → a < n → holding_of block a ≡ holding_of other a)
    → every n (holding_right_at block) ≡ every n (holding_right_at other)
holdings_same block other n h = every_same (holding_right_at block) (holding_right_at other) n (λ a l. ap holding_right (h a l))

pub listed_at : (block clearing : List ℤ) (a : ℕ) → a < 16 → holds_listed block clearing ≡ true → listed_if_held block clearing a ≡ true
unfolding holds_listed
listed_at block clearing = every_at (listed_if_held block clearing) 16

pub listed_by : (block clearing : List ℤ) → ((a : ℕ) → a < 16 → listed_if_held block clearing a ≡ true) → holds_listed block clearing ≡ true
unfolding holds_listed
listed_by block clearing = every_by (listed_if_held block clearing) 16

-- another block that differs in the holding of one listed asset alone
pub holds_listed_but : (block other clearing : List ℤ) (asset : ℕ) → ((a : ℕ) → a < 16 → a ≢ asset → holding_of other a ≡ holding_of block a)
    → holds_listed block clearing ≡ true → listed clearing asset ≡ true → holds_listed other clearing ≡ true
holds_listed_but block other clearing asset same e f = listed_by other clearing (λ a l. ⊎_elim
    (λ (q : a ≡ asset). rw (ap (listed clearing) q ∙ f) refl)
    (λ (q : a ≢ asset). ap (λ (h : List ℤ). listed clearing a || all_zero h) (same a l q) ∙ listed_at block clearing a l e)
    (is_or_not a asset))
  where
    is_or_not : (a b : ℕ) → (a ≡ b) ⊎ (a ≢ b)
    is_or_not a b = ⊎_elim (λ l. inr (λ e. omega arith)) (λ l. ⊎_elim (λ k. inr (λ e. omega arith)) (λ k. inl (omega arith)) (lt_or_ge b a)) (lt_or_ge a b)
