-- Document 01, "Block": the block rules in two parts. The head is number 0 and numbers 10 to 15, of which #104 takes 13; the bounds are those of the
-- rubles and of the holdings, which trades and moves must keep (code 9). A block that isn't open is all zero.
-- Assumes nothing.
use Rattle.std.specs.Prelude.{Bool, cond, ◌&&◌, ◌||◌, List, [], ◌∷◌, map, ℕ, ℤ, pos, neg_ℤ, drop}
use Rattle.whole.specs.Bounds.{between, is_zero}
use Rattle.whole.specs.Parts.{number}
use Rattle.whole.specs.Marks.{all_true, all_zero, every}
use Rattle.rates.specs.Units.{assets}
use Rattle.rates.specs.Tables.{listed}
use Rattle.book.specs.Block.{most_rubles, most_units, account_kind, settlement_code, ruble_numbers, holding_of, collateral}

-- ±10^14 for rubles, ±10^6 for collateral, 0 to 10^6 for claims and obligations
abbrev pub rubles_right : ℤ → Bool
rubles_right x = between (neg_ℤ (pos most_rubles)) x (pos most_rubles)

abbrev pub collateral_right : ℤ → Bool
collateral_right x = between (neg_ℤ (pos most_units)) x (pos most_units)

abbrev pub quantity_right : ℤ → Bool
quantity_right x = between (pos 0) x (pos most_units)

-- the kind of an open account
abbrev pub kind_right : ℤ → Bool
kind_right kind = between (pos 1) kind (pos 3)

-- a settlement code, or 0 for none
abbrev pub settlement_code_right : ℤ → Bool
settlement_code_right code = between (pos 0) code (pos 15)

-- the head: an account kind, a settlement code, and nothing else at 10 to 15
unfoldable pub head_marks : List ℤ → List Bool
head_marks block =
    kind_right (account_kind block)
    ∷ is_zero (number block 10)
    ∷ is_zero (number block 11)
    ∷ is_zero (number block 12)
    ∷ settlement_code_right (settlement_code block)
    ∷ is_zero (number block 14)
    ∷ is_zero (number block 15)
    ∷ []

-- the bounds: the rubles, then asset by asset its collateral, claims and obligations
unfoldable pub holding_right : List ℤ → Bool
holding_right holding = collateral_right (collateral holding) && all_true (map quantity_right (drop 1 holding))

abbrev pub holding_right_at : List ℤ → ℕ → Bool
holding_right_at block a = holding_right (holding_of block a)

unfoldable pub in_bounds : List ℤ → Bool
in_bounds block = all_true (map rubles_right (ruble_numbers block)) && every assets (holding_right_at block)

-- a block that is all zero, or one that is open, in its bounds as far as its rubles, and with a holding in every asset that passes a test
unfoldable pub stands : List ℤ → (ℕ → Bool) → Bool
stands block test =
    cond (is_zero (account_kind block)) (all_zero block) (all_true (head_marks block) && (all_true (map rubles_right (ruble_numbers block)) && every assets test))

-- the block rules
unfoldable pub good_block : List ℤ → Bool
good_block block = cond (is_zero (account_kind block)) (all_zero block) (all_true (head_marks block) && in_bounds block)

-- where tables are lent: no holding in an unlisted asset
abbrev pub listed_if_held : List ℤ → List ℤ → ℕ → Bool
listed_if_held block clearing a = listed clearing a || all_zero (holding_of block a)

unfoldable pub holds_listed : List ℤ → List ℤ → Bool
holds_listed block clearing = every assets (listed_if_held block clearing)
