-- Document 01, "Roll": collateral gains date 0's net, rubles too; dates 1 to 7 become 0 to 6; date 7 empties. All or nothing.
-- Assumes nothing.
use Rattle.std.specs.Prelude.{Bool, not, List, [], ◌∷◌, ◌++◌, ℤ, pos, ◌+ℤ◌, ◌-ℤ◌, drop}
use Rattle.whole.specs.Parts.{part, number}
use Rattle.whole.specs.Marks.{pieces}
use Rattle.rates.specs.Units.{assets}
use Rattle.book.specs.Block.{ruble_numbers, holding_of, collateral, claim, obligation}
use Rattle.book.specs.Rules.{in_bounds}

-- eight numbers by date, a day later
unfoldable pub day_later : List ℤ → List ℤ
day_later byDate = drop 1 byDate ++ (pos 0 ∷ [])

-- ruble collateral and the eight nets
unfoldable pub rolled_rubles : List ℤ → List ℤ
rolled_rubles rubles = (number rubles 0 +ℤ number rubles 1) ∷ day_later (part 1 8 rubles)

-- collateral, eight claims, eight obligations
unfoldable pub rolled_holding : List ℤ → List ℤ
rolled_holding holding =
    (collateral holding +ℤ claim holding 0 -ℤ obligation holding 0) ∷ (day_later (part 1 8 holding) ++ day_later (part 9 8 holding))

-- a block stretch by stretch: its kind, the rubles, numbers 10 to 15, and each asset's holding
unfoldable pub rolled : List ℤ → List ℤ
rolled block =
    part 0 1 block
    ++ (rolled_rubles (ruble_numbers block) ++ (part 10 6 block ++ pieces (λ a. rolled_holding (holding_of block a)) 0 assets))

-- code 9 of a roll: a number would leave its bounds
abbrev pub roll_out : List ℤ → Bool
roll_out block = not (in_bounds (rolled block))
