-- Document 01, "Market risk" and "Interest risk" of an asset, from the row in force and the asset's record alone.
-- Assumes nothing.
use Rattle.std.specs.Prelude.{cond, List, ℕ, ℤ, pos, neg_ℤ, ◌+ℤ◌, ◌-ℤ◌, ◌*ℤ◌}
use Rattle.std.specs.Int.Signed.{lt_z}
use Rattle.whole.specs.Numbers.{min_ℤ, max_ℤ, abs_ℤ, divided_up}
use Rattle.whole.specs.Sums.{Σ<}
use Rattle.whole.specs.Parts.{number}
use Rattle.rates.specs.Units.{dates}
use Rattle.rates.specs.Row.{price, fall, rise, base_rate, raised_rate, market_limit, interest_limit, mid, low, up, outer_low, outer_up}
use Rattle.assets.specs.Collateral.{is_special}
use Rattle.assets.specs.declared.record.Asset.{Asset}

-- the units of a position on its long and on its short side; one of the two is 0
abbrev pub long : ℤ → ℤ
long x = max_ℤ (pos 0) x

abbrev pub short : ℤ → ℤ
short x = max_ℤ (pos 0) (neg_ℤ x)

-- which side's rates it is charged at, as code chooses them
unfoldable pub side_of : ℤ → ℕ
side_of x = cond (lt_z x (pos 0)) rise fall

-- the base rate for n units up to the limit, the raised rate for those above it
unfoldable pub charge : ℤ → ℤ → ℤ → ℤ → ℤ
charge base raised limit n = base *ℤ min_ℤ n limit +ℤ raised *ℤ max_ℤ (pos 0) (n -ℤ limit)

-- 5.3 to 5.5: n units at the rates of a side, and that times the price
unfoldable pub units_charge : List ℤ → ℕ → ℤ → ℤ
units_charge row side n = charge (base_rate row side) (raised_rate row side) (market_limit row) n

unfoldable pub market_charge : List ℤ → ℕ → ℤ → ℤ
market_charge row side n = units_charge row side n *ℤ price row

-- over 10,000, rounded up (house)
unfoldable pub side_risk : List ℤ → ℕ → ℤ → ℤ
side_risk row side n = divided_up (market_charge row side n) 10000

-- the sum of an asset's positions, and of its long and its short dates
unfoldable pub position_sum : List ℤ → ℤ
position_sum positions = Σ< dates (number positions)

unfoldable pub long_sum : List ℤ → ℤ
long_sum positions = Σ< dates (λ d. long (number positions d))

unfoldable pub short_sum : List ℤ → ℤ
short_sum positions = Σ< dates (λ d. short (number positions d))

-- fall rates for a positive sum, rise rates for a negative one; special delivery takes the greater of its long and its short dates (5.6)
unfoldable pub market_risk : List ℤ → Asset → ℤ
market_risk row x =
    cond (is_special x.regime)
    (max_ℤ (side_risk row fall (long_sum x.positions)) (side_risk row rise (short_sum x.positions)))
    (side_risk row fall (long (position_sum x.positions)) +ℤ side_risk row rise (short (position_sum x.positions)))

-- 6.3, 6.4: n units of date d as the rate falls and as it rises; the part above the interest limit takes the outer width
unfoldable pub fall_charge : List ℤ → ℕ → ℤ → ℤ
fall_charge row d n = charge (mid row d -ℤ low row d) (mid row d -ℤ outer_low row d) (interest_limit row) n

unfoldable pub rise_charge : List ℤ → ℕ → ℤ → ℤ
rise_charge row d n = charge (up row d -ℤ mid row d) (outer_up row d -ℤ mid row d) (interest_limit row) n

-- a positive date gives a positive amount, a negative date a negative one
unfoldable pub interest_of : List ℤ → List ℤ → ℕ → ℤ
interest_of row positions d = fall_charge row d (long (number positions d)) -ℤ rise_charge row d (short (number positions d))

-- the absolute value of the sum over dates
unfoldable pub interest_risk : List ℤ → List ℤ → ℤ
interest_risk row positions = abs_ℤ (Σ< dates (interest_of row positions))
