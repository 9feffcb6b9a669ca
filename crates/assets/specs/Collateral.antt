-- Document 01, "From collateral to limit": the four regimes, the share in force, and what of an asset's collateral counts, C' and C''. All of it
-- looks at the row in force, the account's kind and RAW collateral: the adjusted position is never fed back into N. Special delivery is decided once, by
-- the regime; the share in force, C' and market risk go by that.
-- Assumes nothing.
use Rattle.std.specs.Prelude.{Bool, true, false, cond, List, ℕ, eqb, ℤ, pos, ◌+ℤ◌, ◌-ℤ◌, ◌*ℤ◌}
use Rattle.std.specs.Int.Signed.{lt_z}
use Rattle.whole.specs.Numbers.{min_ℤ, max_ℤ, divided_down}
use Rattle.whole.specs.Bounds.{equal}
use Rattle.rates.specs.Units.{the_whole}
use Rattle.rates.specs.Row.{acceptance_share, pool_share, covered_sales, special_delivery}
use Rattle.assets.specs.declared.collateral.Regime.{Regime}
use Rattle.assets.specs.declared.collateral.Regime.TheVariants.{Special, NotRecorded, Partial, Accepted}

-- 2.4.1, 2.4.2: an ordinary account (1) takes the acceptance share; a pool (2) the pool share if below the whole, else the acceptance share;
-- a pool of the list (3) the pool share
unfoldable pub pool_share_in_force : List ℤ → ℤ
pool_share_in_force row = cond (lt_z (pool_share row) the_whole) (pool_share row) (acceptance_share row)

unfoldable pub share_by_kind : ℕ → List ℤ → ℤ
share_by_kind account_kind row =
    cond (eqb account_kind 1) (acceptance_share row)
    (cond (eqb account_kind 2) (pool_share_in_force row)
    (pool_share row))

-- how an asset counts as collateral: special delivery (4.10), else not recorded (4.7), else partial (4.8) or accepted with the share in force
unfoldable pub regime_of : ℕ → List ℤ → Regime
regime_of account_kind row =
    cond (equal (special_delivery row) (pos 1)) Special
    (cond (equal (covered_sales row) (pos 1)) NotRecorded
    (cond (equal (covered_sales row) (pos 2)) (Partial (share_by_kind account_kind row))
    (Accepted (share_by_kind account_kind row))))

-- the share in force under that regime; special delivery makes it 0 (house)
abbrev pub share_in_force : Regime → ℕ → List ℤ → ℤ
share_in_force Special account_kind row = pos 0
share_in_force NotRecorded account_kind row = share_by_kind account_kind row
share_in_force (Partial share) account_kind row = share
share_in_force (Accepted share) account_kind row = share

abbrev pub is_special : Regime → Bool
is_special Special = true
is_special NotRecorded = false
is_special (Partial share) = false
is_special (Accepted share) = false

-- 4.4 to 4.6: what covers the account's own sales, and what counts of the rest. `net` is N, from raw collateral; share 0 gives 4.6
unfoldable pub counted : ℤ → ℤ → ℤ → ℤ
counted share held net =
    held -ℤ max_ℤ (min_ℤ net held) (pos 0)
    +ℤ max_ℤ (pos 0) (min_ℤ net (min_ℤ held (divided_down (share *ℤ held) 10000)))

-- C' from C and N
abbrev pub adjusted : Regime → ℤ → ℤ → ℤ
adjusted Special held net = pos 0
adjusted NotRecorded held net = min_ℤ (pos 0) held
adjusted (Partial share) held net = counted share held net
adjusted (Accepted share) held net = counted share held net

-- C'' from C', for valuation only (4.8)
abbrev pub valued : Regime → ℤ → ℤ
valued Special c = c
valued NotRecorded c = c
valued (Partial share) c = min_ℤ (pos 0) c
valued (Accepted share) c = c
