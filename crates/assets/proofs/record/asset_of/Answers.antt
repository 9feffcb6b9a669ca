-- `record::asset_of` meets its contract: each field of the record is what the callees ensure, C' for the positions, C'' less what is left out for
-- the worth.
-- Assumes nothing.
use mathlib.Core.Path.{sym, ap, ap₂, ◌∙◌, subst}
use lib.IntN.{ℤ, ◌-ℤ◌}
use mir.Facts.{to_z-of_z}
use Rattle.whole.specs.Sums.{Σ<}
use Rattle.whole.specs.Parts.{tabulated}
use Rattle.whole.proofs.Expressions.{Expression, var, ◌⊖◌, is}
use Rattle.whole.specs.Bounds.{◌within◌, ◌upto◌}
use Rattle.whole.proofs.Machine.{Runs, need!, runs}
use Rattle.whole.proofs.Rules.{ints}
use Rattle.assets.specs.Collateral.{valued}
use Rattle.assets.specs.Asset.{position, valued_collateral, worth_of, asset_under}
use Rattle.assets.specs.Ranges.{AssetRanges}
use Rattle.assets.proofs.Sizes.{asset_ranges}
use Rattle.assets.proofs.record.asset_of.Goals as goal

-- C'' less what is left out
abbrev less : ℤ → ℤ → Expression
less valued out = var valued ⊖ var out

ok : {valued out : ℤ} → valued within 1000000 → out upto 1000000 → Runs (less valued out)
ok h k = omega ints

pub overflow_sub-valued : goal.overflow_sub-valued
overflow_sub-valued c = need! (less c.value-valued.result c.left_out-out.result) (ok c.value-valued.ensures.1 c.left_out-out.ensures.1)

pub worth_of-worth-requires : goal.worth_of-worth-requires
worth_of-worth-requires c =
    let h = c.value-valued.ensures.1 in
    let k = c.left_out-out.ensures.1 in
    let e = less c.value-valued.result c.left_out-out.result in
    rw (runs e (ok h k)) (omega (ints, is e))

pub returns : goal.returns
unfolding asset_under valued_collateral
returns c =
    let row = c.args.row.now in
    let holding = c.args.holding.now in
    let regime = c.regime_of-regime.result in
    let adjusted = c.adjusted_collateral-c.ensures in
    let w = c.worth_of-worth.ensures in
    let counted = c.value-valued.ensures in
    let out = c.left_out-out.ensures in
    let c' = to_z-of_z adjusted.1.fits ∙ adjusted.0 in
    let stands = runs (less c.value-valued.result c.left_out-out.result) (ok counted.1 out.1) ∙ ap₂ ◌-ℤ◌ (counted.0 ∙ ap (valued regime) c') out.0 in
    let worth = to_z-of_z w.1.fits ∙ w.0 ∙ ap (λ (x : ℤ). Σ< 8 (worth_of row holding x)) stands in
    let positions = c.positions_of-positions.ensures ∙ ap (λ (x : ℤ). tabulated 8 (position holding x)) c' in
    let made =
    (λ i. record { regime = regime; worth = worth i; positions = positions i })
    ∙ ap (λ g. asset_under g c.args.kind row holding) c.regime_of-regime.ensures.0 in
    (made, subst (AssetRanges 1) (sym made) (asset_ranges c.args.kind _ c.requires.0 _ c.requires.1))

pub positions_of-nets-requires : goal.positions_of-nets-requires
positions_of-nets-requires c = omega ints
