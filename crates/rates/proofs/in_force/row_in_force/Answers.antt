-- `rates::in_force::row_in_force` meets its contract: the lengths and the asset are looked at first, then whether the own row is absent.
-- Assumes nothing.
use mathlib.Core.Path.{◌≡◌, refl, sym, ap, ◌∙◌}
use native.Mathlib.Omega.{arith}
use borrow.Author.Tests.{ne_eqb, le-ltb}
use Rattle.whole.proofs.Tests.{tests, left, taken}
use Rattle.whole.proofs.Parts.{cut}
use Rattle.rates.specs.Tables.{row_of, absent}
use Rattle.rates.specs.InForce.{has_row, holder}
use Rattle.rates.proofs.Lookup.{no_row, own_row, clearing_row, stands_nowhere}
use Rattle.rates.proofs.in_force.row_in_force.Goals as goal
use Rattle.rates.proofs.in_force.row_in_force.Goals.{After-is_absent}

-- what was asked of the own row
asked : (c : After-is_absent)
    → c.is_absent.result ≡ absent (row_of c.args.own.now c.args.asset)
asked c = c.is_absent.ensures ∙ ap absent c.row_of.ensures

pub returns-then-clearing-ne-TABLE_LENGTH : goal.returns-then-clearing-ne-TABLE_LENGTH
unfolding has_row
returns-then-clearing-ne-TABLE_LENGTH c = let e = ne_eqb _ _ c.if-clearing-ne-TABLE_LENGTH.true in record { numbers = no_row _ _ _ (search tests); place = stands_nowhere _ _ _ _ (search tests) }

pub returns-then-own-ne-TABLE_LENGTH : goal.returns-then-own-ne-TABLE_LENGTH
unfolding has_row
returns-then-own-ne-TABLE_LENGTH c = let e = ne_eqb _ _ c.if-own-ne-TABLE_LENGTH.true in record { numbers = no_row _ _ _ (search tests); place = stands_nowhere _ _ _ _ (search tests) }

pub returns-then-asset-ge-ASSET_COUNT : goal.returns-then-asset-ge-ASSET_COUNT
unfolding has_row
returns-then-asset-ge-ASSET_COUNT c = let e = le-ltb _ _ c.if-asset-ge-ASSET_COUNT.true in record { numbers = no_row _ _ _ (search tests); place = stands_nowhere _ _ _ _ (search tests) }

pub returns-then-not-is_absent : goal.returns-then-not-is_absent
unfolding holder
returns-then-not-is_absent c =
    let f = c.before.before in
    let e = f.before.before in
    let present = taken (asked f) c.if-not-is_absent.true-raw in record { numbers = cut _ 64 _ ∙ sym (own_row _ _ _ e.if-clearing-ne-TABLE_LENGTH.false e.if-own-ne-TABLE_LENGTH.false e.if-asset-ge-ASSET_COUNT.false present); place = λ t. rw present (record { block = refl; offset = omega arith }) }

pub returns : goal.returns
unfolding holder
returns c =
    let f = c.before.before in
    let e = f.before.before in
    let away = left (asked f) c.if-not-is_absent.false-raw in record { numbers = cut _ 64 _ ∙ sym (clearing_row _ _ _ e.if-clearing-ne-TABLE_LENGTH.false e.if-own-ne-TABLE_LENGTH.false e.if-asset-ge-ASSET_COUNT.false away); place = λ t. rw away (record { block = refl; offset = omega arith }) }
