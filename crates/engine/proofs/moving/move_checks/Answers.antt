-- `moving::move_checks` meets its contract: its two tests are the two refusals. Assumes nothing.
use mathlib.Core.Path.{◌≡◌, ap, ◌∙◌}
use mir.Facts.{to_z-of_z}
use Rattle.whole.proofs.Parameters.{codes}
use Rattle.book.specs.Choices.{move_amount_right}
use Rattle.engine.specs.Refused.{move_choice_right}
use Rattle.engine.proofs.moving.move_checks.Goals as goal
use Rattle.engine.proofs.moving.move_checks.Goals.{After-can_be_moved, After-move_amount_right}

asset_heard : (c : After-can_be_moved) → let a = c.args in c.can_be_moved.result ≡ move_choice_right a.clearing.now a.asset
asset_heard c = c.can_be_moved.ensures ∙ ap (move_choice_right c.args.clearing.now) (to_z-of_z c.ranges.asset)

amount_heard : (c : After-move_amount_right) → let a = c.args in c.move_amount_right.result ≡ move_amount_right a.asset a.amount
amount_heard c = let f = c.ranges in simp (to_z-of_z f.asset, to_z-of_z f.amount) at c.move_amount_right.ensures

pub returns-then-not-can_be_moved : goal.returns-then-not-can_be_moved
returns-then-not-can_be_moved c = let e = asset_heard (goal.at.returns-then-not-can_be_moved c).After-can_be_moved in search codes

pub returns-then-not-move_amount_right : goal.returns-then-not-move_amount_right
returns-then-not-move_amount_right c = let e = asset_heard (goal.at.returns-then-not-move_amount_right c).After-can_be_moved in let f = amount_heard (goal.at.returns-then-not-move_amount_right c).After-move_amount_right in search codes

pub returns : goal.returns
returns c = let e = asset_heard (goal.at.returns c).After-can_be_moved in let f = amount_heard (goal.at.returns c).After-move_amount_right in search codes
