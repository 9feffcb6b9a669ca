-- The sums of two accounts under one settlement code (specs/JointSums). Assumes nothing.
use mathlib.Core.Path.{ap, ◌∙◌}
use mathlib.Core.List.{List, [], ◌∷◌}
use lib.IntN.{ℤ, pos}
use lib.ListN.{get_or}
use Rattle.promises.specs.JointSums.{JointSumsMet, uncovered, concentrated, spread}
use Rattle.promises.proofs.Sharing.{shared_report}
use Rattle.promises.proofs.Computed.{computed, shared}

pub joint_sums_met : JointSumsMet
joint_sums_met =
    let first = shared_report uncovered shared.uncovered_shares in
    let second = shared_report concentrated shared.concentrated_shares in
    let third = shared_report spread shared.spread_shares in
    (λ t. first t ∷ second t ∷ third t ∷ computed.joint_wrong t)
    ∙ ap (λ (x : List (List ℤ)). (pos 0 ∷ get_or x 0 []) ∷ (pos 0 ∷ get_or x 1 []) ∷ (pos 0 ∷ get_or x 2 []) ∷ uncovered.wrong ∷ concentrated.wrong ∷ spread.wrong ∷ [])
    computed.joint_sums
