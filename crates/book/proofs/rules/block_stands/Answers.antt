-- `rules::block_stands` meets its contract: each holding is asked for its bounds, and for zeros where its asset is unlisted. Assumes nothing.
use mathlib.Core.Path.{◌∙◌}
use mathlib.Core.Bool.{Bool, ◌&&◌}
use Prim.Native.Nat.{ℕ}
use Rattle.std.proofs.Common.{rules}
use Rattle.book.specs.Rules.{holding_right_at, listed_if_held}
use Rattle.book.proofs.Good.{stands_by_both}
use Rattle.book.proofs.rules.block_stands.Goals as goal

pub returns : goal.returns
returns c =
    let a = c.args in
    let test : ℕ → Bool = λ k. holding_right_at a.block.now k && listed_if_held a.block.now a.clearing.now k in
    c.block_passing.ensures test (λ k r p. search rules) ∙ stands_by_both a.block.now a.clearing.now
