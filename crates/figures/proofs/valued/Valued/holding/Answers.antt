-- `Valued::holding` meets its contract: what is lent of the member's block is the asset's holding. Assumes nothing.
use mathlib.Core.Path.{◌≡◌, ap, ◌∙◌}
use mathlib.Core.List.{List}
use native.Mathlib.Omega.{arith}
use lib.IntN.{ℤ}
use lib.ListN.{length}
use Rattle.book.specs.Block.{holding_of}
use Rattle.book.proofs.Blocks.{lent_holding}
use Rattle.figures.proofs.valued.Valued.holding.Goals as goal
use Rattle.figures.proofs.valued.Valued.holding.Goals.{After-member_block-block}

block_long : (c : After-member_block-block) → length c.member_block-block.result.now ≡ 288
block_long c = ap length c.member_block-block.ensures ∙ (c.args.self.in_range.block c.args.k c.requires.0).long

pub slice_bounds-result-end : goal.slice_bounds-result-end
slice_bounds-result-end c = omega (arith, block_long c)

pub returns : goal.returns
returns c =
    let a = c.args.a in
    lent_holding _ a ∙ ap (λ (b : List ℤ). holding_of b a) c.member_block-block.ensures
