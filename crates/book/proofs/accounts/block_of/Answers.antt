-- `accounts::block_of` meets its contract: what is lent is the account's block. Assumes nothing.
use lib.ListN.{length}
use mathlib.Core.List.{List}
use mathlib.Core.Path.{◌≡◌, ap, ◌∙◌}
use lib.IntN.{ℤ}
use Rattle.book.proofs.Blocks.{lent_block}
use Rattle.book.proofs.AtAccount.{of_lent, block_long}
use Rattle.book.proofs.accounts.block_of.Goals as goal

pub returns : goal.returns
returns c = let b = c.args.book.now in
    let whole = rw c.unwrap.ensures at c.as_array.ensures.cases in
    (whole.same ∙ lent_block _ _, ap length whole.same ∙ of_lent b c.args.i (λ (l : List ℤ). length l ≡ 288) (block_long b c.args.i c.requires))
