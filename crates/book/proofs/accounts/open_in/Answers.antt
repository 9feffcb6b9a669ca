-- `accounts::open_in` meets its contract: the block is lent, opened, and given back. Assumes nothing.
use mathlib.Core.Path.{ap₂, ◌∙◌}
use mir.Facts.{to_z-of_z}
use Rattle.book.specs.Changes.{opened}
use Rattle.book.proofs.AtAccount.{lent, back_at}
use Rattle.book.proofs.accounts.open_in.Goals as goal

pub returns : goal.returns
returns c = let a = c.args in
    back_at a.book.now a.i (λ b. opened b a.kind a.code)
    (c.«open».ensures ∙ ap₂ (opened (lent a.book.now a.i)) (to_z-of_z c.ranges.kind) (to_z-of_z c.ranges.code))
