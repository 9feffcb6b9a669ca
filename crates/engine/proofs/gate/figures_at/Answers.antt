-- `gate::figures_at` meets its contract: the code of an account that may be judged can be valued, and its figures are those of the list of its code.
-- Assumes nothing.
use mathlib.Core.Path.{sym, ap, ◌∙◌, subst}
use Prim.Native.Nat.{ℕ}
use Rattle.rates.specs.Lent.{Tables, numbers_of}
use Rattle.book.specs.Members.{MemberRanges}
use Rattle.book.specs.declared.members.Members.{Members}
use Rattle.figures.specs.Joint.{member_figures}
use Rattle.settlement.specs.Members.{CodeRanges}
use Rattle.settlement.proofs.Right.{right_in_range}
use Rattle.settlement.proofs.Listed.{members_in_range}
use Rattle.engine.specs.State.{State, state}
use Rattle.engine.specs.Ranges.{Judgeable}
use Rattle.engine.proofs.Valued.{listed_figures}
use Rattle.engine.proofs.gate.figures_at.Goals as goal

in_range : {tables : Tables} {i : ℕ} {s : State} → Judgeable tables i s → CodeRanges s.book i
in_range {i = i} {s = s} j = right_in_range s.book i j.there j.right

pub members_of-members-requires : goal.members_of-members-requires
members_of-members-requires c = in_range c.requires

pub joint_figures-requires : goal.joint_figures-requires
joint_figures-requires c =
    (subst (MemberRanges c.args.book.now) (sym c.members_of-members.ensures) (members_in_range _ c.args.i (in_range c.requires)), c.requires.sound)

pub returns : goal.returns
returns c =
    let a = c.args in
    let tables = numbers_of a.tables in
    c.joint_figures.ensures
    ∙ ap (λ (m : Members). member_figures m a.book.now tables) c.members_of-members.ensures
    ∙ listed_figures tables a.i (state a.book.now) (in_range c.requires)
