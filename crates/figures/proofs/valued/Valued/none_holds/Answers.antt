-- `Valued::none_holds` meets its contract: the first member's holding is nothing, and `all` finds that of each other so. Assumes nothing.
use mathlib.Core.Path.{refl, sym, ap, ◌∙◌}
use Prim.Native.Nat.{ℕ, ◌-◌}
use native.Mathlib.Omega.{arith}
use borrow.Author.Rules.{rules}
use Rattle.std.proofs.lemmas.Iterator.{YieldsList-from_range}
use Rattle.std.proofs.lemmas.Iterator.Search.{all_from_yields_List}
use Rattle.whole.specs.Marks.{all_zero}
use Rattle.whole.proofs.Every.{every_out, every_rest}
use Rattle.whole.proofs.Tests.{passed, failed}
use Rattle.figures.specs.Joint.{holding_in}
use Rattle.figures.proofs.valued.Valued.none_holds.Goals as goal

pub returns-then-is_nothing : goal.returns-then-is_nothing
returns-then-is_nothing c =
    let a = c.args in
    let count = a.self.members.count in
    let holds_nothing = λ (k : ℕ). all_zero (holding_in a.self k a.a) in
    let first = ap all_zero (sym c.holding.ensures) ∙ passed c.is_nothing.ensures c.if-is_nothing.true in
    let some = a.self.in_range.some in
    all_from_yields_List holds_nothing _ _ _ c.all.ensures.ran (YieldsList-from_range 1 count (count - 1) refl refl) (λ k b q h. search rules)
    ∙ every_rest holds_nothing (count - 1) count first (omega arith)

pub returns-else-is_nothing : goal.returns-else-is_nothing
returns-else-is_nothing c =
    let held = ap all_zero (sym c.holding.ensures) ∙ failed c.is_nothing.ensures c.if-is_nothing.false in
    c.if-is_nothing.false ∙ sym (every_out _ _ 0 c.args.self.in_range.some held)
