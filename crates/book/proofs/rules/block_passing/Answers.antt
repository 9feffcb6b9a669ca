-- `rules::block_passing` meets its contract: of a block that is not open zeros are asked, of an open one its head, its rubles and each holding.
-- Assumes nothing.
use mathlib.Core.Path.{refl, sym, ◌∙◌}
use Rattle.std.proofs.Common.{of_calls}
use Rattle.std.proofs.lemmas.Iterator.{YieldsList-from_range, serves_from_Range}
use Rattle.std.proofs.lemmas.Iterator.Search.{all_from_yields_List}
use Rattle.whole.proofs.Tests.{passed, failed, first_out, and_then, true_not_false}
use Rattle.book.proofs.Asked.{all_asked}
use Rattle.book.proofs.Good.{stands_by_zeros, stands_by_parts}
use Rattle.book.proofs.rules.block_passing.Goals as goal
use Rattle.book.proofs.rules.block_passing.Goals.{then-head_right, else-head_right}

pub returns-then-number_is : goal.returns-then-number_is
returns-then-number_is g c = λ test tells. c.is_empty.ensures ∙ stands_by_zeros _ test (passed c.number_is.ensures c.if-number_is.true)

pub all-requires-clause-callable : goal.all-requires-clause-callable
all-requires-clause-callable g c = serves_from_Range (λ x q k. g.met.F.Fn.1.step_stays _ _ _ _ k) (λ x low high. c.requires x high)

pub returns-then-rubles_right : goal.returns-then-rubles_right
returns-then-rubles_right g c = λ test tells.
    let asked = all_from_yields_List test _ _ c.all.result c.all.ensures.ran (YieldsList-from_range 0 16 16 refl refl)
    (λ x b q k. (g.met.F.Fn.1.step_stays _ _ _ _ k, tells x b (search of_calls))) in
    and_then _ _ (elim c.if-head_right.branch [
      | then-head_right w ↦ sym (and_then _ _ (passed c.head_right.ensures w.if-head_right.true) (sym c.if-rubles_right.true ∙ w.value-is ∙ w.rubles_right.ensures))
      | else-head_right w ↦ true_not_false (sym w.if-head_right.false ∙ sym w.value-is ∙ c.if-rubles_right.true)
    ]) (asked ∙ all_asked test 16) ∙ stands_by_parts _ test (failed c.number_is.ensures c.if-number_is.false)

pub returns-else-rubles_right : goal.returns-else-rubles_right
returns-else-rubles_right g c = λ test tells.
    c.if-rubles_right.false ∙ sym (first_out _ _ (elim c.if-head_right.branch [
      | then-head_right w ↦ sym (and_then _ _ (passed c.head_right.ensures w.if-head_right.true) (sym c.if-rubles_right.false ∙ w.value-is ∙ w.rubles_right.ensures))
      | else-head_right w ↦ first_out _ _ (failed c.head_right.ensures w.if-head_right.false)
    ])) ∙ stands_by_parts _ test (failed c.number_is.ensures c.if-number_is.false)
