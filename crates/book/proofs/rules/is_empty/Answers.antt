-- `rules::is_empty` meets its contract: a block is all zero where its parts are. Assumes nothing.
use mathlib.Core.Path.{ap, ◌∙◌}
use Prim.Native.Nat.{ℕ, ◌/◌}
use borrow.Author.Tests.{tests}
use Rattle.std.specs.Simd.{first_chunks}
use Rattle.std.proofs.Common.{rules}
use Rattle.std.proofs.lemmas.Iterator.{YieldsList-from_slice}
use Rattle.std.proofs.lemmas.Iterator.Search.{all_from_yields_List}
use Rattle.std.specs.List.{list_all}
use Rattle.whole.specs.Marks.{all_zero}
use Rattle.book.proofs.Asked.{all_parts}
use Rattle.book.proofs.rules.is_empty.Goals as goal

pub returns : goal.returns
returns c =
    let b = c.args.block.now in
    all_from_yields_List all_zero _ _ c.all.result c.all.ensures.ran (YieldsList-from_slice c.as_chunks.result.0.now cc) (λ x b q k. search (rules, tests))
    ∙ ap (list_all all_zero) (c.as_chunks.ensures.front ∙ ap (λ (n : ℕ). first_chunks 32 (n / 32) b) c.told-block) ∙ all_parts 32 9 b c.told-block
