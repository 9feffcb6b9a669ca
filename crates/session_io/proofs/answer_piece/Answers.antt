-- `answer_piece` meets its contract: what is left of the piece, taken through what memory holds, ends as the whole piece does. Assumes nothing.
use mathlib.Core.Path.{◌≡◌, refl, sym, ap, ◌∙◌}
use borrow.Author.Tests.{eqb-true}
use lib.ListN.{length}
use Rattle.std.proofs.lemmas.List.{take_rest}
use Rattle.session_lines.specs.Stream.{stream_of, through}
use Rattle.session_lines.proofs.Through.{rest_through, through_end}
use Rattle.session_io.proofs.answer_piece.Goals as goal

pub loop-rest-preserved : goal.loop-rest-preserved
loop-rest-preserved c =
    let feed = c.feed-used in
    ap (through (stream_of feed.new.self)) (take_rest _ feed.result) ∙ rest_through _ _ _ refl feed.ensures.fed ∙ c.loop-rest.invariant

pub returns : goal.returns
returns c = let none : length c.loop-rest.rest.now ≡ 0 = eqb-true _ 0 (sym c.loop-rest-test.ensures) in sym (through_end _ _ none) ∙ c.loop-rest.invariant
