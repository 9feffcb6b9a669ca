-- `answer_piece` meets its contract: what is left of the piece, taken through what memory holds, ends as the whole piece does. Assumes nothing.
use Rattle.std.proofs.Common.{◌≡◌, length}
use Rattle.session_lines.specs.Stream.{stream_of, through}
use Rattle.session_io.proofs.answer_piece.Given as goal

abbrev pub invariant-loop-rest : goal.invariant-loop-rest
invariant-loop-rest l = through (stream_of l.session) l.rest ≡ through (stream_of l.initial.session) l.piece

abbrev pub decreases-loop-rest : goal.decreases-loop-rest
decreases-loop-rest l = length l.rest
