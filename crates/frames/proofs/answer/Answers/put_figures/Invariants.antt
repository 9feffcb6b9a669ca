-- `Answers::put_figures` meets its contract: the first figures are put, and then one more. Assumes nothing.
use Prim.Native.Nat.{◌*◌}
use lib.ListN.{take}
use Rattle.frames.specs.Hex.{hex_of}
use Rattle.frames.specs.Answer.{figure_bytes, Puts}
use Rattle.frames.proofs.answer.Answers.put_figures.Given as goal

abbrev pub invariant-loop-figure : goal.invariant-loop-figure
invariant-loop-figure l = Puts l.initial.line l.line (16 * l.figure-index) (hex_of (figure_bytes (take l.figure-index l.figures)))
