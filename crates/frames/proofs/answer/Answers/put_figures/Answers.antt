-- `Answers::put_figures` meets its contract: the first figures are put, and then one more. Assumes nothing.
use mathlib.Core.Path.{ap, ◌∙◌}
use Prim.Native.Nat.{◌+◌, ◌*◌}
use native.Mathlib.Omega.{arith}
use borrow.Author.Rules.{rules}
use lib.IntN.{ℤ, pos}
use lib.ListN.{length, get_or}
use mir.Syntax.{w64}
use mir.Val.{SFits, of_z}
use mir.Facts.{to_z-of_z}
use Rattle.std.specs.Int.{to_be_bytes}
use Rattle.frames.specs.Hex.{hex_of}
use Rattle.frames.specs.Answer.{figure_bytes}
use Rattle.frames.proofs.answer.Puts.{puts_none, puts_same, puts_size, puts_then}
use Rattle.frames.proofs.Bytes.{n8_bytes}
use Rattle.frames.proofs.Digits.{figures_next, n8_length}
use Rattle.frames.proofs.answer.Answers.put_figures.Goals as goal

pub loop-figure-init : goal.loop-figure-init
unfolding hex_of figure_bytes
loop-figure-init c = puts_none _ (omega arith)

pub loop-figure-preserved : goal.loop-figure-preserved
loop-figure-preserved c =
    let j = c.loop-figure in
    let z = get_or c.args.figures.now j.figure-index (pos 0) in
    let fits : SFits w64 z = search rules in
    let bytes = c.to_be_bytes.ensures ∙ ap (λ (y : ℤ). to_be_bytes w64 (of_z w64 y)) (to_z-of_z {w = w64} fits) ∙ n8_bytes z fits in
    let size = ap length bytes ∙ n8_length z in
    puts_same (figures_next _ j.figure-index c.loop-figure-test.true)
    (puts_size {n = 16 * j.figure-index + 16} (omega arith)
    (puts_then (omega arith) j.invariant (puts_size (omega arith) (puts_same (ap hex_of bytes) c.put_bytes.ensures))))
