-- `Answers::put_answer` meets its contract: it tests for the room that the whole line takes, and puts its three parts. Assumes nothing.
use mathlib.Core.Path.{refl}
use native.Mathlib.Omega.{arith}
use Rattle.frames.proofs.answer.Puts.{puts_same, puts_then}
use Rattle.frames.proofs.answer.Written.{laid_written, no_room}
use Rattle.frames.proofs.Digits.{answer_length, answer_parts}
use Rattle.frames.proofs.answer.Answers.put_answer.Goals as goal

pub returns-then-room-lt-SHORTEST : goal.returns-then-room-lt-SHORTEST
returns-then-room-lt-SHORTEST c = record { same = refl; long = refl; said = no_room _ _ _ (omega (arith, answer_length c.args.code c.args.figures.now)) }

pub returns-then-room-figures : goal.returns-then-room-figures
returns-then-room-figures c = record { same = refl; long = refl; said = no_room _ _ _ (omega (arith, answer_length c.args.code c.args.figures.now)) }

pub returns : goal.returns
returns c =
    let code = puts_then (omega arith) c.put_bytes.ensures c.put_figures.ensures in
    let p = puts_same (answer_parts _ _) (puts_then (omega arith) code c.put.ensures) in
    record { same = p.same; long = p.long; said = laid_written (omega arith) p.laid }
