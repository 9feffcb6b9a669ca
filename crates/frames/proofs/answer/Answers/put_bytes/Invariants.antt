-- `Answers::put_bytes` meets its contract: the first bytes' digits are put, and then one byte's more. Assumes nothing.
use Prim.Native.Nat.{◌*◌}
use lib.ListN.{take}
use Rattle.frames.specs.Hex.{hex_of}
use Rattle.frames.specs.Answer.{Puts}
use Rattle.frames.proofs.answer.Answers.put_bytes.Given as goal

abbrev pub invariant-loop-b : goal.invariant-loop-b
invariant-loop-b l = Puts l.initial.self l.self (2 * l.b-index) (hex_of (take l.b-index l.bytes))
