-- `Answers::put_bytes` meets its contract: the first bytes' digits are put, and then one byte's more. Assumes nothing.
use mathlib.Core.Path.{ap₂}
use mathlib.Core.List.{[], ◌∷◌}
use Prim.Native.Nat.{ℕ}
use native.Mathlib.Omega.{arith}
use Rattle.frames.specs.Hex.{hex_of}
use Rattle.frames.proofs.Digits.{bytes_next}
use Rattle.frames.proofs.answer.Puts.{puts_none, puts_same, puts_size, puts_then}
use Rattle.frames.proofs.answer.Answers.put_bytes.Goals as goal

pub loop-b-init : goal.loop-b-init
unfolding hex_of
loop-b-init c = puts_none _ (omega arith)

pub loop-b-preserved : goal.loop-b-preserved
loop-b-preserved c =
    let j = c.loop-b in
    puts_same (bytes_next _ j.b-index c.loop-b-test.true)
    (puts_size (omega arith) (puts_then (omega arith) j.invariant (puts_same (ap₂ (λ (high low : ℕ). high ∷ low ∷ []) c.digit.ensures c.digit-in-loop-b.ensures) c.put.ensures)))
