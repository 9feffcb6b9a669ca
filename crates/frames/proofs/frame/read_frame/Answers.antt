-- `frame::read_frame` meets its contract: each pattern is a form of the definition's. Assumes nothing.
use mathlib.Core.Path.{◌≡◌, ◌∙◌}
use Prim.Native.Nat.{◌-◌}
use native.Mathlib.Omega.{arith}
use lib.ListN.{length}
use mir.Syntax.{w64}
use mir.Facts.{to_z-of_z}
use Rattle.frames.specs.Number.{byte}
use Rattle.frames.specs.Frame.{move_numbers, order_numbers}
use Rattle.frames.proofs.Bytes.{two_read, n8_first, n8_of_two, n8_after}
use Rattle.frames.proofs.Shapes.{reads_parameter, reads_move, reads_order}
use Rattle.frames.proofs.frame.read_frame.Goals as goal

pub returns-in-4 : goal.returns-in-4
unfolding order_numbers
returns-in-4 c =
    let bytes = c.args.bytes.now in
    let quantity = c.n8.ensures ∙ n8_of_two bytes (length bytes - 5) 5 (omega arith) in
    let money = c.n8-in-4.ensures ∙ n8_after bytes (length bytes - 5) 5 _ (omega arith) (omega arith) in
    rw (to_z-of_z {w = w64} {z = c.n8.result} (record { sfits = c.n8.type_inv }), to_z-of_z {w = w64} {z = c.n8-in-4.result} (record { sfits = c.n8-in-4.type_inv }), quantity, money)
    (reads_order bytes (omega arith) (omega arith))

pub returns-in-3 : goal.returns-in-3
unfolding move_numbers
returns-in-3 c =
    let bytes = c.args.bytes.now in
    let kind : byte bytes 0 ≡ 3 = grind arith in
    let amount = c.n8-in-3.ensures ∙ n8_first bytes (length bytes - 3) 3 (omega arith) in
    rw (to_z-of_z {w = w64} (record { sfits = c.n8-in-3.type_inv }), amount) (reads_move bytes (omega arith) kind)

pub returns-in-1 : goal.returns-in-1
returns-in-1 c =
    let bytes = c.args.bytes.now in
    let kind : byte bytes 0 ≡ 1 = grind arith in
    let number = c.n8-in-1.ensures ∙ n8_first bytes (length bytes - 3) 3 (omega arith) in
    let place = c.from.ensures ∙ c.from_be_bytes.ensures ∙ two_read bytes 1 in
    rw (to_z-of_z {w = w64} (record { sfits = c.n8-in-1.type_inv }), number, place) (reads_parameter bytes (omega arith) kind)
