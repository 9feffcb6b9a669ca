-- `Answers::put` meets its contract: the text is copied into the part that it takes. Assumes nothing.
use mathlib.Core.Path.{◌≡◌, refl, ap, ◌∙◌}
use Prim.Native.Nat.{◌+◌, ◌-◌, ◌≤◌}
use native.Mathlib.Omega.{arith}
use lib.ListN.{length}
use Rattle.whole.specs.Parts.{put}
use Rattle.whole.proofs.Parts.{put_length}
use Rattle.frames.proofs.answer.Answers.put.Goals as goal

pub returns : goal.returns
unfolding put
returns c =
    let a = c.args.self.now in let text = c.args.text.now in
    let size : a.at + length text - a.at ≡ length text = omega arith in
    let text_there = put_length 0 a.at (length text) a.out.now text c.requires refl in
    rw (size, c.copy_from_slice.ensures.after) (record { same = refl; long = text_there; laid = record { count = refl; long = refl; elements = refl } })
