-- An answer in a buffer: it fits where there is room for the longest one, stands after what stood there, and stays inside. Assumes nothing.
use mathlib.Core.Path.{◌≡◌, refl, sym, ap, subst, ◌∙◌}
use mathlib.Core.Bool.{Bool, true, false, cond}
use mathlib.Core.List.{List, [], ◌++◌, append_assoc}
use Prim.Native.Nat.{ℕ, ◌+◌, ◌≤◌}
use native.Mathlib.Omega.{arith}
use borrow.Author.Tests.{le-leb, leb-true}
use lib.Dec.{leb}
use lib.IntN.{ℤ}
use lib.ListN.{length, take, length-append}
use lib.Seq.{length-take-le, take_at}
use Rattle.whole.specs.Parts.{put}
use Rattle.whole.proofs.Parts.{put_length}
use Rattle.frames.specs.Answer.{answer_line, Written, written}
use Rattle.frames.specs.declared.frame.Frame.{Frame}
use Rattle.frames.specs.declared.frame.Frame.TheVariants.{Parameter, Open, Move, Order, Roll, Report, Malformed}
use Rattle.frames.proofs.Digits.{answer_length}
use Rattle.session_lines.specs.Session.{Memory, answered}
use Rattle.session_lines.specs.Stream.{longest_answer}
use Rattle.session_lines.specs.HoweverCut.{text}

-- no answer is longer than a report's
short : (code : ℕ) (figures : List ℤ) → length figures ≤ 5 → length (answer_line code figures) ≤ longest_answer
short code figures h = omega (arith, answer_length code figures)

pub answer_fits : (m : Memory) (frame : Frame) → length (answered m frame).line ≤ longest_answer
unfolding answered
answer_fits m (Parameter place number) = short _ [] (omega arith)
answer_fits m (Open account kind code) = short _ [] (omega arith)
answer_fits m (Move l) = short _ [] (omega arith)
answer_fits m (Order l) = short _ [] (omega arith)
answer_fits m (Roll account) = short _ [] (omega arith)
answer_fits m (Report account) = short _ _ (omega arith)
answer_fits m Malformed = short _ [] (omega arith)

-- what is written where there is room stands after what stood in the buffer
pub text_written : (out : Written) (line : List ℕ) → out.at + length line ≤ length out.bytes
    → text (written out.bytes out.at line) ≡ text out ++ line
unfolding written put
text_written out line room =
    rw (le-leb (out.at + length line) (length out.bytes) room)
    (ap (take (out.at + length line)) (sym (append_assoc (take out.at out.bytes) line _))
    ∙ take_at (take out.at out.bytes ++ line) _ (out.at + length line)
    (length-append (take out.at out.bytes) line ∙ rw (length-take-le out.at out.bytes (omega arith)) refl))

-- what is written stays inside the buffer
pub written_inside : {w : Written} (out : Written) (line : List ℕ) → w ≡ written out.bytes out.at line → out.at ≤ length out.bytes
    → w.at ≤ length w.bytes
unfolding written
written_inside out line e h = subst (λ (w : Written). w.at ≤ length w.bytes) (sym e) (by (leb (out.at + length line) (length out.bytes)) refl)
  where
    by : (t : Bool) → leb (out.at + length line) (length out.bytes) ≡ t
        → let w = cond {A = Written} t (record { bytes = put out.at (length line) out.bytes line; at = out.at + length line }) out in
        w.at ≤ length w.bytes
    by true r = let l = leb-true _ _ r in let q = put_length 0 out.at (length line) out.bytes line l refl in omega arith
    by false r = h
