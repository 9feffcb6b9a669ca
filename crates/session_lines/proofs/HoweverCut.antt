-- However the stream is cut into pieces, the answers written are those of the whole session; a line without room waits (specs/HoweverCut).
-- Assumes nothing.
use mathlib.Core.Path.{◌≡◌, refl, sym, ap, ◌∙◌}
use mathlib.Core.Bool.{Bool, true, false, cond}
use mathlib.Core.List.{List, [], ◌∷◌, ◌++◌, append_assoc, append-nil}
use Prim.Native.Nat.{ℕ, ◌≤◌}
use native.Mathlib.Omega.{arith}
use borrow.Author.Tests.{le-leb, lt-leb}
use lib.Dec.{eqb}
use lib.ListN.{length, take}
use Rattle.frames.specs.Frame.{line_frame}
use Rattle.session_lines.specs.Session.{answered, lines_from, answers, session, start}
use Rattle.session_lines.specs.Stream.{longest_answer, is_blank, frame_held, Stream, Fed, fed, ended, empty}
use Rattle.session_lines.specs.HoweverCut.{Feed, text, SoFar, so_far, fresh, HoweverCut, EndWaits}
use Rattle.session_lines.proofs.Follows.{Follows, follows}
use Rattle.session_lines.proofs.stream.Held.{cut_line, frame_cut, blank_cut}
use Rattle.session_lines.proofs.Answers.{answer_fits, text_written}

-- `Follows` for calls of `feed` one after another
record Ran (line : List ℕ) (s : Stream) (r : SoFar) : Type 0 where
  next : List ℕ
  held : r.stream.line ≡ cut_line next
  same : (more : List ℕ) → answers s.memory (lines_from line (r.input ++ more)) ≡ r.answers ++ answers r.stream.memory (lines_from next more)

-- one call, and those after it
then : (c : Feed) (feeds : List Feed) {line : List ℕ} {s : Stream} → let r = fed (empty s c.out) c.piece in
    (f : Follows line (empty s c.out) c.piece r) → Ran f.next r.stream (so_far r.stream feeds) → Ran line s (so_far s (c ∷ feeds))
unfolding so_far
then c feeds {line} {s} f later =
    let r = fed (empty s c.out) c.piece in let rest = so_far r.stream feeds in
    let used : r.used ≡ f.count = omega (arith, f.used) in
    record {
      next = later.next;
      held = later.held;
      same = λ more.
          ap (λ (i : List ℕ). answers s.memory (lines_from line i)) (append_assoc (take r.used c.piece) rest.input more)
          ∙ ap (λ (n : ℕ). answers s.memory (lines_from line (take n c.piece ++ (rest.input ++ more)))) used
          ∙ f.same (rest.input ++ more)
          ∙ ap (λ (l : List ℕ). f.said ++ l) (later.same more)
          ∙ sym (append_assoc f.said rest.answers _)
          ∙ ap (λ (l : List ℕ). l ++ rest.answers ++ answers rest.stream.memory (lines_from later.next more)) (sym f.wrote);
    }

ran : (feeds : List Feed) (line : List ℕ) (s : Stream) → s.line ≡ cut_line line → Ran line s (so_far s feeds)
unfolding so_far
ran [] line s e = record { next = line; held = e; same = λ more. refl }
ran (c ∷ feeds) line s e =
    let f = follows c.piece line (empty s c.out) e (omega arith) in
    then c feeds f (ran feeds f.next (fed (empty s c.out) c.piece).stream f.held)

-- the end of the input
last : (line : List ℕ) (s : Stream) → s.line ≡ cut_line line → (out : List ℕ) → longest_answer ≤ length out
    → text (ended (empty s out)).out ≡ answers s.memory (lines_from line [])
unfolding ended fed lines_from answers
last line s e out room =
    let a = answered s.memory (line_frame line) in let short = answer_fits s.memory (line_frame line) in
    rw (ap is_blank e ∙ blank_cut line, ap frame_held e ∙ frame_cut line, le-leb longest_answer (length out) room)
    (by (eqb (length line) 0) _ (text_written (record { bytes = out; at = 0 }) a.line (omega arith)))
  where
    by : (blank : Bool) (f : Fed) → text f.out ≡ (answered s.memory (line_frame line)).line
        → text (cond blank (empty s out) f).out ≡ answers s.memory (cond blank [] (line ∷ []))
    by true f said = refl
    by false f said = said ∙ sym (append-nil _)

pub however_cut : HoweverCut
unfolding session cut_line
however_cut feeds out room =
    let r = so_far fresh feeds in
    let t = ran feeds [] fresh refl in
    ap (λ (l : List ℕ). r.answers ++ l) (last t.next r.stream t.held out room)
    ∙ sym (t.same [])
    ∙ ap (λ (i : List ℕ). answers start (lines_from [] i)) (append-nil r.input)

pub end_waits : EndWaits
unfolding ended fed
end_waits s out full = rw (lt-leb longest_answer (length out) full) (by (is_blank s.line))
  where
    by : (blank : Bool) → cond {A = Fed} blank (empty s out) (empty s out) ≡ empty s out
    by true = refl
    by false = refl
