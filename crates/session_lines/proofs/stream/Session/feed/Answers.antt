-- `Session::feed` meets its contract: what is left of the piece, fed to what memory holds, ends as the whole piece does. Assumes nothing.
use mathlib.Core.Path.{◌≡◌, refl, sym, ap, subst, ◌∙◌}
use mathlib.Core.List.{List, []}
use Prim.Native.Nat.{ℕ, ◌+◌, ◌≤◌}
use native.Mathlib.Omega.{arith}
use lib.ListN.{length, drop}
use Rattle.frames.specs.Answer.{Written, written, written_in}
use Rattle.frames.specs.declared.answer.Answers.{Answers}
use Rattle.frames.specs.declared.frame.Frame.{Frame}
use Rattle.session_lines.specs.Session.{Memory, answered}
use Rattle.session_lines.specs.Stream.{begun, held, frame_held, stream_of, fed_in, Fed, closed, fed, Took}
use Rattle.session_lines.specs.declared.stream.Session.{Session}
use Rattle.session_lines.proofs.stream.Steps.{byte_taken, line_taken, line_waits, piece_ends, some_used}
use Rattle.session_lines.proofs.Answers.{written_inside}
use Rattle.session_lines.proofs.stream.Session.feed.Invariants.{Kept}
use Rattle.session_lines.proofs.stream.Session.feed.Goals as goal

pub loop-used-init : goal.loop-used-init
loop-used-init c = record { same = refl; long = refl; inside = λ h. h; counted = λ h. h; rest = refl }

pub loop-used-preserved-then-b-ne-NEWLINE : goal.loop-used-preserved-then-b-ne-NEWLINE
loop-used-preserved-then-b-ne-NEWLINE c =
    let j = c.loop-used in let h = c.hold.ensures in
    record {
      same = j.invariant.same;
      long = j.invariant.long;
      inside = j.invariant.inside;
      counted = λ _. h.counted;
      rest = j.invariant.rest ∙ byte_taken (fed_in j.used j.self j.answers) _ c.loop-used-test.true c.if-b-ne-NEWLINE.true
          (λ k. record {
            used = j.used + 1;
            stream = record { line = h.grown k; memory = (stream_of j.self).memory };
            out = written_in j.answers;
          });
    }

-- where it stops
stops : {before after : Session} {found left : Answers} {used : ℕ} {piece : List ℕ} → Kept before after found left used piece → used ≤ length piece
    → fed (fed_in used after left) (drop used piece) ≡ fed_in used after left
    → (fed_in used after left ≡ fed (fed_in 0 before found) piece) × Took before after found left used piece
stops {before} {after} {found} {left} {used} {piece} k within e =
    let all : fed_in used after left ≡ fed (fed_in 0 before found) piece = sym (k.rest ∙ e) in let took = ap (λ (g : Fed). g.used) all in (
      all,
      record {
        within = within;
        same = k.same;
        long = k.long;
        inside = k.inside;
        some = λ room any. let q = some_used piece (fed_in 0 before found) room any in omega arith;
        counted = k.counted;
      },
    )

pub returns-then-room-lt-LONGEST_ANSWER : goal.returns-then-room-lt-LONGEST_ANSWER
returns-then-room-lt-LONGEST_ANSWER c =
    let j = c.loop-used in
    let e = stops j.invariant (omega arith) (line_waits _ _ c.loop-used-test.true c.if-b-ne-NEWLINE.false (omega arith)) in
    record { fed = e.0; took = e.1 }

-- a line answered: by its frame, read from what memory holds
line_closed : (f : Fed) (line : List ℕ) {frame : Frame} {memory : Memory} {out : Written} → frame ≡ frame_held f.stream.line
    → let a = answered f.stream.memory frame in memory ≡ a.memory → out ≡ written f.out.bytes f.out.at a.line
    → record { used = f.used + 1; stream = record { line = held line 0; memory = memory }; out = out } ≡ closed f
unfolding held
line_closed f line same kept said = let m = f.stream.memory in λ k. record {
  used = f.used + 1;
  stream = record { line = begun []; memory = (kept ∙ ap (λ (r : Frame). (answered m r).memory) same) k };
  out = (said ∙ ap (λ (r : Frame). written f.out.bytes f.out.at (answered m r).line) same) k;
}

pub loop-used-preserved : goal.loop-used-preserved
loop-used-preserved c =
    let j = c.loop-used in
    let f = fed_in j.used j.self j.answers in
    let a = c.answer.ensures in
    record {
      same = a.said.same ∙ j.invariant.same;
      long = a.said.long ∙ j.invariant.long;
      inside = λ h. written_inside f.out _ a.said.said (j.invariant.inside h);
      counted = λ _. omega arith;
      rest = j.invariant.rest ∙ line_taken f _ c.loop-used-test.true c.if-b-ne-NEWLINE.false (omega arith)
          (line_closed f c.answer.new.self.line.bytes c.frame-frame.ensures a.kept a.said.said);
    }

pub returns : goal.returns
returns c =
    let j = c.loop-used in
    let piece = c.args.piece.now in
    let all : j.used ≡ length piece = omega arith in
    let k = subst (λ (n : ℕ). Kept c.args.self.now j.self c.args.answers.now j.answers n piece) all j.invariant in
    let e = stops k (omega arith) (piece_ends _ _ refl) in
    record { fed = e.0; took = e.1 }
