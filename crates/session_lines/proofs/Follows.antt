-- What `feed` does with a piece, against the whole session: the answers that it writes, and the line with which it goes on. Assumes nothing.
use mathlib.Core.Path.{◌≡◌, refl, sym, ap, ◌∙◌}
use mathlib.Core.Bool.{Bool, true, false, cond}
use mathlib.Core.List.{List, [], ◌∷◌, ◌++◌, append_assoc, append-nil}
use Prim.Native.Nat.{ℕ, suc, ◌+◌, ◌≤◌}
use native.Mathlib.Omega.{arith}
use borrow.Author.Tests.{leb-true}
use lib.Dec.{eqb}
use lib.ListN.{length, take}
use Rattle.frames.specs.Frame.{line_frame}
use Rattle.session_lines.specs.Session.{answered, newline, lines_from, answers}
use Rattle.session_lines.specs.Stream.{longest_answer, Begun, grown, frame_held, Fed, taken, closed, has_room, fed}
use Rattle.session_lines.specs.HoweverCut.{text}
use Rattle.session_lines.proofs.stream.Held.{cut_line, grown_cut, frame_cut}
use Rattle.session_lines.proofs.Answers.{answer_fits, text_written, written_inside}

-- what came of `count` bytes of a piece: a line that has begun, answers, and the same session for whatever input comes next
pub record Follows (line : List ℕ) (f : Fed) (piece : List ℕ) (r : Fed) : Type 0 where
  pub count : ℕ
  pub used : r.used ≡ f.used + count
  pub next : List ℕ
  pub held : r.stream.line ≡ cut_line next
  pub said : List ℕ
  pub wrote : text r.out ≡ text f.out ++ said
  pub same : (more : List ℕ) → answers f.stream.memory (lines_from line (take count piece ++ more))
      ≡ said ++ answers r.stream.memory (lines_from next more)

stays : (line : List ℕ) (f : Fed) (piece : List ℕ) → f.stream.line ≡ cut_line line → Follows line f piece f
stays line f piece e = record {
  count = 0;
  used = omega arith;
  next = line;
  held = e;
  said = [];
  wrote = sym (append-nil (text f.out));
  same = λ more. refl;
}

-- a byte that ends no line
grows : {line : List ℕ} {f : Fed} {b : ℕ} {piece : List ℕ} {r : Fed} → eqb b newline ≡ false
    → Follows (line ++ (b ∷ [])) (taken f b) piece r → Follows line f (b ∷ piece) r
unfolding lines_from
grows n p = record {
  count = suc p.count;
  used = omega (arith, p.used);
  next = p.next;
  held = p.held;
  said = p.said;
  wrote = p.wrote;
  same = λ more. rw n (p.same more);
}

-- a newline, and the line's answer
ends : {line : List ℕ} {f : Fed} {b : ℕ} {piece : List ℕ} {r : Fed} → f.stream.line ≡ cut_line line → eqb b newline ≡ true
    → f.out.at + longest_answer ≤ length f.out.bytes → Follows [] (closed f) piece r → Follows line f (b ∷ piece) r
unfolding lines_from answers
ends {line} {f} e n room p =
    let frame = frame_held f.stream.line in
    let whole : frame ≡ line_frame line = ap frame_held e ∙ frame_cut line in
    let a = answered f.stream.memory frame in
    let short = answer_fits f.stream.memory frame in
    record {
      count = suc p.count;
      used = omega (arith, p.used);
      next = p.next;
      held = p.held;
      said = a.line ++ p.said;
      wrote =
          p.wrote ∙ ap (λ (l : List ℕ). l ++ p.said) (text_written f.out a.line (omega arith)) ∙ append_assoc (text f.out) a.line p.said;
      same = λ more. rw (n, sym whole) (ap (λ (l : List ℕ). a.line ++ l) (p.same more) ∙ sym (append_assoc a.line p.said _));
    }

pub follows : (piece line : List ℕ) (f : Fed) → f.stream.line ≡ cut_line line → f.out.at ≤ length f.out.bytes → Follows line f piece (fed f piece)
unfolding fed cut_line
follows [] line f e h = stays line f [] e
follows (b ∷ piece) line f e h =
    by (eqb b newline) refl (has_room f.out) refl (follows piece [] (closed f) refl (written_inside f.out _ refl h))
    (follows piece (line ++ (b ∷ [])) (taken f b) (ap (λ (l : Begun). grown l b) e ∙ grown_cut line b) h)
  where
    by : (ended : Bool) → eqb b newline ≡ ended → (room : Bool) → has_room f.out ≡ room → Follows [] (closed f) piece (fed (closed f) piece)
        → Follows (line ++ (b ∷ [])) (taken f b) piece (fed (taken f b) piece)
        → Follows line f (b ∷ piece) (cond ended (cond room (fed (closed f) piece) f) (fed (taken f b) piece))
    by true n true r p q = ends e n (leb-true _ _ r) p
    by true n false r p q = stays line f (b ∷ piece) e
    by false n room r p q = grows n q
