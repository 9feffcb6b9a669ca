-- `Session::feed` meets its contract: what is left of the piece, fed to what memory holds, ends as the whole piece does. Assumes nothing.
use mathlib.Core.Path.{◌≡◌}
use mathlib.Core.List.{List}
use Prim.Native.Nat.{ℕ, ◌+◌, ◌≤◌}
use lib.ListN.{length, drop}
use Rattle.frames.specs.declared.answer.Answers.{Answers}
use Rattle.session_lines.specs.declared.stream.Session.{Session}
use Rattle.session_lines.specs.Stream.{longest_line, fed_in, fed}
use Rattle.session_lines.proofs.stream.Session.feed.Given as goal

-- how far it came
pub record Kept (before after : Session) (found left : Answers) (used : ℕ) (piece : List ℕ) : Type 0 where
  pub same : left.out.ghost_name ≡ found.out.ghost_name
  pub long : length left.out.now ≡ length found.out.now
  pub inside : found.at ≤ length found.out.now → left.at ≤ length left.out.now
  pub counted : before.line.count ≤ longest_line + 1 → after.line.count ≤ longest_line + 1
  pub rest : fed (fed_in 0 before found) piece ≡ fed (fed_in used after left) (drop used piece)

abbrev pub invariant-loop-used : goal.invariant-loop-used
invariant-loop-used l = Kept l.initial.self l.self l.initial.answers l.answers l.used l.piece
