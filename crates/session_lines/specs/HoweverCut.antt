-- However the stream is cut into pieces, the answers written are those of the whole session; and a line without room for its answer waits.
-- Each is a type, and proofs/HoweverCut proves it.
-- Assumes nothing.
use Rattle.std.specs.Prelude.{◌≡◌, List, [], ◌∷◌, ◌++◌, ℕ, ◌≤◌, ◌<◌, length, take}
use Rattle.frames.specs.Answer.{Written}
use Rattle.session_lines.specs.Session.{start, session}
use Rattle.session_lines.specs.Stream.{longest_answer, begun, Stream, empty, fed, ended}

-- what is lent to one call of `feed`: any piece and any buffer
pub record Feed : Type 0 where
  pub piece : List ℕ
  pub out : List ℕ

-- what stands in a buffer
abbrev pub text : Written → List ℕ
text out = take out.at out.bytes

-- calls of `feed`, one after another: the input that they took, the answers that they wrote, and the stream after them. What `feed` did not take of a
-- piece is not of the input yet; the next call may begin with it.
pub record SoFar : Type 0 where
  pub input : List ℕ
  pub answers : List ℕ
  pub stream : Stream

unfoldable pub so_far : Stream → List Feed → SoFar
so_far s [] = record { input = []; answers = []; stream = s }
so_far s (c ∷ feeds) =
    let r = fed (empty s c.out) c.piece in let rest = so_far r.stream feeds in
    record { input = take r.used c.piece ++ rest.input; answers = text r.out ++ rest.answers; stream = rest.stream }

-- the stream at the start of a session
abbrev pub fresh : Stream
fresh = record { line = begun []; memory = start }

-- calls of `feed`, then a call of `end` on a buffer with room for an answer: what they wrote is what the session answers to the input that they took
abbrev pub HoweverCut : Type 0
HoweverCut =
    (feeds : List Feed) (out : List ℕ) → longest_answer ≤ length out
    → let r = so_far fresh feeds in
    r.answers ++ text (ended (empty r.stream out)).out ≡ session r.input

-- on a buffer without that room `end` leaves everything as it was
abbrev pub EndWaits : Type 0
EndWaits = (s : Stream) (out : List ℕ) → length out < longest_answer → ended (empty s out) ≡ empty s out
