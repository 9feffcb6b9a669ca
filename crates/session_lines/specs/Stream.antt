-- A session whose input comes in pieces: what memory holds between two bytes of the stream, and what one byte does. Of a line that has begun only the
-- bytes that a frame can have are kept; of a longer one, that it is too long.
-- Assumes nothing.
use Rattle.std.specs.Prelude.{◌≡◌, Bool, false, cond, List, [], ◌∷◌, ◌++◌, ℕ, ◌+◌, ◌≤◌, ◌<◌, eqb, leb, ltb, length, take}
use Rattle.engine.specs.State.{state}
use Rattle.frames.specs.Frame.{line_frame}
use Rattle.frames.specs.Answer.{Written, written, written_in}
use Rattle.frames.specs.declared.answer.Answers.{Answers}
use Rattle.frames.specs.declared.frame.Frame.{Frame}
use Rattle.frames.specs.declared.frame.Frame.TheVariants.{Malformed}
use Rattle.session_lines.specs.Session.{Memory, answered, newline}
use Rattle.session_lines.specs.declared.line.Line.{Line}
use Rattle.session_lines.specs.declared.stream.Session.{Session}

-- the digits of the longest frame, an order; the bytes of the longest answer, a report's
abbrev pub longest_line : ℕ
longest_line = 42

abbrev pub longest_answer : ℕ
longest_answer = 83

-- ---- the line that has begun
pub data Begun : Type 0 where
  begun : List ℕ → Begun
  too_long : Begun

-- as it is kept: the first bytes of a buffer, and their count. A count above the longest line says only that the line is too long, and the buffer then
-- says nothing
unfoldable pub held : List ℕ → ℕ → Begun
held buffer count = cond (leb count longest_line) (begun (take count buffer)) too_long

-- one byte more
unfoldable pub grown : Begun → ℕ → Begun
grown (begun line) b = cond (ltb (length line) longest_line) (begun (line ++ (b ∷ []))) too_long
grown too_long b = too_long

-- its frame, where it ends here
unfoldable pub frame_held : Begun → Frame
frame_held (begun line) = line_frame line
frame_held too_long = Malformed

-- no byte of it yet
unfoldable pub is_blank : Begun → Bool
is_blank (begun line) = eqb (length line) 0
is_blank too_long = false

-- ---- the stream, and how far a call came with a piece and a buffer
pub record Stream : Type 0 where
  pub line : Begun
  pub memory : Memory

-- after a byte that ends no line, and after a newline; whatever room there is for answers
abbrev pub line_grown : Stream → ℕ → Stream
line_grown s b = record { line = grown s.line b; memory = s.memory }

abbrev pub line_closed : Stream → Stream
line_closed s = record { line = begun []; memory = (answered s.memory (frame_held s.line)).memory }

-- after every byte of a piece, once and in order
unfoldable pub through : Stream → List ℕ → Stream
through s [] = s
through s (b ∷ piece) = through (cond (eqb b newline) (line_closed s) (line_grown s b)) piece

pub record Fed : Type 0 where
  pub used : ℕ  -- of the piece
  pub stream : Stream
  pub out : Written

-- a byte that ends no line
abbrev pub taken : Fed → ℕ → Fed
taken f b = record { used = f.used + 1; stream = line_grown f.stream b; out = f.out }

-- a newline, and the line's answer
abbrev pub closed : Fed → Fed
closed f =
    let a = answered f.stream.memory (frame_held f.stream.line) in
    record { used = f.used + 1; stream = line_closed f.stream; out = written f.out.bytes f.out.at a.line }

abbrev pub has_room : Written → Bool
has_room out = leb (out.at + longest_answer) (length out.bytes)

-- bytes are taken until the piece ends, or a line ends whose answer may not fit
unfoldable pub fed : Fed → List ℕ → Fed
fed f [] = f
fed f (b ∷ piece) = cond (eqb b newline) (cond (has_room f.out) (fed (closed f) piece) f) (fed (taken f b) piece)

-- at the end of the input a line that has begun ends, though its newline lacks; where its answer may not fit, nothing is done
unfoldable pub ended : Fed → Fed
ended f = cond (is_blank f.stream.line) f (fed f (newline ∷ []))

-- ---- as contracts name them: a buffer in which nothing is written, and the line and the stream that memory holds, with so many bytes of a piece used
abbrev pub empty : Stream → List ℕ → Fed
empty s out = record { used = 0; stream = s; out = record { bytes = out; at = 0 } }

abbrev pub line_held : Line → Begun
line_held line = held line.bytes line.count

abbrev pub memory_of : Session → Memory
memory_of s = record { state = state s.book; parameters = s.parameters }

abbrev pub stream_of : Session → Stream
stream_of s = record { line = line_held s.line; memory = memory_of s }

abbrev pub fed_in : ℕ → Session → Answers → Fed
fed_in used s answers = record { used = used; stream = stream_of s; out = written_in answers }

-- every byte of a piece, from what a session held to what it holds
abbrev pub WentThrough : Session → Session → List ℕ → Type 0
WentThrough before after piece = stream_of after ≡ through (stream_of before) piece

-- what follows for a caller: no more than the piece and the buffer, which is the same; where the buffer has room for an answer, some of a piece that has
-- any byte; and the count of a line that is too long is the longest line's and one
pub record Took (before after : Session) (found left : Answers) (used : ℕ) (piece : List ℕ) : Type 0 where
  pub within : used ≤ length piece
  pub same : left.out.ghost_name ≡ found.out.ghost_name
  pub long : length left.out.now ≡ length found.out.now
  pub inside : found.at ≤ length found.out.now → left.at ≤ length left.out.now
  pub some : found.at + longest_answer ≤ length found.out.now → 0 < length piece → 0 < used
  pub counted : before.line.count ≤ longest_line + 1 → after.line.count ≤ longest_line + 1
