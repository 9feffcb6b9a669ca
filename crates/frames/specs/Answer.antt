-- Document 01, "Session lines": the line of an answer, and a buffer with it.
-- Assumes nothing.
use Rattle.std.specs.Prelude.{◌≡◌, cond, List, [], ◌∷◌, ◌++◌, ℕ, ◌+◌, leb, ℤ, length}
use Rattle.whole.specs.Parts.{put}
use Rattle.whole.specs.Laid.{Laid}
use Rattle.frames.specs.declared.answer.Answers.{Answers}
use Rattle.frames.specs.Hex.{hex_of}
use Rattle.frames.specs.Number.{n8}

-- the figures' bytes, each as n8
unfoldable pub figure_bytes : List ℤ → List ℕ
figure_bytes [] = []
figure_bytes (z ∷ figures) = n8 z ++ figure_bytes figures

-- the code byte, then the figures (a report has five, every other answer none), then the newline
unfoldable pub answer_line : ℕ → List ℤ → List ℕ
answer_line code figures = hex_of (code ∷ figure_bytes figures) ++ (10 ∷ [])

-- a buffer and the place past what is written in it
pub record Written : Type 0 where
  pub bytes : List ℕ
  pub at : ℕ

-- a line written at a place; where there is no room for it, the buffer and the place stay
unfoldable pub written : List ℕ → ℕ → List ℕ → Written
written out at line =
    cond (leb (at + length line) (length out))
    (record { bytes = put at (length line) out line; at = at + length line })
    (record { bytes = out; at = at })

-- ---- as contracts name them: what is written in a buffer, and that the same buffer has one line more
abbrev pub written_in : Answers → Written
written_in answers = record { bytes = answers.out.now; at = answers.at }

pub record Wrote (before after : Answers) (line : List ℕ) : Type 0 where
  pub same : after.out.ghost_name ≡ before.out.ghost_name
  pub long : length after.out.now ≡ length before.out.now
  pub said : written_in after ≡ written before.out.now before.at line

-- where there is room for it: the line, so many bytes, stands past what stood there
pub record Puts (before after : Answers) (size : ℕ) (line : List ℕ) : Type 0 where
  pub same : after.out.ghost_name ≡ before.out.ghost_name
  pub long : length after.out.now ≡ length before.out.now
  pub laid : Laid before.out.now before.at size line after.out.now after.at
