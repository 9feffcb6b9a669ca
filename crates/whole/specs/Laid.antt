-- What writing does to a buffer: so many elements laid from a place on, and nothing else changed. Assumes nothing.
use Rattle.std.specs.Prelude.{◌≡◌, List, ℕ, ◌+◌, length}
use Rattle.whole.specs.Parts.{put}

-- the line, so many elements, stands in a buffer from place `at` on, and `next` is the place past it
pub record Laid {A : Type 0} (before : List A) (at size : ℕ) (line after : List A) (next : ℕ) : Type 0 where
  pub count : next ≡ at + size
  pub long : length line ≡ size
  pub elements : after ≡ put at size before line
