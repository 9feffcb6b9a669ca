-- Laws of an answer's line: written where there is room for it, and nowhere else. Assumes nothing.
use mathlib.Core.Path.{◌≡◌, refl}
use mathlib.Core.List.{List}
use Prim.Native.Nat.{ℕ, ◌+◌, ◌≤◌, ◌<◌}
use borrow.Author.Tests.{le-leb, lt-leb}
use lib.ListN.{length}
use Rattle.whole.specs.Laid.{Laid}
use Rattle.frames.specs.Answer.{Written, written}

-- what is laid where there is room is written; where there is none, nothing is
pub laid_written : {x y xs : List ℕ} {at n r : ℕ} → at + n ≤ length x → Laid x at n xs y r → ◌≡◌ {A = Written} (record { bytes = y; at = r }) (written x at xs)
unfolding written
laid_written {x} {y} {xs} {at} {n} {r} fits p =
    rw (p.long, le-leb (at + n) (length x) fits) (λ i. record { bytes = p.elements i; at = p.count i })

pub no_room : (out xs : List ℕ) (at : ℕ) → length out < at + length xs → ◌≡◌ {A = Written} (record { bytes = out; at = at }) (written out at xs)
unfolding written
no_room out xs at h = rw (lt-leb (at + length xs) (length out) h) refl
