-- `hex::unhex` meets its contract: what is left of the line from pair k on decides whether it is hexadecimal, and its bytes follow those that stand
-- in `bytes` already. Assumes nothing.
use Rattle.std.proofs.Common.{◌≡◌, ℕ, ◌*◌, List, ◌++◌, take, drop}
use Rattle.frames.specs.Hex.{is_hex, bytes_of}
use Rattle.frames.proofs.hex.unhex.Given as goal

pub record Kept (line bytes : List ℕ) (k : ℕ) : Type 0 where
  pub hex : is_hex line ≡ is_hex (drop (2 * k) line)
  pub written : bytes_of line ≡ take k bytes ++ bytes_of (drop (2 * k) line)

abbrev pub invariant-loop-k : goal.invariant-loop-k
invariant-loop-k l = Kept l.line l.bytes l.k
