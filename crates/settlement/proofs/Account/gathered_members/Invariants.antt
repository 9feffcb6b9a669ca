-- `settlement::Account::gathered_members` meets its contract. The loop's invariant: count and places are those of the accounts before j that are on the code.
-- Assumes nothing.
use mathlib.Core.Path.{◌≡◌}
use mathlib.Core.List.{List}
use Prim.Native.Nat.{ℕ}
use Rattle.book.specs.Members.{kind_at}
use Rattle.book.specs.declared.members.Members.{Members}
use Rattle.settlement.specs.Code.{on_code}
use Rattle.settlement.specs.Members.{list_of}
use Rattle.settlement.proofs.Account.gathered_members.Given as goal

-- the list that has been made
abbrev pub made : ℕ → ℕ → List ℕ → Members
made kind count at = record { kind = kind; count = count; at = at }

abbrev pub invariant-loop-j : goal.invariant-loop-j
invariant-loop-j l = made l.kind l.count l.at ≡ list_of (on_code l.self.book.now l.self.i) (kind_at l.self.book.now l.self.i) l.j
