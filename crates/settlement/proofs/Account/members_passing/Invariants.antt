-- `settlement::Account::members_passing` meets its contract. The loop's invariant: every account before j that is on the code passes, and they are counted.
-- Assumes nothing.
use Rattle.std.proofs.Common.{Bool, ℕ, ◌≤◌}
use Rattle.book.specs.Asked.{Tells}
use Rattle.settlement.specs.Code.{on_code}
use Rattle.settlement.proofs.Codes.{Looked}
use Rattle.settlement.proofs.Account.members_passing.Given as goal

abbrev pub invariant-loop-j : goal.invariant-loop-j
invariant-loop-j g l = (l.count ≤ l.j) × ((test : ℕ → Bool) → Tells g.F.Fn l.passes test → Looked (on_code l.self.book.now l.self.i) test l.count l.j)
