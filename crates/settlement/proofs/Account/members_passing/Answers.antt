-- `settlement::Account::members_passing` meets its contract. The loop's invariant: every account before j that is on the code passes, and they are counted.
-- Assumes nothing.
use mathlib.Core.Path.{◌≡◌}
use native.Mathlib.Omega.{arith}
use Rattle.whole.proofs.Tests.{passed, failed}
use Rattle.settlement.proofs.Codes.{none_looked, off_looked, on_looked, out_looked, all_looked}
use Rattle.settlement.proofs.Account.members_passing.Goals as goal
use Rattle.settlement.proofs.Account.members_passing.Goals.{then-on_code+else-not-passes, else-on_code}

pub loop-j-init : goal.loop-j-init
loop-j-init g c = (omega arith, λ test tells. none_looked)

pub loop-j-preserved : goal.loop-j-preserved
loop-j-preserved g c =
    let l = c.loop-j in
    elim c.if-on_code.branch [
      | then-on_code+else-not-passes w ↦ (
        omega arith,
        λ test tells. rw w.count-is
            (on_looked (l.invariant.1 test tells) (passed c.on_code.ensures w.if-on_code.true) (passed (tells l.j _ w.passes.ensures) w.if-not-passes.false)),
      )
      | else-on_code w ↦ (omega arith, λ test tells. rw w.count-is (off_looked (l.invariant.1 test tells) (failed c.on_code.ensures w.if-on_code.false)))
    ]

pub returns-then-not-passes : goal.returns-then-not-passes
returns-then-not-passes g c =
    let l = c.loop-j in
    λ test tells. out_looked (l.invariant.1 test tells) (omega arith) (passed c.on_code.ensures c.if-on_code.true)
    (failed (tells l.j _ c.passes.ensures) c.if-not-passes.true)

pub returns : goal.returns
returns g c =
    let l = c.loop-j in
    let done : l.j ≡ 16 = omega arith in
    λ test tells. all_looked (rw done at (l.invariant.1 test tells))
