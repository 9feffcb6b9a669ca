-- `rates::pieces::each` meets its contract: the pieces before piece k were passed. Assumes nothing.
use mathlib.Core.Path.{sym, ◌∙◌}
use native.Mathlib.Omega.{arith}
use Rattle.whole.proofs.Checks.{handed_on, pieces_start, piece_on, piece_stops, pieces_end}
use Rattle.rates.proofs.pieces.each.Goals as goal

pub loop-k-init : goal.loop-k-init
loop-k-init g c at size marks h = pieces_start marks at size _

pub loop-k-preserved : goal.loop-k-preserved
loop-k-preserved g c at size marks h =
    let k = c.loop-k.k in
    let l = c.loop-k-test.true in
    c.loop-k.invariant at size marks h ∙ piece_on marks at size _ k l (h.long k l) (h.answer k _ l c.in_ok-check.ensures)

pub returns-in_err-check : goal.returns-in_err-check
returns-in_err-check g c at size marks h =
    let k = c.loop-k.k in
    let l = c.loop-k-test.true in
    handed_on _ c.from_residual.ensures ∙ sym (c.loop-k.invariant at size marks h ∙ piece_stops marks at size _ k l (h.answer k _ l c.in_err-check.ensures))

pub returns : goal.returns
returns g c at size marks h = sym (c.loop-k.invariant at size marks h ∙ pieces_end marks at size _ _ (omega arith))
