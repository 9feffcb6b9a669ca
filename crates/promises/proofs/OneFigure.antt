-- A report of one fixed figure satisfies the asset part of demand 3; that S1 and S2 refuse it is in specs/Needed. So demand 3 does not stand alone.
-- Assumes nothing.
use lib.IntN.{ℤ}
use lib.Signed.{≤ℤ_refl}
use Rattle.whole.specs.Refusals.{leaves}
use Rattle.figures.specs.declared.limit.Figures.{Figures}
use Rattle.figures.specs.Laws.{Covered}
use Rattle.promises.specs.Deposit.{AssetDeposit}
use Rattle.promises.specs.Needed.{one_figure}
use Rattle.promises.proofs.Deposit.{asset_deposit}

pub one_figure_passes : (fixed : Figures ℤ) → AssetDeposit (one_figure fixed) Covered
unfolding one_figure leaves
one_figure_passes fixed tables i s answers asset covered j p other sum d =
    let still = (asset_deposit tables i s answers asset covered j p other sum d).0 in
    (still, rw (answers, still) (≤ℤ_refl fixed.limit))
