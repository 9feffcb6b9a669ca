-- `Holding::net_of` meets its contract: claims and obligations are from 0 to a million. Assumes nothing.
use mathlib.Core.Path.{refl}
use mir.Facts.{to_z-of_z}
use Rattle.assets.specs.Asset.{net}
use Rattle.assets.proofs.record.Positions.{net_within}
use Rattle.assets.proofs.lent.Holding.net_of.Goals as goal

pub overflow_sub-result : goal.overflow_sub-result
unfolding net
overflow_sub-result c =
    let h = c.args.self.in_range in
    rw (to_z-of_z (h.claim_upto _ c.requires).fits, to_z-of_z (h.obligation_upto _ c.requires).fits) (net_within _ h _ c.requires).fits

pub returns : goal.returns
unfolding net
returns c =
    let h = c.args.self.in_range in let r = net_within _ h _ c.requires in
    rw (to_z-of_z (h.claim_upto _ c.requires).fits, to_z-of_z (h.obligation_upto _ c.requires).fits, to_z-of_z r.fits) (refl, r)
