-- `floats::bits_of` meets its contract: the five, one by one. Assumes nothing.
use mathlib.Core.Path.{◌∙◌}
use Rattle.std.proofs.Common.{rules, ◌≡◌, [], ◌∷◌}
use Rattle.std.specs.Float.{binary64}
use Rattle.std.specs.Float.Ieee.{to_bits}
use Rattle.app_feed.specs.Floats.{bits_of}
use Rattle.app_feed.proofs.floats.bits_of.Goals as goal

pub returns : goal.returns
unfolding bits_of
returns c =
    let x = c.args.x in
    let y = c.map.result in
    let valuation : y.valuation ≡ to_bits binary64 x.valuation = search rules in
    let market : y.market ≡ to_bits binary64 x.market = search rules in
    let interest : y.interest ≡ to_bits binary64 x.interest = search rules in
    let discount : y.discount ≡ to_bits binary64 x.discount = search rules in
    let limit : y.limit ≡ to_bits binary64 x.limit = search rules in
    c.five.ensures ∙ (λ i. valuation i ∷ market i ∷ interest i ∷ discount i ∷ limit i ∷ [])
