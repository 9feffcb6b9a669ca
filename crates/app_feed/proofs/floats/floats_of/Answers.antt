-- `floats::floats_of` meets its contract: figure by figure. Assumes nothing.
use Rattle.std.proofs.Common.{rules, ◌≡◌}
use Rattle.app_feed.specs.Floats.{float, floats_of}
use Rattle.app_feed.proofs.floats.floats_of.Goals as goal

pub returns : goal.returns
unfolding floats_of
returns c =
    let f = c.args.f in
    let x = c.map.result in
    let valuation : x.valuation ≡ float f.valuation = search rules in
    let market : x.market ≡ float f.market = search rules in
    let interest : x.interest ≡ float f.interest = search rules in
    let discount : x.discount ≡ float f.discount = search rules in
    let limit : x.limit ≡ float f.limit = search rules in
    λ i. record { valuation = valuation i; market = market i; interest = interest i; discount = discount i; limit = limit i }
