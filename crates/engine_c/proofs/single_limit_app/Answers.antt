-- `engine_c::single_limit_app` meets its contract: the feed's answer, with its gauge as a number and a float. Assumes nothing.
use mathlib.Core.Path.{◌≡◌, ap, ◌∙◌}
use Prim.Native.Nat.{ℕ}
use lib.IntN.{ℤ}
use lib.Ieee.{Float}
use mir.Facts.{to_z-of_z}
use Rattle.rates.specs.Lent.{lent}
use Rattle.engine.specs.State.{state}
use Rattle.engine.specs.Refused.{place_of}
use Rattle.app_feed.specs.Gauge.{gauge_of, gauge_number, gauge_shown}
use Rattle.app_feed.specs.Feed.{Sent, sent_of, fed_of, fed_as}
use Rattle.app_feed.specs.declared.gauge.Gauge.{Gauge}
use Rattle.app_feed.specs.declared.gauge.Gauge.TheVariants.{Empty}
use Rattle.engine_c.specs.Face.{Screen, screen_of}
use Rattle.engine_c.proofs.single_limit_app.Goals as goal
use Rattle.engine_c.proofs.single_limit_app.Goals.{After-shown, in-Ok, in-Err}

-- what is sent, as the screen takes it
screened : (sent meant : Sent) {code number : ℕ} {shown : Float} → sent ≡ meant → code ≡ sent.fed.code → number ≡ gauge_number sent.fed.gauge
    → shown ≡ gauge_shown sent.fed.gauge
    → ◌≡◌ {A = Screen} (record { code = code; bits = sent.bits; gauge = number; shown = shown })
    (record { code = meant.fed.code; bits = meant.bits; gauge = gauge_number meant.fed.gauge; shown = gauge_shown meant.fed.gauge })
screened sent meant e k n x =
    (λ i. record { code = k i; bits = sent.bits; gauge = n i; shown = x i })
    ∙ ap (λ (s : Sent). record { code = s.fed.code; bits = s.bits; gauge = gauge_number s.fed.gauge; shown = gauge_shown s.fed.gauge }) e

-- the code and the gauge are the feed's; of a refused one, whose figures are zeros, the gauge is empty
told : (c : After-shown) → c.match-fed.code ≡ ((fed_as c.feed-fed.result).code, (fed_as c.feed-fed.result).gauge)
unfolding fed_of gauge_of
told c =
    elim c.match-fed.branch [ in-Ok w ↦ rw w.in-Ok.is w.code-is | in-Err w ↦ rw w.in-Err.is (w.code-is ∙ ap (λ (n : ℕ). (n, Empty)) w.from.ensures) ]

pub returns : goal.returns
unfolding screen_of
returns c =
    let a = c.args in
    let tables = lent a.clearing a.own a.groups in
    screened (record { fed = fed_as c.feed-fed.result; bits = c.feed-fed.new.bits }) (sent_of tables (place_of a.account) (state a.book.now) a.bits.now)
    (c.feed-fed.ensures ∙ ap (λ (z : ℤ). sent_of tables (place_of z) (state a.book.now) a.bits.now) (to_z-of_z c.ranges.account))
    (ap (λ (p : ℕ × Gauge). p.0) (told c)) (c.from-2.ensures ∙ ap (λ (p : ℕ × Gauge). gauge_number p.1) (told c))
    (c.shown.ensures ∙ ap (λ (p : ℕ × Gauge). gauge_shown p.1) (told c))
