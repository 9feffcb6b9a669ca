-- `engine_c::single_limit_report` meets its contract: a buffer of five numbers takes the five figures, any other is turned away. Assumes nothing.
use mathlib.Core.Path.{◌≡◌, refl, ap, ◌∙◌}
use mathlib.Core.List.{[], ◌∷◌}
use lib.IntN.{ℤ}
use mir.Facts.{to_z-of_z}
use borrow.Author.Rules.{rules}
use Rattle.rates.specs.Lent.{lent}
use Rattle.figures.specs.Limit.{five}
use Rattle.figures.specs.declared.limit.Figures.{Figures}
use Rattle.engine.specs.State.{state}
use Rattle.engine.specs.Refused.{place_of}
use Rattle.engine.specs.Report.{Reported, report_of}
use Rattle.engine_c.specs.Face.{filled_report}
use Rattle.engine_c.proofs.Filling.{turned_away, taken}
use Rattle.engine_c.proofs.single_limit_report.Goals as goal

pub returns-in_default : goal.returns-in_default
unfolding filled_report
returns-in_default c = rw c.from.ensures (turned_away _ _ _ c.in_default.ensures.cases)

-- each figure as it was reported, or read back from its bits: one that stands in another's place is refused at its own turn
ruleset as_reported = (rules, refl, to_z-of_z)

same_five : {v m i d l : ℤ} (x : Figures ℤ) → v ≡ x.valuation → m ≡ x.market → i ≡ x.interest → d ≡ x.discount → l ≡ x.limit
    → five (record { valuation = v; market = m; interest = i; discount = d; limit = l }) ≡ five x
same_five x a b c d e = λ t. a t ∷ b t ∷ c t ∷ d t ∷ e t ∷ []

pub returns-in-Ok : goal.returns-in-Ok
unfolding filled_report
returns-in-Ok c =
    let a = c.args in
    let l = c.in-Some.ensures.cases.long in
    let r = c.in-Ok.ensures
    ∙ ap (λ (z : ℤ). report_of (lent a.clearing a.own a.groups) (place_of z) (state a.book.now)) (to_z-of_z c.ranges.account) in
    taken a.figures.now l (ap (λ (r : Reported). r.code) r)
    (c.five.ensures
    ∙ same_five c.in-Ok.found (search as_reported) (search as_reported) (search as_reported) (search as_reported) (search as_reported)
    ∙ ap (λ (r : Reported). five r.figures) r)

pub returns-in-Err : goal.returns-in-Err
unfolding filled_report
returns-in-Err c =
    let a = c.args in
    let l = c.in-Some.ensures.cases.long in
    let r = c.in-Err.ensures
    ∙ ap (λ (z : ℤ). report_of (lent a.clearing a.own a.groups) (place_of z) (state a.book.now)) (to_z-of_z c.ranges.account) in
    taken a.figures.now l (c.from-in-Err.ensures ∙ ap (λ (r : Reported). r.code) r)
    (ap (λ (r : Reported). five r.figures) r)
