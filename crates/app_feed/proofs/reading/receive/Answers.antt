-- `reading::receive` meets its contract: the count, the patterns, and then the five floats. Assumes nothing.
use mathlib.Core.Path.{◌≡◌, sym, ap, ◌∙◌}
use mathlib.Core.Bool.{Bool, not}
use mathlib.Core.List.{List, map}
use Prim.Native.Nat.{ℕ}
use lib.Ieee.{Float}
use borrow.Author.Tests.{eq-eqb, ne_eqb}
use Rattle.std.specs.Prelude.{Option, None, Result, Err}
use Rattle.std.specs.Option.{ok_or}
use Rattle.std.specs.Result.{IsErrAnd}
use Rattle.std.proofs.lemmas.Option.{MatchOption-at_some, MatchOption-at_none}
use Rattle.std.proofs.lemmas.Result.{err_from_is_err_and}
use Rattle.whole.specs.Codes.{refusal_code}
use Rattle.whole.specs.Marks.{all_true}
use Rattle.whole.specs.Refusals.{leaves}
use Rattle.whole.specs.declared.codes.Refusal.{Refusal}
use Rattle.whole.specs.declared.codes.Refusal.TheVariants.{WrongLength, OutOfBounds}
use Rattle.whole.proofs.Refusals.{Code, none, hit, miss, code, kept, changed}
use Rattle.whole.proofs.Tests.{denied}
use Rattle.engine.specs.Report.{no_figures}
use Rattle.engine.proofs.Exits.{refusal_not_0}
use Rattle.app_feed.specs.Floats.{floats_of, floats_at}
use Rattle.app_feed.specs.Received.{Received, is_pattern, read_refusals, received_as, received_of}
use Rattle.figures.specs.declared.limit.Figures.{Figures}
use Rattle.app_feed.proofs.reading.receive.Goals as goal

-- refused, or not
turned_away : (bits : List ℕ) (refusal : Refusal) → Code (read_refusals bits) (refusal_code refusal) → received_as (Err refusal) ≡ received_of bits
unfolding received_of
turned_away bits refusal p =
    let zeros = kept (refusal_code refusal) (floats_at bits) (floats_of no_figures) (refusal_not_0 refusal)
    ∙ ap (λ (k : ℕ). leaves k (floats_at bits) (floats_of no_figures)) (code p) in
    λ i. record { code = code p i; figures = zeros i }

read : (bits : List ℕ) {x : Figures Float} → Code (read_refusals bits) 0 → x ≡ floats_at bits → ◌≡◌ {A = Received} (record { code = 0; figures = x }) (received_of bits)
unfolding received_of
read bits p e = λ i. record { code = code p i; figures = (e ∙ changed _ (floats_at bits) (floats_of no_figures) (sym (code p))) i }

-- an array that is no option's value was refused as a wrong length
wrong_length : (bits : List ℕ) {A : Type 0} {o : Option A} {e : Refusal} (r : Result (Figures Float) Refusal) → o ≡ None
    → ◌≡◌ {A = Result A Refusal} (Err e) (ok_or o WrongLength) → IsErrAnd r (λ y. y ≡ e) → Code (read_refusals bits) (refusal_code WrongLength) → received_as r ≡ received_of bits
wrong_length bits {A} {o} {e} r nothing said handed wrong =
    let p = err_from_is_err_and r handed in
    ap received_as (p.1 ∙ ap (λ (f : Refusal). Err f) (p.2 ∙ refusal)) ∙ turned_away bits WrongLength wrong
  where
    refusal : e ≡ WrongLength
    refusal = let q : ◌≡◌ {A = Result A Refusal} (Err e) (Err WrongLength) = said ∙ ap (λ (o : Option A). ok_or o WrongLength) nothing in cc

pub returns-in_err-bits : goal.returns-in_err-bits
returns-in_err-bits c =
    let wrong = c.in_err-bits.ensures in
    wrong_length _ _ wrong.ok_part wrong.value c.from_residual.ensures.1
    (hit (ap not (ne_eqb _ 5 (MatchOption-at_none _ _ wrong.ok_part c.as_array.ensures.cases))))

-- five numbers: what those of the array answered is what those of the slice answer
asked : {lent bits : List ℕ} {t : Bool} → bits ≡ lent → t ≡ all_true (map is_pattern bits) → not (all_true (map is_pattern lent)) ≡ not t
asked same e = ap not (sym (e ∙ ap (λ (bits : List ℕ). all_true (map is_pattern bits)) same))

pub returns-then-not-all_patterns : goal.returns-then-not-all_patterns
returns-then-not-all_patterns c =
    let whole = MatchOption-at_some _ _ _ c.in_ok-bits.ensures.ok_part c.as_array.ensures.cases in
    turned_away _ OutOfBounds (miss (denied (eq-eqb _ 5 whole.long)) (hit (asked whole.same c.if-not-all_patterns.ensures)))

pub returns : goal.returns
returns c =
    let whole = MatchOption-at_some _ _ _ c.in_ok-bits.ensures.ok_part c.as_array.ensures.cases in
    read _ (miss (denied (eq-eqb _ 5 whole.long)) (miss (asked whole.same c.if-not-all_patterns.ensures) none)) (c.floats_at.ensures ∙ ap floats_at whole.same)
