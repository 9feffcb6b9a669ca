-- Demand 2 for orders, as specs/Admission states it: where an order stands, the two reports answer 0, and the grounds decide. Assumes nothing.
use mathlib.Core.Path.{◌≡◌, refl, sym, ap, ap₂, ◌∙◌}
use mathlib.Core.Bool.{Bool, true, false, not}
use mathlib.Core.Logic.{inl, inr, ⊎_elim}
use Prim.Native.Nat.{ℕ}
use native.Mathlib.Omega.{arith}
use lib.IntN.{ℤ, pos}
use lib.Signed.{le_z, lt_z}
use Rattle.whole.specs.Refusals.{first_code, negative_limit}
use Rattle.whole.proofs.Refusals.{none, hit, miss, code, first_zero}
use Rattle.whole.proofs.Rules.{ints}
use Rattle.whole.proofs.Tests.{or_cases, or_left_off}
use Rattle.rates.specs.Lent.{Tables}
use Rattle.book.specs.Choices.{trade_of}
use Rattle.book.specs.Changes.{traded}
use Rattle.book.specs.declared.changes.Trade.{Trade}
use Rattle.book.specs.declared.terms.Terms.{Terms}
use Rattle.book.proofs.AtAccount.{at_long}
use Rattle.book.proofs.Traded.{traded_length, traded_head, traded_listed}
use Rattle.settlement.specs.Code.{code_holds_listed}
use Rattle.engine.specs.State.{State, block_at}
use Rattle.engine.specs.Refused.{report_refusals, order_stands, order_judged, limit_of, enough, raised, admitted}
use Rattle.engine.specs.Calls.{Outcome, outcome_of, ordering, judged_trade, changing}
use Rattle.engine.specs.Report.{report_of}
use Rattle.engine.proofs.Gates.{report_answers}
use Rattle.engine.proofs.Judged.{judgeable_booked}
use Rattle.engine.proofs.Judged as still
use Rattle.engine.proofs.Outcomes.{turned_away, let_through, made}
use Rattle.engine.proofs.Passed.{OrderStood, order_stood}
use Rattle.engine.proofs.Reports.{answers_0, limit_reported}
use Rattle.promises.specs.Admission.{Ground, with_order, Admits, Admission}

-- the test of the grounds, passed and failed
a_ground : {before after : ℤ} → admitted before after ≡ true → Ground before after
unfolding admitted enough raised
a_ground {before} {after} e = ⊎_elim (λ first. inl (omega ints)) (λ second. inr (omega ints)) (or_cases (le_z (pos 0) after) (lt_z before after) e)

no_ground : {before after : ℤ} → admitted before after ≡ false → Ground before after → ⊥
unfolding admitted enough raised
no_ground {before} {after} e g =
    let first = or_left_off (le_z (pos 0) after) (lt_z before after) e in
    let second : lt_z before after ≡ false = rw first at e in
    ⊎_elim (λ h. omega ints) (λ h. omega ints) g

module _ (tables : Tables) (i : ℕ) (o : Terms) (s : State) (stands : first_code (order_stands tables i o s) ≡ 0) where
  abbrev t : Trade
  t = trade_of o

  abbrev booked : State
  booked = with_order i o s

  stood : OrderStood tables i o s
  stood = order_stood tables i o s stands

  listed_still : code_holds_listed booked.book i tables.clearing ≡ true
  listed_still = let r = stood.reported in let ranges = stood.stands.tradable.ranges in
      still.listed_still i s (λ b. traded b t) r.gate.there (traded_length (block_at s i) t) (traded_head (block_at s i) t ranges) tables.clearing r.listed
      (λ own. traded_listed (block_at s i) t ranges tables.clearing own stood.asset_listed)

  -- the two reports
  pub found_reports : (report_of tables i s).code ≡ 0
  found_reports = answers_0 tables i s (first_zero (report_refusals tables i s) _ stands)

  pub booked_reports : (report_of tables i booked).code ≡ 0
  booked_reports = let q = stood in answers_0 tables i booked
      (report_answers tables i s booked q.reported.gate_0
      (at_long s.book i q.reported.gate.there (λ b. traded b t) (traded_length (block_at s i) t) ∙ sym q.reported.gate.there.long)
      (judgeable_booked tables i s t q.stands) listed_still)

  -- what the order answers and leaves
  abbrev test : Bool
  test = admitted (report_of tables i s).figures.limit (report_of tables i booked).figures.limit

  asked : not (admitted (limit_of tables i s) (limit_of tables i booked)) ≡ not test
  asked = ap not (ap₂ admitted (sym (limit_reported tables i s found_reports)) (sym (limit_reported tables i booked booked_reports)))

  stood_through : outcome_of (judged_trade tables i t) s ≡ outcome_of (ordering tables i o) s
  unfolding ordering
  stood_through = let_through (order_stands tables i o) (judged_trade tables i t) s tt stands

  on_a_ground : test ≡ true → outcome_of (ordering tables i o) s ≡ record { code = 0; state = booked }
  unfolding judged_trade
  on_a_ground e = sym (made (order_judged tables i t) i (λ b. traded b t) s tt (sym (code (miss (asked ∙ ap not e) none))) refl ∙ stood_through)

  on_none : test ≡ false → outcome_of (ordering tables i o) s ≡ record { code = negative_limit; state = s }
  unfolding judged_trade
  on_none e = sym (turned_away (order_judged tables i t) (changing i (λ b. traded b t)) s (code (hit (asked ∙ ap not e))) (λ z. omega arith) refl ∙ stood_through)

  by : (b : Bool) → test ≡ b → Admits tables i o s
  by true e = let q = on_a_ground e in let zero = ap (λ (r : Outcome). r.code) q in record {
    reported_before = found_reports;
    reported_after = booked_reports;
    zero_where = λ g. zero;
    zero_only = λ z. a_ground e;
    then_booked = λ z. ap (λ (r : Outcome). r.state) q;
    else_refused = λ no. absurd (no zero);
  }
  by false e = let q = on_none e in record {
    reported_before = found_reports;
    reported_after = booked_reports;
    zero_where = λ g. absurd (no_ground e g);
    zero_only = λ z. absurd (ten q z);
    then_booked = λ z. absurd (ten q z);
    else_refused = λ no. q;
  }
    where
      ten : {r : Outcome} → r ≡ record { code = negative_limit; state = s } → r.code ≡ 0 → ⊥
      ten q z = let w = sym (ap (λ (r : Outcome). r.code) q) ∙ z in omega arith

pub admission : Admission
admission tables i o s stands = by tables i o s stands _ refl

-- of an order that answers 0 nothing from 1 to 9 applied
pub stands_0 : (tables : Tables) (i : ℕ) (o : Terms) (s : State) → (outcome_of (ordering tables i o) s).code ≡ 0 → first_code (order_stands tables i o s) ≡ 0
unfolding outcome_of ordering judged_trade
stands_0 tables i o s e = first_zero (order_stands tables i o s) _ e

pub order_passed : (tables : Tables) (i : ℕ) (o : Terms) (s : State) → (outcome_of (ordering tables i o) s).code ≡ 0 → Admits tables i o s
order_passed tables i o s e = admission tables i o s (stands_0 tables i o s e)
