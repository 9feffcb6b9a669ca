-- The two grounds of an order: on the first it is admitted; without it the second decides. Assumes nothing.
use mathlib.Core.Path.{◌≡◌, sym, ap}
use mathlib.Core.Bool.{Bool, true, false, not, ◌||◌}
use mathlib.Core.List.{[], ◌∷◌}
use Prim.Native.Nat.{ℕ}
use Rattle.whole.specs.Refusals.{◌gives◌, first_code, leaves, negative_limit}
use Rattle.whole.proofs.Refusals.{none, miss, code}
use Rattle.rates.specs.Lent.{Tables}
use Rattle.book.specs.Changes.{traded}
use Rattle.book.specs.declared.changes.Trade.{Trade}
use Rattle.engine.specs.State.{State, changed_at}
use Rattle.engine.specs.Refused.{limit_of, enough, raised, admitted, order_judged}
use Rattle.engine.specs.Calls.{Outcome, outcome_of, judged_trade, raising_trade}

module _ (tables : Tables) (i : ℕ) (t : Trade) (s : State) where
  abbrev booked : State
  booked = changed_at i (λ b. traded b t) s

  abbrev second : Bool
  second = raised (limit_of tables i s) (limit_of tables i booked)

  pub first_ground : enough (limit_of tables i booked) ≡ true → first_code (order_judged tables i t s) ≡ 0
  unfolding admitted
  first_ground e = sym (code (miss (ap (λ (first : Bool). not (first || second)) e) none))

  pub second_ground : enough (limit_of tables i booked) ≡ false
      → outcome_of (raising_trade tables i t (limit_of tables i booked)) s ≡ outcome_of (judged_trade tables i t) s
  unfolding outcome_of raising_trade judged_trade admitted
  second_ground e = ap judged (sym e)
    where
      judged : Bool → Outcome
      judged first = let n = first_code (not (first || second) gives negative_limit ∷ []) in record { code = n; state = leaves n booked s }
