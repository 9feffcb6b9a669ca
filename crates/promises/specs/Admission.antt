-- Demand 2 for orders, with document 02's #101: for every order that no code from 1 to 9 turns away, a report answers 0 before it and with its trade
-- booked; the order answers 0 exactly when one of the two grounds holds of the limits that these reports give; then the state is the one with its trade
-- booked, else the code is 10 and the state is as it was. A type, which proofs/Admission proves.
-- Assumes nothing.
use Rattle.std.specs.Prelude.{◌≡◌, ◌⊎◌, ℕ, ℤ, pos, ◌≤ℤ◌, ◌<ℤ◌}
use Rattle.whole.specs.Refusals.{first_code, negative_limit}
use Rattle.rates.specs.Lent.{Tables}
use Rattle.book.specs.Choices.{trade_of}
use Rattle.book.specs.Changes.{traded}
use Rattle.book.specs.declared.terms.Terms.{Terms}
use Rattle.engine.specs.State.{State, changed_at}
use Rattle.engine.specs.Refused.{order_stands}
use Rattle.engine.specs.Calls.{Outcome, outcome_of, ordering}
use Rattle.engine.specs.Report.{report_of}

-- ---- the words
-- the limit after is zero or more, or it is strictly greater than the limit before
abbrev pub ZeroOrMore : ℤ → Type 0
ZeroOrMore after = pos 0 ≤ℤ after

abbrev pub Ground : ℤ → ℤ → Type 0
Ground before after = ZeroOrMore after ⊎ (before <ℤ after)

-- the state with an order's trade booked in the account's block, and nothing else changed
abbrev pub with_order : ℕ → Terms → State → State
with_order i o = changed_at i (λ b. traded b (trade_of o))

-- ---- the statement
module _ (tables : Tables) (i : ℕ) (o : Terms) (s : State) where
  abbrev pub outcome : Outcome
  outcome = outcome_of (ordering tables i o) s

  abbrev pub before : ℤ
  before = (report_of tables i s).figures.limit

  abbrev pub after : ℤ
  after = (report_of tables i (with_order i o s)).figures.limit

  pub record Admits : Type 0 where
    pub reported_before : (report_of tables i s).code ≡ 0
    pub reported_after : (report_of tables i (with_order i o s)).code ≡ 0
    pub zero_where : Ground before after → outcome.code ≡ 0
    pub zero_only : outcome.code ≡ 0 → Ground before after
    pub then_booked : outcome.code ≡ 0 → outcome.state ≡ with_order i o s
    pub else_refused : (outcome.code ≡ 0 → ⊥) → outcome ≡ record { code = negative_limit; state = s }

abbrev pub Admission : Type 0
Admission = (tables : Tables) (i : ℕ) (o : Terms) (s : State) → first_code (order_stands tables i o s) ≡ 0 → Admits tables i o s
