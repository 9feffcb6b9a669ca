-- The outcome of a call that first goes through a list of refusals: where the list refuses, where it lets through, and where the change is made.
-- Assumes nothing.
use mathlib.Core.Path.{◌≡◌, refl, sym, ap, ◌∙◌}
use mathlib.Core.List.{List}
use Prim.Native.Nat.{ℕ}
use lib.Dec.{T}
use lib.IntN.{ℤ}
use Rattle.std.specs.Prelude.{Result}
use Rattle.std.specs.Result.{IsErrAnd}
use Rattle.whole.specs.Refusals.{Refusal, first_code, leaves}
use Rattle.whole.specs.Codes.{refusal_code, answer_code}
use Rattle.whole.specs.declared.codes.Refusal.{Refusal as Refused}
use Rattle.whole.proofs.Refusals.{coded, kept, changed, stops, goes_on}
use Rattle.book.specs.AtAccount.{at_account}
use Rattle.engine.specs.State.{State, with_book, changed_at}
use Rattle.engine.specs.Calls.{Call, Outcome, outcome_of, changing, ◌before◌}
use Rattle.engine.proofs.Exits.{refusal_not_0, exit_code}

module _ (first : State → List Refusal) (call : Call) (s : State) where
  -- the code is the list's, and nothing is changed; `b` is the book that was left
  pub turned_away : {n : ℕ} {b : List ℤ} → n ≡ first_code (first s) → (n ≡ 0 → ⊥) → b ≡ s.book
      → ◌≡◌ {A = Outcome} (record { code = n; state = with_book s b }) (outcome_of (first before call) s)
  unfolding outcome_of
  turned_away {n} {b} e h left =
      let q = stops (first s) (call.refusals s) e h in
      let same : with_book s b ≡ s = ap (with_book s) left in
      λ i. record { code = q i; state = (same ∙ kept _ (call.change s) s (λ z. h (q ∙ z))) i }

  pub let_through : T (coded (first s)) → first_code (first s) ≡ 0 → outcome_of call s ≡ outcome_of (first before call) s
  unfolding outcome_of
  let_through c e = ap (λ (n : ℕ). record { code = n; state = leaves n (call.change s) s }) (sym (goes_on (first s) (call.refusals s) c e))

  -- as a `?` answers it that passes on what the list gave
  pub exit_away : (r : Result Unit Refused) (refusal : Refused) → IsErrAnd r (λ e. e ≡ refusal) → refusal_code refusal ≡ first_code (first s)
      → ◌≡◌ {A = Outcome} (record { code = answer_code r; state = s }) (outcome_of (first before call) s)
  exit_away r refusal h e = let k = exit_code r refusal h in turned_away (k ∙ e) (λ z. refusal_not_0 refusal (sym k ∙ z)) refl

-- the change is made
pub made : (first : State → List Refusal) (i : ℕ) (change : List ℤ → List ℤ) (s : State) → T (coded (first s)) → first_code (first s) ≡ 0
    → {b : List ℤ} → b ≡ at_account s.book i change
    → ◌≡◌ {A = Outcome} (record { code = 0; state = with_book s b }) (outcome_of (first before changing i change) s)
unfolding outcome_of first_code
made first i change s c e left =
    (λ k. record { code = 0; state = with_book s (left k) })
    ∙ (λ k. record { code = 0; state = changed 0 (changed_at i change s) s refl k })
    ∙ let_through first (changing i change) s c e
