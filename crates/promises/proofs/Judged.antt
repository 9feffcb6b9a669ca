-- After an order or a move that passed, the report of the state left answers 0 with that state's figures (specs/EveryCall). Assumes nothing.
use mathlib.Core.Path.{◌≡◌, sym, ap, ◌∙◌, subst}
use mathlib.Core.Bool.{true, ◌&&◌}
use mathlib.Core.List.{List, [], ◌∷◌, ◌++◌}
use mathlib.Core.Logic.{⊎_elim}
use Prim.Native.Nat.{ℕ}
use native.Mathlib.Omega.{arith}
use lib.IntN.{ℤ, nat_abs}
use borrow.Author.Tests.{not-false}
use Rattle.whole.specs.Refusals.{Refusal, ◌gives◌, first_code, out_of_bounds}
use Rattle.whole.proofs.Bounds.{equal_says}
use Rattle.whole.proofs.Tests.{and_left, and_right, or_cases}
use Rattle.rates.specs.Tables.{listed}
use Rattle.whole.proofs.Refusals.{changed, none_holds, first_zero, second_zero}
use Rattle.book.specs.Rules.{holds_listed}
use Rattle.book.specs.Choices.{asset_right, is_rubles}
use Rattle.book.specs.Changes.{moved, move_out}
use Rattle.book.proofs.AtAccount.{at_long}
use Rattle.book.proofs.Moved.{moved_length, moved_head, moved_listed, rubles_listed}
use Rattle.rates.specs.Lent.{Tables}
use Rattle.engine.specs.State.{State, block_at, changed_at}
use Rattle.engine.specs.Refused.{move_checks, move_stands, report_refusals, figures_at}
use Rattle.engine.specs.Calls.{outcome_of, moving, judged_move}
use Rattle.engine.specs.Report.{report_of}
use Rattle.engine.proofs.Gates.{report_answers}
use Rattle.engine.proofs.Judged.{listed_still, judgeable_moved}
use Rattle.engine.proofs.Passed.{MoveStood, move_stood}
use Rattle.whole.proofs.Parameters.{index_is}
use Rattle.engine.proofs.Reports.{answers_0, figures_reported}
use Rattle.promises.specs.EveryCall.{OrderReported, MoveReported}
use Rattle.promises.proofs.Admission.{order_passed}

-- what a report that answers 0 says, of a state and of one that is equal to it
says : (tables : Tables) (i : ℕ) {left booked : State} → left ≡ booked → (report_of tables i booked).code ≡ 0
    → ((report_of tables i left).code ≡ 0) × ((report_of tables i left).figures ≡ figures_at tables i left)
says tables i same z = subst (λ (q : State). ((report_of tables i q).code ≡ 0) × ((report_of tables i q).figures ≡ figures_at tables i q)) (sym same)
    (z, figures_reported tables i _ z)

pub order_reported : OrderReported
order_reported tables i o s e = let a = order_passed tables i o s e in says tables i (a.then_booked e) a.reported_after

-- ---- after a move that passed
module _ (tables : Tables) (i : ℕ) (asset amount : ℤ) (s : State) (e : (outcome_of (moving tables i asset amount) s).code ≡ 0) where
  abbrev block : List ℤ
  block = block_at s i

  abbrev checks : List Refusal
  checks = move_checks tables.clearing asset amount

  abbrev moved_state : State
  moved_state = changed_at i (λ b. moved b (nat_abs asset) amount) s

  move_stands_lem : first_code (move_stands tables i asset amount s) ≡ 0
  unfolding outcome_of moving judged_move
  move_stands_lem = first_zero (move_stands tables i asset amount s) _ e

  stood_move : MoveStood tables i asset amount s
  stood_move = move_stood tables i asset amount s move_stands_lem

  checks_0 : first_code checks ≡ 0
  checks_0 =
      let nine : List Refusal = move_out block (nat_abs asset) amount gives out_of_bounds ∷ [] in
      first_zero checks nine (second_zero (report_refusals tables i s) (checks ++ nine) tt move_stands_lem)

  moved_is : (outcome_of (moving tables i asset amount) s).state ≡ moved_state
  unfolding outcome_of moving judged_move
  moved_is = sym (changed _ moved_state s e)

  listed_moved : holds_listed block tables.clearing ≡ true → holds_listed (moved block (nat_abs asset) amount) tables.clearing ≡ true
  listed_moved held = let within = asset_right asset in
      ⊎_elim
      (λ r. subst (λ (a : ℕ). holds_listed (moved block a amount) tables.clearing ≡ true) (sym (ap nat_abs (equal_says r)))
      (rubles_listed block amount tables.clearing held))
      (λ r. let h = index_is asset 15 (and_left within (listed tables.clearing (nat_abs asset)) r) in
      moved_listed block (nat_abs asset) amount (omega arith) tables.clearing held (and_right within (listed tables.clearing (nat_abs asset)) r))
      (or_cases (is_rubles asset) (within && listed tables.clearing (nat_abs asset)) (not-false _ (none_holds checks tt checks_0 0)))

  move_reports : first_code (report_refusals tables i moved_state) ≡ 0
  move_reports = let q = stood_move in let long = moved_length block (nat_abs asset) amount in let there = q.reported.gate.there in
      report_answers tables i s moved_state q.reported.gate_0 (at_long s.book i there (λ b. moved b (nat_abs asset) amount) long ∙ sym there.long)
      (judgeable_moved tables i s (nat_abs asset) amount q.stands)
      (listed_still i s (λ b. moved b (nat_abs asset) amount) there long (moved_head block (nat_abs asset) amount q.stands.movable.movable) tables.clearing
      q.reported.listed listed_moved)

pub move_reported : MoveReported
move_reported tables i asset amount s e = says tables i (moved_is tables i asset amount s e) (answers_0 tables i _ (move_reports tables i asset amount s e))
