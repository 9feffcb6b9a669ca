-- #103 of the calls (specs/OwnRows): a list of refusals that begins with the gate of the tables and gives 13 nowhere else. Assumes nothing.
use mathlib.Core.Path.{◌≡◌, refl, sym, ap, ◌∙◌}
use mathlib.Core.Bool.{Bool, true, false, not, ◌&&◌}
use mathlib.Core.List.{List, [], ◌∷◌}
use mathlib.Core.Logic.{◌≢◌}
use Prim.Native.Nat.{ℕ}
use native.Mathlib.Omega.{arith}
use lib.IntN.{ℤ, pos, nat_abs}
use lib.ListN.{length}
use lib.Dec.{eqb}
use borrow.Author.Tests.{eq-eqb}
use Rattle.whole.specs.Parts.{number}
use Rattle.whole.specs.Refusals.{Refusal, ◌gives◌, first_code, wrong_length, broken_number, laxer_own_row}
use Rattle.whole.proofs.Refusals.{refused}
use Rattle.whole.proofs.Rules.{ints}
use Rattle.whole.proofs.Tests.{true_not_false, and_left, and_right}
use Rattle.rates.specs.Lent.{Tables}
use Rattle.rates.specs.Tables.{lengths_right, sound_tables, only_stricter, table_refusals, check_code}
use Rattle.book.specs.Block.{book_length}
use Rattle.engine.specs.State.{State}
use Rattle.engine.specs.Calls.{outcome_of, opening, judged_opening, rolling, moving, judged_move, ordering, judged_trade}
use Rattle.engine.specs.Report.{report_of}
use Rattle.promises.specs.Sums.{◌is◌, state_in, tables_in}
use Rattle.promises.specs.OwnRows.{AsChecked, OwnRowsAsked, CanRaise, own_row_a, owes_ten}
use Rattle.promises.proofs.Computed.{computed}

-- ---- a list in which no test gives 13
abbrev without13 : List Refusal → Bool
without13 [] = true
without13 (t gives k ∷ rs) = not (eqb k laxer_own_row) && without13 rs

never_13 : (rs : List Refusal) → without13 rs ≡ true → first_code rs ≢ laxer_own_row
unfolding first_code
never_13 [] w e = absurd (omega arith)
never_13 (true gives k ∷ rs) w e = true_not_false (ap not (sym (eq-eqb k laxer_own_row e)) ∙ and_left _ (without13 rs) w)
never_13 (false gives k ∷ rs) w e = never_13 rs (and_right (not (eqb k laxer_own_row)) (without13 rs) w) e

-- ---- a list that begins with the gate of the tables, and the table check's own
abbrev gated : Bool → Bool → Bool → Bool → List Refusal → ℕ
gated sized right sound stricter rest =
    first_code (not (sized && right) gives wrong_length ∷ not sound gives broken_number ∷ not stricter gives laxer_own_row ∷ rest)

asked : (tables : Tables) (s : State) (rest : List Refusal) → without13 rest ≡ true
    → AsChecked tables s (gated (eqb (length s.book) book_length) (lengths_right tables) (sound_tables tables) (only_stricter tables) rest)
unfolding check_code first_code
asked tables s rest w = record {
  passed_on = λ long h. rw (eq-eqb (length s.book) book_length long) (refused (not (lengths_right tables) gives wrong_length ∷ table_refusals tables) rest h);
  only_then = by (eqb (length s.book) book_length) (lengths_right tables) (sound_tables tables) (only_stricter tables);
}
  where
    by : (z l s o : Bool) → gated z l s o rest ≡ laxer_own_row → gated true l s o [] ≡ laxer_own_row
    by true true true true e = absurd (never_13 rest w e)
    by true true true false e = refl
    by true true false o e = absurd (omega arith)
    by true false s o e = absurd (omega arith)
    by false l s o e = absurd (omega arith)

pub own_rows_asked : OwnRowsAsked
unfolding outcome_of opening judged_opening rolling moving judged_move ordering judged_trade report_of
own_rows_asked = record {
  reports = λ tables i s. asked tables s _ refl;
  moves = λ tables i asset amount s. asked tables s _ refl;
  moves_stand = λ tables i asset amount s. asked tables s _ refl;
  orders = λ tables i o s. asked tables s _ refl;
  orders_stand = λ tables i o s. asked tables s _ refl;
  opens = λ i kind code s. never_13 _ refl;
  rolls = λ i s. never_13 _ refl;
}

pub can_raise : CanRaise
can_raise claim =
    let r = computed.raised.by_special_delivery in
    let code : List ℤ → ℕ = λ said. nat_abs (number said 0) in
    let limit : List ℤ → ℤ = λ said. number said 5 in
    let h = claim (tables_in owes_ten) (own_row_a (5 is pos 1)) 0 (state_in owes_ten) r.no_own_rows (ap code r.without) (ap code r.with_own) in
    omega (ints, ap limit r.without, ap limit r.with_own)
