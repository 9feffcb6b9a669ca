-- What demand 3 rests on (specs/Needed), from what is computed. Assumes nothing.
use mathlib.Core.Path.{◌≡◌, refl, sym, ap, ◌∙◌}
use mathlib.Core.Bool.{true}
use mathlib.Core.List.{List, []}
use mathlib.Core.Logic.{◌≢◌, inl}
use Prim.Native.Nat.{ℕ, ◌<◌}
use native.Mathlib.Omega.{arith}
use lib.IntN.{ℤ, pos, nat_abs}
use lib.ListN.{length, get_or}
use lib.Signed.{◌<ℤ◌}
use Rattle.whole.specs.Parts.{number}
use Rattle.whole.specs.Refusals.{leaves}
use Rattle.whole.proofs.Rules.{ints}
use Rattle.book.specs.Changes.{added}
use Rattle.book.specs.Rules.{good_block}
use Rattle.book.proofs.Changed.{added_length, number_added, number_beside}
use Rattle.book.proofs.Moves.{move_inside}
use Rattle.settlement.proofs.Mates.{on_itself}
use Rattle.figures.specs.Laws.{Covered}
use Rattle.engine.specs.State.{State, block_at}
use Rattle.promises.specs.Sums.{state_in, tables_in, S1, S2, S4}
use Rattle.promises.specs.Deposit.{collateral_in, OnCodeOf, MoreCollateral}
use Rattle.promises.specs.Needed.{Exhibit, deposited, lost_whole, partly, buy_back, ten_more, NotPartial, CoverNeeded, NotPartialNeeded, ZeroOrMoreNeeded}
use Rattle.promises.specs.Needed.{one_figure, OneFigureRefused}
use Rattle.promises.proofs.Computed.{computed}

-- of answer k of a list: the code and the limit
abbrev code_at : ℕ → List (List ℤ) → ℕ
code_at k found = nat_abs (number (get_or found k []) 0)

abbrev limit_at : ℕ → List (List ℤ) → ℤ
limit_at k found = number (get_or found k []) 5

-- a book with an amount added to the collateral of account 0 in asset 0
abbrev place : ℕ
place = collateral_in 0 0

more_added : (s other : State) (amount : ℤ) → length s.book ≡ 4608 → pos 0 <ℤ amount → other.book ≡ added s.book place amount
    → good_block (block_at other 0) ≡ true → MoreCollateral s other 0 0 amount
more_added s other amount long positive book_is good =
    let small = move_inside 0 (inl (omega arith)) in
    let inside : place < length s.book = omega (arith, long) in record {
      more = positive;
      there = ap (λ (b : List ℤ). number b place) book_is ∙ number_added s.book place amount inside;
      elsewhere = λ k apart. ap (λ (b : List ℤ). number b k) book_is ∙ number_beside s.book place amount k apart;
      same_length = ap length book_is ∙ added_length s.book place amount;
      in_rules = good;
    }

more_deposited : MoreCollateral (state_in S1) deposited 0 0 (pos 2)
more_deposited = more_added (state_in S1) deposited (pos 2) computed.facts.long (omega ints) refl computed.facts.still_good

more_troubled : MoreCollateral (state_in S4) ten_more 0 0 (pos 10)
more_troubled = more_added (state_in S4) ten_more (pos 10) computed.facts.troubled_long (omega ints) refl computed.facts.ten_more_good

-- account 0 receives it itself
itself : (s : State) → OnCodeOf 0 s 0
itself s = record { an_account = omega arith; on_code = on_itself s.book 0 }

-- a row that is marked 0 is not marked 2
not_two : {x : ℤ} → x ≡ pos 0 → x ≢ pos 2
not_two e f = let two : ◌≡◌ {A = ℕ} 0 2 = ap nat_abs (sym e ∙ f) in omega arith

row_a_covered : Covered (tables_in S1) 0
row_a_covered = record { an_asset = omega arith; passes = computed.facts.covers; not_partial = not_two computed.facts.sales }

pub exhibit : Exhibit
exhibit = let f = computed.facts in record {
  answers = ap (code_at 1) computed.sums_met;
  covered = row_a_covered;
  more = more_added (state_in S1) (state_in S2) (pos 40) f.long (omega ints) f.richer f.richer_good;
}

pub cover_needed : CoverNeeded
cover_needed claim =
    let found = computed.cases_answered in
    let listed-whole : NotPartial lost_whole 0 = (computed.facts.lost_listed, not_two computed.facts.lost_sales) in
    let h = (claim lost_whole 0 (state_in S1) (ap (code_at 0) found) 0 listed-whole 0 (itself (state_in S1)) deposited (pos 2) more_deposited).1 in
    omega (ints, ap (limit_at 0) found, ap (limit_at 1) found)

pub not_partial_needed : NotPartialNeeded
not_partial_needed claim =
    let found = computed.cases_answered in
    let h = (claim partly 0 (state_in S1) (ap (code_at 2) found) 0 (omega arith, computed.facts.partly_covers) 0 (itself (state_in S1)) deposited (pos 2) more_deposited).1 in
    omega (ints, ap (limit_at 2) found, ap (limit_at 3) found)

-- S4's tables are S1's: row A for asset 0 and no own row
pub zero_or_more_needed : ZeroOrMoreNeeded
zero_or_more_needed claim =
    let f = computed.facts in
    let answers = ap (code_at 4) computed.sums_met in
    let h = claim (tables_in S4) 0 (state_in S4) answers 0 (inl row_a_covered) ten_more (pos 10) more_troubled 0 buy_back f.bought_back tt in
    let ten = sym f.not_bought_back ∙ h in omega arith

pub one_figure_refused : OneFigureRefused
unfolding one_figure leaves
one_figure_refused fixed first second =
    let found = computed.sums_met in
    let none : fixed.limit ≡ pos 0 = ap (λ (f : List ℤ). number f 4) (rw (ap (code_at 1) found) at first) in
    let some : fixed.limit ≡ pos 158000 = ap (λ (f : List ℤ). number f 4) (rw (ap (code_at 2) found) at second) in
    omega ints
