-- Accounts that share a settlement code, and books in which every code is right (specs/Codes). Assumes nothing.
use mathlib.Core.Path.{◌≡◌, refl, sym, ap, ◌∙◌, subst}
use mathlib.Core.Bool.{Bool, true, false, cond, not, ◌&&◌}
use mathlib.Core.List.{List, [], ◌∷◌, ◌++◌}
use Prim.Native.Nat.{ℕ, ◌<◌}
use lib.Dec.{eqb}
use lib.IntN.{ℤ, nat_abs}
use lib.ListN.{length}
use borrow.Author.Tests.{eqb-true, lt-ltb}
use Rattle.whole.specs.Bounds.{between, is_zero}
use Rattle.whole.specs.Parts.{number}
use Rattle.whole.specs.Refusals.{◌gives◌, first_code, leaves, broken_block, not_open}
use Rattle.whole.proofs.Every.{every_at}
use Rattle.whole.proofs.Refusals.{hit, code, first_zero, changed}
use Rattle.whole.proofs.Tests.{first_out, refuted, true_not_false}
use Rattle.rates.specs.Lent.{Tables}
use Rattle.book.specs.Block.{InHead, block_of, account_kind}
use Rattle.book.specs.Rules.{good_block}
use Rattle.book.specs.Choices.{trade_of}
use Rattle.book.specs.Changes.{opened, moved, traded}
use Rattle.book.specs.Roll.{rolled}
use Rattle.book.specs.AtAccount.{at_account, InBook}
use Rattle.book.specs.Members.{kind_at}
use Rattle.book.proofs.AtAccount.{block_long, at_block}
use Rattle.book.proofs.Good.{number_zero}
use Rattle.book.proofs.Opened.{opened_length}
use Rattle.book.proofs.Moved.{moved_length, moved_head}
use Rattle.book.proofs.Rolled.{rolled_length, rolled_head}
use Rattle.book.proofs.Traded.{traded_length, traded_head}
use Rattle.settlement.specs.Code.{on_code, code_right, code_holds_listed}
use Rattle.settlement.specs.Laws.{OnNoCode}
use Rattle.settlement.proofs.Mates.{on_itself, alone_on, mates_on, on_both_ways}
use Rattle.settlement.proofs.Alone.{alone_right, alone_holds_listed}
use Rattle.settlement.proofs.Right.{member_kind, mate_right, mate_holds_listed}
use Rattle.settlement.proofs.Alike.{alike_right, alike_elsewhere}
use Rattle.figures.specs.Limit.{block_figures}
use Rattle.figures.specs.Joint.{figures_on}
use Rattle.figures.proofs.SeveralBlocks.{figures_alike, alone_figures}
use Rattle.engine.specs.State.{State, block_at, changed_at}
use Rattle.engine.specs.Refused.{table_gate, holding_refusals, report_refusals, open_stands, roll_refusals, move_stands, order_stands, figures_at}
use Rattle.engine.specs.Ranges.{Openable}
use Rattle.engine.specs.Calls.{Call, code_of, outcome_of, opening, judged_opening, rolling, moving, judged_move, ordering, judged_trade}
use Rattle.engine.specs.Report.{report_of}
use Rattle.engine.proofs.Gates.{report_passed}
use Rattle.engine.proofs.Judged.{right_still}
use Rattle.engine.proofs.Passed.{open_passed, roll_passed, move_stood, order_stood}
use Rattle.promises.specs.EveryCall.{Good}
use Rattle.promises.specs.Codes.{OneReport, refusals_alone, report_alone, AsDocument01, CodesRight, empty_state, Writing, opens, rolls, moves, orders, call_of}
use Rattle.promises.specs.Codes.{after, CodesKept}
use Rattle.promises.proofs.Alike.{two_lists, same_answer}
use Rattle.promises.proofs.Kept.{opened_right, good_after}
use Rattle.promises.proofs.Computed.{computed}

-- ---- two accounts of a code
module _ (tables : Tables) (s : State) (i j : ℕ) (l : i < 16) (h : j < 16) (on : on_code s.book i j ≡ true) where
  right_same : code_right s.book i ≡ code_right s.book j
  right_same = by (code_right s.book i) (code_right s.book j) refl refl
    where
      by : (a b : Bool) → code_right s.book i ≡ a → code_right s.book j ≡ b → code_right s.book i ≡ code_right s.book j
      by true b e f = e ∙ sym (mate_right s.book i j h on e)
      by false true e f = mate_right s.book j i l (on_both_ways s.book i j on) f ∙ sym f
      by false false e f = e ∙ sym f

  kind_same : code_right s.book i ≡ true → account_kind (block_at s i) ≡ account_kind (block_at s j)
  kind_same right = sym (member_kind s.book i j h on right)

  -- where the code is not right both are at 6; where it is, their kinds are one
  held_same : first_code (holding_refusals tables.clearing i s) ≡ first_code (holding_refusals tables.clearing j s)
  held_same = by (code_right s.book i) refl
    where
      listed : code_holds_listed s.book i tables.clearing ≡ code_holds_listed s.book j tables.clearing
      listed = mate_holds_listed s.book i j on tables.clearing

      by : (t : Bool) → code_right s.book i ≡ t → first_code (holding_refusals tables.clearing i s) ≡ first_code (holding_refusals tables.clearing j s)
      by true e = let kind = kind_same e in λ t. first_code (not (right_same t && listed t) gives broken_block ∷ is_zero (kind t) gives not_open ∷ [])
      by false e = sym (code (hit (refuted (first_out (code_right s.book i) _ e)))) ∙ code (hit (refuted (first_out (code_right s.book j) _ (sym right_same ∙ e))))

  figures_same : code_right s.book i ≡ true → figures_at tables i s ≡ figures_at tables j s
  figures_same right =
      figures_alike (on_code s.book i) (on_code s.book j) (λ k q. mates_on s.book i j on k) (block_of s.book) (block_of s.book) (λ k q o. refl)
      (kind_at s.book i) tables
      ∙ ap (λ (z : ℤ). figures_on (on_code s.book j) (nat_abs z) (block_of s.book) tables) (kind_same right)

  reports_same : report_of tables i s ≡ report_of tables j s
  unfolding report_of
  reports_same =
      same_answer (first_code (report_refusals tables i s)) (first_code (report_refusals tables j s)) (figures_at tables i s) (figures_at tables j s)
      (two_lists (table_gate tables i s) (table_gate tables j s) (holding_refusals tables.clearing i s) (holding_refusals tables.clearing j s) tt tt
      (rw (lt-ltb i 16 l, lt-ltb j 16 h) refl) (λ z. held_same))
      (λ z. figures_same (report_passed tables i s z).judgeable.right)

pub one_report : OneReport
one_report tables s i j l h on = reports_same tables s i j l h on

-- ---- an account alone
pub as_document_01 : AsDocument01
unfolding report_of report_alone
as_document_01 tables s i l alone =
    let right = alone_right s.book i l alone in
    let listed = alone_holds_listed s.book i l alone tables.clearing in
    let held : first_code (holding_refusals tables.clearing i s) ≡ first_code (refusals_alone tables.clearing i s)
    = λ t. first_code (not (right t && listed t) gives broken_block ∷ is_zero (account_kind (block_at s i)) gives not_open ∷ []) in
    same_answer (first_code (report_refusals tables i s)) (first_code (table_gate tables i s ++ refusals_alone tables.clearing i s)) (figures_at tables i s)
    (block_figures (block_at s i) tables)
    (two_lists (table_gate tables i s) (table_gate tables i s) (holding_refusals tables.clearing i s) (refusals_alone tables.clearing i s) tt tt refl (λ z. held))
    (λ z. alone_figures (on_code s.book i) i l alone (block_of s.book) tables)

-- ---- any run of calls: where a call passed, the code that it wrote on is right, and the others see no difference
-- a call whose change keeps every code right
kept_by : (call : Call) (s : State) → CodesRight s → (code_of call s ≡ 0 → CodesRight (call.change s)) → CodesRight (outcome_of call s).state
unfolding outcome_of leaves
kept_by call s right f = by (eqb (code_of call s) 0) refl
  where
    by : (t : Bool) → eqb (code_of call s) 0 ≡ t → CodesRight (cond t (call.change s) s)
    by true e = f (eqb-true _ _ e)
    by false e = right

not_on : (book : List ℤ) (i j : ℕ) → (on_code book i j ≡ true → ⊥) → on_code book j i ≡ false
not_on book i j never = by (on_code book j i) refl
  where
    by : (t : Bool) → on_code book j i ≡ t → on_code book j i ≡ false
    by true e = absurd (never (on_both_ways book j i e))
    by false e = e

-- an opened block was empty, so it was on no code
module _ (i : ℕ) (kind code : ℤ) (s : State) (p : Openable i s) where
  abbrev opened_state : State
  opened_state = changed_at i (λ b. opened b kind code) s

  was_on_none : OnNoCode s.book i
  unfolding between
  was_on_none = ap is_zero (number_zero (block_at s i) p.empty 13)

  elsewhere : (j : ℕ) → j < 16 → on_code opened_state.book i j ≡ false → code_right s.book j ≡ code_right opened_state.book j
  unfolding at_account
  elsewhere j l off =
      alike_right j s.book opened_state.book l
      (alike_elsewhere j s.book i (opened (block_at s i) kind code) p.there (opened_length (block_at s i) kind code ∙ block_long s.book i p.there)
      (not_on s.book i j (λ on. true_not_false (sym off ∙ same (sym (alone_on s.book i was_on_none j) ∙ on))))
      (not_on opened_state.book i j (λ on. true_not_false (sym off ∙ on))))
    where
      -- were it the same account, it would be on its own code
      same : eqb i j ≡ true → on_code opened_state.book i j ≡ true
      same e = subst (λ (k : ℕ). on_code opened_state.book i k ≡ true) (eqb-true i j e) (on_itself opened_state.book i)

  open_keeps : CodesRight s → code_right opened_state.book i ≡ true → CodesRight opened_state
  open_keeps right own j l = by (on_code opened_state.book i j) refl
    where
      by : (t : Bool) → on_code opened_state.book i j ≡ t → code_right opened_state.book j ≡ true
      by true on = mate_right opened_state.book i j l on own
      by false off = sym (elsewhere j l off) ∙ right j l

-- a roll, a move and an order keep the head of the block, and the block is good afterwards
module _ (i : ℕ) (s : State) (call : Call) (change : List ℤ → List ℤ) (changes : call.change s ≡ changed_at i change s) (good : Good i call s) (right : CodesRight s)
    (e : code_of call s ≡ 0) (there : InBook s.book i) (long : length (change (block_at s i)) ≡ length (block_at s i))
    (head : (k : ℕ) → InHead k → number (change (block_at s i)) k ≡ number (block_at s i) k) where
  good_changed : good_block (change (block_at s i)) ≡ true
  unfolding outcome_of
  good_changed =
      sym (ap good_block (at_block s.book i there change long))
      ∙ subst (λ (q : State). good_block (block_at q i) ≡ true) (sym (changed (code_of call s) (call.change s) s e) ∙ changes) (good e).good

  head_keeps : CodesRight (call.change s)
  head_keeps = subst CodesRight (sym changes) (λ j l. right_still i s change there long head good_changed j l (right j l))

by_one : (w : Writing) (s : State) → CodesRight s → CodesRight (outcome_of (call_of w) s).state
unfolding call_of opening judged_opening rolling moving judged_move ordering judged_trade
by_one (opens i kind code) s right = kept_by (opening i kind code) s right (λ e.
    let p = open_passed i s (first_zero (open_stands i s) _ e) in
    open_keeps i kind code s p right (opened_right i kind code s e))
by_one (rolls i) s right = kept_by (rolling i) s right (λ e.
    let p = roll_passed i s (first_zero (roll_refusals i s) _ e) in
    head_keeps i s (rolling i) rolled refl (good_after.rolls i s) right e p.0 (rolled_length (block_at s i) p.1.long ∙ sym p.1.long)
    (rolled_head (block_at s i) p.1.long))
by_one (moves tables i asset amount) s right = kept_by (moving tables i asset amount) s right (λ e.
    let q = move_stood tables i asset amount s (first_zero (move_stands tables i asset amount s) _ e) in
    head_keeps i s (moving tables i asset amount) (λ b. moved b (nat_abs asset) amount) refl (good_after.moves tables i asset amount s) right e
    q.reported.gate.there (moved_length (block_at s i) (nat_abs asset) amount) (moved_head (block_at s i) (nat_abs asset) amount q.stands.movable.movable))
by_one (orders tables i o) s right = kept_by (ordering tables i o) s right (λ e.
    let q = order_stood tables i o s (first_zero (order_stands tables i o s) _ e) in
    head_keeps i s (ordering tables i o) (λ b. traded b (trade_of o)) refl (good_after.orders tables i o s) right e
    q.reported.gate.there (traded_length (block_at s i) (trade_of o)) (traded_head (block_at s i) (trade_of o) q.stands.tradable.ranges))

by_a_run : (run : List Writing) (s : State) → CodesRight s → CodesRight (after run s)
unfolding after
by_a_run [] s right = right
by_a_run (w ∷ rest) s right = by_a_run rest (outcome_of (call_of w) s).state (by_one w s right)

pub codes_kept : CodesKept
codes_kept = record {
  by_one = by_one;
  by_a_run = λ run. by_a_run run empty_state (λ i l. every_at (code_right empty_state.book) 16 i l computed.empty_right);
}
