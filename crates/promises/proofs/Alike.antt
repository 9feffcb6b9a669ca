-- What two states have in common that a call of account i cannot tell apart (specs/EveryCall, Alike): the account's block, the code of a report and its
-- figures; and they stay alike where the account's block is changed in both and keeps its settlement code.
-- Assumes nothing.
use mathlib.Core.Path.{◌≡◌, refl, sym, ap, ◌∙◌, subst}
use mathlib.Core.Logic.{◌⊎◌, inl, inr, ⊎_elim}
use mathlib.Core.Bool.{Bool, true, false, not, ◌&&◌}
use mathlib.Core.List.{List, [], ◌∷◌, ◌++◌}
use Prim.Native.Nat.{ℕ, ◌<◌}
use lib.Dec.{T, eqb}
use lib.IntN.{ℤ, nat_abs}
use lib.ListN.{length}
use borrow.Author.Tests.{eqb-true, eqb-false}
use Rattle.whole.specs.Bounds.{is_zero}
use Rattle.whole.specs.Refusals.{Refusal, ◌gives◌, first_code, broken_block, not_open}
use Rattle.whole.proofs.Refusals.{coded, refused, goes_on, kept}
use Rattle.rates.specs.Lent.{Tables}
use Rattle.book.specs.Block.{block_of, account_kind, settlement_code}
use Rattle.book.specs.AtAccount.{InBook}
use Rattle.book.specs.Members.{kind_at}
use Rattle.book.proofs.AtAccount.{block_long, at_long, at_block, at_others}
use Rattle.settlement.specs.Code.{on_code, code_right}
use Rattle.settlement.proofs.Mates.{on_itself}
use Rattle.settlement.proofs.Alike.{alike_on, alike_right, alike_holds_listed}
use Rattle.figures.specs.Joint.{figures_on}
use Rattle.figures.proofs.SeveralBlocks.{figures_alike}
use Rattle.figures.specs.declared.limit.Figures.{Figures}
use Rattle.engine.specs.State.{State, block_at, changed_at}
use Rattle.engine.specs.Refused.{table_gate, holding_refusals, report_refusals, figures_at}
use Rattle.engine.specs.Report.{report_of, no_figures, answer_of}
use Rattle.engine.specs.Report.{Reported}
use Rattle.engine.proofs.Gates.{table_passed, report_passed}
use Rattle.engine.proofs.Judged.{code_still, on_still}
use Rattle.promises.specs.EveryCall.{Alike, SameReport}

-- ---- refusals after refusals
pub two_lists : (a a' b b' : List Refusal) → T (coded a) → T (coded a') → first_code a ≡ first_code a' → (first_code a ≡ 0 → first_code b ≡ first_code b')
    → first_code (a ++ b) ≡ first_code (a' ++ b')
two_lists a a' b b' c c' e f = by (eqb (first_code a) 0) refl
  where
    by : (t : Bool) → eqb (first_code a) 0 ≡ t → first_code (a ++ b) ≡ first_code (a' ++ b')
    by true t = let z = eqb-true _ _ t in goes_on a b c z ∙ f z ∙ sym (goes_on a' b' c' (sym e ∙ z))
    by false t = let h = eqb-false _ _ t in refused a b h ∙ e ∙ sym (refused a' b' (λ z. h (e ∙ z)))

-- ---- answers with the same code, and the same figures where it is 0
pub same_answer : (n m : ℕ) (x y : Figures ℤ) → n ≡ m → (n ≡ 0 → x ≡ y) → answer_of n x ≡ answer_of m y
same_answer n m x y e f = by (eqb n 0) refl
  where
    by : (t : Bool) → eqb n 0 ≡ t → answer_of n x ≡ answer_of m y
    by true t = let g = f (eqb-true n 0 t) in λ k. answer_of (e k) (g k)
    by false t =
        let h = eqb-false n 0 t in
        let none : ◌≡◌ {A = Reported} (answer_of n x) (record { code = n; figures = no_figures }) = λ k. record { code = n; figures = sym (kept n x no_figures h) k } in
        none ∙ (λ k. record { code = e k; figures = kept m y no_figures (λ z. h (e ∙ z)) k })

module _ (i : ℕ) (s other : State) (a : Alike i s other) where
  module _ (l : i < 16) where
    pub own_same : block_at s i ≡ block_at other i
    own_same = a.same_blocks i l (inl (on_itself s.book i))

    pub right_same : code_right s.book i ≡ code_right other.book i
    right_same = alike_right i s.book other.book l a.same_blocks

    pub figures_same : (tables : Tables) → figures_at tables i s ≡ figures_at tables i other
    figures_same tables =
        figures_alike (on_code s.book i) (on_code other.book i) (alike_on i s.book other.book l a.same_blocks) (block_of s.book)
        (block_of other.book) (λ j q on. a.same_blocks j q (inr on)) (kind_at s.book i) tables
        ∙ ap (λ (b : List ℤ). figures_on (on_code other.book i) (nat_abs (account_kind b)) (block_of other.book) tables) own_same

    held_same : (clearing : List ℤ) → first_code (holding_refusals clearing i s) ≡ first_code (holding_refusals clearing i other)
    held_same clearing =
        let listed = alike_holds_listed i s.book other.book clearing l a.same_blocks in
        λ t. first_code (not (right_same t && listed t) gives broken_block ∷ is_zero (account_kind (own_same t)) gives not_open ∷ [])

  pub report_same : (tables : Tables) → first_code (report_refusals tables i s) ≡ first_code (report_refusals tables i other)
  report_same tables =
      two_lists (table_gate tables i s) (table_gate tables i other) (holding_refusals tables.clearing i s) (holding_refusals tables.clearing i other) tt tt
      (rw a.same_length refl) (λ z. held_same (table_passed tables i s z).there.below tables.clearing)

  -- ---- the account's block is changed in both
  module _ (p : InBook s.book i) (q : InBook other.book i) (change : List ℤ → List ℤ)
      (keeps : (b : List ℤ) → length b ≡ 288 → length (change b) ≡ length b)
      (code : settlement_code (change (block_at s i)) ≡ settlement_code (block_at s i)) where
    long : (r : State) (there : InBook r.book i) → length (change (block_at r i)) ≡ length (block_at r i)
    long r there = keeps (block_at r i) (block_long r.book i there)

    on_changed : (r : State) (there : InBook r.book i) → settlement_code (change (block_at r i)) ≡ settlement_code (block_at r i)
        → (k : ℕ) → k < 16 → on_code (changed_at i change r).book i k ≡ on_code r.book i k
    on_changed r there e k h = on_still i r change (code_still i r change there (long r there) e) i k there.below h

    code_other : settlement_code (change (block_at other i)) ≡ settlement_code (block_at other i)
    code_other = subst (λ (b : List ℤ). settlement_code (change b) ≡ settlement_code b) (own_same p.below) code

    pub alike_changed : Alike i (changed_at i change s) (changed_at i change other)
    alike_changed = record {
      same_length = at_long s.book i p change (long s p) ∙ sym (at_long other.book i q change (long other q));
      same_blocks = λ k h on. by k h on (eqb k i) refl;
    }
      where
        by : (k : ℕ) (h : k < 16) → (on_code (changed_at i change s).book i k ≡ true) ⊎ (on_code (changed_at i change other).book i k ≡ true)
            → (t : Bool) → eqb k i ≡ t → block_at (changed_at i change s) k ≡ block_at (changed_at i change other) k
        by k h on true e = subst (λ (n : ℕ). block_at (changed_at i change s) n ≡ block_at (changed_at i change other) n) (sym (eqb-true k i e))
            (at_block s.book i p change (long s p) ∙ ap change (own_same p.below) ∙ sym (at_block other.book i q change (long other q)))
        by k h on false e =
            at_others s.book i p change (long s p) k h (eqb-false k i e)
            ∙ a.same_blocks k h (⊎_elim (λ o. inl (sym (on_changed s p code k h) ∙ o)) (λ o. inr (sym (on_changed other q code_other k h) ∙ o)) on)
            ∙ sym (at_others other.book i q change (long other q) k h (eqb-false k i e))

pub same_report : SameReport
unfolding report_of
same_report tables i s other a =
    same_answer (first_code (report_refusals tables i s)) (first_code (report_refusals tables i other)) (figures_at tables i s) (figures_at tables i other)
    (report_same i s other a tables)
    (λ z. figures_same i s other a (report_passed tables i s z).gate.there.below tables)
