-- The laws of specs/Laws of block j replaced by one with the same number 13: who is on a code stays, a right code stays right where the new block is
-- good and of the same kind, and a listed code stays listed where the new block holds listed assets only.
-- Assumes nothing.
use mathlib.Core.Path.{◌≡◌, refl, sym, ap, ap₂, ◌∙◌, subst}
use mathlib.Core.Bool.{Bool, true, false, not, ◌&&◌, ◌||◌}
use mathlib.Core.List.{List}
use Prim.Native.Nat.{ℕ, ◌<◌}
use lib.Dec.{eqb, leb}
use lib.IntN.{ℤ}
use borrow.Author.Tests.{eqb-true, eqb-false}
use Rattle.whole.specs.Bounds.{equal, is_zero}
use Rattle.book.specs.Block.{block_of, put_block, account_kind, settlement_code}
use Rattle.book.specs.Rules.{good_block, holds_listed}
use Rattle.book.proofs.Blocks.{block_put, block_put_other}
use Rattle.settlement.specs.Code.{on_code, code_holds_listed}
use Rattle.settlement.specs.Laws.{SameCode, OnKept, RightKept, HoldsListedKept}
use Rattle.settlement.proofs.Codes.{count_same, each_at, each_by}
use Rattle.settlement.proofs.Right.{four_most, member_good, member_kind, right_by}

module _ (book : List ℤ) (j : ℕ) (new : List ℤ) (s : SameCode book j new) where
  -- what holds of the new block, and of block k as it was, holds of block k as it is
  of_each : (P : ℕ → List ℤ → Type 0) → P j new → (k : ℕ) → k < 16 → P k (block_of book k) → P k (block_of (put_block book j new) k)
  of_each P own k l other = by (eqb k j) refl
    where
      by : (t : Bool) → eqb k j ≡ t → P k (block_of (put_block book j new) k)
      by true e =
          subst (λ (n : ℕ). P n (block_of (put_block book j new) n)) (sym (eqb-true k j e))
          (subst (P j) (sym (block_put book s.there.long j s.there.below new s.sized)) own)
      by false e = subst (P k) (sym (block_put_other book s.there.long j s.there.below new s.sized k l (eqb-false k j e))) other

  pub code_kept : (k : ℕ) → k < 16 → settlement_code (block_of (put_block book j new) k) ≡ settlement_code (block_of book k)
  code_kept k l = of_each (λ n b. settlement_code b ≡ settlement_code (block_of book n)) s.code k l refl

  pub kind_kept : account_kind new ≡ account_kind (block_of book j) → (k : ℕ) → k < 16 → account_kind (block_of (put_block book j new) k) ≡ account_kind (block_of book k)
  kind_kept kind k l = of_each (λ n b. account_kind b ≡ account_kind (block_of book n)) kind k l refl

pub on_kept : OnKept
unfolding on_code
on_kept book j new s i k l h = ap₂ (λ (x y : ℤ). eqb i k || (not (is_zero x) && equal y x)) (code_kept book j new s i l) (code_kept book j new s k h)

pub right_kept : RightKept
right_kept book j new s kind good i l right =
    right_by (put_block book j new) i
    (λ k h on. let here = sym (on_kept book j new s i k l h) ∙ on in (
      of_each book j new s (λ n b. good_block b ≡ true) good k h (member_good book i k h here right),
      kind_kept book j new s kind k h ∙ member_kind book i k h here right ∙ sym (kind_kept book j new s kind i l),
    ))
    (ap (λ (n : ℕ). leb n 4) (count_same _ _ 16 (λ k h. on_kept book j new s i k l h)) ∙ four_most book i right)

pub holds_listed_kept : HoldsListedKept
unfolding code_holds_listed
holds_listed_kept book j new clearing s own i l all =
    each_by (on_code (put_block book j new) i) _
    (λ k h on. of_each book j new s (λ n b. holds_listed b clearing ≡ true) own k h
    (each_at (on_code book i) (λ n. holds_listed (block_of book n) clearing) k h (sym (on_kept book j new s i k l h) ∙ on) all))
