-- The laws of specs/Laws of what a code depends on: the blocks that are on it, and no others. Assumes nothing.
use mathlib.Core.Path.{◌≡◌, refl, sym, ap, ap₂, ◌∙◌, subst}
use mathlib.Core.Logic.{inl, inr, ⊎_elim}
use mathlib.Core.Bool.{Bool, true, false, not, ◌&&◌, ◌||◌}
use mathlib.Core.List.{List}
use Prim.Native.Nat.{ℕ, ◌<◌}
use lib.Dec.{eqb, leb}
use lib.IntN.{ℤ}
use Rattle.whole.specs.Bounds.{equal, is_zero}
use Rattle.whole.proofs.Tests.{true_not_false}
use Rattle.book.specs.Block.{block_of, put_block, account_kind, settlement_code}
use Rattle.book.specs.Rules.{good_block, holds_listed}
use Rattle.book.proofs.Blocks.{block_put_other}
use Rattle.settlement.specs.Code.{on_code, member_right, code_right, code_holds_listed}
use Rattle.settlement.specs.Laws.{AlikeBlocks, AlikeOn, AlikeRight, AlikeHoldsListed, AlikeElsewhere}
use Rattle.settlement.proofs.Codes.{count_same, each_same}
use Rattle.settlement.proofs.Mates.{on_itself}

module _ (i : ℕ) (book other : List ℤ) (l : i < 16) (alike : AlikeBlocks i book other) where
  -- the account's own block is the same, for it is on its code
  own_same : block_of book i ≡ block_of other i
  own_same = alike i l (inl (on_itself book i))

  on_where_same : (j : ℕ) → block_of book j ≡ block_of other j → on_code book i j ≡ on_code other i j
  unfolding on_code
  on_where_same j e = ap₂ (λ (a b : List ℤ). eqb i j || (not (is_zero (settlement_code a)) && equal (settlement_code b) (settlement_code a))) own_same e

pub alike_on : AlikeOn
alike_on i book other l alike j q = by (on_code book i j) (on_code other i j) refl refl
  where
    by : (t t' : Bool) → on_code book i j ≡ t → on_code other i j ≡ t' → on_code book i j ≡ on_code other i j
    by true t' e f = on_where_same i book other l alike j (alike j q (inl e))
    by false true e f = on_where_same i book other l alike j (alike j q (inr f))
    by false false e f = e ∙ sym f

pub alike_right : AlikeRight
unfolding code_right member_right
alike_right i book other l alike =
    ap₂ (λ (t : Bool) (n : ℕ). t && leb n 4)
    (each_same (on_code book i) (on_code other i) (member_right book i) (member_right other i) (alike_on i book other l alike)
    (λ j q e. ap₂ (λ (a b : List ℤ). good_block a && equal (account_kind a) (account_kind b)) (alike j q (inr e)) (own_same i book other l alike)))
    (count_same (on_code book i) (on_code other i) 16 (alike_on i book other l alike))

pub alike_holds_listed : AlikeHoldsListed
unfolding code_holds_listed
alike_holds_listed i book other clearing l alike =
    each_same (on_code book i) (on_code other i) (λ j. holds_listed (block_of book j) clearing) (λ j. holds_listed (block_of other j) clearing)
    (alike_on i book other l alike) (λ j q e. ap (λ (b : List ℤ). holds_listed b clearing) (alike j q (inr e)))

pub alike_elsewhere : AlikeElsewhere
alike_elsewhere i book j new there sized off off' k l h =
    sym (block_put_other book there.long j there.below new sized k l (λ e.
    ⊎_elim (λ on. true_not_false (sym off ∙ subst (λ (n : ℕ). on_code book i n ≡ true) e on))
    (λ on. true_not_false (sym off' ∙ subst (λ (n : ℕ). on_code (put_block book j new) i n ≡ true) e on)) h))
