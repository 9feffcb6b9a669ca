-- The laws of specs/Laws of who is on a code: an account is on its own, and all on it see the same blocks. Assumes nothing.
use mathlib.Core.Path.{◌≡◌, refl, sym, ap, ◌∙◌}
use mathlib.Core.Bool.{Bool, true, false, ◌||◌}
use mathlib.Core.List.{List}
use Prim.Native.Nat.{ℕ}
use lib.Dec.{eqb}
use lib.IntN.{ℤ}
use borrow.Author.Tests.{eqb-true}
use Rattle.whole.specs.Bounds.{equal, is_zero}
use Rattle.whole.proofs.Bounds.{equal_says, equal_yes}
use Rattle.whole.proofs.Lists.{or_false}
use Rattle.book.specs.Block.{block_of, settlement_code}
use Rattle.settlement.specs.Code.{on_code}
use Rattle.settlement.specs.Laws.{OnItself, MatesOn, OnBothWays, AloneOn}
use Rattle.settlement.proofs.Codes.{on_as_itself}

pub on_itself : OnItself
on_itself book i = sym (on_as_itself book i i refl)

pub alone_on : AloneOn
unfolding on_code
alone_on book i none j = rw none (or_false (eqb i j))

-- on a code, the account itself too is there by its number 13
by_code : (book : List ℤ) (i : ℕ) → is_zero (settlement_code (block_of book i)) ≡ false
    → (j : ℕ) → on_code book i j ≡ equal (settlement_code (block_of book j)) (settlement_code (block_of book i))
unfolding on_code
by_code book i coded j = rw coded (by (eqb i j) refl)
  where
    by : (t : Bool) → eqb i j ≡ t
        → t || equal (settlement_code (block_of book j)) (settlement_code (block_of book i))
        ≡ equal (settlement_code (block_of book j)) (settlement_code (block_of book i))
    by true e = sym (equal_yes (ap (λ (k : ℕ). settlement_code (block_of book k)) (sym (eqb-true i j e))))
    by false e = refl

pub mates_on : MatesOn
mates_on book i j on k = by (is_zero (settlement_code (block_of book i))) refl
  where
    by : (t : Bool) → is_zero (settlement_code (block_of book i)) ≡ t → on_code book i k ≡ on_code book j k
    by true none = ap (λ (n : ℕ). on_code book n k) (eqb-true i j (sym (alone_on book i none j) ∙ on))
    by false coded =
        let same = equal_says (sym (by_code book i coded j) ∙ on) in
        by_code book i coded k ∙ ap (equal (settlement_code (block_of book k))) (sym same) ∙ sym (by_code book j (ap is_zero same ∙ coded) k)

pub on_both_ways : OnBothWays
on_both_ways book i j on = sym (mates_on book i j on i) ∙ on_itself book i
