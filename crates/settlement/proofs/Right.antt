-- The laws of specs/Laws of a right code: its blocks are good and of one kind, their numbers are in range, and it is right for every account on it;
-- and that one look at each block tells that it is right and listed. Assumes nothing.
use mathlib.Core.Path.{◌≡◌, refl, sym, ap, ◌∙◌}
use mathlib.Core.Bool.{Bool, true, ◌&&◌}
use mathlib.Core.List.{List}
use Prim.Native.Nat.{ℕ, ◌<◌}
use lib.Dec.{leb}
use lib.IntN.{ℤ}
use borrow.Author.Tests.{leb-true}
use Rattle.whole.specs.Bounds.{equal, ◌upto◌}
use Rattle.whole.proofs.Bounds.{equal_says, equal_yes}
use Rattle.whole.proofs.Tests.{both, and_left, and_right}
use Rattle.book.specs.Block.{block_of, account_kind}
use Rattle.book.specs.Rules.{good_block, holds_listed}
use Rattle.book.specs.AtAccount.{InBook}
use Rattle.book.proofs.Blocks.{block_length_lem}
use Rattle.book.proofs.Good.{block_ranges}
use Rattle.settlement.specs.Code.{on_code, count_on, every_on, member_right, code_right, code_holds_listed}
use Rattle.settlement.specs.Members.{CodeRanges}
use Rattle.settlement.specs.Laws.{RightInRange, MateRight, MateHoldsListed, MemberGood, MemberKind, MemberHoldsListed}
use Rattle.settlement.proofs.Codes.{count_same, each_at, each_by, each_same, each_both, last_sooner}
use Rattle.settlement.proofs.Mates.{on_itself, mates_on}

-- ---- what a right code is made of
module _ (book : List ℤ) (i : ℕ) (right : code_right book i ≡ true) where
  all_right : every_on (on_code book i) (member_right book i) ≡ true
  unfolding code_right
  all_right = and_left _ _ right

  pub four_most : leb (count_on (on_code book i) 16) 4 ≡ true
  unfolding code_right
  four_most = and_right (every_on (on_code book i) (member_right book i)) _ right

  one_right : (j : ℕ) → j < 16 → on_code book i j ≡ true → member_right book i j ≡ true
  one_right j l on = each_at (on_code book i) (member_right book i) j l on all_right

pub member_good : MemberGood
unfolding member_right
member_good book i j l on right = and_left _ _ (one_right book i right j l on)

pub member_kind : MemberKind
unfolding member_right
member_kind book i j l on right = equal_says (and_right (good_block (block_of book j)) _ (one_right book i right j l on))

-- and back: good blocks of one kind, at most four of them
pub right_by : (book : List ℤ) (i : ℕ)
    → ((j : ℕ) → j < 16 → on_code book i j ≡ true → (good_block (block_of book j) ≡ true) × (account_kind (block_of book j) ≡ account_kind (block_of book i)))
    → leb (count_on (on_code book i) 16) 4 ≡ true → code_right book i ≡ true
unfolding code_right member_right
right_by book i h few = both _ _ (each_by (on_code book i) (member_right book i) (λ j l on. both _ _ (h j l on).0 (equal_yes (h j l on).1))) few

-- ---- the laws
pub right_in_range : RightInRange
right_in_range book i there right = record {
  long = there.long;
  below = there.below;
  few = leb-true _ _ (four_most book i right);
  block = λ j l on. block_ranges (block_of book j) (block_length_lem book there.long j l) (member_good book i j l on right);
}

pub mate_right : MateRight
mate_right book i j l on right =
    right_by book j
    (λ k q o. let here = mates_on book i j on k ∙ o in
    (member_good book i k q here right, member_kind book i k q here right ∙ sym (member_kind book i j l on right)))
    (ap (λ (n : ℕ). leb n 4) (sym (count_same _ _ 16 (λ k q. mates_on book i j on k))) ∙ four_most book i right)

pub mate_holds_listed : MateHoldsListed
unfolding code_holds_listed
mate_holds_listed book i j on clearing =
    each_same (on_code book i) (on_code book j) (λ k. holds_listed (block_of book k) clearing) (λ k. holds_listed (block_of book k) clearing)
    (λ k q. mates_on book i j on k) (λ k q o. refl)

pub member_holds_listed : MemberHoldsListed
unfolding code_holds_listed
member_holds_listed book i j l on clearing listed = each_at (on_code book i) (λ k. holds_listed (block_of book k) clearing) j l on listed

-- ---- right and listed, by one look at each block
module _ (book : List ℤ) (i : ℕ) (clearing : List ℤ) where
  pub member_and_listed : (j : ℕ)
      → (good_block (block_of book j) && holds_listed (block_of book j) clearing) && equal (account_kind (block_of book j)) (account_kind (block_of book i))
      ≡ member_right book i j && holds_listed (block_of book j) clearing
  unfolding member_right
  member_and_listed j = last_sooner (good_block (block_of book j)) _ _

  pub right_and_listed : every_on (on_code book i) (λ j. member_right book i j && holds_listed (block_of book j) clearing) && leb (count_on (on_code book i) 16) 4
      ≡ code_right book i && code_holds_listed book i clearing
  unfolding code_right code_holds_listed
  right_and_listed =
      ap (λ (t : Bool). t && leb (count_on (on_code book i) 16) 4) (each_both (on_code book i) (member_right book i) (λ j. holds_listed (block_of book j) clearing))
      ∙ last_sooner (every_on (on_code book i) (member_right book i)) _ _

-- ---- of a code in range: the account is on it itself, so that its own list can be made
pub own_in_range : (book : List ℤ) (i : ℕ) → CodeRanges book i → InBook book i × (account_kind (block_of book i) upto 3)
own_in_range book i ranges =
    (record { long = ranges.long; below = ranges.below }, (ranges.block i ranges.below (on_itself book i)).kind_upto)
