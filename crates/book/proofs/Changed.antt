-- Laws of an amount added to one number: of a block, of the book, of any numbers. Assumes nothing.
use mathlib.Core.Path.{◌≡◌, refl, sym, ap, ◌∙◌}
use mathlib.Core.Logic.{◌⊎◌, ◌≢◌}
use mathlib.Core.List.{List}
use Prim.Native.Nat.{ℕ, ◌+◌, ◌*◌, ◌≤◌, ◌<◌}
use native.Mathlib.Omega.{arith}
use lib.IntN.{ℤ, pos, neg_ℤ, ◌+ℤ◌}
use lib.ListN.{length, set, length-set}
use lib.Seq.{get_or-set_same, get_or-set_other, set-set, set_comm, set-get_or}
use Rattle.whole.specs.Parts.{part, number}
use Rattle.whole.proofs.Expressions.{var, neg, ◌⊕◌, eq! }
use Rattle.whole.proofs.Parts.{part_at, put_part}
use Rattle.book.specs.Block.{block_of, put_block}
use Rattle.book.specs.Changes.{added}
use Rattle.whole.proofs.Lists.{part_set, part_set_other, put_set}

module _ (block : List ℤ) (k : ℕ) (x : ℤ) where
  pub added_length : length (added block k x) ≡ length block
  unfolding added
  added_length = length-set block k (number block k +ℤ x)

  pub number_added : k < length block → number (added block k x) k ≡ number block k +ℤ x
  unfolding added
  number_added l = get_or-set_same block k (number block k +ℤ x) (pos 0) l

  pub number_beside : (j : ℕ) → j ≢ k → number (added block k x) j ≡ number block j
  unfolding added
  number_beside j apart = get_or-set_other block k j (number block k +ℤ x) (pos 0) apart

  -- the same amount taken back
  pub added_back : k < length block → added (added block k x) k (neg_ℤ x) ≡ block
  unfolding added
  added_back l =
      ap (λ (z : ℤ). set (set block k (number block k +ℤ x)) k (z +ℤ neg_ℤ x)) (number_added l)
      ∙ set-set block k (number block k +ℤ x) (number block k +ℤ x +ℤ neg_ℤ x)
      ∙ ap (set block k) (eq! (var (number block k) ⊕ var x ⊕ neg (var x)) (var (number block k)) (omega arith))
      ∙ set-get_or block k (pos 0)

  -- two places apart
  pub added_apart : (j : ℕ) (y : ℤ) → k ≢ j → added (added block k x) j y ≡ added (added block j y) k x
  unfolding added
  added_apart j y apart =
      ap (λ (z : ℤ). set (set block k (number block k +ℤ x)) j (z +ℤ y)) (number_beside j (λ e. apart (sym e)))
      ∙ set_comm block k j (number block k +ℤ x) (number block j +ℤ y) apart
      ∙ ap (λ (z : ℤ). set (set block j (number block j +ℤ y)) k (z +ℤ x)) (sym (get_or-set_other block j k (number block j +ℤ y) (pos 0) apart))

  -- a part that has the number, and one that has not
  pub part_added : (a n i : ℕ) → i < n → k ≡ a + i → part a n (added block k x) ≡ added (part a n block) i x
  unfolding added
  part_added a n i l e =
      ap (λ (j : ℕ). part a n (set block j (number block j +ℤ x))) e
      ∙ part_set a n block (number block (a + i) +ℤ x) i l
      ∙ ap (λ (z : ℤ). set (part a n block) i (z +ℤ x)) (sym (part_at (pos 0) a n block i l))

  pub part_beside : (a n : ℕ) → (k < a) ⊎ (a + n ≤ k) → part a n (added block k x) ≡ part a n block
  unfolding added
  part_beside a n h = part_set_other a n block (number block k +ℤ x) k h

-- an amount added in the account's block is added in the book
module _ (book : List ℤ) (i k : ℕ) (x : ℤ) (h : k < 288) where
  block_added : block_of (added book (288 * i + k) x) i ≡ added (block_of book i) k x
  block_added = part_added book (288 * i + k) x (288 * i) 288 k h refl

  put_beside : (block : List ℤ) → put_block (added book (288 * i + k) x) i block ≡ put_block book i block
  unfolding added
  put_beside block = put_set (288 * i) 288 book block k (number book (288 * i + k) +ℤ x) h

  pub put_added : length book ≡ 4608 → i < 16 → put_block book i (added (block_of book i) k x) ≡ added book (288 * i + k) x
  put_added long l =
      ap (put_block book i) (sym block_added)
      ∙ sym (put_beside (block_of (added book (288 * i + k) x) i))
      ∙ put_part (pos 0) (288 * i) 288 (added book (288 * i + k) x) (omega (arith, added_length book (288 * i + k) x))
