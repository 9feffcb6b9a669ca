-- Laws of a book with one account's block changed: what code lends and gets back, what stands there afterwards, and a change that is undone.
-- Assumes nothing.
use mathlib.Core.Path.{◌≡◌, sym, ap, ◌∙◌, subst}
use mathlib.Core.List.{List, ◌++◌}
use Prim.Native.Nat.{ℕ, ◌+◌, ◌*◌, ◌-◌, ◌<◌}
use lib.IntN.{ℤ}
use lib.ListN.{length, take, drop}
use Rattle.book.specs.Block.{block_of, put_block}
use Rattle.book.specs.AtAccount.{at_account, InBook}
use Rattle.book.proofs.Blocks.{lent_block, back_block, block_length_lem, put_block_length, block_put, put_back_block, block_put_other}

module _ (book : List ℤ) (i : ℕ) where
  -- what `&mut book[288 * i..288 * (i + 1)]` lends, and the book with it given back
  abbrev pub lent : List ℤ
  lent = take (288 * (i + 1) - 288 * i) (drop (288 * i) book)

  abbrev pub back : List ℤ → List ℤ
  back block = take (288 * i) book ++ (block ++ drop (288 * (i + 1) - 288 * i) (drop (288 * i) book))

  pub back_at : {block : List ℤ} (change : List ℤ → List ℤ) → block ≡ change lent → back block ≡ at_account book i change
  unfolding at_account
  back_at {block} change e = back_block book i block ∙ ap (put_block book i) (e ∙ ap change (lent_block book i))

  -- what holds of the block holds of what is lent
  pub of_lent : (P : List ℤ → Type 0) → P (block_of book i) → P lent
  of_lent P = subst P (sym (lent_block book i))

  module _ (p : InBook book i) where
    pub block_long : length (block_of book i) ≡ 288
    block_long = block_length_lem book p.long i p.below

    -- a change that keeps the block's length
    module _ (change : List ℤ → List ℤ) (whole : length (change (block_of book i)) ≡ length (block_of book i)) where
      pub at_long : length (at_account book i change) ≡ 4608
      unfolding at_account
      at_long = put_block_length book p.long i p.below (change (block_of book i)) (whole ∙ block_long)

      pub at_place : InBook (at_account book i change) i
      at_place = record { long = at_long; below = p.below }

      pub at_block : block_of (at_account book i change) i ≡ change (block_of book i)
      unfolding at_account
      at_block = block_put book p.long i p.below (change (block_of book i)) (whole ∙ block_long)

      pub at_others : (j : ℕ) → j < 16 → (j ≡ i → ⊥) → block_of (at_account book i change) j ≡ block_of book j
      unfolding at_account
      at_others = block_put_other book p.long i p.below (change (block_of book i)) (whole ∙ block_long)

      -- undone, it leaves the book as it was
      pub at_back : (undo : List ℤ → List ℤ) → undo (change (block_of book i)) ≡ block_of book i → at_account (at_account book i change) i undo ≡ book
      unfolding at_account
      at_back undo e =
          ap (λ (b : List ℤ). put_block (put_block book i (change (block_of book i))) i (undo b))
          (block_put book p.long i p.below (change (block_of book i)) (whole ∙ block_long))
          ∙ ap (put_block (put_block book i (change (block_of book i))) i) e
          ∙ put_back_block book p.long i p.below (change (block_of book i)) (whole ∙ block_long)
