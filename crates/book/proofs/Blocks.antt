-- Laws of the book and its blocks, and of the stretches of a block: their lengths, what code lends of them and what comes back.
-- Assumes nothing.
use mathlib.Core.Path.{◌≡◌, ap, ◌∙◌, subst}
use mathlib.Core.Logic.{inl, inr, ⊎_elim}
use mathlib.Core.List.{List, ◌++◌}
use Prim.Native.Nat.{ℕ, ◌+◌, ◌*◌, ◌-◌, ◌≤◌, ◌<◌}
use native.Mathlib.Omega.{arith}
use lib.IntN.{ℤ, pos}
use lib.ListN.{length, take, drop, get_or}
use lib.Seq.{ext_get_or}
use Rattle.whole.specs.Parts.{part, put}
use Rattle.whole.proofs.Numbers.{lt_or_ge}
use Rattle.whole.proofs.Parts.{cut, part_at, part_length, part_put, part_put_other, put_before, put_in, put_after, put_length}
use Rattle.book.specs.Block.{block_of, put_block, ruble_numbers, holding_of}

-- a part that was replaced, put back
put_back : {A : Type 0} (d : A) (a n : ℕ) (xs ys : List A) → a + n ≤ length xs → length ys ≡ n → put a n (put a n xs ys) (part a n xs) ≡ xs
put_back d a n xs ys fits whole =
    let long : length (part a n xs) ≡ n = part_length d a n xs fits in
    let same = put_length d a n xs ys fits whole in
    let room : a + n ≤ length (put a n xs ys) = omega arith in
    ext_get_or d _ _ (put_length d a n (put a n xs ys) (part a n xs) room long ∙ same)
    (λ i l. ⊎_elim
    (λ h. put_before d a n (put a n xs ys) (part a n xs) room long i h ∙ put_before d a n xs ys fits whole i h)
    (λ h. ⊎_elim
    (λ k. let e : a + (i - a) ≡ i = omega arith in
    subst (λ (j : ℕ). get_or (put a n (put a n xs ys) (part a n xs)) j d ≡ get_or xs j d) e
    (put_in d a n (put a n xs ys) (part a n xs) room long (i - a) (omega arith) ∙ part_at d a n xs (i - a) (omega arith)))
    (λ k. put_after d a n (put a n xs ys) (part a n xs) room long i k ∙ put_after d a n xs ys fits whole i k)
    (lt_or_ge i (a + n)))
    (lt_or_ge i a))

-- ---- a block lent from the book, `&mut book[288 * i..288 * (i + 1)]`
size : (i : ℕ) → 288 * (i + 1) - 288 * i ≡ 288
size i = omega arith

pub lent_block : (book : List ℤ) (i : ℕ) → take (288 * (i + 1) - 288 * i) (drop (288 * i) book) ≡ block_of book i
unfolding part
lent_block book i = ap (λ (n : ℕ). take n (drop (288 * i) book)) (size i)

pub back_block : (book : List ℤ) (i : ℕ) (block : List ℤ)
    → take (288 * i) book ++ (block ++ drop (288 * (i + 1) - 288 * i) (drop (288 * i) book)) ≡ put_block book i block
unfolding put
back_block book i block = ap (λ (n : ℕ). take (288 * i) book ++ (block ++ drop n (drop (288 * i) book))) (size i)

module _ (book : List ℤ) (long : length book ≡ 4608) (i : ℕ) (l : i < 16) where
  pub block_length_lem : length (block_of book i) ≡ 288
  block_length_lem = part_length (pos 0) (288 * i) 288 book (omega arith)

  module _ (block : List ℤ) (whole : length block ≡ 288) where
    pub put_block_length : length (put_block book i block) ≡ 4608
    put_block_length = put_length (pos 0) (288 * i) 288 book block (omega arith) whole ∙ long

    -- what was put is what stands there
    pub block_put : block_of (put_block book i block) i ≡ block
    block_put = part_put (pos 0) (288 * i) 288 book block (omega arith) whole

    -- the block that stood there, put back
    pub put_back_block : put_block (put_block book i block) i (block_of book i) ≡ book
    put_back_block = put_back (pos 0) (288 * i) 288 book block (omega arith) whole

    -- other accounts' blocks are as they were
    pub block_put_other : (j : ℕ) → j < 16 → (j ≡ i → ⊥) → block_of (put_block book i block) j ≡ block_of book j
    block_put_other j h apart =
        part_put_other (pos 0) (288 * i) 288 book block (omega arith) whole (288 * j) 288 (omega arith)
        (⊎_elim (λ k. inl (omega arith)) (λ k. inr (omega arith)) (lt_or_ge j i))

-- ---- the stretches of a block
pub lent_holding : (block : List ℤ) (a : ℕ) → take (16 + 17 * a + 17 - (16 + 17 * a)) (drop (16 + 17 * a) block) ≡ holding_of block a
lent_holding block a = cut (16 + 17 * a) 17 block

module _ (block : List ℤ) (long : length block ≡ 288) where
  pub rubles_length : length (ruble_numbers block) ≡ 9
  rubles_length = part_length (pos 0) 1 9 block (omega arith)

  pub holding_length_lem : (a : ℕ) → a < 16 → length (holding_of block a) ≡ 17
  holding_length_lem a l = part_length (pos 0) (16 + 17 * a) 17 block (omega arith)
