-- What an opening leaves, for callers: its kind, and closed again an empty block is the block that it was. Assumes nothing.
use mathlib.Core.Path.{◌≡◌, sym, ap, ◌∙◌}
use mathlib.Core.Logic.{◌≢◌}
use mathlib.Core.Bool.{true, false}
use mathlib.Core.List.{List}
use Prim.Native.Nat.{ℕ, zero, suc}
use native.Mathlib.Omega.{arith}
use lib.Dec.{leb}
use lib.IntN.{ℤ, pos, negsuc}
use lib.ListN.{length, set, length-set}
use lib.Seq.{get_or-set_same, get_or-set_other, set-set, set_comm, set-get_or}
use borrow.Author.Tests.{lt-leb}
use Rattle.whole.specs.Bounds.{between, is_zero}
use Rattle.whole.specs.Marks.{all_zero}
use Rattle.whole.specs.Parts.{number}
use Rattle.whole.proofs.Tests.{second_out, true_not_false}
use Rattle.book.specs.Block.{account_kind}
use Rattle.book.specs.Rules.{kind_right}
use Rattle.book.specs.Changes.{opened}
use Rattle.book.proofs.Good.{number_zero}

not_zero : (kind : ℤ) → kind_right kind ≡ true → is_zero kind ≡ false
unfolding between
not_zero (pos zero) e = true_not_false e
not_zero (pos (suc n)) e = second_out (leb 0 (suc n)) (leb (suc n) 0) (lt-leb (suc n) 0 (omega arith))
not_zero (negsuc n) e = true_not_false e

module _ (block : List ℤ) (kind code : ℤ) where
  pub opened_length : length (opened block kind code) ≡ length block
  unfolding opened
  opened_length = length-set (set block 0 kind) 13 code ∙ length-set block 0 kind

  -- two numbers are written, and no other
  pub opened_others : (k : ℕ) → k ≢ 0 → k ≢ 13 → number (opened block kind code) k ≡ number block k
  unfolding opened
  opened_others k apart beyond = get_or-set_other (set block 0 kind) 13 k code (pos 0) beyond ∙ get_or-set_other block 0 k kind (pos 0) apart

  module _ (long : length block ≡ 288) where
    pub opened_open : kind_right kind ≡ true → is_zero (account_kind (opened block kind code)) ≡ false
    unfolding opened
    opened_open right =
        ap is_zero (get_or-set_other (set block 0 kind) 13 0 code (pos 0) (λ e. omega arith) ∙ get_or-set_same block 0 kind (pos 0) (omega arith)) ∙ not_zero kind right

    -- both numbers taken back leave an empty block as it was
    pub opened_back : all_zero block ≡ true → opened (opened block kind code) (pos 0) (pos 0) ≡ block
    unfolding opened
    opened_back empty =
        ap (λ (b : List ℤ). set b 13 (pos 0)) (sym (set_comm (set block 0 kind) 0 13 (pos 0) code (λ e. omega arith)))
        ∙ set-set (set (set block 0 kind) 0 (pos 0)) 13 code (pos 0)
        ∙ ap (λ (b : List ℤ). set b 13 (pos 0)) (set-set block 0 kind (pos 0) ∙ zero_there 0) ∙ zero_there 13
      where
        zero_there : (k : ℕ) → set block k (pos 0) ≡ block
        zero_there k = ap (set block k) (sym (number_zero block empty k)) ∙ set-get_or block k (pos 0)
