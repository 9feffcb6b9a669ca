-- The laws of specs/Laws of an account that nobody shares a code with: its list is itself, and its block alone decides. Assumes nothing.
use mathlib.Core.Path.{◌≡◌, refl, ap, ap₂, ◌∙◌}
use mathlib.Core.Bool.{Bool, ◌&&◌}
use mathlib.Core.List.{List}
use Prim.Native.Nat.{ℕ}
use lib.Dec.{leb}
use lib.IntN.{ℤ}
use Rattle.whole.proofs.Bounds.{equal_yes}
use Rattle.whole.proofs.Lists.{and-true}
use Rattle.book.specs.Block.{block_of}
use Rattle.book.specs.Rules.{good_block, holds_listed}
use Rattle.book.specs.Members.{kind_at}
use Rattle.settlement.specs.Code.{on_code, member_right, code_right, code_holds_listed}
use Rattle.settlement.specs.Laws.{OnNoCode, Unshared, AloneInList, AloneRight, AloneHoldsListed}
use Rattle.settlement.proofs.Codes.{each_alone}
use Rattle.settlement.proofs.Mates.{alone_on}
use Rattle.settlement.proofs.Listing.{list_alone, count_alone}

pub no_code_unshared : (book : List ℤ) (i : ℕ) → OnNoCode book i → Unshared book i
no_code_unshared book i none j q = alone_on book i none j

-- its kind is its own
own_right : (book : List ℤ) (i : ℕ) → member_right book i i ≡ good_block (block_of book i)
unfolding member_right
own_right book i = ap (λ (t : Bool). good_block (block_of book i) && t) (equal_yes refl) ∙ and-true (good_block (block_of book i))

pub alone_in_list : AloneInList
alone_in_list book i l alone = list_alone (on_code book i) (kind_at book i) i 16 alone l

pub alone_right : AloneRight
unfolding code_right
alone_right book i l alone =
    ap₂ (λ (t : Bool) (n : ℕ). t && leb n 4)
    (each_alone (on_code book i) (member_right book i) i l alone ∙ own_right book i)
    (count_alone (on_code book i) (kind_at book i) i 16 alone l)
    ∙ and-true (good_block (block_of book i))

pub alone_holds_listed : AloneHoldsListed
unfolding code_holds_listed
alone_holds_listed book i l alone clearing = each_alone (on_code book i) (λ j. holds_listed (block_of book j) clearing) i l alone
