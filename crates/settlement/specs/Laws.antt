-- What holds of settlement codes (clause 4.11, #104), each as a type that proofs/ proves: who is on a code (proofs/Mates), an account that shares
-- none (proofs/Mates, proofs/Alone), a right code (proofs/Right), its list (proofs/Listed), what a change of one block keeps (proofs/Kept), and that
-- a code sees its own blocks and no others (proofs/Alike).
-- Assumes nothing.
use Rattle.std.specs.Prelude.{◌≡◌, Bool, true, false, ◌⊎◌, List, ℕ, ◌<◌, ◌≤◌, eqb, ℤ, length}
use Rattle.whole.specs.Bounds.{is_zero}
use Rattle.book.specs.Block.{accounts, block_length, block_of, put_block, account_kind, settlement_code}
use Rattle.book.specs.Rules.{good_block, holds_listed}
use Rattle.book.specs.AtAccount.{InBook}
use Rattle.book.specs.Members.{most_members, member_at, kind_at, alone_at, MemberRanges}
use Rattle.book.specs.declared.members.Members.{Members}
use Rattle.settlement.specs.Code.{on_code, count_on, code_right, code_holds_listed}
use Rattle.settlement.specs.Members.{list_of, members_of, Lists, CodeRanges}

-- ---- who is on a code: clause 4.11 values its accounts together, whichever of them asks
-- an account is on its own
abbrev pub OnItself : Type 0
OnItself = (book : List ℤ) (i : ℕ) → on_code book i i ≡ true

-- every account on a code sees the same blocks on it
abbrev pub MatesOn : Type 0
MatesOn = (book : List ℤ) (i j : ℕ) → on_code book i j ≡ true → (k : ℕ) → on_code book i k ≡ on_code book j k

-- so being on a code goes both ways
abbrev pub OnBothWays : Type 0
OnBothWays = (book : List ℤ) (i j : ℕ) → on_code book i j ≡ true → on_code book j i ≡ true

-- ---- an account that nobody shares a code with
-- on no code: 0 is none, and never shared (#104)
abbrev pub OnNoCode : List ℤ → ℕ → Type 0
OnNoCode book i = is_zero (settlement_code (block_of book i)) ≡ true

-- it is valued alone
abbrev pub AloneOn : Type 0
AloneOn = (book : List ℤ) (i : ℕ) → OnNoCode book i → (j : ℕ) → on_code book i j ≡ eqb i j

-- that, or the only one on its code
abbrev pub Unshared : List ℤ → ℕ → Type 0
Unshared book i = (j : ℕ) → j < accounts → on_code book i j ≡ eqb i j

-- its list is itself
abbrev pub AloneInList : Type 0
AloneInList = (book : List ℤ) (i : ℕ) → i < accounts → Unshared book i → members_of book i ≡ alone_at book i

-- and its block alone decides: refusal 6 reads as document 01 has it
abbrev pub AloneRight : Type 0
AloneRight = (book : List ℤ) (i : ℕ) → i < accounts → Unshared book i → code_right book i ≡ good_block (block_of book i)

abbrev pub AloneHoldsListed : Type 0
AloneHoldsListed =
    (book : List ℤ) (i : ℕ) → i < accounts → Unshared book i
    → (clearing : List ℤ) → code_holds_listed book i clearing ≡ holds_listed (block_of book i) clearing

-- ---- a right code: what refusal 6 asks without tables (#104)
-- it has what its figures ask: at most four blocks, with their numbers in range
abbrev pub RightInRange : Type 0
RightInRange = (book : List ℤ) (i : ℕ) → InBook book i → code_right book i ≡ true → CodeRanges book i

-- it is right for every account on it, and listed for every one where it is for one: 6 turns away a whole code
abbrev pub MateRight : Type 0
MateRight = (book : List ℤ) (i j : ℕ) → j < accounts → on_code book i j ≡ true → code_right book i ≡ true → code_right book j ≡ true

abbrev pub MateHoldsListed : Type 0
MateHoldsListed = (book : List ℤ) (i j : ℕ) → on_code book i j ≡ true → (clearing : List ℤ) → code_holds_listed book i clearing ≡ code_holds_listed book j clearing

-- it has good blocks of one kind
abbrev pub MemberGood : Type 0
MemberGood = (book : List ℤ) (i j : ℕ) → j < accounts → on_code book i j ≡ true → code_right book i ≡ true → good_block (block_of book j) ≡ true

abbrev pub MemberKind : Type 0
MemberKind =
    (book : List ℤ) (i j : ℕ) → j < accounts → on_code book i j ≡ true → code_right book i ≡ true
    → account_kind (block_of book j) ≡ account_kind (block_of book i)

-- and where it is listed, blocks without a holding in an unlisted asset
abbrev pub MemberHoldsListed : Type 0
MemberHoldsListed =
    (book : List ℤ) (i j : ℕ) → j < accounts → on_code book i j ≡ true → (clearing : List ℤ) → code_holds_listed book i clearing ≡ true
    → holds_listed (block_of book j) clearing ≡ true

-- ---- the list of a code, over which clause 4.11 adds
-- it lists those on the code, where there is room for them, and has the kind that it is made under
abbrev pub ListLists : Type 0
ListLists = (on : ℕ → Bool) (kind n : ℕ) → count_on on n ≤ most_members → Lists on n (list_of on kind n)

abbrev pub ListKind : Type 0
ListKind = (on : ℕ → Bool) (kind n : ℕ) → (list_of on kind n).kind ≡ kind

-- members come by rising account, so none twice; that each is on the code is a clause of `Lists`
abbrev pub MembersRise : Type 0
MembersRise =
    (on : ℕ → Bool) (n : ℕ) (m : Members) → Lists on n m → (k l : ℕ) → k < l → l < m.count → member_at m k < member_at m l

-- every account on the code is a member
abbrev pub EveryoneAMember : Type 0
EveryoneAMember =
    (on : ℕ → Bool) (n : ℕ) (m : Members) → Lists on n m → (j : ℕ) → j < n → on j ≡ true
    → (k : ℕ) × (k < m.count) × (member_at m k ≡ j)

-- the members of a right code have the kind that the list says
abbrev pub MembersOfOneKind : Type 0
MembersOfOneKind =
    (book : List ℤ) (i : ℕ) → code_right book i ≡ true
    → (k : ℕ) → k < (members_of book i).count → kind_at book (member_at (members_of book i) k) ≡ (members_of book i).kind

-- the members of a code in range can be valued
abbrev pub MembersInRange : Type 0
MembersInRange = (book : List ℤ) (i : ℕ) → CodeRanges book i → MemberRanges book (members_of book i)

-- ---- what a change of one block keeps: block j replaced by another of 288 numbers whose number 13 is the same (only opening writes that, #104)
pub record SameCode (book : List ℤ) (j : ℕ) (new : List ℤ) : Type 0 where
  pub there : InBook book j
  pub sized : length new ≡ block_length
  pub code : settlement_code new ≡ settlement_code (block_of book j)

-- who is on a code, any account's: nothing but number 13 decides it
abbrev pub OnKept : Type 0
OnKept =
    (book : List ℤ) (j : ℕ) (new : List ℤ) → SameCode book j new
    → (i k : ℕ) → i < accounts → k < accounts → on_code (put_block book j new) i k ≡ on_code book i k

-- a right code, where the new block is good and number 0 is the same too
abbrev pub RightKept : Type 0
RightKept =
    (book : List ℤ) (j : ℕ) (new : List ℤ) → SameCode book j new → account_kind new ≡ account_kind (block_of book j) → good_block new ≡ true
    → (i : ℕ) → i < accounts → code_right book i ≡ true → code_right (put_block book j new) i ≡ true

-- and a listed one, where the new block has no holding in an unlisted asset
abbrev pub HoldsListedKept : Type 0
HoldsListedKept =
    (book : List ℤ) (j : ℕ) (new clearing : List ℤ) → SameCode book j new → holds_listed new clearing ≡ true
    → (i : ℕ) → i < accounts → code_holds_listed book i clearing ≡ true → code_holds_listed (put_block book j new) i clearing ≡ true

-- ---- a code sees its own blocks and no others (#104): two books, of any length, in which every block that is on account i's code in either is the same
abbrev pub AlikeBlocks : ℕ → List ℤ → List ℤ → Type 0
AlikeBlocks i book other = (j : ℕ) → j < accounts → (on_code book i j ≡ true) ⊎ (on_code other i j ≡ true) → block_of book j ≡ block_of other j

abbrev pub AlikeOn : Type 0
AlikeOn =
    (i : ℕ) (book other : List ℤ) → i < accounts → AlikeBlocks i book other → (j : ℕ) → j < accounts → on_code book i j ≡ on_code other i j

abbrev pub AlikeRight : Type 0
AlikeRight = (i : ℕ) (book other : List ℤ) → i < accounts → AlikeBlocks i book other → code_right book i ≡ code_right other i

abbrev pub AlikeHoldsListed : Type 0
AlikeHoldsListed =
    (i : ℕ) (book other clearing : List ℤ) → i < accounts → AlikeBlocks i book other → code_holds_listed book i clearing ≡ code_holds_listed other i clearing

-- so a block that is not on its code, neither before nor after it is replaced, is nothing to it
abbrev pub AlikeElsewhere : Type 0
AlikeElsewhere =
    (i : ℕ) (book : List ℤ) (j : ℕ) (new : List ℤ) → InBook book j → length new ≡ block_length
    → on_code book i j ≡ false → on_code (put_block book j new) i j ≡ false → AlikeBlocks i book (put_block book j new)
