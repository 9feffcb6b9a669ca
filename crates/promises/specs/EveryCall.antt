-- What holds of every call that writes, and after an order or a move that passed. Each is a type; proofs/Calls, Unchanged, Kept and Judged prove them.
--   Promised        two outcomes that a call's contract allows coincide; a refusal leaves the state as it was; other accounts' blocks stay, those of its
--                   code too; the code, and the account's block afterwards, depend on what the call sees: the length, the blocks of the account's
--                   settlement code, tables and numbers, and on no other block (document 02, #104);
--   SameReport      so does a report;
--   Unchanged       what a call leaves as it was in its own account's block;
--   GoodAfter       after a call that passed, the account's block keeps the block rules and is open, and its settlement code is right;
--   HeadUnread      one block's figures read no number 10 to 15 of it;
--   OrderReported   after an order that passed, the report of the state left answers 0 with that state's figures;
--   MoveReported    after a move that passed, it does too.
-- Assumes nothing.
use Rattle.std.specs.Prelude.{◌≡◌, true, false, ◌≢◌, List, ℕ, ◌≤◌, ◌<◌, ℤ, length, set}
use Rattle.whole.specs.Bounds.{is_zero}
use Rattle.whole.specs.Parts.{number}
use Rattle.book.specs.Block.{accounts, account_kind, InHead}
use Rattle.book.specs.Rules.{good_block}
use Rattle.book.specs.Changes.{opened}
use Rattle.settlement.specs.Code.{code_right}
use Rattle.settlement.specs.Laws.{AlikeBlocks}
use Rattle.rates.specs.Lent.{Tables}
use Rattle.engine.specs.State.{State, block_at, changed_at}
use Rattle.engine.specs.Refused.{figures_at}
use Rattle.engine.specs.Calls.{Call, Outcome, outcome_of, opening, rolling, moving, ordering}
use Rattle.figures.specs.Limit.{block_figures}
use Rattle.engine.specs.Report.{report_of}
use Rattle.book.specs.declared.terms.Terms.{Terms}

-- two states that a call of account i cannot tell apart: every block that is on its code in either is the same, its own among them
pub record Alike (i : ℕ) (s other : State) : Type 0 where
  pub same_length : length s.book ≡ length other.book
  pub same_blocks : AlikeBlocks i s.book other.book

-- and that an open of it cannot: its block is the same, and so is every block of the code that it is opened on
pub record AlikeOpened (i : ℕ) (kind code : ℤ) (s other : State) : Type 0 where
  pub same_length : length s.book ≡ length other.book
  pub same_block : block_at s i ≡ block_at other i
  pub same_opened : AlikeBlocks i (changed_at i (λ b. opened b kind code) s).book (changed_at i (λ b. opened b kind code) other).book

-- of a call of account i, and the states that it cannot tell apart
pub record Promised (Same : State → State → Type 0) (i : ℕ) (call : Call) : Type 0 where
  pub one_outcome : (s : State) (x y : Outcome) → x ≡ outcome_of call s → y ≡ outcome_of call s → x ≡ y
  pub refusal_keeps : (s : State) → ((outcome_of call s).code ≡ 0 → ⊥) → (outcome_of call s).state ≡ s
  pub others_stay : (s : State) (j : ℕ) → j < accounts → (j ≡ i → ⊥) → block_at (outcome_of call s).state j ≡ block_at s j
  pub same_code : (s other : State) → Same s other → (outcome_of call s).code ≡ (outcome_of call other).code
  pub same_block_after : (s other : State) → Same s other → i < accounts → block_at (outcome_of call s).state i ≡ block_at (outcome_of call other).state i

pub record EveryCall : Type 0 where
  pub opens : (i : ℕ) (kind code : ℤ) → Promised (AlikeOpened i kind code) i (opening i kind code)
  pub rolls : (i : ℕ) → Promised (Alike i) i (rolling i)
  pub moves : (tables : Tables) (i : ℕ) (asset amount : ℤ) → Promised (Alike i) i (moving tables i asset amount)
  pub orders : (tables : Tables) (i : ℕ) (o : Terms) → Promised (Alike i) i (ordering tables i o)

-- number k of account i's block is as it was
abbrev pub Stays : ℕ → Call → State → ℕ → Type 0
Stays i call s k = number (block_at (outcome_of call s).state i) k ≡ number (block_at s i) k

-- an open changes numbers 0 and 13 alone; a move, an order and a roll leave the head, numbers 0 and 10 to 15
pub record Unchanged : Type 0 where
  pub opens : (i : ℕ) (kind code : ℤ) (s : State) (k : ℕ) → k ≢ 0 → k ≢ 13 → Stays i (opening i kind code) s k
  pub rolls : (i : ℕ) (s : State) (k : ℕ) → InHead k → Stays i (rolling i) s k
  pub moves : (tables : Tables) (i : ℕ) (asset amount : ℤ) (s : State) (k : ℕ) → InHead k → Stays i (moving tables i asset amount) s k
  pub orders : (tables : Tables) (i : ℕ) (o : Terms) (s : State) (k : ℕ) → InHead k → Stays i (ordering tables i o) s k

-- where the call passed, the block of account i is good and open, and its code is right: at most four blocks, each good and of one kind
pub record GoodAt (i : ℕ) (s : State) : Type 0 where
  pub good : good_block (block_at s i) ≡ true
  pub is_open : is_zero (account_kind (block_at s i)) ≡ false
  pub code_right : code_right s.book i ≡ true

abbrev pub Good : ℕ → Call → State → Type 0
Good i call s = (outcome_of call s).code ≡ 0 → GoodAt i (outcome_of call s).state

pub record GoodAfter : Type 0 where
  pub opens : (i : ℕ) (kind code : ℤ) (s : State) → Good i (opening i kind code) s
  pub rolls : (i : ℕ) (s : State) → Good i (rolling i) s
  pub moves : (tables : Tables) (i : ℕ) (asset amount : ℤ) (s : State) → Good i (moving tables i asset amount) s
  pub orders : (tables : Tables) (i : ℕ) (o : Terms) (s : State) → Good i (ordering tables i o) s

abbrev pub HeadUnread : Type 0
HeadUnread = (block : List ℤ) (tables : Tables) (k : ℕ) (x : ℤ) → 10 ≤ k → k < 16 → block_figures (set block k x) tables ≡ block_figures block tables

abbrev pub SameReport : Type 0
SameReport = (tables : Tables) (i : ℕ) (s other : State) → Alike i s other → report_of tables i s ≡ report_of tables i other

-- where the call passed, the report of the state left answers 0 with that state's figures
abbrev pub Reports : Tables → ℕ → Call → State → Type 0
Reports tables i call s = (outcome_of call s).code ≡ 0
    → let left = (outcome_of call s).state in ((report_of tables i left).code ≡ 0) × ((report_of tables i left).figures ≡ figures_at tables i left)

abbrev pub OrderReported : Type 0
OrderReported = (tables : Tables) (i : ℕ) (o : Terms) (s : State) → Reports tables i (ordering tables i o) s

abbrev pub MoveReported : Type 0
MoveReported = (tables : Tables) (i : ℕ) (asset amount : ℤ) (s : State) → Reports tables i (moving tables i asset amount) s
