-- Accounts that share a settlement code (clause 4.11, document 02, #104). Each is a type, which proofs/Codes proves.
--   OneReport        two accounts of a code have the same report: the same code and the same five figures, refusals too;
--   AsDocument01     an account that nobody shares a code with has the report that document 01 gives it, whatever the other blocks are;
--   CodesKept        a book in which every code is right stays such a book, whatever is called and whatever it answers; the empty book is one. So no run of
--                    calls makes a fifth block, two kinds or a broken block on a code.
-- Assumes nothing.
use Rattle.std.specs.Prelude.{◌≡◌, true, not, ◌&&◌, List, [], ◌∷◌, ◌++◌, ℕ, ◌<◌, ℤ, pos, replicate}
use Rattle.whole.specs.Bounds.{is_zero}
use Rattle.whole.specs.Refusals.{Refusal, ◌gives◌, first_code, broken_block, not_open}
use Rattle.rates.specs.Lent.{Tables}
use Rattle.book.specs.Block.{accounts, book_length, account_kind}
use Rattle.book.specs.Rules.{good_block, holds_listed}
use Rattle.book.specs.declared.terms.Terms.{Terms}
use Rattle.settlement.specs.Code.{on_code, code_right}
use Rattle.settlement.specs.Laws.{Unshared}
use Rattle.figures.specs.Limit.{block_figures}
use Rattle.engine.specs.State.{State, block_at}
use Rattle.engine.specs.Refused.{table_gate}
use Rattle.engine.specs.Calls.{Call, outcome_of, opening, rolling, moving, ordering}
use Rattle.engine.specs.Report.{report_of, answer_of, Reported}

-- ---- whichever account of a code is asked
abbrev pub OneReport : Type 0
OneReport = (tables : Tables) (s : State) (i j : ℕ) → i < accounts → j < accounts → on_code s.book i j ≡ true
    → report_of tables i s ≡ report_of tables j s

-- ---- an account alone: document 01's refusals 6 and 4 are asked of its block, and its figures are its block's
abbrev pub refusals_alone : List ℤ → ℕ → State → List Refusal
refusals_alone clearing i s =
    not (good_block (block_at s i) && holds_listed (block_at s i) clearing) gives broken_block
    ∷ is_zero (account_kind (block_at s i)) gives not_open
    ∷ []

unfoldable pub report_alone : Tables → ℕ → State → Reported
report_alone tables i s = answer_of (first_code (table_gate tables i s ++ refusals_alone tables.clearing i s)) (block_figures (block_at s i) tables)

abbrev pub AsDocument01 : Type 0
AsDocument01 = (tables : Tables) (s : State) (i : ℕ) → i < accounts → Unshared s.book i → report_of tables i s ≡ report_alone tables i s

-- ---- any run of calls
abbrev pub CodesRight : State → Type 0
CodesRight s = (i : ℕ) → i < accounts → code_right s.book i ≡ true

abbrev pub empty_state : State
empty_state = record { book = replicate book_length (pos 0) }

-- a call that writes, with what it is given
pub data Writing : Type 0 where
  opens : ℕ → ℤ → ℤ → Writing
  rolls : ℕ → Writing
  moves : Tables → ℕ → ℤ → ℤ → Writing
  orders : Tables → ℕ → Terms → Writing

unfoldable pub call_of : Writing → Call
call_of (opens i kind code) = opening i kind code
call_of (rolls i) = rolling i
call_of (moves tables i asset amount) = moving tables i asset amount
call_of (orders tables i o) = ordering tables i o

-- the state after one call behind another
unfoldable pub after : List Writing → State → State
after [] s = s
after (w ∷ rest) s = after rest (outcome_of (call_of w) s).state

pub record CodesKept : Type 0 where
  pub by_one : (w : Writing) (s : State) → CodesRight s → CodesRight (outcome_of (call_of w) s).state
  pub by_a_run : (run : List Writing) → CodesRight (after run empty_state)
