-- Document 01, "Calls and turning away": a call is what turns it away, in order, and the change that it makes where nothing does. Its code is the first
-- refusal that applies; the state afterwards holds the one change where the code is 0, and is the state as it was otherwise.
-- Assumes nothing.
use Rattle.std.specs.Prelude.{List, [], ◌++◌, ℕ, ℤ, nat_abs}
use Rattle.whole.specs.Refusals.{Refusal, first_code, leaves}
use Rattle.rates.specs.Lent.{Tables}
use Rattle.book.specs.Choices.{trade_of}
use Rattle.book.specs.Changes.{opened, traded, moved}
use Rattle.book.specs.Roll.{rolled}
use Rattle.book.specs.declared.changes.Trade.{Trade}
use Rattle.book.specs.declared.terms.Terms.{Terms}
use Rattle.engine.specs.State.{State, Changed, left, changed_at}
use Rattle.engine.specs.Refused.{open_stands, open_judged, roll_refusals, move_stands, move_judged, order_stands, order_judged, not_raised}

-- ---- any call
pub record Call : Type 0 where
  pub refusals : State → List Refusal
  pub change : State → State

-- what it answers and leaves
pub record Outcome : Type 0 where
  pub code : ℕ
  pub state : State

abbrev pub code_of : Call → State → ℕ
code_of call s = first_code (call.refusals s)

unfoldable pub outcome_of : Call → State → Outcome
outcome_of call s = record { code = code_of call s; state = leaves (code_of call s) (call.change s) s }

-- a code and a book, as a contract names what was answered and left
abbrev pub answer : ℕ → Changed → Outcome
answer code book = record { code = code; state = left book }

-- a call that nothing turns away and that changes the account's block, and refusals before a call
abbrev pub changing : ℕ → (List ℤ → List ℤ) → Call
changing i change = record { refusals = λ s. []; change = changed_at i change }

infixr 40 ◌before◌
abbrev pub ◌before◌ : (State → List Refusal) → Call → Call
first before call = record { refusals = λ s. first s ++ call.refusals s; change = call.change }

-- ---- the calls
-- an open of an empty block: its code is asked of the state with it opened
unfoldable pub judged_opening : ℕ → ℤ → ℤ → Call
judged_opening i kind code = open_judged i kind code before changing i (λ b. opened b kind code)

unfoldable pub opening : ℕ → ℤ → ℤ → Call
opening i kind code = open_stands i before judged_opening i kind code

unfoldable pub rolling : ℕ → Call
rolling i = roll_refusals i before changing i rolled

-- a move and a trade once they stand: the limit is asked of the state with them
unfoldable pub judged_move : Tables → ℕ → ℕ → ℤ → Call
judged_move tables i asset amount = move_judged tables i asset amount before changing i (λ b. moved b asset amount)

unfoldable pub moving : Tables → ℕ → ℤ → ℤ → Call
moving tables i asset amount = move_stands tables i asset amount before judged_move tables i (nat_abs asset) amount

unfoldable pub judged_trade : Tables → ℕ → Trade → Call
judged_trade tables i t = order_judged tables i t before changing i (λ b. traded b t)

-- a trade whose limit with it, `after`, is not enough: the second ground is asked of the state without it
unfoldable pub raising_trade : Tables → ℕ → Trade → ℤ → Call
raising_trade tables i t after = not_raised tables i after before changing i (λ b. traded b t)

unfoldable pub ordering : Tables → ℕ → Terms → Call
ordering tables i o = order_stands tables i o before judged_trade tables i (trade_of o)
