-- Document 01, "Session lines": a session starts from an empty book and all-zero tables, and each line is answered by one line.
-- Assumes nothing.
use Rattle.std.specs.Prelude.{cond, List, [], ◌∷◌, ◌++◌, ℕ, ◌+◌, eqb, ltb, ℤ, pos, length, set, replicate}
use Rattle.whole.specs.Parts.{part}
use Rattle.whole.specs.Refusals.{leaves, wrong_choice, malformed}
use Rattle.rates.specs.Units.{table_length, group_count}
use Rattle.rates.specs.Lent.{Tables}
use Rattle.book.specs.Block.{book_length}
use Rattle.book.specs.declared.terms.Terms.{Terms}
use Rattle.figures.specs.Limit.{five}
use Rattle.engine.specs.State.{State}
use Rattle.engine.specs.Refused.{place_of}
use Rattle.engine.specs.Calls.{Call, outcome_of, opening, moving, ordering, rolling}
use Rattle.engine.specs.Report.{Reported, report_of}
use Rattle.frames.specs.Frame.{line_frame}
use Rattle.frames.specs.Answer.{answer_line}
use Rattle.frames.specs.declared.frame.MoveNumbers.{MoveNumbers}
use Rattle.frames.specs.declared.frame.OrderNumbers.{OrderNumbers}
use Rattle.frames.specs.declared.frame.Frame.{Frame}
use Rattle.frames.specs.declared.frame.Frame.TheVariants.{Parameter, Open, Move, Order, Roll, Report, Malformed}

-- ---- what a session holds from one line to the next: what the engine's calls change, and the parameters by place
pub record Memory : Type 0 where
  pub state : State
  pub parameters : List ℤ

-- places 0 to 2055
abbrev pub parameter_count : ℕ
parameter_count = 2056

unfoldable pub start : Memory
start = record { state = record { book = replicate book_length (pos 0) }; parameters = replicate parameter_count (pos 0) }

-- both tables and the groups: places 0 to 1023, 1024 to 2047, 2048 to 2055
abbrev pub tables_of : List ℤ → Tables
tables_of parameters = record {
  clearing = part 0 table_length parameters;
  own = part table_length table_length parameters;
  groups = part (table_length + table_length) group_count parameters;
}

-- ---- what a line is answered, and what it leaves
pub record Answered : Type 0 where
  pub memory : Memory
  pub line : List ℕ

-- a code alone
abbrev pub coded : Memory → ℕ → Answered
coded m code = record { memory = m; line = answer_line code [] }

-- the code of a call
abbrev pub called : Memory → Call → Answered
called m call = let o = outcome_of call m.state in coded (record { state = o.state; parameters = m.parameters }) o.code

-- 01: a place above 2055 is code 7, and nothing is set
unfoldable pub place_code : ℕ → ℕ
place_code place = cond (ltb place parameter_count) 0 wrong_choice

unfoldable pub parameter_set : List ℤ → ℕ → ℤ → List ℤ
parameter_set parameters place number = leaves (place_code place) (set parameters place number) parameters

-- 03 and 04: the calls with the line's numbers; an account is one byte
abbrev pub account_at : ℕ → ℕ
account_at account = place_of (pos account)

unfoldable pub line_move : List ℤ → MoveNumbers → Call
line_move parameters l = moving (tables_of parameters) (account_at l.account) (pos l.asset) l.amount

unfoldable pub terms_of : OrderNumbers → Terms
terms_of l = record { asset = pos l.asset; date = pos l.date; side = pos l.side; quantity = l.quantity; money = l.money }

unfoldable pub line_order : List ℤ → OrderNumbers → Call
line_order parameters l = ordering (tables_of parameters) (account_at l.account) (terms_of l)

-- 06: the code, then valuation, market risk, interest risk, discount, limit
abbrev pub report_line : Reported → List ℕ
report_line r = answer_line r.code (five r.figures)

-- each frame through its call; a line of no form is code 12
unfoldable pub answered : Memory → Frame → Answered
answered m (Parameter place number) =
    coded (record { state = m.state; parameters = parameter_set m.parameters place number }) (place_code place)
answered m (Open account kind code) = called m (opening (account_at account) (pos kind) (pos code))
answered m (Move l) = called m (line_move m.parameters l)
answered m (Order l) = called m (line_order m.parameters l)
answered m (Roll account) = called m (rolling (account_at account))
answered m (Report account) = record { memory = m; line = report_line (report_of (tables_of m.parameters) (account_at account) m.state) }
answered m Malformed = coded m malformed

-- ---- the session over its whole input
abbrev pub newline : ℕ
newline = 10

-- the lines of an input, the first of which has begun with some bytes; a newline ends a line, and the last may lack it
unfoldable pub lines_from : List ℕ → List ℕ → List (List ℕ)
lines_from begun [] = cond (eqb (length begun) 0) [] (begun ∷ [])
lines_from begun (b ∷ input) = cond (eqb b newline) (begun ∷ lines_from [] input) (lines_from (begun ++ (b ∷ [])) input)

unfoldable pub answers : Memory → List (List ℕ) → List ℕ
answers m [] = []
answers m (line ∷ lines) = let a = answered m (line_frame line) in a.line ++ answers a.memory lines

-- what a whole input is answered
unfoldable pub session : List ℕ → List ℕ
session input = answers start (lines_from [] input)
