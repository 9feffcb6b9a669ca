-- The codes of document 01's table, "Calls and turning away", and of document 02, as code answers them: the number of a refusal, 0 where there is none.
-- Assumes nothing.
use Rattle.std.specs.Prelude.{ℕ, Result, Ok, Err}
use Rattle.whole.specs.Refusals.{wrong_length, broken_number, laxer_own_row, no_account, broken_block, not_open, already_open, wrong_choice, wrong_amount, out_of_bounds, negative_limit, malformed}
use Rattle.whole.specs.declared.codes.Refusal.{Refusal}
use Rattle.whole.specs.declared.codes.Refusal.TheVariants.{WrongLength, BrokenNumber, LaxerOwnRow, NoAccount, BrokenBlock, NotOpen, AlreadyOpen, WrongChoice, WrongAmount, OutOfBounds, NegativeLimit, Malformed}

abbrev pub refusal_code : Refusal → ℕ
refusal_code WrongLength = wrong_length
refusal_code BrokenNumber = broken_number
refusal_code LaxerOwnRow = laxer_own_row
refusal_code NoAccount = no_account
refusal_code BrokenBlock = broken_block
refusal_code NotOpen = not_open
refusal_code AlreadyOpen = already_open
refusal_code WrongChoice = wrong_choice
refusal_code WrongAmount = wrong_amount
refusal_code OutOfBounds = out_of_bounds
refusal_code NegativeLimit = negative_limit
refusal_code Malformed = malformed

-- the code of an answer, whatever it carries where nothing turned the call away
abbrev pub answer_code : {A : Type 0} → Result A Refusal → ℕ
answer_code (Ok _) = 0
answer_code (Err refusal) = refusal_code refusal
