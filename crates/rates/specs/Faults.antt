-- What the table check answers in code, as the code and the place of document 01.
-- Assumes nothing.
use Rattle.std.specs.Prelude.{ℕ, Result, Ok, Err}
use Rattle.whole.specs.declared.codes.Refusal.{Refusal}
use Rattle.whole.specs.declared.codes.Refusal.TheVariants as refused
use Rattle.whole.specs.Codes.{refusal_code}
use Rattle.rates.specs.declared.tables.Fault.{Fault}
use Rattle.rates.specs.declared.tables.Fault.TheVariants.{WrongLength, BrokenNumber, LaxerOwnRow}
use Rattle.rates.specs.Tables.{Checked}

-- the refusal that a call answers for a fault
abbrev pub refusal_of : Fault → Refusal
refusal_of WrongLength = refused.WrongLength
refusal_of (BrokenNumber _) = refused.BrokenNumber
refusal_of (LaxerOwnRow _) = refused.LaxerOwnRow

-- the place of a fault, 0 where it has none
abbrev pub fault_place : Fault → ℕ
fault_place WrongLength = 0
fault_place (BrokenNumber place) = place
fault_place (LaxerOwnRow place) = place

abbrev pub checked_as : {A : Type 0} → Result A Fault → Checked
checked_as (Ok _) = record { code = 0; place = 0 }
checked_as (Err fault) = record { code = refusal_code (refusal_of fault); place = fault_place fault }
