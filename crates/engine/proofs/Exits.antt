-- What a `?` passes on of a refusal: its code, which is never 0, the code of a call that nothing turned away; and where it ends a list of refusals.
-- Assumes nothing.
use mathlib.Core.Path.{◌≡◌, ap, ◌∙◌}
use mathlib.Core.List.{List, ◌++◌}
use native.Mathlib.Omega.{arith}
use lib.Dec.{T}
use Rattle.std.specs.Prelude.{Result}
use Rattle.std.specs.Result.{IsErrAnd}
use Rattle.std.proofs.lemmas.Result.{err_from_is_err_and}
use Rattle.whole.specs.Codes.{refusal_code, answer_code}
use Rattle.whole.specs.Refusals.{first_code}
use Rattle.whole.specs.Refusals as listed
use Rattle.whole.specs.declared.codes.Refusal.{Refusal}
use Rattle.whole.specs.declared.codes.Refusal.TheVariants.{WrongLength, BrokenNumber, LaxerOwnRow, NoAccount, BrokenBlock, NotOpen, AlreadyOpen, WrongChoice, WrongAmount, OutOfBounds, NegativeLimit, Malformed}
use Rattle.whole.proofs.Refusals.{coded, stops, follows}

pub refusal_not_0 : (refusal : Refusal) → refusal_code refusal ≡ 0 → ⊥
refusal_not_0 WrongLength e = omega arith
refusal_not_0 BrokenNumber e = omega arith
refusal_not_0 LaxerOwnRow e = omega arith
refusal_not_0 NoAccount e = omega arith
refusal_not_0 BrokenBlock e = omega arith
refusal_not_0 NotOpen e = omega arith
refusal_not_0 AlreadyOpen e = omega arith
refusal_not_0 WrongChoice e = omega arith
refusal_not_0 WrongAmount e = omega arith
refusal_not_0 OutOfBounds e = omega arith
refusal_not_0 NegativeLimit e = omega arith
refusal_not_0 Malformed e = omega arith

pub exit_code : {A : Type 0} (r : Result A Refusal) (refusal : Refusal) → IsErrAnd r (λ e. e ≡ refusal) → answer_code r ≡ refusal_code refusal
exit_code r refusal h = let p = err_from_is_err_and r h in ap answer_code p.1 ∙ ap refusal_code p.2

-- the call's first list turned it away, whatever list is looked at next
pub exit_stops : {A : Type 0} (r : Result A Refusal) (refusal : Refusal) → IsErrAnd r (λ e. e ≡ refusal) → (a b : List listed.Refusal)
    → refusal_code refusal ≡ first_code a → answer_code r ≡ first_code (a ++ b)
exit_stops r refusal h a b e = exit_code r refusal h ∙ stops a b e (refusal_not_0 refusal)

-- it let through, and the second turned it away
pub exit_follows : {A : Type 0} (r : Result A Refusal) (refusal : Refusal) → IsErrAnd r (λ e. e ≡ refusal) → (a b c : List listed.Refusal)
    → T (coded a) → first_code a ≡ 0 → refusal_code refusal ≡ first_code b → answer_code r ≡ first_code (a ++ (b ++ c))
exit_follows r refusal h a b c t z e = exit_code r refusal h ∙ follows a (b ++ c) t z (stops b c e (refusal_not_0 refusal))
