-- `rolling::roll_holding` meets its contract: the sum is stored before claims and obligations step on. Assumes nothing.
use Rattle.whole.proofs.Rules.{ints}
use Rattle.book.proofs.Amounts.{sum_fits, summed, differed}
use Rattle.book.proofs.InBounds.{collateral_size, claim_size, obligation_size}
use Rattle.book.proofs.rolling.DayLater.{holding_rolled}
use Rattle.book.proofs.rolling.roll_holding.Goals as goal

pub overflow_add-holding : goal.overflow_add-holding
overflow_add-holding c = let h = c.requires in sum_fits (collateral_size h) (claim_size h)

pub overflow_sub-holding : goal.overflow_sub-holding
overflow_sub-holding c = let h = c.requires in let a = collateral_size h in let b = claim_size h in let d = obligation_size h in
    omega (ints, summed a b)

pub returns : goal.returns
returns c = let h = c.requires in
    holding_rolled _ _ _ _ h.long (differed (collateral_size h) (claim_size h) (obligation_size h))
    c.day_later.ensures c.day_later-2.ensures
