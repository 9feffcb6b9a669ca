-- `rolling::roll_rubles` meets its contract: the sum is stored before the nets step on. Assumes nothing.
use native.Mathlib.Omega.{arith}
use Rattle.book.proofs.Amounts.{summed}
use Rattle.book.proofs.rolling.DayLater.{rubles_rolled}
use Rattle.book.proofs.rolling.roll_rubles.Goals as goal

pub returns : goal.returns
returns c = let r = c.requires in
    rubles_rolled _ _ _ r.long (summed (r.each_within 0 (omega arith)) (r.each_within 1 (omega arith))) c.day_later.ensures
