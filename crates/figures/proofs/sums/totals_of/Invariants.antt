-- `sums::totals_of` meets its contract: before asset a the sums are those over the assets passed. Assumes nothing.
use mathlib.Core.Path.{◌≡◌}
use mathlib.Core.List.{List}
use lib.IntN.{ℤ}
use Rattle.rates.specs.Lent.{numbers_of}
use Rattle.figures.specs.Limit.{totals_of}
use Rattle.figures.specs.Joint.{member_part}
use Rattle.figures.specs.declared.sums.Totals.{Totals}
use Rattle.figures.proofs.sums.totals_of.Given as goal

-- the sums as the loop has them
abbrev pub sums : ℤ → ℤ → ℤ → List ℤ → List ℤ → Totals
sums valuation market interest long short = record { valuation = valuation; market = market; interest = interest; long = long; short = short }

abbrev pub invariant-loop-a : goal.invariant-loop-a
invariant-loop-a l =
    sums l.valuation l.market l.interest l.long l.short ≡ totals_of (member_part l.valued.members l.valued.book.now (numbers_of l.tables)) l.a
