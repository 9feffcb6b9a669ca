-- `rolling::roll` meets its contract. The loop's invariant: the rubles and the holdings before a are rolled. Assumes nothing.
use mathlib.Core.Path.{◌≡◌, sym, ap, ◌∙◌, subst}
use Prim.Native.Nat.{ℕ}
use native.Mathlib.Omega.{arith}
use Rattle.whole.specs.Parts.{part}
use Rattle.book.specs.Ranges.{HoldingRanges}
use Rattle.book.proofs.InBounds.{ruble_ranges, holding_ranges}
use Rattle.book.proofs.Rolled.{rolled_to, rolled_to_lem, to_begin, to_next, holding_next_up}
use Rattle.book.proofs.rolling.roll.Goals as goal
use Rattle.book.proofs.rolling.roll.Goals.{At-loop-a}

-- the block at the loop's test, from the block that was found
so_far : (c : At-loop-a) → c.loop-a.block ≡ rolled_to c.loop-a.a c.args.block.now
so_far c = c.loop-a.invariant.1 c.args.block.now c.requires.long (to_begin c.args.block.now c.requires.long _ c.roll_rubles.ensures)

pub roll_rubles-requires : goal.roll_rubles-requires
unfolding part
roll_rubles-requires c = let p = c.requires in ruble_ranges _ p.long p.in_bounds

pub roll_holding-requires : goal.roll_holding-requires
roll_holding-requires c =
    let p = c.requires in
    let l = c.loop-a in
    subst HoldingRanges (sym (holding_next_up _ p.long l.a (omega arith) l.block (so_far c.before.before))) (holding_ranges _ p.long p.in_bounds l.a (omega arith))

pub loop-a-preserved : goal.loop-a-preserved
loop-a-preserved c =
    let l = c.loop-a in (
      c.block-in-loop-a-1.given.1 ∙ l.invariant.0,
      λ found long e. to_next found long l.a (omega arith) l.block (l.invariant.1 found long e) _ c.roll_holding.ensures,
    )

pub returns : goal.returns
returns c =
    let e : c.loop-a.a ≡ 16 = omega arith in
    so_far c.before ∙ ap (λ (n : ℕ). rolled_to n c.args.block.now) e ∙ sym (rolled_to_lem c.args.block.now c.requires.long)
