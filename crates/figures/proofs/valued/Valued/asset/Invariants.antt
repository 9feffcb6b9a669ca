-- `Valued::asset` meets its contract. The loop's invariant: x is the record over the members before k. Assumes nothing.
use mathlib.Core.Path.{◌≡◌}
use mathlib.Core.List.{List}
use Prim.Native.Nat.{ℕ}
use lib.IntN.{ℤ}
use Rattle.book.specs.Block.{block_of, holding_of}
use Rattle.book.specs.Members.{member_at}
use Rattle.book.specs.declared.members.Members.{Members}
use Rattle.assets.specs.Collateral.{regime_of}
use Rattle.assets.specs.Asset.{asset_of}
use Rattle.assets.specs.declared.record.Asset.{Asset}
use Rattle.assets.proofs.Joint.{record_to}
use Rattle.figures.proofs.valued.Valued.asset.Given as goal

-- the record of account j's asset, and that over the first k members
abbrev pub of : List ℤ → ℕ → List ℤ → ℕ → ℕ → Asset
of book kind row a j = asset_of kind row (holding_of (block_of book j) a)

abbrev pub over : List ℤ → Members → List ℤ → ℕ → ℕ → Asset
over book members row a k = record_to (member_at members) (regime_of members.kind row) (of book members.kind row a) k

abbrev pub invariant-loop-k : goal.invariant-loop-k
invariant-loop-k l = l.x ≡ over l.self.book.now l.self.members l.row l.a l.k
