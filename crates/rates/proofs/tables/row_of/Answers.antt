-- `rates::tables::row_of` meets its contract: the asset's numbers are as many as a row has. Assumes nothing.
use mathlib.Core.Path.{◌∙◌}
use Prim.Native.Nat.{◌*◌}
use Rattle.std.proofs.lemmas.Option.{MatchOption-at_some}
use Rattle.whole.proofs.Parts.{cut}
use Rattle.rates.proofs.tables.row_of.Goals as goal

pub returns : goal.returns
returns c = (MatchOption-at_some _ _ _ c.unwrap.ensures c.as_array.ensures.cases).same ∙ cut (64 * c.args.asset) 64 _
