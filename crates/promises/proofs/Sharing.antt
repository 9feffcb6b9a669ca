-- The report of two accounts under one settlement code, from what is computed of their book: who is on the code, their blocks and the report's code; the
-- figures are then those of the two blocks, which compute faster than those of the book.
-- Assumes nothing.
use mathlib.Core.Path.{◌≡◌, refl, sym, ap, ◌∙◌}
use mathlib.Core.Bool.{Bool, true, false, cond, not}
use mathlib.Core.List.{List, [], ◌∷◌}
use Prim.Native.Nat.{ℕ, zero, suc, ◌<◌}
use lib.Dec.{ltb}
use lib.IntN.{ℤ, pos}
use lib.ListN.{replicate, get_or}
use borrow.Author.Tests.{le-ltb}
use native.Mathlib.Omega.{arith}
use Rattle.whole.specs.Marks.{every}
use Rattle.whole.specs.Refusals.{first_code}
use Rattle.whole.proofs.Every.{every_at}
use Rattle.whole.proofs.Tests.{true_not_false}
use Rattle.rates.specs.Lent.{Tables}
use Rattle.rates.specs.RowA.{row_a}
use Rattle.book.specs.Block.{block_of}
use Rattle.book.specs.Members.{kind_at}
use Rattle.settlement.specs.Code.{on_code}
use Rattle.figures.specs.Limit.{five}
use Rattle.figures.specs.Joint.{figures_on}
use Rattle.figures.proofs.SeveralBlocks.{figures_alike}
use Rattle.engine.specs.State.{block_at}
use Rattle.engine.specs.Refused.{report_refusals}
use Rattle.engine.specs.Report.{report_of}
use Rattle.engine.proofs.Reports.{answers_0, figures_reported}
use Rattle.promises.specs.Sums.{lent_with, said}
use Rattle.promises.specs.JointSums.{JointSum, holds, sharing}

abbrev pub tables : Tables
tables = lent_with row_a row_a

abbrev pub first_two : ℕ → Bool
first_two j = ltb j 2

abbrev pub blocks_in : JointSum → ℕ → List ℤ
blocks_in s j = get_or (holds s.first ∷ holds s.second ∷ []) j (replicate 288 (pos 0))

-- what the two blocks come to
abbrev pub jointly : JointSum → List ℤ
jointly s = five (figures_on first_two 1 (blocks_in s) tables)

-- what is computed of the book
abbrev pub agree : Bool → Bool → Bool
agree a b = cond a b (not b)

pub record Shares (s : JointSum) : Type 0 where
  pub answers : first_code (report_refusals tables 0 (sharing s)) ≡ 0
  pub on : every 16 (λ j. agree (on_code (sharing s).book 0 j) (first_two j)) ≡ true
  pub first_block : block_at (sharing s) 0 ≡ holds s.first
  pub second_block : block_at (sharing s) 1 ≡ holds s.second
  pub kind : kind_at (sharing s).book 0 ≡ 1

same : (a b : Bool) → agree a b ≡ true → a ≡ b
same true b e = sym e
same false true e = e
same false false e = refl

pub shared_report : (s : JointSum) → Shares s → said (report_of tables 0 (sharing s)) ≡ pos 0 ∷ jointly s
shared_report s p = (λ t. pos (answers_0 tables 0 (sharing s) p.answers t) ∷ five (figures t))
  where
    terms : (j : ℕ) → j < 16 → first_two j ≡ true → block_of (sharing s).book j ≡ blocks_in s j
    terms zero l e = p.first_block
    terms (suc zero) l e = p.second_block
    terms (suc (suc j)) l e = true_not_false (sym (le-ltb (suc (suc j)) 2 (omega arith)) ∙ e)

    figures : (report_of tables 0 (sharing s)).figures ≡ figures_on first_two 1 (blocks_in s) tables
    figures =
        figures_reported tables 0 (sharing s) (answers_0 tables 0 (sharing s) p.answers)
        ∙ figures_alike (on_code (sharing s).book 0) first_two (λ j l. same _ _ (every_at (λ j. agree (on_code (sharing s).book 0 j) (first_two j)) 16 j l p.on))
        (block_of (sharing s).book) (blocks_in s) terms (kind_at (sharing s).book 0) tables
        ∙ ap (λ (k : ℕ). figures_on first_two k (blocks_in s) tables) p.kind
