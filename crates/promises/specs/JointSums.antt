-- Clause 4.11 by sums: three of two accounts under one settlement code, what they report, and what two wrong ways give for them, which the
-- checker computes from the written rules. Row A is document 01's; the first and the third sum have the holdings of S3 and S11, one half in each block.
-- Assumes nothing.
use Rattle.std.specs.Prelude.{◌≡◌, List, [], ◌∷◌, ◌++◌, map, ℕ, ℤ, pos, ◌+ℤ◌, replicate}
use Rattle.whole.specs.Parts.{number}
use Rattle.rates.specs.RowA.{less, row_a}
use Rattle.figures.specs.Limit.{five, block_figures}
use Rattle.engine.specs.State.{State}
use Rattle.engine.specs.Report.{report_of}
use Rattle.promises.specs.Sums.{Entry, ◌is◌, written, collateral, claim, obligation, lent_with, said}

-- what each of two ordinary accounts holds, the figures of both together, and what the wrong way gives
pub record JointSum : Type 0 where
  pub first : List Entry
  pub second : List Entry
  pub result : List ℤ
  pub wrong : List ℤ

-- an ordinary account on code 7
abbrev pub holds : List Entry → List ℤ
holds entries = written (replicate 288 (pos 0)) (0 is pos 1 ∷ 13 is pos 7 ∷ entries)

-- accounts 0 and 1 are the two, and the others are not open
abbrev pub sharing : JointSum → State
sharing s = record { book = holds s.first ++ (holds s.second ++ replicate 4032 (pos 0)) }

-- ---- the sums, each with its wrong way
-- 40 in one block, 30 due in the other: in one block the 40 would cover the sale (S3)
abbrev pub uncovered : JointSum
uncovered = record {
  first = collateral 0 40 ∷ [];
  second = obligation 0 0 30 ∷ [];
  result = less 100000 ∷ pos 30000 ∷ pos 2000 ∷ pos 0 ∷ less 132000 ∷ [];
  wrong = pos 100000 ∷ pos 20000 ∷ pos 1000 ∷ pos 0 ∷ pos 79000 ∷ [];
}

-- 60 and 60 at date 1: together they pass the limits of 100, so that 20 take the raised rate and the outer low; each block alone does not
abbrev pub concentrated : JointSum
concentrated = record {
  first = claim 0 1 60 ∷ [];
  second = claim 0 1 60 ∷ [];
  result = pos 1200000 ∷ pos 280000 ∷ pos 14000 ∷ pos 0 ∷ pos 906000 ∷ [];
  wrong = pos 1200000 ∷ pos 240000 ∷ pos 12000 ∷ pos 0 ∷ pos 948000 ∷ [];
}

-- 10 long of asset 0 in one block, 10 short of asset 1 in the other: the spread group discounts them together (S11)
abbrev pub spread : JointSum
spread = record {
  first = claim 0 1 10 ∷ [];
  second = obligation 1 1 10 ∷ [];
  result = pos 0 ∷ pos 50000 ∷ pos 3000 ∷ pos 10000 ∷ less 43000 ∷ [];
  wrong = pos 0 ∷ pos 50000 ∷ pos 3000 ∷ pos 0 ∷ less 53000 ∷ [];
}

-- ---- the claim
-- wrong: both holdings in one block
abbrev pub in_one_block : JointSum → List ℤ
in_one_block s = five (block_figures (holds (s.first ++ s.second)) (lent_with row_a row_a))

-- wrong: risks and discount of each block by itself, and the figures added
abbrev pub block_by_block : JointSum → List ℤ
block_by_block s =
    let of : List Entry → ℕ → ℤ = λ entries. number (five (block_figures (holds entries) (lent_with row_a row_a))) in
    map (λ (k : ℕ). of s.first k +ℤ of s.second k) (0 ∷ 1 ∷ 2 ∷ 3 ∷ 4 ∷ [])

-- what account 0 reports: its code, and the five figures; account 1 reports the same (specs/Codes, OneReport)
abbrev reported : JointSum → List ℤ
reported s = said (report_of (lent_with row_a row_a) 0 (sharing s))

abbrev pub JointSumsMet : Type 0
JointSumsMet =
    reported uncovered ∷ reported concentrated ∷ reported spread
    ∷ in_one_block uncovered ∷ block_by_block concentrated ∷ block_by_block spread
    ∷ []
    ≡ (pos 0 ∷ uncovered.result) ∷ (pos 0 ∷ concentrated.result) ∷ (pos 0 ∷ spread.result)
    ∷ uncovered.wrong ∷ concentrated.wrong ∷ spread.wrong
    ∷ []
