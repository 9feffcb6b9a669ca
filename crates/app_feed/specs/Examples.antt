-- Figures and what goes out of them: the five numbers, the gauge's number, and the bits of what it carries, as any machine with IEEE 754's binary64 has
-- them. The figures are of document 01's sums, some with rubles added. The checker computes the claim, which proofs/Examples proves.
-- Assumes nothing.
use Rattle.std.specs.Prelude.{◌≡◌, List, [], ◌∷◌, map, ℕ, ℤ, pos, neg_ℤ}
use Rattle.std.specs.Float.{binary64}
use Rattle.std.specs.Float.Ieee.{to_bits}
use Rattle.figures.specs.declared.limit.Figures.{Figures}
use Rattle.app_feed.specs.Floats.{floats_of, bits_of}
use Rattle.app_feed.specs.Gauge.{gauge_of, gauge_number, gauge_shown}

pub record Seen : Type 0 where
  pub bits : List ℕ
  pub gauge : ℕ
  pub shown : ℕ

pub record Example : Type 0 where
  pub figures : Figures ℤ
  pub seen : Seen

-- what goes out of figures
abbrev pub seen_of : Figures ℤ → Seen
seen_of f = record { bits = bits_of (floats_of f); gauge = gauge_number (gauge_of f); shown = to_bits binary64 (gauge_shown (gauge_of f)) }

-- valuation, market risk, interest risk, discount and limit; five numbers, gauge and what it shows
abbrev pub example : ℤ → ℤ → ℤ → ℤ → ℤ → List ℕ → ℕ → ℕ → Example
example valuation market interest discount limit bits gauge shown = record {
  figures = record { valuation = valuation; market = market; interest = interest; discount = discount; limit = limit };
  seen = record { bits = bits; gauge = gauge; shown = shown };
}

abbrev pub less : ℕ → ℤ
less kopecks = neg_ℤ (pos kopecks)

abbrev pub examples : List Example
examples =
    -- S2: 42,000 of 200,000 are used, 0.21, which is no float, so the nearest is shown
    example (pos 200000) (pos 40000) (pos 2000) (pos 0) (pos 158000)
    (0x4108_6a00_0000_0000 ∷ 0x40e3_8800_0000_0000 ∷ 0x409f_4000_0000_0000 ∷ 0 ∷ 0x4103_4980_0000_0000 ∷ []) 2 0x3fca_e147_ae14_7ae1
    -- S4: a valuation below zero shows nothing, whatever the limit
    ∷ example (less 100000) (pos 30000) (pos 2000) (pos 0) (less 132000)
    (0xc0f8_6a00_0000_0000 ∷ 0x40dd_4c00_0000_0000 ∷ 0x409f_4000_0000_0000 ∷ 0 ∷ 0xc100_1d00_0000_0000 ∷ []) 0 0
    -- S4 with 110,000 kopecks of ruble collateral: over, by 22,000
    ∷ example (pos 10000) (pos 30000) (pos 2000) (pos 0) (less 22000)
    (0x40c3_8800_0000_0000 ∷ 0x40dd_4c00_0000_0000 ∷ 0x409f_4000_0000_0000 ∷ 0 ∷ 0xc0d5_7c00_0000_0000 ∷ []) 1 0x40d5_7c00_0000_0000
    -- S4 with 132,000: a limit of 0, all of the valuation used
    ∷ example (pos 32000) (pos 30000) (pos 2000) (pos 0) (pos 0)
    (0x40df_4000_0000_0000 ∷ 0x40dd_4c00_0000_0000 ∷ 0x409f_4000_0000_0000 ∷ 0 ∷ 0 ∷ []) 2 0x3ff0_0000_0000_0000
    -- S11 with 129,000: the discount is taken off, 43,000 of 129,000, a third
    ∷ example (pos 129000) (pos 50000) (pos 3000) (pos 10000) (pos 86000)
    (0x40ff_7e80_0000_0000 ∷ 0x40e8_6a00_0000_0000 ∷ 0x40a7_7000_0000_0000 ∷ 0x40c3_8800_0000_0000 ∷ 0x40f4_ff00_0000_0000 ∷ []) 2 0x3fd5_5555_5555_5555
    -- rubles alone: nothing used
    ∷ example (pos 100000) (pos 0) (pos 0) (pos 0) (pos 100000)
    (0x40f8_6a00_0000_0000 ∷ 0 ∷ 0 ∷ 0 ∷ 0x40f8_6a00_0000_0000 ∷ []) 2 0
    ∷ []

abbrev pub ExamplesMet : Type 0
ExamplesMet = map (λ (e : Example). seen_of e.figures) examples ≡ map (λ (e : Example). e.seen) examples
