-- What is shown of the feed, in document 02's words: every figure that is sent is below 2^53 in size; each float is exactly the whole number; the gauge is
-- one of three, its share one rounding of one division; and reading what went out gives the same bits. Of an account that nobody shares a code with every
-- figure is below 2^53, so that it is never answered 9. Types, which proofs/Promised proves.
-- Assumes nothing.
use Rattle.std.specs.Prelude.{◌≡◌, true, false, cond, List, ℕ, suc, ◌+◌, ◌-◌, ◌*◌, ◌≤◌, ◌<◌, ◌^◌, T, eqb, ℤ, pos, negsuc, neg_ℤ, nat_abs, length, get_or, ◌≤ℤ◌, ◌<ℤ◌, Float}
use Rattle.std.specs.Float.{nan, inf, fin, binary64}
use Rattle.std.specs.Float.Ieee.{up, down, fits, round, le}
use Rattle.std.specs.Float.Ieee.Positive.{den}
use Rattle.std.specs.Float.Ieee.Scale.{finite}
use Rattle.std.specs.Float.Ieee.Exact.{HasValue}
use Rattle.whole.specs.Refusals.{wrong_length, out_of_bounds}
use Rattle.rates.specs.Lent.{Tables}
use Rattle.settlement.specs.Laws.{Unshared}
use Rattle.figures.specs.Ranges.{Below2^53}
use Rattle.figures.specs.declared.limit.Figures.{Figures}
use Rattle.engine.specs.State.{State}
use Rattle.engine.specs.Report.{Reported, report_of, no_figures}
use Rattle.app_feed.specs.Floats.{float, bits_of, all_below}
use Rattle.app_feed.specs.Gauge.{used}
use Rattle.app_feed.specs.Feed.{sent_of}
use Rattle.app_feed.specs.Received.{received_of}
use Rattle.app_feed.specs.declared.gauge.Gauge.{Gauge}
use Rattle.app_feed.specs.declared.gauge.Gauge.TheVariants.{Empty, Over, Used}

-- ---- "All of them are below 2^53 in size; show it": of an account alone; of a code the test says so (#104)
abbrev pub ReportsBelow : Type 0
ReportsBelow = (tables : Tables) (i : ℕ) (s : State) → Unshared s.book i → (report_of tables i s).code ≡ 0 → Below2^53 (report_of tables i s).figures

pub record BelowTested (f : Figures ℤ) : Type 0 where
  pub passes : Below2^53 f → all_below f ≡ true
  pub only : all_below f ≡ true → Below2^53 f

-- a report's code, and 9 where it is 0 and a figure is 2^53 or more in size
abbrev pub sent_code : Reported → ℕ
sent_code r = cond (eqb r.code 0) (cond (all_below r.figures) 0 out_of_bounds) r.code

-- ---- "each exactly the whole number": finite, of that sign and of that size, and zero is +0.0
abbrev pub IsExactly : Float → ℤ → Type 0
IsExactly x (pos n) = HasValue x false n 1
IsExactly x (negsuc n) = HasValue x true (suc n) 1

pub record AreExactly (x : Figures Float) (f : Figures ℤ) : Type 0 where
  pub valuation : IsExactly x.valuation f.valuation
  pub market : IsExactly x.market f.market
  pub interest : IsExactly x.interest f.interest
  pub discount : IsExactly x.discount f.discount
  pub limit : IsExactly x.limit f.limit

-- ---- how far a finite float lies from n / v, counted in parts of v times its own denominator; and that no float of the format lies nearer
abbrev pub gap : ℕ → ℕ → ℕ
gap a b = (a - b) + (b - a)

abbrev pub apart : Float → ℕ → ℕ → ℕ
apart nan n v = 0
apart (inf s) n v = 0
apart (fin false m e) n v = gap (m * up e * v) (n * down e)
apart (fin true m e) n v = m * up e * v + n * down e

abbrev pub NoneNearer : Float → ℕ → ℕ → Type 0
NoneNearer x n v = (y : Float) → T (finite y) → T (fits binary64 y) → apart x n v * den y ≤ apart y n v * den x

-- ---- "one rounding of one division": of a part to a whole, from 0 to 1
pub record IsShare (x : Float) (part whole : ℤ) : Type 0 where
  pub from_zero : pos 0 ≤ℤ part
  pub to_whole : part ≤ℤ whole
  pub rounded_once : x ≡ round binary64 false (nat_abs part) (nat_abs whole)
  pub is_finite : T (finite x)
  pub nearest : NoneNearer x (nat_abs part) (nat_abs whole)
  pub at_least_0 : T (le (float (pos 0)) x)
  pub at_most_1 : T (le x (float (pos 1)))

-- the gauge of a report's figures, case by case
abbrev pub Gauges : Figures ℤ → Gauge → Type 0
Gauges f Empty = f.valuation ≤ℤ pos 0
Gauges f (Over shortfall) = (pos 0 <ℤ f.valuation) × (f.limit <ℤ pos 0) × IsExactly shortfall (neg_ℤ f.limit)
Gauges f (Used share) = (pos 0 <ℤ f.valuation) × (pos 0 ≤ℤ f.limit) × IsShare share (used f) f.valuation

-- ---- the code of a feed; one that answers 0, and one that is refused
module _ (tables : Tables) (i : ℕ) (s : State) (bits : List ℕ) where
  pub record Feeds : Type 0 where
    pub reported : (report_of tables i s).code ≡ 0
    pub below : Below2^53 (report_of tables i s).figures
    pub exactly : AreExactly (sent_of tables i s bits).fed.figures (report_of tables i s).figures
    pub gauges : Gauges (report_of tables i s).figures (sent_of tables i s bits).fed.gauge
    pub writes : (sent_of tables i s bits).bits ≡ bits_of (sent_of tables i s bits).fed.figures
    pub reads_back : received_of (sent_of tables i s bits).bits ≡ record { code = 0; figures = (sent_of tables i s bits).fed.figures }

  pub record Refuses : Type 0 where
    pub zeros : AreExactly (sent_of tables i s bits).fed.figures no_figures
    pub empty : (sent_of tables i s bits).fed.gauge ≡ Empty
    pub stays : (sent_of tables i s bits).bits ≡ bits

pub record Promised : Type 0 where
  pub codes : (tables : Tables) (i : ℕ) (s : State) (bits : List ℕ)
      → (sent_of tables i s bits).fed.code ≡ cond (eqb (length bits) 5) (sent_code (report_of tables i s)) wrong_length
  pub alone : (tables : Tables) (i : ℕ) (s : State) (bits : List ℕ) → Unshared s.book i
      → (sent_of tables i s bits).fed.code ≡ cond (eqb (length bits) 5) (report_of tables i s).code wrong_length
  pub feeds : (tables : Tables) (i : ℕ) (s : State) (bits : List ℕ) → (sent_of tables i s bits).fed.code ≡ 0 → Feeds tables i s bits
  pub refuses : (tables : Tables) (i : ℕ) (s : State) (bits : List ℕ) → ((sent_of tables i s bits).fed.code ≡ 0 → ⊥) → Refuses tables i s bits

-- ---- "reading those gives the same bits": whatever five 64-bit numbers are read, written again they are the same
abbrev pub SameBits : Type 0
SameBits = (bits : List ℕ) → ((k : ℕ) → get_or bits k 0 < 2 ^ 64) → (received_of bits).code ≡ 0 → bits_of (received_of bits).figures ≡ bits
