-- The feed's promises: what is sent is the report, exactly, and comes back as it went. Assumes nothing.
use mathlib.Core.Path.{◌≡◌, refl, sym, ap, ◌∙◌, subst}
use mathlib.Core.Bool.{Bool, true, false, not, cond}
use mathlib.Core.List.{List, [], ◌∷◌, map}
use Prim.Native.Nat.{ℕ, ◌<◌, ◌^◌}
use native.Mathlib.Omega.{arith}
use lib.Dec.{T, eqb}
use lib.IntN.{ℤ, pos, neg_ℤ, nat_abs, ◌-ℤ◌}
use lib.ListN.{length, get_or}
use lib.Signed.{le_z, lt_z, ◌≤ℤ◌}
use lib.Ieee.{binary64, div, to_bits, of_bits, is_nan}
use lib.Ieee.Bits.{of_bits-to_bits, to_bits-of_bits, nan_bits_is, is_true}
use lib.Ieee.Fits.{of_int-fits}
use borrow.Author.Tests.{eq-eqb, eqb-true, eqb-false, not-false}
use Rattle.whole.specs.Marks.{all_true}
use Rattle.whole.specs.Refusals.{first_code, wrong_length, out_of_bounds}
use Rattle.whole.proofs.InRange.{neg_size}
use Rattle.whole.proofs.Rules.{ints}
use Rattle.whole.proofs.Refusals.{none, miss, code, none_holds, kept, changed}
use Rattle.whole.proofs.Tests.{denied}
use Rattle.whole.proofs.Lists.{next, last, passes}
use Rattle.rates.specs.Lent.{Tables}
use Rattle.settlement.specs.Laws.{Unshared}
use Rattle.figures.specs.Ranges.{Below2^53}
use Rattle.figures.specs.declared.limit.Figures.{Figures}
use Rattle.engine.specs.State.{State}
use Rattle.engine.specs.Refused.{figures_at}
use Rattle.engine.specs.Report.{report_of, no_figures, answer_of}
use Rattle.engine.proofs.Reports.{figures_reported}
use Rattle.app_feed.specs.Floats.{float, floats_of, bits_of, all_below, floats_at, float_at}
use Rattle.app_feed.specs.Gauge.{used, gauge_of, Balanced}
use Rattle.app_feed.specs.Feed.{feed_refusals, fed_of, sent_of}
use Rattle.app_feed.specs.Received.{is_pattern, read_refusals, received_of}
use Rattle.app_feed.specs.Promised.{sent_code, AreExactly, Gauges, Feeds, Refuses, Promised, SameBits}
use Rattle.app_feed.specs.Feed.{Fed}
use Rattle.app_feed.specs.declared.gauge.Gauge.TheVariants.{Empty, Over, Used}
use Rattle.app_feed.proofs.Five.{as_five}
use Rattle.app_feed.proofs.Patterns.{each_pattern}
use Rattle.app_feed.proofs.Exact.{is_exactly, has_bits}
use Rattle.app_feed.proofs.Reported.{below_tested, reports_below, report_balanced}
use Rattle.app_feed.proofs.Sending.{count_wrong, whole_code, passed_all}
use Rattle.app_feed.proofs.Share.{share}

-- ---- each float is exactly the whole number
are_exactly : (f : Figures ℤ) → Below2^53 f → AreExactly (floats_of f) f
unfolding floats_of
are_exactly f below = record {
  valuation = is_exactly f.valuation below.valuation_below;
  market = is_exactly f.market below.market_below;
  interest = is_exactly f.interest below.interest_below;
  discount = is_exactly f.discount below.discount_below;
  limit = is_exactly f.limit below.limit_below;
}

no_figures_below : Below2^53 no_figures
no_figures_below =
    record { valuation_below = omega arith; market_below = omega arith; interest_below = omega arith; discount_below = omega arith; limit_below = omega arith }

-- ---- the gauge
at_most : (part whole limit : ℤ) → limit ≡ whole -ℤ part → lt_z limit (pos 0) ≡ false → part ≤ℤ whole
at_most part whole limit e h = omega ints

module _ (f : Figures ℤ) (below : Below2^53 f) (balanced : Balanced f) where
  by_case : (none over : Bool) → le_z f.valuation (pos 0) ≡ none → lt_z f.limit (pos 0) ≡ over
      → Gauges f (cond none Empty (cond over (Over (float (neg_ℤ f.limit))) (Used (div binary64 (float (used f)) (float f.valuation)))))
  by_case true over e h = record { le = subst T (sym e) tt }
  by_case false true e h = (
    omega ints,
    record { lt = subst T (sym h) tt },
    is_exactly (neg_ℤ f.limit) (omega (arith, below.limit_below, neg_size f.limit)),
  )
  by_case false false e h = (
    omega ints,
    omega ints,
    share (used f) f.valuation balanced.used_from_zero (at_most (used f) f.valuation f.limit balanced.limit_is h) (omega ints)
        below.valuation_below,
  )

  gauges : Gauges f (gauge_of f)
  unfolding gauge_of
  gauges = by_case (le_z f.valuation (pos 0)) (lt_z f.limit (pos 0)) refl refl

-- ---- there and back
patterned : (z : ℤ) → nat_abs z < 2 ^ 53 → is_pattern (to_bits binary64 (float z)) ≡ true
patterned z h =
    ap not (nan_bits_is binary64 (to_bits binary64 (float z)) ∙ ap is_nan (of_bits-to_bits binary64 (float z) (of_int-fits binary64 z))) ∙ is_true _ (has_bits z h)

same_float : (z : ℤ) → of_bits binary64 (to_bits binary64 (float z)) ≡ float z
same_float z = of_bits-to_bits binary64 (float z) (of_int-fits binary64 z)

same_number : (n : ℕ) → n < 2 ^ 64 → is_pattern n ≡ true → to_bits binary64 (of_bits binary64 n) ≡ n
same_number n h e = to_bits-of_bits binary64 n h (subst (λ (b : Bool). T (not b)) (nan_bits_is binary64 n) (subst T (sym e) tt))

module _ (f : Figures ℤ) (below : Below2^53 f) where
  all_patterned : all_true (map is_pattern (bits_of (floats_of f))) ≡ true
  unfolding bits_of floats_of
  all_patterned =
      sym (passes
      (next (patterned f.valuation below.valuation_below)
      (next (patterned f.market below.market_below)
      (next (patterned f.interest below.interest_below)
      (next (patterned f.discount below.discount_below)
      (last (sym (patterned f.limit below.limit_below))))))))

  same_floats : floats_at (bits_of (floats_of f)) ≡ floats_of f
  unfolding floats_at bits_of floats_of
  same_floats = λ i. record {
    valuation = same_float f.valuation i;
    market = same_float f.market i;
    interest = same_float f.interest i;
    discount = same_float f.discount i;
    limit = same_float f.limit i;
  }

  five_numbers : length (bits_of (floats_of f)) ≡ 5
  unfolding bits_of
  five_numbers = refl

  read_back : received_of (bits_of (floats_of f)) ≡ record { code = 0; figures = floats_of f }
  unfolding received_of
  read_back =
      let e = code (miss (denied (eq-eqb _ 5 five_numbers)) (miss (denied all_patterned) none)) in
      sym (λ i. record { code = e i; figures = (sym same_floats ∙ changed _ (floats_at (bits_of (floats_of f))) (floats_of no_figures) (sym e)) i })

-- five patterns, read and written again
written_again : (bits : List ℕ) → length bits ≡ 5 → ((k : ℕ) → get_or bits k 0 < 2 ^ 64) → ((k : ℕ) → is_pattern (get_or bits k 0) ≡ true)
    → bits_of (floats_at bits) ≡ bits
unfolding bits_of floats_at
written_again bits long small each = (λ i. at 0 i ∷ at 1 i ∷ at 2 i ∷ at 3 i ∷ at 4 i ∷ []) ∙ as_five 0 bits long
  where
    at : (k : ℕ) → to_bits binary64 (float_at bits k) ≡ get_or bits k 0
    at k = same_number (get_or bits k 0) (small k) (each k)

pub same_bits : SameBits
unfolding received_of
same_bits bits small e =
    let off = none_holds (read_refusals bits) tt e in
    ap bits_of (sym (changed _ (floats_at bits) (floats_of no_figures) e))
    ∙ written_again bits (eqb-true (length bits) 5 (not-false _ (off 0))) small (each_pattern bits (not-false _ (off 1)))

-- ---- a feed, by the report that it is made of
module _ (tables : Tables) (i : ℕ) (s : State) (bits : List ℕ) where
  feeds : (sent_of tables i s bits).fed.code ≡ 0 → Feeds tables i s bits
  unfolding sent_of fed_of report_of
  feeds e =
      let f = (report_of tables i s).figures in
      let passed = passed_all tables i s bits e in
      let answered : (report_of tables i s).code ≡ 0 = passed.1 in
      let below = subst Below2^53 (sym (figures_reported tables i s answered)) ((below_tested (figures_at tables i s)).only passed.2) in
      let is : (sent_of tables i s bits).fed ≡ fed_of (report_of tables i s) = ap (λ (n : ℕ). fed_of (answer_of n (figures_at tables i s))) (e ∙ sym answered) in
      let out : (sent_of tables i s bits).bits ≡ bits_of (sent_of tables i s bits).fed.figures = sym (changed _ _ bits e) in
      record {
        reported = answered;
        below = below;
        exactly = subst (λ (fed : Fed). AreExactly fed.figures f) (sym is) (are_exactly f below);
        gauges = subst (λ (fed : Fed). Gauges f fed.gauge) (sym is) (gauges f below (report_balanced tables i s answered));
        writes = out;
        reads_back =
            ap received_of out
            ∙ subst (λ (fed : Fed). received_of (bits_of fed.figures) ≡ record { code = 0; figures = fed.figures }) (sym is) (read_back f below);
      }

  refuses : ((sent_of tables i s bits).fed.code ≡ 0 → ⊥) → Refuses tables i s bits
  unfolding sent_of fed_of gauge_of
  refuses h =
      let f : (answer_of _ (figures_at tables i s)).figures ≡ no_figures = sym (kept _ (figures_at tables i s) no_figures h) in
      record {
        zeros = subst (λ (f : Figures ℤ). AreExactly (floats_of f) no_figures) (sym f) (are_exactly no_figures no_figures_below);
        empty = ap gauge_of f;
        stays = sym (kept _ _ bits h);
      }

  codes : (sent_of tables i s bits).fed.code ≡ cond (eqb (length bits) 5) (sent_code (report_of tables i s)) wrong_length
  unfolding sent_of fed_of
  codes = by (eqb (length bits) 5) refl
    where
      by : (t : Bool) → eqb (length bits) 5 ≡ t
          → first_code (feed_refusals tables i s (length bits)) ≡ cond t (sent_code (report_of tables i s)) wrong_length
      by true e = sym (whole_code tables i s bits (eqb-true (length bits) 5 e))
      by false e = sym (count_wrong tables i s bits (eqb-false (length bits) 5 e))

  -- of an account alone the test never fails
  alone : Unshared s.book i → (sent_of tables i s bits).fed.code ≡ cond (eqb (length bits) 5) (report_of tables i s).code wrong_length
  alone unshared = codes ∙ ap (λ (n : ℕ). cond (eqb (length bits) 5) n wrong_length) (by (eqb (report_of tables i s).code 0) refl)
    where
      by : (t : Bool) → eqb (report_of tables i s).code 0 ≡ t → cond t (cond (all_below (report_of tables i s).figures) 0 out_of_bounds) (report_of tables i s).code ≡ (report_of tables i s).code
      by true e = let z = eqb-true _ _ e in
          ap (λ (b : Bool). cond b 0 out_of_bounds) ((below_tested (report_of tables i s).figures).passes (reports_below tables i s unshared z)) ∙ sym z
      by false e = refl

pub promised : Promised
promised = record { codes = codes; alone = alone; feeds = feeds; refuses = refuses }
