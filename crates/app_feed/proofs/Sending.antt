-- What a feed sends where its refusals give a code, and where they give none. Assumes nothing.
use mathlib.Core.Path.{◌≡◌, refl, sym, ap, ◌∙◌}
use mathlib.Core.Bool.{Bool, true, false, not, cond}
use mathlib.Core.List.{List, [], ◌∷◌, ◌++◌}
use Prim.Native.Nat.{ℕ}
use lib.Dec.{eqb}
use lib.IntN.{ℤ}
use lib.ListN.{length}
use borrow.Author.Tests.{eq-eqb, ne_eqb, eqb-true, eqb-false, not-false}
use Rattle.whole.specs.Refusals.{Refusal, ◌gives◌, first_code, leaves, out_of_bounds}
use Rattle.whole.proofs.Refusals.{Code, code, kept, changed, none_holds, stops, follows, goes_on, first_zero, second_zero}
use Rattle.rates.specs.Lent.{Tables}
use Rattle.figures.specs.declared.limit.Figures.{Figures}
use Rattle.engine.specs.State.{State}
use Rattle.engine.specs.Refused.{report_refusals, figures_at}
use Rattle.engine.specs.Report.{report_of, no_figures}
use Rattle.engine.proofs.Reports.{no_figures_lem, with_figures}
use Rattle.app_feed.specs.Floats.{bits_of, all_below}
use Rattle.app_feed.specs.Feed.{feed_refusals, fed_of, Sent, sent_of}
use Rattle.app_feed.specs.Promised.{sent_code}
use Rattle.app_feed.specs.Feed.{Fed}

tested : (b : Bool) → cond b 0 out_of_bounds ≡ first_code (not b gives out_of_bounds ∷ [])
unfolding first_code
tested true = refl
tested false = refl

module _ (tables : Tables) (i : ℕ) (s : State) (bits : List ℕ) where
  abbrev refusal_code : ℕ
  refusal_code = first_code (feed_refusals tables i s (length bits))

  -- ---- the count, then the report's codes, then the size of its figures
  pub count_wrong : (length bits ≡ 5 → ⊥) → 1 ≡ refusal_code
  unfolding first_code
  count_wrong h = rw (ne_eqb (length bits) 5 h) refl

  abbrev nine : List Refusal
  nine = not (all_below (figures_at tables i s)) gives out_of_bounds ∷ []

  count_right : length bits ≡ 5 → first_code (report_refusals tables i s ++ nine) ≡ refusal_code
  unfolding first_code
  count_right e = rw (eq-eqb (length bits) 5 e) refl

  pub report_wrong : {n : ℕ} → length bits ≡ 5 → n ≡ first_code (report_refusals tables i s) → (n ≡ 0 → ⊥) → n ≡ refusal_code
  report_wrong long e h = stops (report_refusals tables i s) nine e h ∙ count_right long

  pub report_right : {n : ℕ} → length bits ≡ 5 → first_code (report_refusals tables i s) ≡ 0 → Code nine n → n ≡ refusal_code
  report_right long e p = follows (report_refusals tables i s) nine tt e (code p) ∙ count_right long

  -- the whole code, from a report's
  pub whole_code : length bits ≡ 5 → sent_code (report_of tables i s) ≡ refusal_code
  unfolding report_of
  whole_code long = by (eqb n 0) refl ∙ count_right long
    where
      n : ℕ
      n = first_code (report_refusals tables i s)

      by : (t : Bool) → eqb n 0 ≡ t → cond t (cond (all_below (leaves n (figures_at tables i s) no_figures)) 0 out_of_bounds) n ≡ first_code (report_refusals tables i s ++ nine)
      by true e =
          let z = eqb-true n 0 e in
          ap (λ (f : Figures ℤ). cond (all_below f) 0 out_of_bounds) (sym (changed n (figures_at tables i s) no_figures z))
          ∙ tested (all_below (figures_at tables i s))
          ∙ sym (goes_on (report_refusals tables i s) nine tt z)
      by false e = stops (report_refusals tables i s) nine refl (eqb-false n 0 e)

  -- one that answers 0 passed all three
  pub passed_all : refusal_code ≡ 0 → (length bits ≡ 5) × (first_code (report_refusals tables i s) ≡ 0) × (all_below (figures_at tables i s) ≡ true)
  passed_all e =
      let long = eqb-true (length bits) 5 (not-false _ (none_holds (feed_refusals tables i s (length bits)) tt e 0)) in
      let past = count_right long ∙ e in
      (long, first_zero (report_refusals tables i s) nine past, not-false _ (none_holds nine tt (second_zero (report_refusals tables i s) nine tt past) 0))

  -- ---- refused, and sent
  pub sends_nothing : {n : ℕ} {fed : Fed} → n ≡ refusal_code → (n ≡ 0 → ⊥) → fed ≡ fed_of (record { code = n; figures = no_figures })
      → ◌≡◌ {A = Sent} (record { fed = fed; bits = bits }) (sent_of tables i s bits)
  unfolding sent_of fed_of
  sends_nothing {n} {fed} e h f =
      let p = f ∙ ap fed_of (no_figures_lem (figures_at tables i s) e h) in
      λ j. record { fed = p j; bits = kept refusal_code (bits_of (sent_of tables i s bits).fed.figures) bits (λ z. h (e ∙ z)) j }

  pub sends : {fed : Fed} {out : List ℕ} → refusal_code ≡ 0 → fed ≡ fed_of (record { code = 0; figures = figures_at tables i s })
      → out ≡ bits_of fed.figures → ◌≡◌ {A = Sent} (record { fed = fed; bits = out }) (sent_of tables i s bits)
  unfolding sent_of fed_of
  sends e f o =
      let p = f ∙ ap fed_of (with_figures e refl) in
      let q = o ∙ ap (λ (fed : Fed). bits_of fed.figures) p ∙ changed refusal_code (bits_of (sent_of tables i s bits).fed.figures) bits e in
      λ j. record { fed = p j; bits = q j }
