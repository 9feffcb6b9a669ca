-- The sums over the assets, one asset's part at a time: what a turn of the loop adds, how large the sums can be after n turns, and that a part of nothing
-- adds nothing.
-- Assumes nothing.
use mathlib.Core.Path.{◌≡◌, refl, sym, ap, ◌∙◌, subst}
use mathlib.Core.Bool.{Bool, true, false, cond}
use mathlib.Core.List.{List}
use Prim.Native.Nat.{ℕ, zero, suc, ◌+◌, ◌*◌, ◌≤◌, ◌<◌}
use native.Mathlib.Omega.{arith}
use native.Mathlib.Numerals.{add-one}
use lib.Dec.{eqb}
use lib.IntN.{ℤ, pos, ◌+ℤ◌, +ℤ_idr}
use lib.ListN.{length, set}
use lib.Seq.{set-get_or, ext_get_or}
use borrow.Author.Tests.{eqb-true, eqb-false}
use Rattle.whole.specs.Bounds.{◌upto◌}
use Rattle.whole.specs.Parts.{number}
use Rattle.whole.proofs.Expressions.{var, ◌⊕◌, is}
use Rattle.whole.proofs.Bounds.{wider}
use Rattle.whole.proofs.InRange.{upto_wider}
use Rattle.whole.proofs.Rules.{ints}
use Rattle.whole.proofs.Sums.{sum_none, sum_suc}
use Rattle.whole.proofs.Tabulated.{tabulated_length}
use Rattle.assets.specs.Ranges.{PartRanges}
use Rattle.assets.specs.declared.parts.Part.{Part}
use Rattle.assets.proofs.Unheld.{NoPart}
use Rattle.book.specs.Changes.{added}
use Rattle.book.proofs.Changed.{added_length, number_added, number_beside}
use Rattle.figures.specs.Limit.{in_group, by_group, totals_of, with_part}
use Rattle.figures.specs.Ranges.{GroupRanges, TotalRanges}
use Rattle.figures.specs.declared.sums.Totals.{Totals}
use Rattle.figures.proofs.Groups.{side_at}

-- ---- any number of a list, with x added to number g
added_at : (risks : List ℤ) (g : ℕ) (x : ℤ) → g < length risks → (j : ℕ) → number (added risks g x) j ≡ number risks j +ℤ cond (eqb g j) x (pos 0)
added_at risks g x h j = by (eqb g j) refl
  where
    by : (t : Bool) → eqb g j ≡ t → number (added risks g x) j ≡ number risks j +ℤ cond t x (pos 0)
    by true e = subst (λ (i : ℕ). number (added risks g x) i ≡ number risks i +ℤ x) (eqb-true g j e) (number_added risks g x h)
    by false e = number_beside risks g x j (λ q. eqb-false g j e (sym q)) ∙ sym (+ℤ_idr (number risks j))

-- ---- the sums over n assets and part n are the sums over n + 1 assets
module _ (parts : ℕ → Part) where
  by_group_length : (side : Part → ℤ) (n : ℕ) → length (by_group side parts n) ≡ 9
  unfolding by_group
  by_group_length side n = tabulated_length _ 9

  side_step : (side : Part → ℤ) (n : ℕ) → (parts n).group < 9 → added (by_group side parts n) (parts n).group (side (parts n)) ≡ by_group side parts (suc n)
  unfolding in_group
  side_step side n h =
      let risks = by_group side parts n in
      let g = (parts n).group in
      let x = side (parts n) in
      let m = by_group_length side n in
      let a = added_length risks g x in
      ext_get_or (pos 0) _ _ (a ∙ m ∙ sym (by_group_length side (suc n)))
      (λ j q. added_at risks g x (omega arith) j ∙ ap (λ (z : ℤ). z +ℤ in_group j (parts n) x) (side_at side parts n j (omega arith))
      ∙ sym (sum_suc n (λ k. in_group j (parts k) (side (parts k)))) ∙ sym (side_at side parts (suc n) j (omega arith)))

  totals_step : (n : ℕ) → (parts n).group < 9 → with_part (totals_of parts n) (parts n) ≡ totals_of parts (suc n)
  unfolding totals_of with_part
  totals_step n h =
      let valuation = sym (sum_suc n (λ a. (parts a).worth)) in
      let market = sym (sum_suc n (λ a. (parts a).market)) in
      let interest = sym (sum_suc n (λ a. (parts a).interest)) in
      let long = side_step (λ part. part.long) n h in
      let short = side_step (λ part. part.short) n h in
      λ i. record { valuation = valuation i; market = market i; interest = interest i; long = long i; short = short i }

  -- a turn of the loop over the assets
  pub totals_turn : (n : ℕ) (t r : Totals) → PartRanges (parts n) → t ≡ totals_of parts n → r ≡ with_part t (parts n) → r ≡ totals_of parts (n + 1)
  totals_turn n t r p e q = q ∙ ap (λ (w : Totals). with_part w (parts n)) e ∙ totals_step n p.group_below ∙ ap (totals_of parts) (sym (add-one n))

-- ---- bounds
group_step : (n : ℕ) (risks : List ℤ) (g : ℕ) (x : ℤ) → GroupRanges n risks → n < 16 → g < 9 → x upto 640000000000000 → GroupRanges (suc n) (added risks g x)
group_step n risks g x r l h b = record {
  size = added_length risks g x ∙ r.size;
  each = λ j q. let m = r.size in more j (eqb g j) (r.each j q) (added_at risks g x (omega arith) j);
}
  where
    more : (j : ℕ) (t : Bool) → number risks j upto (n * 640000000000000) → number (added risks g x) j ≡ number risks j +ℤ cond t x (pos 0)
        → number (added risks g x) j upto (suc n * 640000000000000)
    more j true o e = record { low = omega ints; high = omega ints; fits = omega ints }
    more j false o e = record { low = omega ints; high = omega ints; fits = omega ints }

sum_upto : {x y : ℤ} (n : ℕ) → x upto (n * 640000000000000) → y upto 640000000000000 → n < 16 → (x +ℤ y) upto (suc n * 640000000000000)
sum_upto {x} {y} n h k l = let e = is (var x ⊕ var y) in record { low = omega ints; high = omega ints; fits = omega ints }

ranges_step : (n : ℕ) (t : Totals) (part : Part) → TotalRanges n t → n < 16 → PartRanges part → TotalRanges (suc n) (with_part t part)
unfolding with_part
ranges_step n t part h l p = record {
  valuation_within = omega (ints, h.valuation_within, p.worth_within, is (var t.valuation ⊕ var part.worth));
  market_upto = sum_upto n h.market_upto p.market_upto l;
  interest_upto = sum_upto n h.interest_upto p.interest_upto l;
  long_range = group_step n _ _ _ h.long_range l p.group_below p.long_upto;
  short_range = group_step n _ _ _ h.short_range l p.group_below p.short_upto;
}

none_upto : {x : ℤ} → x ≡ pos 0 → x upto 0
none_upto {x} e = record { low = omega ints; high = omega ints; fits = omega ints }

module _ (parts : ℕ → Part) where
  group_none : (side : Part → ℤ) → GroupRanges 0 (by_group side parts 0)
  group_none side = record { size = by_group_length parts side 0; each = λ g l. none_upto (side_at side parts 0 g l ∙ sum_none _) }

  ranges_none : TotalRanges 0 (totals_of parts 0)
  unfolding totals_of
  ranges_none = record {
    valuation_within = let e = sum_none (λ a. (parts a).worth) in omega ints;
    market_upto = none_upto (sum_none _);
    interest_upto = none_upto (sum_none _);
    long_range = group_none (λ part. part.long);
    short_range = group_none (λ part. part.short);
  }

  -- the sums over n assets
  pub totals_range : ((a : ℕ) → a < 16 → PartRanges (parts a)) → (n : ℕ) → n ≤ 16 → TotalRanges n (totals_of parts n)
  totals_range h zero l = ranges_none
  totals_range h (suc n) l =
      let p = h n (omega arith) in
      subst (TotalRanges (suc n)) (totals_step parts n p.group_below) (ranges_step n _ _ (totals_range h n (omega arith)) (omega arith) p)

group_wider : (n m : ℕ) (risks : List ℤ) → GroupRanges n risks → n ≤ m → GroupRanges m risks
group_wider n m risks r l = record { size = r.size; each = λ g q. upto_wider (m * 640000000000000) (r.each g q) (omega arith) }

pub ranges_wider : (n m : ℕ) (t : Totals) → TotalRanges n t → n ≤ m → TotalRanges m t
ranges_wider n m t h l = record {
  valuation_within = wider (m * 960000000000000) h.valuation_within (omega arith);
  market_upto = upto_wider (m * 640000000000000) h.market_upto (omega arith);
  interest_upto = upto_wider (m * 640000000000000) h.interest_upto (omega arith);
  long_range = group_wider n m _ h.long_range l;
  short_range = group_wider n m _ h.short_range l;
}

-- ---- a part of nothing adds nothing
added_none : (risks : List ℤ) (g : ℕ) {x : ℤ} → x ≡ pos 0 → added risks g x ≡ risks
unfolding added
added_none risks g e = ap (λ (x : ℤ). set risks g (number risks g +ℤ x)) e ∙ ap (set risks g) (+ℤ_idr (number risks g)) ∙ set-get_or risks g (pos 0)

nothing_more : (x : ℤ) {y : ℤ} → y ≡ pos 0 → x +ℤ y ≡ x
nothing_more x e = ap (λ (y : ℤ). x +ℤ y) e ∙ +ℤ_idr x

pub no_part : (totals : Totals) (part : Part) → NoPart part → with_part totals part ≡ totals
unfolding with_part
no_part totals part n =
    let valuation = nothing_more totals.valuation n.no_worth in
    let market = nothing_more totals.market n.no_market in
    let interest = nothing_more totals.interest n.no_interest in
    let long = added_none totals.long part.group n.no_long in
    let short = added_none totals.short part.group n.no_short in
    λ i. record { valuation = valuation i; market = market i; interest = interest i; long = long i; short = short i }
