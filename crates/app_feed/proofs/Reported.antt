-- Figures of a report: in balance, as the gauge takes them, and of an account alone below 2^53 in size; and what the test of that says. Assumes nothing.
use mathlib.Core.Path.{◌≡◌, sym, ◌∙◌, subst}
use mathlib.Core.Bool.{true}
use mathlib.Core.List.{[], ◌∷◌}
use Prim.Native.Nat.{ℕ, ◌<◌, ◌^◌}
use native.Mathlib.Omega.{arith}
use lib.IntN.{ℤ, nat_abs, ◌-ℤ◌}
use Rattle.whole.proofs.Bounds.{amid, between_yes}
use Rattle.whole.proofs.Expressions.{var, lit, ◌⊕◌, ◌⊖◌, le!, eq! }
use Rattle.whole.proofs.Lists.{next, last, passes}
use Rattle.whole.proofs.Marks.{all_at}
use Rattle.whole.proofs.PlusMinus.{abs_is, one_is_zero}
use Rattle.whole.proofs.Rules.{ints}
use Rattle.rates.specs.Lent.{Tables}
use Rattle.book.specs.Block.{block_of}
use Rattle.book.proofs.Good.{block_ranges}
use Rattle.book.proofs.AtAccount.{block_long}
use Rattle.settlement.specs.Code.{on_code}
use Rattle.settlement.specs.Members.{members_of, CodeRanges}
use Rattle.settlement.proofs.Right.{right_in_range}
use Rattle.settlement.proofs.Listed.{members_in_range}
use Rattle.figures.specs.Limit.{single_limit, figures_of}
use Rattle.figures.specs.Joint.{joint_figures}
use Rattle.figures.specs.Ranges.{Below2^53, RiskBounds}
use Rattle.figures.specs.declared.limit.Figures.{Figures}
use Rattle.figures.proofs.SeveralBlocks.{alone_figures}
use Rattle.figures.proofs.Below.{member_bounds, figures_below}
use Rattle.engine.specs.State.{State, block_at}
use Rattle.engine.specs.Refused.{figures_at}
use Rattle.engine.specs.Ranges.{Judgeable}
use Rattle.engine.specs.Report.{report_of}
use Rattle.engine.proofs.Gates.{report_passed}
use Rattle.engine.proofs.Judged.{own_good}
use Rattle.engine.proofs.Reports.{refusals_passed, figures_reported}
use Rattle.engine.proofs.Valued.{listed_figures}
use Rattle.app_feed.specs.Floats.{is_below, all_below}
use Rattle.app_feed.specs.Gauge.{used, Balanced}
use Rattle.app_feed.specs.Promised.{ReportsBelow, BelowTested}

-- ---- the limit is the valuation less what is used
limit_balances : (tables : Tables) (i : ℕ) (s : State) → let f = figures_at tables i s in f.limit ≡ f.valuation -ℤ used f
unfolding joint_figures figures_of single_limit
limit_balances tables i s =
    let f = figures_at tables i s in
    eq! (var f.valuation ⊖ var f.market ⊖ var f.interest ⊕ var f.discount)
    (var f.valuation ⊖ (var f.market ⊕ var f.interest ⊖ var f.discount))
    (omega arith)

-- ---- of a report that answers 0
module _ (tables : Tables) (i : ℕ) (s : State) (e : (report_of tables i s).code ≡ 0) where
  judged : Judgeable tables i s
  judged = (report_passed tables i s (refusals_passed tables i s e)).judgeable

  in_ranges : CodeRanges s.book i
  in_ranges = right_in_range s.book i judged.there judged.right

  bounds : RiskBounds (figures_at tables i s)
  bounds = subst RiskBounds (listed_figures tables i s in_ranges)
      (member_bounds s.book (members_of s.book i) tables (members_in_range s.book i in_ranges) judged.sound)

  balanced : Balanced (figures_at tables i s)
  balanced =
      let f = figures_at tables i s in
      let high = bounds.discount_high in
      let low = bounds.interest_low in
      record { used_from_zero = le! (lit 0) (var f.market ⊕ var f.interest ⊖ var f.discount) (omega ints); limit_is = limit_balances tables i s }

  pub report_balanced : Balanced (report_of tables i s).figures
  report_balanced = subst Balanced (sym (figures_reported tables i s e)) balanced

pub reports_below : ReportsBelow
reports_below tables i s alone e =
    let j = judged tables i s e in
    subst Below2^53 (sym (figures_reported tables i s e ∙ alone_figures (on_code s.book i) i j.there.below alone (block_of s.book) tables))
    (figures_below (block_at s i) tables (block_ranges _ (block_long s.book i j.there) (own_good j)) j.sound)

-- ---- the test
size_below : (z : ℤ) → is_below z ≡ true → nat_abs z < 2 ^ 53
size_below z e = let a = amid e in omega (ints, abs_is z, one_is_zero z)

below_size : (z : ℤ) → nat_abs z < 2 ^ 53 → is_below z ≡ true
below_size z h = between_yes (omega (ints, abs_is z, one_is_zero z)) (omega (ints, abs_is z, one_is_zero z))

pub below_tested : (f : Figures ℤ) → BelowTested f
unfolding all_below
below_tested f = record {
  passes = λ b. sym (passes (next (below_size _ b.valuation_below) (next (below_size _ b.market_below) (next (below_size _ b.interest_below)
      (next (below_size _ b.discount_below) (last (sym (below_size _ b.limit_below))))))));
  only = λ e.
      let at = all_at (is_below f.valuation ∷ is_below f.market ∷ is_below f.interest ∷ is_below f.discount ∷ is_below f.limit ∷ []) e in
      record {
        valuation_below = size_below _ (at 0);
        market_below = size_below _ (at 1);
        interest_below = size_below _ (at 2);
        discount_below = size_below _ (at 3);
        limit_below = size_below _ (at 4);
      };
}
