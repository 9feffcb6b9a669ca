-- Every claim of specs/ that holds by computing, with the definitions on its way named once. Assumes nothing.
use mathlib.Core.Path.{◌≡◌, refl}
use mathlib.Core.Bool.{true}
use mathlib.Core.List.{[], ◌∷◌}
use Rattle.whole.specs.Numbers.{min_ℤ, max_ℤ, abs_ℤ, divided_down, divided_up}
use Rattle.whole.specs.Bounds.{between}
use Rattle.whole.specs.Sums.{Σ<, Σ<on}
use Rattle.whole.specs.Parts.{part, put, tabulated}
use Rattle.whole.specs.Marks.{all_true, all_zero, every, pieces}
use Rattle.whole.specs.Refusals.{first_code, leaves}
use Rattle.rates.specs.Row.{highest_rate}
use Rattle.rates.specs.Rules.{term_marks, rate_marks, limit_marks, date_marks, listed_marks, row_marks}
use Rattle.rates.specs.Stricter.{stricter_terms, stricter_rates, stricter_limits, stricter_date, stricter_row}
use Rattle.rates.specs.Tables.{listed, own_kind_right, own_row_marks, clearing_marks, own_marks, table_marks, lengths_right, sound_tables, stricter_own_row, stricter_at, only_stricter}
use Rattle.rates.specs.InForce.{in_force, outer_width, cover_test}
use Rattle.book.specs.Block.{move_at}
use Rattle.book.specs.Changes.{added, money_of, traded}
use Rattle.book.specs.AtAccount.{at_account}
use Rattle.book.specs.Rules.{head_marks, holding_right, in_bounds, good_block, holds_listed}
use Rattle.assets.specs.Collateral.{pool_share_in_force, share_by_kind, regime_of, counted}
use Rattle.assets.specs.Asset.{net, trades, adjusted_collateral, position, left_out, valued_collateral, worth_of, asset_under}
use Rattle.assets.specs.Joint.{joint_asset}
use Rattle.assets.specs.Risk.{charge, units_charge, market_charge, side_risk, position_sum, long_sum, short_sum, market_risk, fall_charge, rise_charge, interest_of, interest_risk}
use Rattle.assets.specs.Part.{long_risk, short_risk, group_of, part_of}
use Rattle.figures.specs.Limit.{in_group, by_group, totals_of, discount_of, discount, single_limit, figures_of, rubles_of, part_in, block_figures}
use Rattle.figures.specs.Joint.{joint_part, joint_figures}
use Rattle.settlement.specs.Code.{on_code, count_on, every_on, member_right, code_right, code_holds_listed}
use Rattle.engine.specs.Refused.{enough, raised, admitted}
use Rattle.engine.specs.Calls.{outcome_of, ordering, judged_trade}
use Rattle.engine.specs.Report.{report_of}
use Rattle.promises.specs.Codes.{empty_state}
use Rattle.promises.specs.Sums.{written, zeros, SumsMet}
use Rattle.promises.specs.Wrong.{reckoned, same, meets, with_sides, unit_risk, exact_discount, rounded_last, WaysRefused}
use Rattle.promises.specs.JointSums.{uncovered, concentrated, spread, in_one_block, block_by_block}
use Rattle.promises.specs.Needed.{CasesAnswered, Facts}
use Rattle.promises.specs.OwnRows.{Raised}
use Rattle.promises.proofs.Sharing.{jointly, Shares}

pub record Computed : Type 0 where
  pub sums_met : SumsMet
  pub ways_refused : WaysRefused
  pub joint_sums : jointly uncovered ∷ jointly concentrated ∷ jointly spread ∷ [] ≡ uncovered.result ∷ concentrated.result ∷ spread.result ∷ []
  pub joint_wrong : in_one_block uncovered ∷ block_by_block concentrated ∷ block_by_block spread ∷ [] ≡ uncovered.wrong ∷ concentrated.wrong ∷ spread.wrong ∷ []
  pub cases_answered : CasesAnswered
  pub facts : Facts
  pub raised : Raised
  pub empty_right : every 16 (code_right empty_state.book) ≡ true

pub computed : Computed
unfolding written zeros added move_at min_ℤ max_ℤ abs_ℤ divided_down divided_up between Σ< Σ<on part put tabulated all_true pieces all_zero first_code leaves term_marks
    rate_marks limit_marks date_marks listed_marks row_marks listed own_kind_right own_row_marks clearing_marks own_marks table_marks lengths_right sound_tables
    stricter_terms stricter_rates stricter_limits stricter_date stricter_row stricter_own_row stricter_at only_stricter
    in_force highest_rate outer_width cover_test head_marks holding_right every in_bounds good_block holds_listed pool_share_in_force share_by_kind regime_of counted
    net trades adjusted_collateral position left_out valued_collateral worth_of asset_under charge units_charge market_charge side_risk position_sum long_sum
    short_sum market_risk fall_charge rise_charge interest_of interest_risk long_risk short_risk group_of part_of in_group by_group totals_of discount_of discount
    single_limit figures_of rubles_of part_in block_figures joint_asset joint_part joint_figures on_code count_on every_on member_right code_right code_holds_listed money_of traded at_account enough raised admitted judged_trade ordering outcome_of report_of
    reckoned same meets with_sides unit_risk exact_discount rounded_last
computed = record {
  sums_met = refl;
  ways_refused = refl;
  joint_sums = refl;
  joint_wrong = refl;
  cases_answered = refl;
  empty_right = refl;
  facts = record {
    long = refl;
    still_good = refl;
    richer_good = refl;
    lost_listed = refl;
    lost_sales = refl;
    partly_covers = refl;
    covers = refl;
    sales = refl;
    troubled_long = refl;
    ten_more_good = refl;
    bought_back = refl;
    not_bought_back = refl;
    richer = refl;
  };
  raised = record {
    by_special_delivery = record { no_own_rows = refl; without = refl; with_own = refl };
    by_pool_share = record { no_own_rows = refl; without = refl; with_own = refl };
  };
}

-- a declaration of its own, for one has a limit of steps
pub record Shared : Type 0 where
  pub uncovered_shares : Shares uncovered
  pub concentrated_shares : Shares concentrated
  pub spread_shares : Shares spread

pub shared : Shared
unfolding written between part all_true pieces all_zero first_code term_marks rate_marks limit_marks date_marks listed_marks row_marks listed own_kind_right own_row_marks
    clearing_marks own_marks table_marks lengths_right sound_tables stricter_own_row stricter_at only_stricter head_marks holding_right every in_bounds good_block
    holds_listed on_code count_on every_on member_right code_right code_holds_listed
shared = record {
  uncovered_shares = record { answers = refl; on = refl; first_block = refl; second_block = refl; kind = refl };
  concentrated_shares = record { answers = refl; on = refl; first_block = refl; second_block = refl; kind = refl };
  spread_shares = record { answers = refl; on = refl; first_block = refl; second_block = refl; kind = refl };
}
