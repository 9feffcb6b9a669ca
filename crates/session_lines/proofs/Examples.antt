-- Sessions computed from the definition: document 01's own, three lines in, the last without its newline, and three lines out, its line 02 with #104's
-- byte; that line without the byte; and two accounts on one settlement code. Assumes nothing.
use mathlib.Core.Path.{◌≡◌, refl}
use mathlib.Core.List.{List, [], ◌∷◌, ◌++◌}
use Prim.Native.Nat.{ℕ}
use lib.IntN.{pos}
use Rattle.whole.specs.Numbers.{min_ℤ, max_ℤ, abs_ℤ, divided_down, divided_up}
use Rattle.whole.specs.Bounds.{between}
use Rattle.whole.specs.Sums.{Σ<, Σ<on}
use Rattle.whole.specs.Parts.{part, put, tabulated}
use Rattle.whole.specs.Marks.{all_true, all_zero, every, pieces}
use Rattle.whole.specs.Refusals.{first_code, leaves}
use Rattle.rates.specs.Rules.{term_marks, rate_marks, limit_marks, date_marks, listed_marks, row_marks}
use Rattle.rates.specs.Tables.{listed, own_kind_right, own_row_marks, clearing_marks, own_marks, table_marks, lengths_right, sound_tables, stricter_own_row, stricter_at, only_stricter}
use Rattle.rates.specs.InForce.{in_force}
use Rattle.book.specs.Block.{move_at}
use Rattle.book.specs.AtAccount.{at_account}
use Rattle.book.specs.Changes.{added, opened, moved, most_of, least_after, overdrawn}
use Rattle.book.specs.Rules.{head_marks, holding_right, in_bounds, good_block, holds_listed}
use Rattle.settlement.specs.Code.{on_code, count_on, every_on, member_right, code_right, code_holds_listed}
use Rattle.assets.specs.Collateral.{pool_share_in_force, share_by_kind, regime_of, counted}
use Rattle.assets.specs.Asset.{net, trades, adjusted_collateral, position, left_out, valued_collateral, worth_of, asset_under}
use Rattle.assets.specs.Joint.{joint_asset}
use Rattle.assets.specs.Risk.{charge, units_charge, market_charge, side_risk, position_sum, long_sum, short_sum, market_risk, fall_charge, rise_charge, interest_of, interest_risk}
use Rattle.assets.specs.Part.{long_risk, short_risk, group_of, part_of}
use Rattle.figures.specs.Limit.{in_group, by_group, totals_of, discount_of, discount, single_limit, figures_of, rubles_of}
use Rattle.figures.specs.Joint.{joint_part, joint_figures}
use Rattle.engine.specs.Refused.{place_of, enough}
use Rattle.engine.specs.Calls.{outcome_of, opening, judged_opening, moving, judged_move}
use Rattle.engine.specs.Report.{report_of}
use Rattle.frames.specs.Hex.{digit_value, digit_of, is_hex, bytes_of, hex_of}
use Rattle.frames.specs.Number.{two, four, eight, n8_at, two_bytes, four_bytes, eight_bytes, n8}
use Rattle.frames.specs.Frame.{shaped, move_numbers, order_numbers, frame_of, line_frame}
use Rattle.frames.specs.Answer.{figure_bytes, answer_line}
use Rattle.session_lines.specs.Session.{newline, start, line_move, answered, lines_from, answers, session}

-- a line of digits with its newline
line : List ℕ → List ℕ
line bytes = hex_of bytes ++ (newline ∷ [])

-- money deposited, and a report that names as much as valuation and limit
deposit : ℕ → ℕ → List ℕ
deposit account kopecks = line (3 ∷ account ∷ 255 ∷ n8 (pos kopecks))

reported : ℕ → List ℕ
reported kopecks = line (0 ∷ (n8 (pos kopecks) ++ (n8 (pos 0) ++ (n8 (pos 0) ++ (n8 (pos 0) ++ n8 (pos kopecks))))))

done : List ℕ
done = line (0 ∷ [])

record Computed : Type 0 where
  -- 02000100, 0300ff00000000000186a0, 0600 are answered 00, 00, and 00 with a valuation and a limit of 100,000 kopecks
  document : session (line (2 ∷ 0 ∷ 1 ∷ 0 ∷ []) ++ (deposit 0 100000 ++ hex_of (6 ∷ 0 ∷ []))) ≡ done ++ (done ++ reported 100000)
  -- 020001, document 01's line without a settlement code, has no form any more: 0c
  without_code : session (hex_of (2 ∷ 0 ∷ 1 ∷ [])) ≡ line (12 ∷ [])
  -- 02000103, 02010103: accounts 0 and 1 on code 3; what is deposited in both is what each reports
  together : session (line (2 ∷ 0 ∷ 1 ∷ 3 ∷ []) ++ (line (2 ∷ 1 ∷ 1 ∷ 3 ∷ []) ++ (deposit 0 100000 ++ (deposit 1 50000 ++ (line (6 ∷ 0 ∷ []) ++ line (6 ∷ 1 ∷ []))))))
      ≡ done ++ (done ++ (done ++ (done ++ (reported 150000 ++ reported 150000))))

computed : Computed
unfolding line deposit reported done min_ℤ max_ℤ abs_ℤ divided_down divided_up between Σ< Σ<on part put tabulated all_true all_zero every pieces first_code leaves
    term_marks rate_marks limit_marks date_marks listed_marks row_marks listed own_kind_right own_row_marks clearing_marks own_marks table_marks lengths_right sound_tables
    stricter_own_row stricter_at only_stricter in_force move_at at_account added opened moved most_of least_after overdrawn head_marks holding_right in_bounds
    good_block holds_listed on_code count_on every_on member_right code_right code_holds_listed pool_share_in_force share_by_kind regime_of counted net trades
    adjusted_collateral position left_out valued_collateral worth_of asset_under joint_asset charge units_charge market_charge side_risk position_sum long_sum
    short_sum market_risk fall_charge rise_charge interest_of interest_risk long_risk short_risk group_of part_of in_group by_group totals_of discount_of discount
    single_limit figures_of rubles_of joint_part joint_figures place_of enough outcome_of opening judged_opening moving judged_move report_of digit_value digit_of
    is_hex bytes_of hex_of two four eight n8_at two_bytes four_bytes eight_bytes n8 shaped move_numbers order_numbers frame_of line_frame figure_bytes answer_line start
    line_move answered lines_from answers session
computed = record { document = refl; without_code = refl; together = refl }
