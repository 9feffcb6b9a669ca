-- What demand 3 (specs/Deposit) rests on. One deposit meets every hypothesis: from S1 to S2. Neither condition on the asset can be left out: in S1's account
-- a deposit lowers the limit where the row in force does not pass the cover test, and where it is marked partial. Nor can the condition on the limit after an
-- order: in S4's account an order that only raises the limit is lost with a deposit. And demand 3 is not all that is demanded: a report of one fixed figure,
-- which its first statement lets through, is refused by demand 2 over S1 and S2. Each is a type, proved in proofs/.
-- Assumes nothing.
use Rattle.std.specs.Prelude.{◌≡◌, true, List, [], ◌∷◌, map, ◌≢◌, ℕ, ◌<◌, ℤ, pos, length}
use Rattle.whole.specs.Refusals.{leaves, negative_limit}
use Rattle.rates.specs.RowA.{row_a, less}
use Rattle.rates.specs.Lent.{Tables}
use Rattle.rates.specs.Units.{assets}
use Rattle.rates.specs.Row.{covered_sales}
use Rattle.rates.specs.Tables.{listed}
use Rattle.rates.specs.InForce.{in_force, cover_test}
use Rattle.book.specs.Changes.{added}
use Rattle.book.specs.Rules.{good_block}
use Rattle.book.specs.declared.terms.Terms.{Terms}
use Rattle.figures.specs.Limit.{five}
use Rattle.figures.specs.Laws.{Covered}
use Rattle.figures.specs.declared.limit.Figures.{Figures}
use Rattle.engine.specs.State.{State, block_at}
use Rattle.engine.specs.Calls.{outcome_of, ordering}
use Rattle.engine.specs.Report.{report_of, no_figures}
use Rattle.promises.specs.Sums.{Sum, ◌is◌, written, no_row, state_in, tables_in, lent_with, said, S1, S2, S4}
use Rattle.promises.specs.Admission.{with_order}
use Rattle.promises.specs.Deposit.{collateral_in, MoreCollateral, Report, AssetDeposit, OrderAfterDeposit}

-- ---- one deposit that meets every hypothesis: forty of asset 0 under row A, from S1 to S2
pub record Exhibit : Type 0 where
  pub answers : (report_of (tables_in S1) 0 (state_in S1)).code ≡ 0
  pub covered : Covered (tables_in S1) 0
  pub more : MoreCollateral (state_in S1) (state_in S2) 0 0 (pos 40)

-- ---- two deposits that lower the limit: two of asset 0 in S1's book, where account 0 holds nothing
abbrev pub deposited : State
deposited = record { book = added (state_in S1).book (collateral_in 0 0) (pos 2) }

-- asset 0 has row A with some of its numbers changed: fall rates of 10,000, so that a unit's worth may be lost whole; partial covered sales
abbrev pub lost_whole : Tables
lost_whole = lent_with (written row_a (6 is pos 10000 ∷ 8 is pos 10000 ∷ [])) no_row

abbrev pub partly : Tables
partly = lent_with (written row_a (4 is pos 2 ∷ [])) no_row

-- ---- an order that a deposit loses: S4's account buys its ten back at date 2 for 100,000, which raises the limit from −132,000 to −100,000; with ten of
-- asset 0 deposited, under row A, the limit is −1,000, and the order would lower it to −60,500
abbrev pub buy_back : Terms
buy_back = record { asset = pos 0; date = pos 2; side = pos 0; quantity = pos 10; money = pos 100000 }

abbrev pub ten_more : State
ten_more = record { book = added (state_in S4).book (collateral_in 0 0) (pos 10) }

abbrev pub code_of_buy_back : State → ℕ
code_of_buy_back s = (outcome_of (ordering (tables_in S4) 0 buy_back) s).code

-- ---- the reports of all these, each with code, valuation, market, interest, discount, limit
pub record Case : Type 0 where
  pub tables : Tables
  pub state : State
  pub answer : List ℤ

abbrev pub cases : List Case
cases =
    record { tables = lost_whole; state = state_in S1; answer = pos 0 ∷ pos 0 ∷ pos 0 ∷ pos 0 ∷ pos 0 ∷ pos 0 ∷ [] }
    ∷ record { tables = lost_whole; state = deposited; answer = pos 0 ∷ pos 10000 ∷ pos 10000 ∷ pos 100 ∷ pos 0 ∷ less 100 ∷ [] }
    ∷ record { tables = partly; state = state_in S1; answer = pos 0 ∷ pos 0 ∷ pos 0 ∷ pos 0 ∷ pos 0 ∷ pos 0 ∷ [] }
    ∷ record { tables = partly; state = deposited; answer = pos 0 ∷ pos 0 ∷ pos 2000 ∷ pos 100 ∷ pos 0 ∷ less 2100 ∷ [] }
    ∷ record { tables = tables_in S4; state = with_order 0 buy_back (state_in S4); answer = pos 0 ∷ less 100000 ∷ pos 0 ∷ pos 0 ∷ pos 0 ∷ less 100000 ∷ [] }
    ∷ record { tables = tables_in S4; state = ten_more; answer = pos 0 ∷ pos 0 ∷ pos 0 ∷ pos 1000 ∷ pos 0 ∷ less 1000 ∷ [] }
    ∷ record { tables = tables_in S4; state = with_order 0 buy_back ten_more; answer = pos 0 ∷ less 50000 ∷ pos 10000 ∷ pos 500 ∷ pos 0 ∷ less 60500 ∷ [] }
    ∷ []

abbrev pub CasesAnswered : Type 0
CasesAnswered = map (λ (c : Case). said (report_of c.tables 0 c.state)) cases ≡ map (λ (c : Case). c.answer) cases

-- what else of them is computed
pub record Facts : Type 0 where
  pub long : length (state_in S1).book ≡ 4608
  pub still_good : good_block (block_at deposited 0) ≡ true
  pub richer_good : good_block (block_at (state_in S2) 0) ≡ true
  pub lost_listed : listed lost_whole.clearing 0 ≡ true
  pub lost_sales : covered_sales (in_force lost_whole.clearing lost_whole.own 0) ≡ pos 0
  pub partly_covers : cover_test (in_force partly.clearing partly.own 0) ≡ true
  pub covers : cover_test (in_force (tables_in S1).clearing (tables_in S1).own 0) ≡ true
  pub sales : covered_sales (in_force (tables_in S1).clearing (tables_in S1).own 0) ≡ pos 0
  pub troubled_long : length (state_in S4).book ≡ 4608
  pub ten_more_good : good_block (block_at ten_more 0) ≡ true
  pub bought_back : code_of_buy_back (state_in S4) ≡ 0
  pub not_bought_back : code_of_buy_back ten_more ≡ negative_limit
  pub richer : (state_in S2).book ≡ added (state_in S1).book (collateral_in 0 0) (pos 40)

-- ---- the cover test is needed: that an asset is listed and its row in force not marked partial is not enough
abbrev pub NotPartial : Tables → ℕ → Type 0
NotPartial tables asset = (listed tables.clearing asset ≡ true) × (covered_sales (in_force tables.clearing tables.own asset) ≢ pos 2)

abbrev pub CoverNeeded : Type 0
CoverNeeded = AssetDeposit report_of NotPartial → ⊥

-- ---- that the row is not marked partial is needed: the cover test alone is not enough
abbrev pub PassesCoverTest : Tables → ℕ → Type 0
PassesCoverTest tables asset = (asset < assets) × (cover_test (in_force tables.clearing tables.own asset) ≡ true)

abbrev pub NotPartialNeeded : Type 0
NotPartialNeeded = AssetDeposit report_of PassesCoverTest → ⊥

-- ---- that the limit after the order is zero or more is needed: that the order was admitted is not enough
abbrev pub AnyLimit : ℤ → Type 0
AnyLimit limit = Unit {0}

abbrev pub ZeroOrMoreNeeded : Type 0
ZeroOrMoreNeeded = OrderAfterDeposit AnyLimit → ⊥

-- ---- a report of one fixed figure: the right code, and where it is 0 the same five figures whatever the book
unfoldable pub one_figure : Figures ℤ → Report
one_figure fixed tables i s = record {
  code = (report_of tables i s).code;
  figures = leaves (report_of tables i s).code fixed no_figures;
}

-- a report meets a sum: its figures are the sum's result
abbrev pub Meets : Report → Sum → Type 0
Meets report s = five (report (tables_in s) 0 (state_in s)).figures ≡ s.result

abbrev pub OneFigureRefused : Type 0
OneFigureRefused = (fixed : Figures ℤ) → Meets (one_figure fixed) S1 → Meets (one_figure fixed) S2 → ⊥
