-- Demand 3, as specs/Deposit states it.
-- Assumes nothing.
use mathlib.Core.Path.{◌≡◌, refl, sym, ap, ◌∙◌, subst}
use mathlib.Core.Bool.{Bool, true, false}
use mathlib.Core.Logic.{inl, inr}
use Prim.Native.Nat.{ℕ, ◌<◌}
use lib.IntN.{ℤ}
use lib.ListN.{length}
use Rattle.whole.proofs.Rules.{ints}
use Rattle.rates.specs.Lent.{Tables}
use Rattle.book.specs.Block.{rubles}
use Rattle.book.specs.Rules.{good_block}
use Rattle.book.specs.Changes.{moved}
use Rattle.book.specs.AtAccount.{InBook, at_account}
use Rattle.settlement.specs.Code.{on_code}
use Rattle.settlement.proofs.Mates.{on_itself}
use Rattle.settlement.proofs.Alike.{alike_elsewhere}
use Rattle.figures.specs.Laws.{Covered}
use Rattle.engine.specs.State.{State, block_at}
use Rattle.engine.specs.Refused.{limit_of}
use Rattle.engine.specs.Calls.{outcome_of, ordering}
use Rattle.engine.specs.Report.{report_of}
use Rattle.engine.proofs.Gates.{ReportPassed, report_passed}
use Rattle.engine.proofs.Judged.{on_still}
use Rattle.engine.proofs.Passed.{order_stood}
use Rattle.engine.proofs.Reports.{refusals_passed, answers_0, limit_reported}
use Rattle.promises.specs.Admission.{ZeroOrMore}
use Rattle.promises.specs.EveryCall.{Alike}
use Rattle.promises.specs.Deposit.{OnCodeOf, MoreCollateral, AssetDeposit, RubleDeposit, OrderAfterDeposit, PositiveMove}
use Rattle.promises.proofs.Admission.{stands_0}
use Rattle.promises.proofs.Calls.{every_call}
use Rattle.promises.proofs.MoreCollateral.{Counts, counts_moves, richer, same_code, other_is, higher_by, not_lower, report_still}
use Rattle.promises.proofs.OrderAfterDeposit.{order_still}
use Rattle.promises.proofs.PositiveMove.{was_reported, stood, more_left}

-- what a report that answered 0, an account on its code, and more collateral in that account's block give
pub record Received (tables : Tables) (i : ℕ) (s : State) (j : ℕ) (asset : ℕ) (amount : ℤ) (other : State) : Type 0 where
  pub passed : ReportPassed tables i s
  pub there : InBook s.book j
  pub is : other ≡ richer s j asset amount
  pub good : good_block (block_at (richer s j asset amount) j) ≡ true
  pub still : (report_of tables i other).code ≡ 0

received : (tables : Tables) (i : ℕ) (s : State) → (report_of tables i s).code ≡ 0 → (asset : ℕ) → Counts tables asset → (j : ℕ) → OnCodeOf i s j
    → (other : State) (amount : ℤ) → MoreCollateral s other j asset amount → Received tables i s j asset amount other
received tables i s answers asset counts j p other amount d =
    let moves = counts_moves counts in
    let passed = report_passed tables i s (refusals_passed tables i s answers) in
    let there : InBook s.book j = record { long = passed.gate.there.long; below = p.an_account } in
    let is = other_is s other j asset amount there moves d in
    let good = subst (λ (q : State). good_block (block_at q j) ≡ true) is d.in_rules in
    record {
      passed = passed;
      there = there;
      is = is;
      good = good;
      still = subst (λ (q : State). (report_of tables i q).code ≡ 0) (sym is)
          (answers_0 tables i _ (report_still s j asset amount there moves tables i passed p.on_code counts good));
    }

pub asset_deposit : AssetDeposit report_of Covered
asset_deposit tables i s answers asset covered j p other amount d =
    let r = received tables i s answers asset (inl covered) j p other amount d in (
      r.still,
      rw (limit_reported tables i s answers, limit_reported tables i other r.still ∙ ap (limit_of tables i) r.is)
          (not_lower s j asset amount r.there (inl covered.an_asset) tables i r.passed.gate.there.below p.on_code r.passed.gate.sound
          (inl covered) (omega (ints, d.more))),
    )

pub ruble_deposit : RubleDeposit report_of
ruble_deposit tables i s answers j p other sum d =
    let r = received tables i s answers rubles (inr refl) j p other sum d in (
      r.still,
      rw (limit_reported tables i s answers, limit_reported tables i other r.still ∙ ap (limit_of tables i) r.is)
          (higher_by s j rubles sum r.there (inr refl) tables i r.passed.gate.there.below p.on_code refl),
    )

-- an order of an account on the code, and of one that is not, which sees no difference
pub order_after_deposit : OrderAfterDeposit ZeroOrMore
unfolding at_account
order_after_deposit tables i s answers asset counts other amount d j o admits least =
    subst (λ (q : State). (outcome_of (ordering tables j o) q).code ≡ 0) (sym r.is) (by (on_code s.book j i) refl)
  where
    passed : ReportPassed tables i s
    passed = report_passed tables i s (refusals_passed tables i s answers)

    r : Received tables i s i asset amount other
    r = received tables i s answers asset counts i (record { an_account = passed.gate.there.below; on_code = on_itself s.book i }) other amount d

    -- the ordering account is there
    below : j < 16
    below = (order_stood tables j o s (stands_0 tables j o s admits)).reported.gate.there.below

    by : (t : Bool) → on_code s.book j i ≡ t → (outcome_of (ordering tables j o) (richer s i asset amount)).code ≡ 0
    by true on = order_still tables s i asset amount r.there counts (omega (ints, d.more)) j on o r.good admits least
    by false off = sym ((every_call.orders tables j o).same_code s (richer s i asset amount) apart) ∙ admits
      where
        apart : Alike j s (richer s i asset amount)
        apart =
            let moves = counts_moves counts in
            let same = same_code s i asset amount r.there moves in
            record {
              same_length = sym d.same_length ∙ ap (λ (q : State). length q.book) r.is;
              same_blocks = alike_elsewhere j s.book i (moved (block_at s i) asset amount) r.there same.sized off
                  (on_still i s (λ b. moved b asset amount) same j i below r.there.below ∙ off);
            }

pub positive_move : PositiveMove
positive_move tables i asset amount s positive answers = (
  was_reported tables i asset amount s answers,
  (stood tables i asset amount s answers).stands.movable.movable,
  more_left tables i asset amount s answers positive,
)
