-- What a feed sends where it is refused; and what it hears of its report. Assumes nothing.
use mathlib.Core.Path.{◌≡◌, refl, ap, ◌∙◌}
use mathlib.Core.List.{List}
use Prim.Native.Nat.{ℕ}
use lib.IntN.{ℤ}
use lib.ListN.{length}
use mir.Facts.{to_z-of_z}
use mir.Syntax.{w64}
use mir.Val.{SFits}
use Rattle.std.specs.Prelude.{Result, Err}
use Rattle.std.specs.Result.{IsErrAnd}
use Rattle.std.proofs.lemmas.Result.{err_from_is_err_and}
use Rattle.whole.specs.Codes.{refusal_code}
use Rattle.whole.specs.Refusals.{first_code}
use Rattle.whole.specs.declared.codes.Refusal.{Refusal}
use Rattle.whole.proofs.Machine.{back}
use Rattle.rates.specs.Lent.{Tables}
use Rattle.engine.specs.State.{State}
use Rattle.engine.specs.Refused.{place_of, report_refusals}
use Rattle.engine.specs.Report.{Reported, no_figures, report_of}
use Rattle.engine.proofs.Exits.{refusal_not_0}
use Rattle.app_feed.specs.Gauge.{gauge_of}
use Rattle.app_feed.specs.Feed.{feed_refusals, fed_of, fed_as, Sent, sent_of}
use Rattle.app_feed.specs.declared.feeding.Fed.{Fed as Feeding}
use Rattle.app_feed.proofs.Sending.{report_wrong, sends_nothing}

module _ (tables : Tables) (account : ℤ) (s : State) {r : Reported} where
  -- the account is read back as it was
  pub told : SFits w64 account → r ≡ report_of tables (place_of (back account)) s → r ≡ report_of tables (place_of account) s
  told f e = e ∙ ap (λ (z : ℤ). report_of tables (place_of z) s) (to_z-of_z f)

  -- its code is its refusals'
  pub code_is : r ≡ report_of tables (place_of account) s → r.code ≡ first_code (report_refusals tables (place_of account) s)
  unfolding report_of
  code_is e = ap (λ (r : Reported). r.code) e

-- ---- refused, as code answers it
module _ (tables : Tables) (i : ℕ) (s : State) (bits : List ℕ) where
  -- zeros have the empty gauge
  pub zeros : (refusal : Refusal) → refusal_code refusal ≡ first_code (feed_refusals tables i s (length bits))
      → ◌≡◌ {A = Sent} (record { fed = fed_as (Err refusal); bits = bits }) (sent_of tables i s bits)
  unfolding fed_of gauge_of
  zeros refusal e = sends_nothing tables i s bits e (refusal_not_0 refusal) refl

  pub exit_zeros : (r : Result Feeding Refusal) (refusal : Refusal) → IsErrAnd r (λ e. e ≡ refusal)
      → refusal_code refusal ≡ first_code (feed_refusals tables i s (length bits))
      → ◌≡◌ {A = Sent} (record { fed = fed_as r; bits = bits }) (sent_of tables i s bits)
  exit_zeros r refusal h e =
      let p = err_from_is_err_and r h in
      ap (λ (r : Result Feeding Refusal). record { fed = fed_as r; bits = bits }) p.1
      ∙ ap (λ (refusal : Refusal). record { fed = fed_as (Err refusal); bits = bits }) p.2
      ∙ zeros refusal e

-- of a report that was turned away, whichever way the code goes from there
pub turned : (tables : Tables) (account : ℤ) (s : State) (bits : List ℕ) (refusal : Refusal) → SFits w64 account → length bits ≡ 5
    → ◌≡◌ {A = Reported} (record { code = refusal_code refusal; figures = no_figures }) (report_of tables (place_of (back account)) s)
    → ◌≡◌ {A = Sent} (record { fed = fed_as (Err refusal); bits = bits }) (sent_of tables (place_of account) s bits)
turned tables account s bits refusal f long e =
    zeros tables (place_of account) s bits refusal
    (report_wrong tables (place_of account) s bits long (code_is tables account s (told tables account s f e)) (refusal_not_0 refusal))
