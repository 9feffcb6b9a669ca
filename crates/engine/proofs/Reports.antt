-- The report: its answer where its refusals give a code, and where they give none; and what an answer of 0 says. Assumes nothing.
use mathlib.Core.Path.{◌≡◌, sym, ap, ◌∙◌}
use Prim.Native.Nat.{ℕ}
use lib.IntN.{ℤ}
use Rattle.std.specs.Prelude.{Result, Ok, Err}
use Rattle.std.specs.Result.{IsErrAnd}
use Rattle.std.proofs.lemmas.Result.{err_from_is_err_and}
use Rattle.whole.specs.Refusals.{first_code}
use Rattle.whole.specs.Codes.{refusal_code}
use Rattle.whole.specs.declared.codes.Refusal.{Refusal}
use Rattle.whole.proofs.Refusals.{kept, changed}
use Rattle.figures.specs.declared.limit.Figures.{Figures}
use Rattle.rates.specs.Lent.{Tables}
use Rattle.engine.specs.State.{State}
use Rattle.engine.specs.Refused.{report_refusals, figures_at, limit_of}
use Rattle.engine.specs.Report.{Reported, report_of, no_figures, answer_of, reported_as}
use Rattle.engine.proofs.Exits.{refusal_not_0}

-- refused, or not
pub no_figures_lem : {n m : ℕ} (found : Figures ℤ) → n ≡ m → (n ≡ 0 → ⊥) → ◌≡◌ {A = Reported} (record { code = n; figures = no_figures }) (answer_of m found)
no_figures_lem {n} found e h = (λ i. record { code = n; figures = kept n found no_figures h i }) ∙ ap (λ (k : ℕ). answer_of k found) e

pub with_figures : {n : ℕ} {f found : Figures ℤ} → n ≡ 0 → f ≡ found → ◌≡◌ {A = Reported} (record { code = 0; figures = f }) (answer_of n found)
with_figures {n} {f} {found} e g = λ i. record { code = sym e i; figures = (g ∙ changed n found no_figures e) i }

-- ---- as code answers it, for the place of its account
module _ (tables : Tables) (i : ℕ) (s : State) where
  pub exit_reported : (r : Result (Figures ℤ) Refusal) (refusal : Refusal) → IsErrAnd r (λ e. e ≡ refusal)
      → refusal_code refusal ≡ first_code (report_refusals tables i s) → reported_as r ≡ report_of tables i s
  unfolding report_of
  exit_reported r refusal h e = let p = err_from_is_err_and r h in
      ap reported_as p.1 ∙ ap (λ (refusal : Refusal). reported_as (Err refusal)) p.2 ∙ no_figures_lem (figures_at tables i s) e (refusal_not_0 refusal)

  pub reported : {j : ℕ} {f : Figures ℤ} → 0 ≡ first_code (report_refusals tables i s) → j ≡ i → f ≡ figures_at tables j s
      → reported_as (Ok f) ≡ report_of tables i s
  unfolding report_of
  reported e placed g = with_figures (sym e) (g ∙ ap (λ (k : ℕ). figures_at tables k s) placed)

-- ---- a report that answers 0
module _ (tables : Tables) (i : ℕ) (s : State) where
  pub refusals_passed : (report_of tables i s).code ≡ 0 → first_code (report_refusals tables i s) ≡ 0
  unfolding report_of
  refusals_passed e = e

  pub answers_0 : first_code (report_refusals tables i s) ≡ 0 → (report_of tables i s).code ≡ 0
  unfolding report_of
  answers_0 e = e

  pub figures_reported : (report_of tables i s).code ≡ 0 → (report_of tables i s).figures ≡ figures_at tables i s
  unfolding report_of
  figures_reported e = sym (changed _ (figures_at tables i s) no_figures e)

  pub limit_reported : (report_of tables i s).code ≡ 0 → (report_of tables i s).figures.limit ≡ limit_of tables i s
  limit_reported e = ap (λ (f : Figures ℤ). f.limit) (figures_reported e)
