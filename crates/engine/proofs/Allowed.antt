-- What the lists of codes 7 and 8 say of an order or a move that they let through. Assumes nothing.
use mathlib.Core.Path.{◌≡◌}
use mathlib.Core.Logic.{◌⊎◌, ⊎_elim, inl, inr}
use mathlib.Core.Bool.{true, ◌&&◌}
use mathlib.Core.List.{List}
use lib.IntN.{ℤ, nat_abs}
use borrow.Author.Tests.{not-false}
use Rattle.whole.specs.Refusals.{first_code}
use Rattle.whole.proofs.Refusals.{none_holds}
use Rattle.whole.proofs.Tests.{and_left, and_right, or_cases}
use Rattle.rates.specs.Tables.{listed}
use Rattle.book.specs.Choices.{asset_right, choice_right, is_rubles, move_amount_right}
use Rattle.book.specs.Ranges.{TermsRanges}
use Rattle.book.specs.declared.terms.Terms.{Terms}
use Rattle.engine.specs.Refused.{order_checks, move_checks}

module _ (clearing : List ℤ) (o : Terms) (e : first_code (order_checks clearing o) ≡ 0) where
  seven : choice_right o && listed clearing (nat_abs o.asset) ≡ true
  seven = not-false _ (none_holds (order_checks clearing o) tt e 0)

  pub terms_ranges : TermsRanges o
  terms_ranges = record { choice = and_left _ (listed clearing (nat_abs o.asset)) seven; amounts = not-false _ (none_holds (order_checks clearing o) tt e 1) }

  pub order_listed : listed clearing (nat_abs o.asset) ≡ true
  order_listed = and_right (choice_right o) _ seven

module _ (clearing : List ℤ) (asset amount : ℤ) (e : first_code (move_checks clearing asset amount) ≡ 0) where
  pub move_choice : (is_rubles asset ≡ true) ⊎ (asset_right asset ≡ true)
  move_choice = ⊎_elim inl (λ r. inr (and_left _ (listed clearing (nat_abs asset)) r))
      (or_cases (is_rubles asset) (asset_right asset && listed clearing (nat_abs asset)) (not-false _ (none_holds (move_checks clearing asset amount) tt e 0)))

  pub move_amount_right_lem : move_amount_right asset amount ≡ true
  move_amount_right_lem = not-false _ (none_holds (move_checks clearing asset amount) tt e 1)
