-- A state with more collateral in one block (specs/Deposit, MoreCollateral): it is the state with that block's collateral moved, who is on a code stays, and
-- the limit of every account on its code is not lower, of rubles higher by exactly the amount; a report that answered 0 still does.
-- Assumes nothing.
use mathlib.Core.Path.{◌≡◌, refl, sym, ap, ◌∙◌, subst}
use mathlib.Core.Bool.{Bool, true, false}
use mathlib.Core.List.{List}
use mathlib.Core.Logic.{◌⊎◌, inl, inr, ⊎_elim}
use Prim.Native.Nat.{ℕ, ◌<◌}
use native.Mathlib.Omega.{arith}
use borrow.Author.Tests.{eqb-true, eqb-false}
use lib.Dec.{eqb}
use lib.IntN.{ℤ, pos, nat_abs, ◌+ℤ◌}
use lib.ListN.{length}
use lib.Seq.{ext_get_or}
use lib.Signed.{◌≤ℤ◌}
use Rattle.whole.specs.Bounds.{is_zero}
use Rattle.whole.specs.Parts.{number}
use Rattle.whole.specs.Refusals.{first_code}
use Rattle.whole.proofs.Expressions.{var, ◌⊕◌, le! }
use Rattle.whole.proofs.Rules.{ints}
use Rattle.rates.proofs.Sound.{cover_listed}
use Rattle.rates.specs.Lent.{Tables}
use Rattle.rates.specs.Ranges.{TableRanges}
use Rattle.book.specs.Block.{block_of, rubles, move_at, account_kind}
use Rattle.book.specs.Rules.{good_block, holds_listed}
use Rattle.book.specs.Changes.{added, moved}
use Rattle.book.specs.Ranges.{MoveAsset}
use Rattle.book.specs.AtAccount.{at_account, InBook}
use Rattle.book.specs.Members.{kind_at}
use Rattle.book.proofs.AtAccount.{block_long, at_long, at_block, at_others}
use Rattle.book.proofs.Changed.{added_length, number_added, number_beside, put_added}
use Rattle.book.proofs.Moved.{moved_length, moved_head, moved_listed, rubles_listed}
use Rattle.book.proofs.Moves.{move_inside}
use Rattle.settlement.specs.Code.{on_code}
use Rattle.settlement.specs.Laws.{SameCode}
use Rattle.settlement.proofs.Right.{member_holds_listed}
use Rattle.settlement.proofs.Kept.{kind_kept, holds_listed_kept}
use Rattle.figures.specs.Joint.{figures_on}
use Rattle.figures.specs.Laws.{MovedIn, Covered}
use Rattle.figures.specs.declared.limit.Figures.{Figures}
use Rattle.figures.proofs.SeveralBlocks.{figures_alike}
use Rattle.figures.proofs.JointDeposit.{never_lower, rubles_raise}
use Rattle.engine.specs.State.{State, block_at, changed_at}
use Rattle.engine.specs.Refused.{report_refusals, figures_at, limit_of}
use Rattle.engine.proofs.Gates.{ReportPassed, report_answers}
use Rattle.engine.proofs.Judged.{head_still, on_still, right_still}
use Rattle.promises.specs.Deposit.{collateral_in, MoreCollateral}

-- an asset that demand 3 speaks of, or rubles
abbrev pub Counts : Tables → ℕ → Type 0
Counts tables asset = Covered tables asset ⊎ (asset ≡ rubles)

pub counts_moves : {tables : Tables} {asset : ℕ} → Counts tables asset → MoveAsset asset
counts_moves c = ⊎_elim (λ c. inl c.an_asset) inr c

-- ---- the state with collateral moved in block j
abbrev pub richer : State → ℕ → ℕ → ℤ → State
richer s j asset amount = changed_at j (λ b. moved b asset amount) s

module _ (s : State) (j : ℕ) (asset : ℕ) (amount : ℤ) (there : InBook s.book j) (moves : MoveAsset asset) where
  abbrev block : List ℤ
  block = block_at s j

  abbrev change : List ℤ → List ℤ
  change b = moved b asset amount

  abbrev after : State
  after = richer s j asset amount

  long : length (change block) ≡ length block
  long = moved_length block asset amount

  pub same_code : SameCode s.book j (moved block asset amount)
  same_code = head_still j s change there long (moved_head block asset amount moves)

  pub kind_still : (i : ℕ) → i < 16 → account_kind (block_at after i) ≡ account_kind (block_at s i)
  unfolding at_account
  kind_still i l = kind_kept s.book j (change block) same_code (moved_head block asset amount moves 0 (inl refl)) i l

  moved_in : MovedIn j asset amount (block_of s.book) (block_of after.book)
  moved_in = record {
    sized = block_long s.book j there;
    here = at_block s.book j there change long;
    others = λ k l apart. at_others s.book j there change long k l apart;
  }

  module _ (tables : Tables) (i : ℕ) (l : i < 16) where
    -- the figures with it, over who was on the code before
    figures_with : figures_at tables i after ≡ figures_on (on_code s.book i) (kind_at s.book i) (block_of after.book) tables
    figures_with =
        figures_alike (on_code after.book i) (on_code s.book i) (λ k h. on_still j s change same_code i k l h) (block_of after.book) (block_of after.book) (λ k h on. refl)
        (kind_at after.book i) tables
        ∙ ap (λ (x : ℤ). figures_on (on_code s.book i) (nat_abs x) (block_of after.book) tables) (kind_still i l)

    abbrev limit_with : limit_of tables i after ≡ (figures_on (on_code s.book i) (kind_at s.book i) (block_of after.book) tables).limit
    limit_with = ap (λ (f : Figures ℤ). f.limit) figures_with

    module _ (on : on_code s.book i j ≡ true) where
      pub higher_by : asset ≡ rubles → limit_of tables i after ≡ limit_of tables i s +ℤ amount
      higher_by e =
          limit_with
          ∙ rubles_raise (on_code s.book i) j there.below on amount (block_of s.book) (block_of after.book)
          (subst (λ (a : ℕ). MovedIn j a amount (block_of s.book) (block_of after.book)) e moved_in) (kind_at s.book i) tables

      pub not_lower : TableRanges tables → Counts tables asset → pos 0 ≤ℤ amount → limit_of tables i s ≤ℤ limit_of tables i after
      not_lower sound counts from_zero = ⊎_elim
          (λ c. rw limit_with
          (never_lower (on_code s.book i) j there.below on asset amount from_zero (block_of s.book) (block_of after.book) moved_in (kind_at s.book i)
          tables sound c))
          (λ e. rw (higher_by e) (le! (var (limit_of tables i s)) (var (limit_of tables i s) ⊕ var amount) (omega (ints, from_zero))))
          counts

  -- a report of an account on its code that answered 0 answers 0 still, where the block keeps the block rules; an asset that passes the cover test is listed
  pub report_still : (tables : Tables) (i : ℕ) → ReportPassed tables i s → on_code s.book i j ≡ true → Counts tables asset
      → good_block (block_at after j) ≡ true → first_code (report_refusals tables i after) ≡ 0
  unfolding at_account
  report_still tables i passed on counts good =
      let below = passed.gate.there.below in
      let own = member_holds_listed s.book i j there.below on tables.clearing passed.listed in
      let whole = at_long s.book j there change long in
      report_answers tables i s after passed.gate_0 (whole ∙ sym there.long)
      (record {
        there = record { long = whole; below = below };
        right =
            right_still j s change there long (moved_head block asset amount moves) (sym (ap good_block (at_block s.book j there change long)) ∙ good) i below
            passed.judgeable.right;
        is_open = ap is_zero (kind_still i below) ∙ passed.judgeable.is_open;
        sound = passed.gate.sound;
      })
      (holds_listed_kept s.book j (change block) tables.clearing same_code
      (⊎_elim
      (λ c. moved_listed block asset amount c.an_asset tables.clearing own (cover_listed tables passed.gate.checked_0 asset c.an_asset c.passes))
      (λ e. subst (λ (a : ℕ). holds_listed (moved block a amount) tables.clearing ≡ true) (sym e) (rubles_listed block amount tables.clearing own))
      counts)
      i below passed.listed)

-- ---- the other state is that one: number by number, its book is the first with the amount added at that place
module _ (s other : State) (j : ℕ) (asset : ℕ) (amount : ℤ) (there : InBook s.book j) (moves : MoveAsset asset) (d : MoreCollateral s other j asset amount) where
  abbrev place : ℕ
  place = collateral_in j asset

  inside : place < length s.book
  inside = omega (arith, there.long, there.below, move_inside asset moves)

  same_number : (k : ℕ) (b : Bool) → eqb k place ≡ b → number other.book k ≡ number (added s.book place amount) k
  same_number k true e =
      let q = eqb-true k place e in
      ap (number other.book) q ∙ d.there ∙ sym (ap (number (added s.book place amount)) q ∙ number_added s.book place amount inside)
  same_number k false e = let q = eqb-false k place e in d.elsewhere k q ∙ sym (number_beside s.book place amount k q)

  book_is : other.book ≡ added s.book place amount
  book_is =
      ext_get_or (pos 0) other.book (added s.book place amount) (d.same_length ∙ sym (added_length s.book place amount))
      (λ k l. same_number k (eqb k place) refl)

  pub other_is : other ≡ richer s j asset amount
  unfolding moved at_account
  other_is = λ t. record { book = (book_is ∙ sym (put_added s.book j (move_at asset) amount (move_inside asset moves) there.long there.below)) t }
