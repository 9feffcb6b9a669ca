-- A trade or a move that may be judged, and the account with it booked; an opening that may be, and the block closed again. Assumes nothing.
use mathlib.Core.Path.{◌≡◌, refl, sym, ap, ◌∙◌, subst}
use mathlib.Core.Logic.{inl, inr}
use mathlib.Core.Bool.{true, not}
use mathlib.Core.List.{List}
use Prim.Native.Nat.{ℕ, ◌<◌}
use native.Mathlib.Omega.{arith}
use borrow.Author.Tests.{not-false}
use lib.IntN.{ℤ, pos, neg_ℤ}
use lib.ListN.{length}
use Rattle.whole.specs.Bounds.{is_zero}
use Rattle.whole.specs.Parts.{number}
use Rattle.whole.proofs.Tests.{or_left_off}
use Rattle.rates.specs.Lent.{Tables}
use Rattle.book.specs.Block.{InHead, account_kind, settlement_code}
use Rattle.book.specs.Rules.{in_bounds, good_block, holds_listed}
use Rattle.book.specs.Changes.{opened, traded, reversed, moved, overdrawn}
use Rattle.book.specs.Ranges.{TradeRanges, Bounded, Tradable, Movable}
use Rattle.book.specs.AtAccount.{at_account, InBook}
use Rattle.book.specs.declared.changes.Trade.{Trade}
use Rattle.book.proofs.Amounts.{negative_within}
use Rattle.book.proofs.AtAccount.{block_long, at_place, at_block, at_back}
use Rattle.book.proofs.Opened.{opened_length, opened_back}
use Rattle.book.proofs.Moved.{moved_length, moved_back, moved_head, moved_good}
use Rattle.book.proofs.Traded.{traded_length, traded_back, traded_head, traded_good}
use Rattle.book.proofs.Trades.{reversed_ranges}
use Rattle.settlement.specs.Code.{on_code, code_right, code_holds_listed}
use Rattle.settlement.specs.Laws.{SameCode}
use Rattle.settlement.proofs.Mates.{on_itself}
use Rattle.settlement.proofs.Right.{member_good, member_holds_listed}
use Rattle.settlement.proofs.Kept.{on_kept, right_kept, holds_listed_kept}
use Rattle.engine.specs.State.{State, block_at, changed_at}
use Rattle.engine.specs.Ranges.{Openable, Judgeable, TradeStands, MoveStands}

-- ---- an opening: closed again, the book is as it was
pub closed_again : (i : ℕ) (s : State) (kind code : ℤ) → Openable i s
    → at_account (changed_at i (λ b. opened b kind code) s).book i (λ b. opened b (pos 0) (pos 0)) ≡ s.book
closed_again i s kind code p =
    at_back s.book i p.there (λ b. opened b kind code) (opened_length (block_at s i) kind code) (λ b. opened b (pos 0) (pos 0))
    (opened_back (block_at s i) kind code (block_long s.book i p.there) p.empty)

-- ---- an account that may be judged
-- its own block is good
pub own_good : {tables : Tables} {i : ℕ} {s : State} → Judgeable tables i s → good_block (block_at s i) ≡ true
own_good {i = i} {s = s} j = member_good s.book i i j.there.below (on_itself s.book i) j.right

-- ---- its block with a change that keeps length and settlement code: who is on a code stays
pub code_still : (i : ℕ) (s : State) (change : List ℤ → List ℤ) → InBook s.book i → length (change (block_at s i)) ≡ length (block_at s i)
    → settlement_code (change (block_at s i)) ≡ settlement_code (block_at s i) → SameCode s.book i (change (block_at s i))
code_still i s change there long e = record { there = there; sized = long ∙ block_long s.book i there; code = e }

pub on_still : (i : ℕ) (s : State) (change : List ℤ → List ℤ) → SameCode s.book i (change (block_at s i))
    → (j k : ℕ) → j < 16 → k < 16 → on_code (changed_at i change s).book j k ≡ on_code s.book j k
unfolding at_account
on_still i s change same j k l h = on_kept s.book i (change (block_at s i)) same j k l h

-- and with a change that keeps the whole head and the block rules: the code of any account stays right, and the account may be judged still
module _ (i : ℕ) (s : State) (change : List ℤ → List ℤ) (there : InBook s.book i) (long : length (change (block_at s i)) ≡ length (block_at s i))
    (head : (k : ℕ) → InHead k → number (change (block_at s i)) k ≡ number (block_at s i) k) where
  pub head_still : SameCode s.book i (change (block_at s i))
  head_still = code_still i s change there long (head 13 (inr (omega arith, omega arith)))

  pub right_still : good_block (change (block_at s i)) ≡ true → (j : ℕ) → j < 16 → code_right s.book j ≡ true → code_right (changed_at i change s).book j ≡ true
  unfolding at_account
  right_still good j l right = right_kept s.book i (change (block_at s i)) head_still (head 0 (inl refl)) good j l right

  pub still_judgeable : (tables : Tables) → Judgeable tables i s → good_block (change (block_at s i)) ≡ true → Judgeable tables i (changed_at i change s)
  still_judgeable tables j good =
      record {
        there = at_place s.book i there change long;
        right = right_still good i there.below j.right;
        is_open = ap (λ (b : List ℤ). is_zero (account_kind b)) (at_block s.book i there change long) ∙ ap is_zero (head 0 (inl refl)) ∙ j.is_open;
        sound = j.sound;
      }

  -- its code holds listed assets only where the new block does
  pub listed_still : (clearing : List ℤ) → code_holds_listed s.book i clearing ≡ true
      → (holds_listed (block_at s i) clearing ≡ true → holds_listed (change (block_at s i)) clearing ≡ true)
      → code_holds_listed (changed_at i change s).book i clearing ≡ true
  unfolding at_account
  listed_still clearing listed own =
      holds_listed_kept s.book i (change (block_at s i)) clearing head_still
      (own (member_holds_listed s.book i i there.below (on_itself s.book i) clearing listed)) i there.below listed

-- ---- a trade
module _ (tables : Tables) (i : ℕ) (s : State) (t : Trade) (p : TradeStands tables i s t) where
  abbrev there : InBook s.book i
  there = p.judgeable.there

  ranges : TradeRanges t
  ranges = p.tradable.ranges

  pub judgeable_booked : Judgeable tables i (changed_at i (λ b. traded b t) s)
  judgeable_booked =
      still_judgeable i s (λ b. traded b t) there (traded_length (block_at s i) t) (traded_head (block_at s i) t ranges) tables p.judgeable
      (traded_good (block_at s i) t ranges p.judgeable.is_open (own_good p.judgeable) p.in_bounds)

  -- booked, it can be taken back, and then the book is as it was
  pub reversible : InBook (changed_at i (λ b. traded b t) s).book i × Tradable (block_at (changed_at i (λ b. traded b t) s) i) (reversed t)
  reversible =
      let long = traded_length (block_at s i) t in (
        at_place s.book i there (λ b. traded b t) long,
        record {
          bounded = subst Bounded (sym (at_block s.book i there (λ b. traded b t) long)) (record { long = long ∙ block_long s.book i there; in_bounds = p.in_bounds });
          ranges = reversed_ranges ranges;
        },
      )

  pub booked_back : at_account (changed_at i (λ b. traded b t) s).book i (λ b. traded b (reversed t)) ≡ s.book
  booked_back = at_back s.book i there (λ b. traded b t) (traded_length (block_at s i) t) (λ b. traded b (reversed t))
      (traded_back (block_at s i) t ranges (block_long s.book i there))

-- ---- a move
module _ (tables : Tables) (i : ℕ) (s : State) (asset : ℕ) (amount : ℤ) (p : MoveStands tables i s asset amount) where
  abbrev block : List ℤ
  block = block_at s i

  abbrev there_moved : InBook s.book i
  there_moved = p.judgeable.there

  moved_in_bounds : in_bounds (moved block asset amount) ≡ true
  moved_in_bounds = not-false _ (or_left_off (not (in_bounds (moved block asset amount))) (overdrawn block asset amount) p.not_out)

  pub judgeable_moved : Judgeable tables i (changed_at i (λ b. moved b asset amount) s)
  judgeable_moved =
      still_judgeable i s (λ b. moved b asset amount) there_moved (moved_length block asset amount) (moved_head block asset amount p.movable.movable) tables
      p.judgeable (moved_good block asset amount p.movable.movable p.judgeable.is_open (own_good p.judgeable) moved_in_bounds)

  pub returnable : InBook (changed_at i (λ b. moved b asset amount) s).book i × Movable (block_at (changed_at i (λ b. moved b asset amount) s) i) asset (neg_ℤ amount)
  returnable =
      let long = moved_length block asset amount in (
        at_place s.book i there_moved (λ b. moved b asset amount) long,
        record {
          bounded = subst Bounded (sym (at_block s.book i there_moved (λ b. moved b asset amount) long)) (record { long = long ∙ block_long s.book i there_moved; in_bounds = moved_in_bounds });
          movable = p.movable.movable;
          amount_within = negative_within p.movable.amount_within;
        },
      )

  pub moved_home : at_account (changed_at i (λ b. moved b asset amount) s).book i (λ b. moved b asset (neg_ℤ amount)) ≡ s.book
  moved_home = at_back s.book i there_moved (λ b. moved b asset amount) (moved_length block asset amount) (λ b. moved b asset (neg_ℤ amount))
      (moved_back block asset amount p.movable.movable (block_long s.book i there_moved))
