-- Laws of the list of the blocks on a code: empty, with one account more, as it is defined, and of an account alone. Assumes nothing.
use mathlib.Core.Path.{◌≡◌, refl, sym, ap, ap₂, ◌∙◌, subst}
use mathlib.Core.Logic.{⊎_elim}
use mathlib.Core.Bool.{Bool, true, false, cond}
use mathlib.Core.List.{[], ◌∷◌}
use Prim.Native.Nat.{ℕ, zero, suc, ◌+◌, ◌≤◌, ◌<◌}
use native.Mathlib.Nat.{eq-or-lt_of_le}
use native.Mathlib.Numerals.{add-one}
use native.Mathlib.Omega.{arith}
use lib.Dec.{eqb}
use lib.IntN.{pos, ◌+ℤ◌, +ℤ_idr}
use lib.ListN.{length, length-set}
use lib.Seq.{get_or-set_same, get_or-set_other}
use borrow.Author.Tests.{eq-eqb, ne_eqb}
use Rattle.whole.specs.Sums.{Σ<, Σ<on}
use Rattle.whole.proofs.Sums.{sum_none, sum_suc, sum_same}
use Rattle.whole.proofs.SumsOn.{on_none, on_suc}
use Rattle.book.specs.Members.{member_at}
use Rattle.book.specs.declared.members.Members.{Members}
use Rattle.settlement.specs.Code.{count_on}
use Rattle.settlement.specs.Members.{joined, list_of, Lists}
use Rattle.settlement.specs.Laws.{ListLists, ListKind}
use Rattle.settlement.proofs.Codes.{count_none, count_suc, count_passed, count_joined, count_more}

module _ (on : ℕ → Bool) where
  pub lists_none : (m : Members) → length m.at ≡ 4 → m.count ≡ 0 → Lists on 0 m
  lists_none m room none = record {
    room = room;
    counted = none ∙ sym (count_none on);
    below = λ k l. absurd (omega arith);
    rising = λ k l. absurd (omega arith);
    on_code = λ k l. absurd (omega arith);
    sums = λ f. ap (λ (n : ℕ). Σ< n (λ k. f (member_at m k))) none ∙ sum_none _ ∙ sym (on_none on f);
  }

  module _ (n : ℕ) (m : Members) (h : Lists on n m) where
    -- an account that is not on the code
    pub lists_passed : on n ≡ false → Lists on (suc n) m
    lists_passed off = record {
      room = h.room;
      counted = h.counted ∙ sym (count_passed on n off);
      below = λ k l. let b = h.below k l in omega arith;
      rising = h.rising;
      on_code = h.on_code;
      sums = λ f. h.sums f ∙ sym (on_suc n on f ∙ ap (λ (t : Bool). Σ<on n on f +ℤ cond t (f n) (pos 0)) off ∙ +ℤ_idr _);
    }

    -- an account that is on it goes to the next place
    module _ (here : on n ≡ true) (free : m.count < 4) where
      new_at : member_at (joined m n) m.count ≡ n
      new_at = get_or-set_same m.at m.count n 0 (let r = h.room in omega arith)

      old_at : (k : ℕ) → k < m.count → member_at (joined m n) k ≡ member_at m k
      old_at k l = get_or-set_other m.at m.count k n 0 (λ q. omega arith)

      -- what holds of the old places and of the new one holds of all
      each : (P : ℕ → Type 0) → ((k : ℕ) → k < m.count → P (member_at m k)) → P n → (k : ℕ) → k < m.count + 1 → P (member_at (joined m n) k)
      each P old new k l =
          ⊎_elim (λ q. subst P (sym (ap (member_at (joined m n)) q ∙ new_at)) new) (λ q. subst P (sym (old_at k q)) (old k q))
          (eq-or-lt_of_le (let l' : k ≤ m.count = omega arith in l'))

      -- each is below the next: the old ones were, and the new one is above them all
      next_above : (k : ℕ) → suc k < m.count + 1 → member_at (joined m n) k < member_at (joined m n) (suc k)
      next_above k l =
          ⊎_elim
          (λ q. let b = h.below k (omega arith) in let o = old_at k (omega arith) in let e = ap (member_at (joined m n)) q ∙ new_at in omega arith)
          (λ q. let b = h.rising k q in let o = old_at k (omega arith) in let e = old_at (suc k) q in omega arith)
          (eq-or-lt_of_le (let l' : suc k ≤ m.count = omega arith in l'))

      pub lists_joined : Lists on (suc n) (joined m n)
      lists_joined = record {
        room = simp length-set h.room;
        counted = ap (λ (k : ℕ). k + 1) h.counted ∙ sym (count_joined on n here);
        below = each (λ j. j < suc n) (λ k l. let b = h.below k l in omega arith) (omega arith);
        rising = next_above;
        on_code = each (λ j. on j ≡ true) h.on_code here;
        sums = λ f.
            ap (λ (k : ℕ). Σ< k (λ j. f (member_at (joined m n) j))) (add-one m.count)
            ∙ sum_suc m.count (λ k. f (member_at (joined m n) k))
            ∙ ap₂ ◌+ℤ◌ (sum_same m.count _ (λ k. f (member_at m k)) (λ k l. ap f (old_at k l)) ∙ h.sums f) (ap f new_at)
            ∙ sym (on_suc n on f ∙ ap (λ (t : Bool). Σ<on n on f +ℤ cond t (f n) (pos 0)) here);
      }

-- ---- the list as it is defined: an account that is not on the code, and one that is
module _ (on : ℕ → Bool) (kind n : ℕ) where
  list_passed : on n ≡ false → list_of on kind (suc n) ≡ list_of on kind n
  unfolding list_of
  list_passed off = ap (λ (t : Bool). cond t (joined (list_of on kind n) n) (list_of on kind n)) off

  list_joined : on n ≡ true → list_of on kind (suc n) ≡ joined (list_of on kind n) n
  unfolding list_of
  list_joined here = ap (λ (t : Bool). cond t (joined (list_of on kind n) n) (list_of on kind n)) here

  lists_next : Lists on n (list_of on kind n) → count_on on (suc n) ≤ 4 → Lists on (suc n) (list_of on kind (suc n))
  lists_next h few = by (on n) refl
    where
      by : (t : Bool) → on n ≡ t → Lists on (suc n) (list_of on kind (suc n))
      by true here =
          subst (Lists on (suc n)) (sym (list_joined here))
          (lists_joined on n _ h here (let c = h.counted in let q = count_joined on n here in omega arith))
      by false off = subst (Lists on (suc n)) (sym (list_passed off)) (lists_passed on n _ h off)

pub list_lists : ListLists
unfolding list_of
list_lists on kind zero few = lists_none on _ refl refl
list_lists on kind (suc n) few = lists_next on kind n (list_lists on kind n (let h = count_more on n (suc n) (omega arith) in omega arith)) few

-- its kind, and how many it has, room or not
kind_stays : (t : Bool) (m : Members) (n : ℕ) → (cond t (joined m n) m).kind ≡ m.kind
kind_stays true m n = refl
kind_stays false m n = refl

count_grows : (t : Bool) (m : Members) (n : ℕ) → (cond t (joined m n) m).count ≡ m.count + cond t 1 0
count_grows true m n = refl
count_grows false m n = omega arith

pub list_kind : ListKind
unfolding list_of
list_kind on kind zero = refl
list_kind on kind (suc n) = kind_stays (on n) (list_of on kind n) n ∙ list_kind on kind n

pub list_count : (on : ℕ → Bool) (kind n : ℕ) → (list_of on kind n).count ≡ count_on on n
unfolding list_of
list_count on kind zero = sym (count_none on)
list_count on kind (suc n) =
    count_grows (on n) (list_of on kind n) n ∙ ap (λ (k : ℕ). k + cond (on n) 1 0) (list_count on kind n) ∙ sym (count_suc on n)

-- the list with one account more, as the loop makes it
pub list_turn : (on : ℕ → Bool) (kind n : ℕ) (m r : Members) → m ≡ list_of on kind n → r ≡ cond (on n) (joined m n) m → r ≡ list_of on kind (n + 1)
unfolding list_of
list_turn on kind n m r e q = q ∙ ap (λ (l : Members). cond (on n) (joined l n) l) e ∙ ap (list_of on kind) (sym (add-one n))

-- ---- one account alone is on the code
module _ (on : ℕ → Bool) (kind i n : ℕ) (alone : (j : ℕ) → j < n → on j ≡ eqb i j) where
  none_before : (k : ℕ) → k ≤ n → k ≤ i → list_of on kind k ≡ list_of on kind 0
  none_before zero h l = refl
  none_before (suc k) h l =
      list_passed on kind k (alone k (omega arith) ∙ ne_eqb i k (λ e. omega arith)) ∙ none_before k (omega arith) (omega arith)

  one_after : (k : ℕ) → k ≤ n → i < k → list_of on kind k ≡ joined (list_of on kind 0) i
  one_after zero h l = absurd (omega arith)
  one_after (suc k) h l =
      ⊎_elim
      (λ e. list_joined on kind k (alone k (omega arith) ∙ eq-eqb i k e) ∙ ap₂ joined (none_before k (omega arith) (omega arith)) (sym e))
      (λ q. list_passed on kind k (alone k (omega arith) ∙ ne_eqb i k (λ e. omega arith)) ∙ one_after k (omega arith) q)
      (eq-or-lt_of_le (let p : i ≤ k = omega arith in p))

  pub list_alone : i < n → list_of on kind n ≡ record { kind = kind; count = 1; at = i ∷ 0 ∷ 0 ∷ 0 ∷ [] }
  unfolding list_of
  list_alone l = one_after n (omega arith) l

  pub count_alone : i < n → count_on on n ≡ 1
  count_alone l = sym (list_count on kind n) ∙ ap (λ (m : Members). m.count) (list_alone l)
