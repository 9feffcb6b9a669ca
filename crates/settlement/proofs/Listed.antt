-- The laws of specs/Laws of a code's list: its members rise, every account on the code is one of them, and they are of one kind and can be
-- valued. Assumes nothing.
use mathlib.Core.Path.{◌≡◌, refl, sym, ap, ◌∙◌}
use mathlib.Core.Logic.{◌⊎◌, inl, inr, ⊎_elim}
use mathlib.Core.Bool.{Bool, true, false, cond}
use Prim.Native.Nat.{ℕ, zero, suc, ◌≤◌, ◌<◌}
use native.Mathlib.Nat.{eq-or-lt_of_le}
use native.Mathlib.Omega.{arith}
use lib.Dec.{eqb}
use lib.IntN.{ℤ, pos, nat_abs, ◌+ℤ◌}
use borrow.Author.Tests.{eq-eqb, ne_eqb, eqb-true, eqb-false, leb-true}
use Rattle.whole.specs.Sums.{Σ<on}
use Rattle.whole.proofs.Rules.{ints}
use Rattle.whole.proofs.Sums.{sum_zero}
use Rattle.whole.proofs.SumsOn.{on_counts}
use Rattle.book.specs.Members.{member_at, kind_at}
use Rattle.settlement.specs.Code.{on_code}
use Rattle.settlement.specs.Members.{members_of}
use Rattle.settlement.specs.Laws.{MembersRise, EveryoneAMember, MembersOfOneKind, MembersInRange}
use Rattle.settlement.proofs.Codes.{room_before}
use Rattle.settlement.proofs.Mates.{on_itself}
use Rattle.settlement.proofs.Listing.{list_lists, list_kind}
use Rattle.settlement.proofs.Right.{four_most, member_kind}

pub members_rise : MembersRise
members_rise on n m h k zero q l = absurd (omega arith)
members_rise on n m h k (suc j) q l =
    ⊎_elim (λ e. let r = h.rising j l in let a = ap (member_at m) e in omega arith)
    (λ p. let r = h.rising j l in let before = members_rise on n m h k j p (omega arith) in omega arith)
    (eq-or-lt_of_le (let p : k ≤ j = omega arith in p))

-- of the first n places, one has j or none does
find : (place : ℕ → ℕ) (j n : ℕ) → ((k : ℕ) × (k < n) × (place k ≡ j)) ⊎ ((k : ℕ) → k < n → place k ≡ j → ⊥)
find place j zero = inr (λ k l e. absurd (omega arith))
find place j (suc n) = by (eqb (place n) j) refl (find place j n)
  where
    by : (t : Bool) → eqb (place n) j ≡ t → ((k : ℕ) × (k < n) × (place k ≡ j)) ⊎ ((k : ℕ) → k < n → place k ≡ j → ⊥)
        → ((k : ℕ) × (k < suc n) × (place k ≡ j)) ⊎ ((k : ℕ) → k < suc n → place k ≡ j → ⊥)
    by true e before = inl (n, omega arith, eqb-true (place n) j e)
    by false e (inl (k, l, at)) = inl (k, omega arith, at)
    by false e (inr none) =
        inr (λ k l at. ⊎_elim (λ q. eqb-false (place n) j e (ap place (sym q) ∙ at)) (λ q. none k q at) (eq-or-lt_of_le (let p : k ≤ n = omega arith in p)))

-- 1 for account j and 0 for any other
abbrev mark_of : ℕ → ℕ → ℤ
mark_of j a = cond (eqb j a) (pos 1) (pos 0)

-- over a code that j is on, its sum is 1
over_code : (on : ℕ → Bool) (n j : ℕ) → j < n → on j ≡ true → Σ<on n on (mark_of j) ≡ pos 1
unfolding Σ<on
over_code on n j l here =
    on_counts n j on l here (λ a. pos 0) (mark_of j) (pos 1)
    (λ a q d. ap (λ (t : Bool). cond t (pos 1) (pos 0)) (ne_eqb j a (λ e. d (sym e))))
    (ap (λ (t : Bool). cond t (pos 1) (pos 0)) (eq-eqb j j refl))
    ∙ ap (λ (z : ℤ). z +ℤ pos 1) (sum_zero n (λ a. cond (on a) (pos 0) (pos 0)) (λ a q. nothing (on a)))
  where
    nothing : (t : Bool) → cond t (pos 0) (pos 0) ≡ pos 0
    nothing true = refl
    nothing false = refl

pub everyone_a_member : EveryoneAMember
everyone_a_member on n m h j l here = ⊎_elim (λ found. found) (λ none. absurd (missing none)) (find (member_at m) j m.count)
  where
    -- over a list without j, it is 0
    missing : ((k : ℕ) → k < m.count → member_at m k ≡ j → ⊥) → ⊥
    missing none =
        let over-list = sum_zero m.count (λ k. mark_of j (member_at m k))
        (λ k q. ap (λ (t : Bool). cond t (pos 1) (pos 0)) (ne_eqb j (member_at m k) (λ e. none k q (sym e)))) in
        let e : pos 0 ≡ pos 1 = sym over-list ∙ h.sums (mark_of j) ∙ over_code on n j l here in
        omega ints

pub members_of_one_kind : MembersOfOneKind
members_of_one_kind book i right k l =
    let h = list_lists (on_code book i) (kind_at book i) 16 (leb-true _ _ (four_most book i right)) in
    ap nat_abs (member_kind book i (member_at (members_of book i) k) (h.below k l) (h.on_code k l) right) ∙ sym (list_kind (on_code book i) (kind_at book i) 16)

pub members_in_range : MembersInRange
members_in_range book i ranges =
    let h = list_lists (on_code book i) (kind_at book i) 16 ranges.few in
    let some = room_before (on_code book i) i 16 ranges.below (on_itself book i) in
    record {
      long = ranges.long;
      room = h.room;
      some = omega (arith, h.counted, some);
      few = omega (arith, h.counted, ranges.few);
      below = h.below;
      block = λ k l. ranges.block (member_at (members_of book i) k) (h.below k l) (h.on_code k l);
    }
