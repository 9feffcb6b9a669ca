-- Laws of who is on a code as it is worked out, of how many they are, of what is asked of each, and of the loop that asks. Assumes nothing.
use mathlib.Core.Path.{◌≡◌, refl, sym, ap, ap₂, ◌∙◌, subst}
use mathlib.Core.Logic.{⊎_elim}
use mathlib.Core.Bool.{Bool, true, false, not, cond, ◌&&◌, ◌||◌, and_assoc, and_comm}
use mathlib.Core.List.{List}
use Prim.Native.Nat.{ℕ, zero, suc, ◌+◌, ◌≤◌, ◌<◌}
use native.Mathlib.Nat.{eq-or-lt_of_le}
use native.Mathlib.Numerals.{add-one}
use native.Mathlib.Omega.{arith}
use lib.Dec.{eqb, leb}
use Rattle.std.proofs.Common.{Option, Some, None}
use Rattle.std.specs.Option.{is_some, MatchOption}
use lib.IntN.{ℤ}
use borrow.Author.Tests.{eq-eqb, ne_eqb}
use Rattle.whole.specs.Bounds.{equal, is_zero}
use Rattle.whole.specs.Marks.{every}
use Rattle.whole.proofs.Every.{every_at, every_by, every_out, every_none, every_next, every_but, every_same}
use Rattle.whole.proofs.Tests.{where_so, where_not}
use Rattle.book.specs.Block.{block_of, settlement_code}
use Rattle.book.proofs.Holdings.{every_both}
use Rattle.settlement.specs.Code.{on_code, count_on, where_on, every_on, passing}

-- ---- the three ways to an answer: the account itself, an account on no code, and number 13 of both
module _ (book : List ℤ) (i j : ℕ) where
  pub on_as_itself : i ≡ j → true ≡ on_code book i j
  unfolding on_code
  on_as_itself e = rw (eq-eqb i j e) refl

  pub off_no_code : (i ≡ j → ⊥) → is_zero (settlement_code (block_of book i)) ≡ true → false ≡ on_code book i j
  unfolding on_code
  off_no_code e f = rw (ne_eqb i j e, f) refl

  pub on_by_code : {r : Bool} → (i ≡ j → ⊥) → is_zero (settlement_code (block_of book i)) ≡ false
      → r ≡ equal (settlement_code (block_of book j)) (settlement_code (block_of book i)) → r ≡ on_code book i j
  unfolding on_code
  on_by_code e f h = rw (ne_eqb i j e, f) h

-- ---- how many of the first n accounts are on a code
module _ (on : ℕ → Bool) where
  pub count_none : count_on on 0 ≡ 0
  unfolding count_on
  count_none = refl

  pub count_suc : (n : ℕ) → count_on on (suc n) ≡ count_on on n + cond (on n) 1 0
  unfolding count_on
  count_suc n = refl

  pub count_next : (n : ℕ) → count_on on (n + 1) ≡ count_on on n + cond (on n) 1 0
  count_next n = ap (count_on on) (add-one n) ∙ count_suc n

  -- an account that is not on the code, and one that is
  module _ (n : ℕ) where
    pub count_passed : on n ≡ false → count_on on (suc n) ≡ count_on on n
    count_passed e = let q = count_suc n ∙ ap (λ (t : Bool). count_on on n + cond t 1 0) e in omega arith

    pub count_joined : on n ≡ true → count_on on (suc n) ≡ count_on on n + 1
    count_joined e = count_suc n ∙ ap (λ (t : Bool). count_on on n + cond t 1 0) e

  -- more accounts, no fewer on the code
  pub count_more : (n m : ℕ) → n ≤ m → count_on on n ≤ count_on on m
  count_more n zero l = omega (arith, ap (count_on on) (let e : n ≡ 0 = omega arith in e))
  count_more n (suc m) l =
      ⊎_elim (λ e. omega (arith, ap (count_on on) e)) (λ h. let i = count_more n m (omega arith) in omega (arith, count_suc m))
      (eq-or-lt_of_le l)

  -- before one that is on the code there is room for it, and with it there is at least one
  pub room_before : (j n : ℕ) → j < n → on j ≡ true → count_on on j < count_on on n
  room_before j n l e = let q = count_joined j e in let h = count_more (suc j) n (omega arith) in omega arith

-- the same accounts are on two codes
pub count_same : (on on' : ℕ → Bool) (n : ℕ) → ((j : ℕ) → j < n → on j ≡ on' j) → count_on on n ≡ count_on on' n
unfolding count_on
count_same on on' zero h = refl
count_same on on' (suc n) h = ap₂ (λ (k : ℕ) (t : Bool). k + cond t 1 0) (count_same on on' n (λ j l. h j (omega arith))) (h n (omega arith))

-- ---- what is asked of every account on a code
module _ (on test : ℕ → Bool) where
  pub each_at : (j : ℕ) → j < 16 → on j ≡ true → every_on on test ≡ true → test j ≡ true
  unfolding every_on
  each_at j l o e = where_so (on j) (test j) o ∙ every_at (where_on on test) 16 j l e

  pub each_by : ((j : ℕ) → j < 16 → on j ≡ true → test j ≡ true) → every_on on test ≡ true
  unfolding every_on
  each_by h = every_by (where_on on test) 16 (λ j l. asked (on j) (test j) (h j l))
    where
      asked : (a b : Bool) → (a ≡ true → b ≡ true) → not a || b ≡ true
      asked true b h = h refl
      asked false b h = refl

  -- of one alone
  pub each_alone : (i : ℕ) → i < 16 → ((j : ℕ) → j < 16 → on j ≡ eqb i j) → every_on on test ≡ test i
  unfolding every_on
  each_alone i l alone =
      every_but (where_on on test) 16 i l (λ j q d. sym (where_not (on j) (test j) (alone j q ∙ ne_eqb i j (λ e. d (sym e)))))
      ∙ sym (where_so (on i) (test i) (alone i l ∙ eq-eqb i i refl))

-- the same is asked of the same accounts
pub each_same : (on on' test test' : ℕ → Bool) → ((j : ℕ) → j < 16 → on j ≡ on' j) → ((j : ℕ) → j < 16 → on' j ≡ true → test j ≡ test' j)
    → every_on on test ≡ every_on on' test'
unfolding every_on
each_same on on' test test' same tests = every_same (where_on on test) (where_on on' test') 16 (λ j l. asked (on j) (on' j) (same j l) (tests j l))
  where
    asked : {a b : Bool} (t t' : Bool) → t ≡ t' → (t' ≡ true → a ≡ b) → not t || a ≡ not t' || b
    asked t true e h = ap₂ (λ (s c : Bool). not s || c) e (h refl)
    asked {a} {b} t false e h = ap (λ (s : Bool). not s || a) e

-- ---- two tests of each account on a code, by one look at each
-- the last of three tests, made before the second
pub last_sooner : (a b c : Bool) → (a && b) && c ≡ (a && c) && b
last_sooner a b c = and_assoc a b c ∙ ap (λ (t : Bool). a && t) (and_comm b c) ∙ sym (and_assoc a c b)

pub each_both : (on f g : ℕ → Bool) → every_on on (λ j. f j && g j) ≡ every_on on f && every_on on g
unfolding every_on
each_both on f g = every_same (where_on on (λ j. f j && g j)) (λ j. where_on on f j && where_on on g j) 16 (λ j l. asked (on j) (f j) (g j))
    ∙ every_both (where_on on f) (where_on on g) 16
  where
    asked : (t a b : Bool) → not t || (a && b) ≡ (not t || a) && (not t || b)
    asked true a b = refl
    asked false a b = refl

-- ---- where each account on a code passes, that it does, and how many they are
pub passing_some : (on test : ℕ → Bool) → is_some (passing on test) ≡ every_on on test
unfolding passing
passing_some on test = elim (every_on on test) as (λ t. is_some (cond t (Some (count_on on 16)) None) ≡ t) [ true ↦ refl | false ↦ refl ]

pub passing_few : (on test : ℕ → Bool) {o : Option ℕ} {r : Bool} (Q : ℕ → Type 0) → o ≡ passing on test → MatchOption o (r ≡ false) Q
    → ((n : ℕ) → Q n → r ≡ leb n 4) → r ≡ every_on on test && leb (count_on on 16) 4
unfolding passing
passing_few on test {o} {r} Q e said few = told (every_on on test) (subst (λ (p : Option ℕ). MatchOption p (r ≡ false) Q) e said)
  where
    told : (t : Bool) → MatchOption (cond t (Some (count_on on 16)) None) (r ≡ false) Q → r ≡ t && leb (count_on on 16) 4
    told true h = few _ h
    told false h = h

-- ---- a loop that asks each account on a code and counts them: where it stands before account j, and what it answers
pub record Looked (on test : ℕ → Bool) (count j : ℕ) : Type 0 where
  pub counted : count ≡ count_on on j
  pub passed : every j (where_on on test) ≡ true

module _ {on test : ℕ → Bool} where
  pub none_looked : Looked on test 0 0
  none_looked = record { counted = sym (count_none on); passed = every_none (where_on on test) }

  pub all_looked : {count : ℕ} → Looked on test count 16 → Some count ≡ passing on test
  unfolding every_on passing
  all_looked {count} p = rw p.passed (ap Some p.counted)

  module _ {count j : ℕ} (p : Looked on test count j) where
    -- one that is not on the code is passed by
    pub off_looked : on j ≡ false → Looked on test count (j + 1)
    off_looked e = record {
      counted = p.counted ∙ sym (count_passed on j e) ∙ ap (count_on on) (sym (add-one j));
      passed = every_next (where_on on test) j p.passed (sym (where_not (on j) (test j) e));
    }

    -- one that is on it passes the test, or ends the loop
    pub on_looked : on j ≡ true → test j ≡ true → Looked on test (count + 1) (j + 1)
    on_looked e f = record {
      counted = ap (λ (n : ℕ). n + 1) p.counted ∙ sym (count_joined on j e) ∙ ap (count_on on) (sym (add-one j));
      passed = every_next (where_on on test) j p.passed (sym (where_so (on j) (test j) e) ∙ f);
    }

    pub out_looked : j < 16 → on j ≡ true → test j ≡ false → None ≡ passing on test
    unfolding every_on passing
    out_looked l e f = rw (every_out (where_on on test) 16 j l (sym (where_so (on j) (test j) e) ∙ f)) refl
