-- Laws of lists in which one element was replaced, of what a lent part comes back as, and of marks made number by number.
-- Assumes nothing.
use mathlib.Core.Path.{◌≡◌, refl, sym, ap, ◌∙◌}
use mathlib.Core.Logic.{◌⊎◌, ⊎_elim}
use mathlib.Core.Bool.{Bool, true, false, ◌&&◌, ◌||◌}
use mathlib.Core.List.{List, [], ◌∷◌, ◌++◌, map}
use Prim.Native.Nat.{ℕ, zero, suc, ◌+◌, ◌-◌, ◌≤◌, ◌<◌}
use native.Mathlib.Numerals.{add-one}
use native.Mathlib.Omega.{arith}
use lib.ListN.{length, take, drop, get_or, set, drop_of_length-le}
use lib.Seq.{drop-cons, drop-set-add, drop-set-lt, take-set-lt, take-set-le}
use Rattle.whole.specs.Parts.{part, put}
use Rattle.whole.specs.Marks.{all_true}
use Rattle.whole.proofs.Tests.{and_left, and_right, both, second_out}

pub and-true : (a : Bool) → a && true ≡ a
and-true true = refl
and-true false = refl

pub or_false : (a : Bool) → a || false ≡ a
or_false true = refl
or_false false = refl

-- ---- a part of a list in which one element was replaced
module _ {A : Type 0} (a n : ℕ) (xs : List A) (x : A) where
  pub part_set : (i : ℕ) → i < n → part a n (set xs (a + i) x) ≡ set (part a n xs) i x
  unfolding part
  part_set i h = rw (drop-set-add a xs i x, take-set-lt n (drop a xs) i x h) refl

  pub part_set_other : (k : ℕ) → (k < a) ⊎ (a + n ≤ k) → part a n (set xs k x) ≡ part a n xs
  unfolding part
  part_set_other k = ⊎_elim (λ h. rw (drop-set-lt a xs k x h) refl)
      (λ h. let e : k ≡ a + (k - a) = omega arith in
      ap (λ (j : ℕ). take n (drop a (set xs j x))) e
      ∙ rw (drop-set-add a xs (k - a) x, take-set-le n (drop a xs) (k - a) x (omega arith)) refl)

-- a part that is put does not see what was replaced where it goes
pub put_set : {A : Type 0} (a n : ℕ) (xs ys : List A) (i : ℕ) (x : A) → i < n → put a n (set xs (a + i) x) ys ≡ put a n xs ys
unfolding put
put_set a n xs ys i x h = rw (take-set-le a xs (a + i) x (omega arith), drop-set-add a xs i x, drop-set-lt n (drop a xs) i x h) refl

-- ---- what `&mut xs[a..a + n]` hands back
pub back_put : {A : Type 0} (a n : ℕ) (xs ys : List A) → take a xs ++ (ys ++ drop (a + n - a) (drop a xs)) ≡ put a n xs ys
unfolding put
back_put a n xs ys = ap (λ (k : ℕ). take a xs ++ (ys ++ drop k (drop a xs))) (let e : a + n - a ≡ n = omega arith in e)

-- ---- a chain of tests: those before passed, and the answer is that of the last
pub data Passes : List Bool → Bool → Type 0 where
  next : {x m : Bool} {ms : List Bool} → m ≡ true → Passes ms x → Passes (m ∷ ms) x
  last : {x m : Bool} → x ≡ m → Passes (m ∷ []) x

pub passes : {ms : List Bool} {x : Bool} → Passes ms x → x ≡ all_true ms
unfolding all_true
passes (next e p) = rw e (passes p)
passes (last {x} {m} e) = e ∙ sym (and-true m)

-- ---- marks made number by number, where every mark is true
module _ {A : Type 0} (f : A → Bool) where
  abbrev pub all : List A → Bool
  all s = all_true (map f s)

  pub all_append : (s t : List A) → all (s ++ t) ≡ all s && all t
  unfolding all_true
  all_append [] t = refl
  all_append (x ∷ s) t = ap (λ (b : Bool). f x && b) (all_append s t) ∙ sym (and_assoc (f x) (all s) (all t))
    where
      and_assoc : (a b c : Bool) → (a && b) && c ≡ a && (b && c)
      and_assoc true b c = refl
      and_assoc false b c = refl

  pub all_take : (n : ℕ) (s : List A) → all s ≡ true → all (take n s) ≡ true
  unfolding all_true
  all_take zero s e = refl
  all_take (suc n) [] e = refl
  all_take (suc n) (x ∷ s) e = both (f x) (all (take n s)) (and_left (f x) (all s) e) (all_take n s (and_right (f x) (all s) e))

  pub all_drop : (n : ℕ) (s : List A) → all s ≡ true → all (drop n s) ≡ true
  unfolding all_true
  all_drop zero s e = e
  all_drop (suc n) [] e = refl
  all_drop (suc n) (x ∷ s) e = all_drop n s (and_right (f x) (all s) e)

  -- one number replaced: its mark decides
  pub all_set : (s : List A) (i : ℕ) (x : A) → i < length s → all s ≡ true → all (set s i x) ≡ f x
  unfolding all_true
  all_set [] i x h e = absurd (omega arith)
  all_set (y ∷ s) zero x h e = rw (and_right (f y) (all s) e) (and-true (f x))
  all_set (y ∷ s) (suc i) x h e = rw (and_left (f y) (all s) e) (all_set s i x (omega arith) (and_right (f y) (all s) e))

  pub all_by : (z : A) (s : List A) → ((k : ℕ) → k < length s → f (get_or s k z) ≡ true) → all s ≡ true
  unfolding all_true
  all_by z [] h = refl
  all_by z (x ∷ s) h = both (f x) (all s) (h 0 (omega arith)) (all_by z s (λ k l. h (suc k) (omega arith)))

  pub not_all : (z : A) (s : List A) (k : ℕ) → k < length s → f (get_or s k z) ≡ false → all s ≡ false
  unfolding all_true
  not_all z [] k h e = absurd (omega arith)
  not_all z (x ∷ s) zero h e = rw e refl
  not_all z (x ∷ s) (suc k) h e = second_out (f x) (all s) (not_all z s k (omega arith) e)

  -- a loop over the numbers: what is left from number i on
  module _ (z : A) (s : List A) (i : ℕ) where
    pub all_next : i < length s → f (get_or s i z) ≡ true → all (drop i s) ≡ all (drop (i + 1) s)
    unfolding all_true
    all_next h e = rw (add-one i, drop-cons s i z h, e) refl

    pub all_out : i < length s → f (get_or s i z) ≡ false → all (drop i s) ≡ false
    unfolding all_true
    all_out h e = rw (drop-cons s i z h, e) refl

    pub all_end : length s ≤ i → all (drop i s) ≡ true
    unfolding all_true
    all_end h = rw (drop_of_length-le s h) refl

    -- and where the loop does not stop: what was seen so far, with number i
    pub all_seen : (seen mark : Bool) → i < length s → mark ≡ f (get_or s i z) → seen && all (drop i s) ≡ (seen && mark) && all (drop (i + 1) s)
    all_seen false mark h e = refl
    all_seen true true h e = all_next h (sym e)
    all_seen true false h e = all_out h (sym e)
