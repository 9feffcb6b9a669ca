-- Laws of what a check of marks answers, over any list and place: where it is Ok, where it is an error and which, one list after another, and a loop over numbers.
-- Assumes nothing.
use mathlib.Core.Path.{◌≡◌, refl, sym, ap, ap₂, ◌∙◌}
use mathlib.Core.Bool.{Bool, true, false}
use mathlib.Core.List.{List, [], ◌∷◌, ◌++◌, map}
use Prim.Native.Nat.{ℕ, suc, ◌+◌, ◌*◌, ◌-◌, ◌≤◌, ◌<◌}
use native.Mathlib.Nat.{add-zero, mul-zero, mul-suc}
use native.Mathlib.Numerals.{add-one}
use native.Mathlib.Omega.{arith}
use lib.ListN.{length, get_or, drop, drop_of_length-le}
use lib.Seq.{drop-cons}
use Rattle.std.specs.Prelude.{Result, Ok, Err}
use Rattle.std.specs.Result.{IsErr, IsErrAnd, IfErr, MatchResult}
use Rattle.std.proofs.lemmas.Result.{err_from_is_err_and}
use Rattle.whole.specs.Marks.{first_false, place_from, all_true, check_from, pieces}
use Rattle.whole.proofs.Tests.{true_not_false}

-- ---- a loop over the numbers of a list, each with the mark f: what is left from number i on
module _ {A : Type 0} (z : A) (f : A → Bool) (s : List A) (at : ℕ) where
  abbrev pub from_number : ℕ → Result (Unit {0}) ℕ
  from_number i = check_from (at + i) (map f (drop i s))

  pub number_right : (i : ℕ) → i < length s → f (get_or s i z) ≡ true → from_number i ≡ from_number (i + 1)
  unfolding check_from
  number_right i h e = rw (add-one i, drop-cons s i z h, e) (ap (λ (k : ℕ). check_from k (map f (drop (suc i) s))) (let q : suc (at + i) ≡ at + suc i = omega arith in q))

  pub number_wrong : (i : ℕ) → i < length s → f (get_or s i z) ≡ false → from_number i ≡ Err (at + i)
  unfolding check_from
  number_wrong i h e = rw (drop-cons s i z h, e) refl

  pub numbers_end : (i : ℕ) → length s ≤ i → from_number i ≡ Ok tt
  unfolding check_from
  numbers_end i h = rw (drop_of_length-le s h) refl

-- ---- what an answer says of the marks, and back
pub ok_by : (k : ℕ) (ms : List Bool) → all_true ms ≡ true → Ok tt ≡ check_from k ms
unfolding check_from all_true
ok_by k [] e = refl
ok_by k (true ∷ ms) e = ok_by (suc k) ms e
ok_by k (false ∷ ms) e = true_not_false e

pub ok_says : (k : ℕ) (ms : List Bool) {v : Unit {0}} → Ok v ≡ check_from k ms → all_true ms ≡ true
unfolding check_from all_true
ok_says k [] e = refl
ok_says k (true ∷ ms) e = ok_says (suc k) ms e
ok_says k (false ∷ ms) e = cc

pub held : (k : ℕ) (t : Bool) {v : Unit {0}} → Ok v ≡ check_from k (t ∷ []) → t ≡ true
unfolding check_from
held k true e = refl
held k false e = cc

-- the first false mark, in the list and counted from k
pub record Stops (k : ℕ) (ms : List Bool) (e : ℕ) : Type 0 where
  pub inside : first_false ms < length ms
  pub place_is : e ≡ k + first_false ms

pub err_says : (k : ℕ) (ms : List Bool) {e : ℕ} → Err e ≡ check_from k ms → Stops k ms e
unfolding check_from first_false
err_says k [] f = cc
err_says k (true ∷ ms) f = let h = err_says (suc k) ms f in record { inside = omega (arith, h.inside); place_is = omega (arith, h.place_is) }
err_says k (false ∷ ms) {e} f = let h : e ≡ k = cc in record { inside = omega arith; place_is = omega arith }

pub err_by : (k : ℕ) (ms : List Bool) → first_false ms < length ms → Err (place_from k ms) ≡ check_from k ms
unfolding check_from first_false place_from
err_by k [] h = absurd (omega arith)
err_by k (true ∷ ms) h = ap (λ (n : ℕ). Err n) (let q : k + suc (first_false ms) ≡ suc k + first_false ms = omega arith in q) ∙ err_by (suc k) ms (omega arith)
err_by k (false ∷ ms) h = ap (λ (n : ℕ). Err n) (add-zero k)

pub err_inside : (ms : List Bool) (n : ℕ) (r : Result (Unit {0}) ℕ) → length ms ≡ n → r ≡ check_from 0 ms → IfErr r (λ k. k < n)
err_inside ms n (Ok v) long f = tt
err_inside ms n (Err e) long f = let h = err_says 0 ms f in omega (arith, h.inside, h.place_is)

-- ---- errors: of an answer that is one, and what `?` hands on, the error that it found
pub err_is : {E : Type 0} {e : E} (x : Result (Unit {0}) E) → IsErrAnd x (λ y. y ≡ e) → x ≡ Err e
err_is {E} {e} x h = let p = err_from_is_err_and x h in p.1 ∙ ap (λ (y : E). Err y) p.2

pub handed_on : {E : Type 0} {e : E} (x : Result (Unit {0}) E) → IsErr x × IsErrAnd x (λ y. y ≡ e) → x ≡ Err e
handed_on x h = err_is x h.1

-- ---- the same marks, counted from another place
shifted : (at k : ℕ) (ms : List Bool) {e : ℕ} → Err e ≡ check_from k ms → Err (at + e) ≡ check_from (at + k) ms
unfolding check_from
shifted at k [] f = cc
shifted at k (true ∷ ms) f = shifted at (suc k) ms f ∙ ap (λ (m : ℕ). check_from m ms) (let q : at + suc k ≡ suc (at + k) = omega arith in q)
shifted at k (false ∷ ms) {e} f = let q : e ≡ k = cc in ap (λ (n : ℕ). Err (at + n)) q

pub told_from : (at : ℕ) (ms : List Bool) (r s : Result (Unit {0}) ℕ) → r ≡ check_from 0 ms
    → MatchResult r (λ v. s ≡ Ok v) (λ e. IsErrAnd s (λ k. k ≡ at + e)) → s ≡ check_from at ms
told_from at ms (Ok v) s f h = h ∙ ok_by at ms (ok_says 0 ms f)
told_from at ms (Err e) s f h = err_is s h ∙ shifted at 0 ms f ∙ ap (λ (m : ℕ). check_from m ms) (add-zero at)

-- ---- one list after another: the first passes with its count, or stops the search
module _ (b : List Bool) where
  pub goes_on : (k n : ℕ) (a : List Bool) → length a ≡ n → {v : Unit {0}} → Ok v ≡ check_from k a → check_from (k + n) b ≡ check_from k (a ++ b)
  unfolding check_from
  goes_on k n a long e = ap (λ (m : ℕ). check_from (k + m) b) (sym long) ∙ go k a e
    where
      go : (k : ℕ) (a : List Bool) {v : Unit {0}} → Ok v ≡ check_from k a → check_from (k + length a) b ≡ check_from k (a ++ b)
      go k [] e = ap (λ (m : ℕ). check_from m b) (add-zero k)
      go k (true ∷ a) e = ap (λ (m : ℕ). check_from m b) (let q : k + suc (length a) ≡ suc k + length a = omega arith in q) ∙ go (suc k) a e
      go k (false ∷ a) e = cc

  pub stops_at : (k : ℕ) (a : List Bool) {e : ℕ} → Err e ≡ check_from k a → Err e ≡ check_from k (a ++ b)
  unfolding check_from
  stops_at k [] f = cc
  stops_at k (true ∷ a) f = stops_at (suc k) a f
  stops_at k (false ∷ a) f = f

-- what is asked for nothing at the end
pub last_unasked : (k : ℕ) (a b : List Bool) → all_true b ≡ true → check_from k a ≡ check_from k (a ++ b)
unfolding check_from
last_unasked k [] b e = ok_by k b e
last_unasked k (true ∷ a) b e = last_unasked (suc k) a b e
last_unasked k (false ∷ a) b e = refl

-- ---- pieces of one size, one after another: what is left from piece k on
module _ (marks : ℕ → List Bool) (at size n : ℕ) where
  abbrev pub from_piece : ℕ → Result (Unit {0}) ℕ
  from_piece k = check_from (at + size * k) (pieces marks k (n - k))

  next : (k : ℕ) → k < n → pieces marks k (n - k) ≡ marks k ++ pieces marks (k + 1) (n - (k + 1))
  unfolding pieces
  next k h = let e : n - k ≡ suc (n - (k + 1)) = omega arith in rw (e, add-one k) refl

  pub pieces_start : check_from at (pieces marks 0 n) ≡ from_piece 0
  pieces_start = let e : n ≡ n - 0 = omega arith in ap₂ (λ (k m : ℕ). check_from k (pieces marks 0 m)) (let q : at ≡ at + size * 0 = omega (arith, mul-zero size) in q) e

  pub piece_on : (k : ℕ) → k < n → length (marks k) ≡ size → {v : Unit {0}} → Ok v ≡ check_from (at + size * k) (marks k) → from_piece k ≡ from_piece (k + 1)
  piece_on k h long e =
      ap (check_from (at + size * k)) (next k h)
      ∙ sym (goes_on _ (at + size * k) size (marks k) long e)
      ∙ ap (λ (m : ℕ). check_from m (pieces marks (k + 1) (n - (k + 1))))
      (let q : at + size * k + size ≡ at + size * (k + 1) = omega (arith, mul-suc size k, ap (λ (i : ℕ). size * i) (add-one k)) in q)

  pub piece_stops : (k : ℕ) → k < n → {e : ℕ} → Err e ≡ check_from (at + size * k) (marks k) → from_piece k ≡ Err e
  piece_stops k h f = ap (check_from (at + size * k)) (next k h) ∙ sym (stops_at _ (at + size * k) (marks k) f)

  pub pieces_end : (k : ℕ) → n ≤ k → from_piece k ≡ Ok tt
  unfolding pieces check_from
  pieces_end k h = let e : n - k ≡ 0 = omega arith in ap (λ (m : ℕ). check_from (at + size * k) (pieces marks k m)) e
