-- Laws of a test that each of 0, 1, .., n − 1 passes. Assumes nothing.
use mathlib.Core.Path.{◌≡◌, refl, sym, ap, ap₂, ◌∙◌}
use mathlib.Core.Logic.{⊎_elim}
use mathlib.Core.Bool.{Bool, true, false, ◌&&◌}
use Prim.Native.Nat.{ℕ, zero, suc, ◌+◌, ◌≤◌, ◌<◌}
use native.Mathlib.Nat.{eq-or-lt_of_le}
use native.Mathlib.Numerals.{add-one}
use native.Mathlib.Omega.{arith}
use mathlib.Core.List.{[], ◌∷◌, map}
use Rattle.std.specs.List.{list_all, range_with_len}
use Rattle.std.proofs.lemmas.List.Folds.{list_all-append, list_all-map}
use Rattle.std.proofs.lemmas.List.FromFn.{map-range_with_len_more}
use Rattle.whole.specs.Marks.{every}
use Rattle.whole.proofs.Tests.{and_left, and_right, both, first_out, second_out}
use Rattle.whole.proofs.Lists.{and-true}

module _ (f : ℕ → Bool) where
  pub every_at : (n a : ℕ) → a < n → every n f ≡ true → f a ≡ true
  unfolding every
  every_at zero a h e = absurd (omega arith)
  every_at (suc n) a h e =
      ⊎_elim (λ q. ap f q ∙ and_right (every n f) (f n) e) (λ q. every_at n a q (and_left (every n f) (f n) e)) (eq-or-lt_of_le (let l : a ≤ n = omega arith in l))

  pub every_by : (n : ℕ) → ((a : ℕ) → a < n → f a ≡ true) → every n f ≡ true
  unfolding every
  every_by zero h = refl
  every_by (suc n) h = both (every n f) (f n) (every_by n (λ a l. h a (omega arith))) (h n (omega arith))

  pub every_out : (n a : ℕ) → a < n → f a ≡ false → every n f ≡ false
  unfolding every
  every_out zero a h e = absurd (omega arith)
  every_out (suc n) a h e =
      ⊎_elim (λ q. second_out (every n f) (f n) (ap f (sym q) ∙ e)) (λ q. first_out (every n f) (f n) (every_out n a q e)) (eq-or-lt_of_le (let l : a ≤ n = omega arith in l))

  -- a loop's start and its turn
  pub every_none : every 0 f ≡ true
  unfolding every
  every_none = refl

  pub every_next : (n : ℕ) → every n f ≡ true → f n ≡ true → every (n + 1) f ≡ true
  unfolding every
  every_next n e g = ap (λ (m : ℕ). every m f) (add-one n) ∙ both (every n f) (f n) e g

  pub every_done : {n m : ℕ} → every n f ≡ true → n ≡ m → true ≡ every m f
  every_done e q = sym e ∙ ap (λ (k : ℕ). every k f) q

  -- every one of them but a
  pub every_but : (n a : ℕ) → a < n → ((b : ℕ) → b < n → (b ≡ a → ⊥) → f b ≡ true) → every n f ≡ f a
  unfolding every
  every_but zero a l h = absurd (omega arith)
  every_but (suc n) a l h =
      ⊎_elim
      (λ q. ap₂ ◌&&◌ (every_by n (λ b k. h b (omega arith) (λ e. omega arith))) (ap f (sym q)))
      (λ q. ap₂ ◌&&◌ (every_but n a q (λ b k d. h b (omega arith) d)) (h n (omega arith) (λ e. omega arith)) ∙ and-true (f a))
      (eq-or-lt_of_le (let k : a ≤ n = omega arith in k))

  pub every_same : (g : ℕ → Bool) (n : ℕ) → ((a : ℕ) → a < n → f a ≡ g a) → every n f ≡ every n g
  unfolding every
  every_same g zero h = refl
  every_same g (suc n) h = ap₂ ◌&&◌ (every_same g n (λ a l. h a (omega arith))) (h n (omega arith))

  -- as an iterator's `all` over a range finds it
  pub every_all : (n : ℕ) → list_all f (range_with_len 0 n) ≡ every n f
  unfolding every
  every_all zero = refl
  every_all (suc n) =
      ap (λ (m : ℕ). list_all f (range_with_len 0 m)) (sym (add-one n)) ∙ sym (list_all-map (λ b. b) f (range_with_len 0 (n + 1)))
      ∙ ap (list_all (λ b. b)) (map-range_with_len_more f 0 n n (omega arith)) ∙ list_all-append (λ b. b) (map f (range_with_len 0 n)) (f n ∷ [])
      ∙ ap₂ ◌&&◌ (list_all-map (λ b. b) f (range_with_len 0 n) ∙ every_all n) (and-true (f n))

  -- and of those from 1 on, where 0 passes
  pub every_rest : (n m : ℕ) → f 0 ≡ true → 1 + n ≡ m → list_all f (range_with_len 1 n) ≡ every m f
  every_rest n m e q = ap (λ (b : Bool). b && list_all f (range_with_len 1 n)) (sym e) ∙ every_all (suc n) ∙ ap (λ (k : ℕ). every k f) (omega arith)
