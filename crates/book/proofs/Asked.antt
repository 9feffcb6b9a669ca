-- Laws of questions that code asks of each number of a list, or of each of 0, 1, .., n − 1, by `all`. Assumes nothing.
use mathlib.Core.Path.{◌≡◌, refl, sym, ap, ◌∙◌}
use mathlib.Core.Bool.{Bool, ◌&&◌, and_assoc}
use mathlib.Core.List.{List, [], ◌∷◌, map}
use Prim.Native.Nat.{ℕ, zero, suc, ◌+◌, ◌*◌}
use native.Mathlib.Nat.{mul-suc, mul-zero}
use native.Mathlib.Omega.{arith}
use lib.IntN.{ℤ}
use lib.ListN.{length, take, drop, take-append-drop, length-drop}
use Rattle.std.proofs.Common.{add-zero}
use Rattle.std.specs.List.{list_all, range_with_len}
use Rattle.std.specs.Simd.{first_chunks}
use Rattle.whole.specs.Bounds.{is_zero}
use Rattle.whole.specs.Marks.{all_true, all_zero, every}
use Rattle.whole.proofs.Lists.{and-true, all_append}

-- of each element: the marks that the question makes are all true
pub all_marks : {A : Type 0} (test : A → Bool) (xs : List A) → list_all test xs ≡ all_true (map test xs)
unfolding all_true
all_marks test [] = refl
all_marks test (x ∷ xs) = ap (λ (t : Bool). test x && t) (all_marks test xs)

-- of n numbers from a on, the last one is asked last
last_asked : (test : ℕ → Bool) (a n : ℕ) → list_all test (range_with_len a (suc n)) ≡ list_all test (range_with_len a n) && test (a + n)
last_asked test a zero = and-true (test a) ∙ ap test (sym (add-zero a))
last_asked test a (suc n) =
    ap (λ (t : Bool). test a && t) (last_asked test (a + 1) n)
    ∙ sym (and_assoc (test a) (list_all test (range_with_len (a + 1) n)) (test (a + 1 + n)))
    ∙ ap (λ (k : ℕ). list_all test (range_with_len a (suc n)) && test k) (let e : a + 1 + n ≡ a + suc n = omega arith in e)

-- of 0, 1, .., n − 1
pub all_asked : (test : ℕ → Bool) (n : ℕ) → list_all test (range_with_len 0 n) ≡ every n test
unfolding every
all_asked test zero = refl
all_asked test (suc n) =
    last_asked test 0 n
    ∙ ap (λ (t : Bool). t && test (0 + n)) (all_asked test n)
    ∙ ap (λ (k : ℕ). every n test && test k) (let e : 0 + n ≡ n = omega arith in e)

-- of the parts of a list: all its numbers are zero where those of each part are
pub all_parts : (n k : ℕ) (xs : List ℤ) → length xs ≡ n * k → list_all all_zero (first_chunks n k xs) ≡ all_zero xs
unfolding all_zero all_true
all_parts n zero [] e = refl
all_parts n zero (x ∷ xs) e = absurd (omega (arith, mul-zero n))
all_parts n (suc k) xs e =
    ap (λ (t : Bool). all_zero (take n xs) && t) (all_parts n k (drop n xs) (omega (arith, length-drop n xs, mul-suc n k)))
    ∙ sym (all_append is_zero (take n xs) (drop n xs))
    ∙ ap all_zero (take-append-drop n xs)
