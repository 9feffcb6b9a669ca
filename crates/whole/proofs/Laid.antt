-- Laws of lines laid in a buffer: one element, one line after another. Assumes nothing.
use mathlib.Core.Path.{◌≡◌, refl, sym, ap, subst, ◌∙◌}
use mathlib.Core.List.{List, [], ◌∷◌, ◌++◌, append_assoc}
use Prim.Native.Nat.{ℕ, suc, ◌+◌, ◌≤◌}
use native.Mathlib.Omega.{arith}
use lib.ListN.{length, take, drop, set, length-append, take-append-drop}
use lib.Seq.{length-take-le, take_at, drop_at, drop-drop, set_split}
use Rattle.whole.specs.Parts.{put}
use Rattle.whole.specs.Laid.{Laid}

pub laid_one : {A : Type 0} (out : List A) (at : ℕ) (x : A) → at + 1 ≤ length out → Laid out at 1 (x ∷ []) (set out at x) (at + 1)
unfolding put
laid_one {A} out at x fits = record {
  count = refl;
  long = refl;
  elements =
      let e : suc at ≡ at + 1 = omega arith in
      set_split out at x (omega arith) ∙ ap (λ (t : List A). take at out ++ x ∷ t) (ap (λ (k : ℕ). drop k out) e ∙ sym (drop-drop 1 at out));
}

-- nothing laid
pub laid_none : {A : Type 0} (out : List A) (at : ℕ) → at ≤ length out → Laid out at 0 [] out at
unfolding put
laid_none out at fits = record { count = omega arith; long = refl; elements = sym (take-append-drop at out) }

module _ {A : Type 0} (out : List A) (at n m : ℕ) (xs ys : List A) (fits : at + n ≤ length out) (long : length xs ≡ n) where
  abbrev rest : List A
  rest = drop n (drop at out)

  head_length : length (take at out ++ xs) ≡ at + n
  head_length = length-append (take at out) xs ∙ rw (length-take-le at out (omega arith), long) refl

  put_put : put (at + n) m (put at n out xs) ys ≡ put at (n + m) out (xs ++ ys)
  unfolding put
  put_put =
      ap (λ (l : List A). take (at + n) l ++ (ys ++ drop m (drop (at + n) l))) (sym (append_assoc (take at out) xs rest))
      ∙ rw (take_at (take at out ++ xs) rest (at + n) head_length, drop_at (take at out ++ xs) rest (at + n) head_length) refl
      ∙ append_assoc (take at out) xs (ys ++ drop m rest)
      ∙ ap (λ (l : List A). take at out ++ l)
      (sym (append_assoc xs ys (drop m rest)) ∙ ap (λ (l : List A). (xs ++ ys) ++ l) (drop-drop m n (drop at out)))

-- the same line, and the same size, said otherwise
pub laid_same : {A : Type 0} {x y xs ys : List A} {at n r : ℕ} → xs ≡ ys → Laid x at n xs y r → Laid x at n ys y r
laid_same {A} {x} {y} {xs} {ys} {at} {n} {r} e p = subst (λ (l : List A). Laid x at n l y r) e p

pub laid_size : {A : Type 0} {x y xs : List A} {at n m r : ℕ} → n ≡ m → Laid x at n xs y r → Laid x at m xs y r
laid_size {A} {x} {y} {xs} {at} {n} {m} {r} e p = subst (λ (k : ℕ). Laid x at k xs y r) e p

-- a line after a line
pub laid_then : {A : Type 0} {x y z xs ys : List A} {at n m r q : ℕ} → at + n ≤ length x → Laid x at n xs y r → Laid y r m ys z q → Laid x at (n + m) (xs ++ ys) z q
laid_then {A} {x} {y} {z} {xs} {ys} {at} {n} {m} {r} {q} fits p s = record {
  count = omega (arith, p.count, s.count);
  long = length-append xs ys ∙ rw (p.long, s.long) refl;
  elements = s.elements ∙ rw (p.count, p.elements) (put_put x at n m xs ys fits p.long);
}
