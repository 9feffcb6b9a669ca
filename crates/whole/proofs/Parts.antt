-- Laws of parts of a list, over any list, place and size. Assumes nothing.
use mathlib.Core.Path.{◌≡◌, sym, ap, ◌∙◌, subst}
use mathlib.Core.Logic.{◌⊎◌, ⊎_elim}
use mathlib.Core.List.{List, ◌++◌}
use Prim.Native.Nat.{ℕ, ◌+◌, ◌-◌, ◌≤◌, ◌<◌}
use native.Mathlib.Omega.{arith}
use lib.ListN.{length, take, drop, get_or, length-append, length-take, length-drop, get_or-append}
use lib.Seq.{length-take-le, get_or-take, get_or-drop, get_or-append-add, ext_get_or, take_all}
use Rattle.whole.specs.Parts.{part, put}
use Rattle.whole.proofs.Numbers.{lt_or_ge}

-- a part as code cuts it, `&xs[a..a + n]`
pub cut : {A : Type 0} (a n : ℕ) (xs : List A) → take (a + n - a) (drop a xs) ≡ part a n xs
unfolding part
cut a n xs = ap (λ (k : ℕ). take k (drop a xs)) (let e : a + n - a ≡ n = omega arith in e)

-- and a part to the end, `&xs[a..]`
pub to_end : {A : Type 0} (a : ℕ) (xs : List A) → take (length xs - a) (drop a xs) ≡ drop a xs
to_end a xs = take_all (length xs - a) (drop a xs) (omega (arith, length-drop a xs))

-- the same of a list of n elements, `&xs[a..n]`
pub up_to : {A : Type 0} (a n : ℕ) (xs : List A) → length xs ≡ n → take (n - a) (drop a xs) ≡ drop a xs
up_to a n xs long = take_all (n - a) (drop a xs) (omega (arith, length-drop a xs))

module _ {A : Type 0} (d : A) (a n : ℕ) (xs : List A) where
  pub part_at : (i : ℕ) → i < n → get_or (part a n xs) i d ≡ get_or xs (a + i) d
  unfolding part
  part_at i h = rw (get_or-take, get_or-drop)

  pub part_length : a + n ≤ length xs → length (part a n xs) ≡ n
  unfolding part
  part_length fits = simp (length-take, length-drop) (omega arith)

module _ {A : Type 0} (d : A) (a n : ℕ) (xs ys : List A) (fits : a + n ≤ length xs) (long : length ys ≡ n) where
  head_length : length (take a xs) ≡ a
  head_length = length-take-le a xs (omega arith)

  pub put_length : length (put a n xs ys) ≡ length xs
  unfolding put
  put_length = simp (length-append, length-take, length-drop) (omega arith)

  pub put_before : (i : ℕ) → i < a → get_or (put a n xs ys) i d ≡ get_or xs i d
  unfolding put
  put_before i h = get_or-append (take a xs) _ d i (omega (arith, head_length)) ∙ get_or-take a xs i d h

  pub put_in : (i : ℕ) → i < n → get_or (put a n xs ys) (a + i) d ≡ get_or ys i d
  unfolding put
  put_in i h =
      subst (λ (k : ℕ). get_or (take a xs ++ (ys ++ drop n (drop a xs))) (k + i) d ≡ get_or ys i d) head_length
      (get_or-append-add (take a xs) _ i d ∙ get_or-append ys _ d i (omega arith))

  beyond : (i : ℕ) → get_or (put a n xs ys) (a + (n + i)) d ≡ get_or xs (a + (n + i)) d
  unfolding put
  beyond i =
      subst (λ (k : ℕ). get_or (take a xs ++ (ys ++ drop n (drop a xs))) (k + (n + i)) d ≡ get_or xs (a + (n + i)) d) head_length
      (get_or-append-add (take a xs) _ (n + i) d
      ∙ subst (λ (k : ℕ). get_or (ys ++ drop n (drop a xs)) (k + i) d ≡ get_or xs (a + (n + i)) d) long
      (get_or-append-add ys _ i d ∙ get_or-drop n (drop a xs) i d ∙ get_or-drop a xs (n + i) d))

  pub put_after : (i : ℕ) → a + n ≤ i → get_or (put a n xs ys) i d ≡ get_or xs i d
  put_after i h =
      subst (λ (k : ℕ). get_or (put a n xs ys) k d ≡ get_or xs k d)
      (let e : a + (n + (i - (a + n))) ≡ i = omega arith in e) (beyond (i - (a + n)))

  -- what was put is what stands there
  pub part_put : part a n (put a n xs ys) ≡ ys
  part_put =
      let h : length (part a n (put a n xs ys)) ≡ n = part_length d a n (put a n xs ys) (omega (arith, put_length)) in
      ext_get_or d _ _ (h ∙ sym long) (λ i l. part_at d a n (put a n xs ys) i (omega arith) ∙ put_in i (omega arith))

  -- a part beside it is as it was
  pub part_put_other : (b m : ℕ) → b + m ≤ length xs → ((b + m ≤ a) ⊎ (a + n ≤ b)) → part b m (put a n xs ys) ≡ part b m xs
  part_put_other b m hb apart =
      let h : length (part b m (put a n xs ys)) ≡ m = part_length d b m (put a n xs ys) (omega (arith, put_length)) in
      ext_get_or d _ _ (h ∙ sym (part_length d b m xs hb))
      (λ i l. part_at d b m (put a n xs ys) i (omega arith)
      ∙ ⊎_elim {C = get_or (put a n xs ys) (b + i) d ≡ get_or xs (b + i) d} (λ q. put_before (b + i) (omega arith)) (λ q. put_after (b + i) (omega arith)) apart
      ∙ sym (part_at d b m xs i (omega arith)))

-- the same part put back changes nothing
pub put_part : {A : Type 0} (d : A) (a n : ℕ) (xs : List A) → a + n ≤ length xs → put a n xs (part a n xs) ≡ xs
put_part d a n xs fits =
    let long : length (part a n xs) ≡ n = part_length d a n xs fits in
    ext_get_or d _ _ (put_length d a n xs (part a n xs) fits long)
    (λ i l. ⊎_elim
    (λ h. put_before d a n xs (part a n xs) fits long i h)
    (λ h. ⊎_elim
    (λ k. let e : a + (i - a) ≡ i = omega arith in
    subst (λ (j : ℕ). get_or (put a n xs (part a n xs)) j d ≡ get_or xs j d) e
    (put_in d a n xs (part a n xs) fits long (i - a) (omega arith) ∙ part_at d a n xs (i - a) (omega arith)))
    (λ k. put_after d a n xs (part a n xs) fits long i k)
    (lt_or_ge i (a + n)))
    (lt_or_ge i a))
