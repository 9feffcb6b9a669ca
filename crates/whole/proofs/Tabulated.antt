-- Laws of lists that are given number by number, and of an array that is made so. Assumes nothing.
use mathlib.Core.Path.{◌≡◌, refl, sym, ap, ◌∙◌, subst}
use mathlib.Core.Logic.{⊎_elim}
use mathlib.Core.List.{List, [], ◌∷◌, ◌++◌}
use Prim.Native.Nat.{ℕ, zero, suc, ◌+◌, ◌≤◌, ◌<◌}
use native.Mathlib.Nat.{eq-or-lt_of_le}
use native.Mathlib.Omega.{arith}
use lib.ListN.{length, get_or, length-append, get_or-append}
use lib.Seq.{get_or_at, ext_get_or}
use lib.IntN.{ℤ, pos}
use denote.Param.Members.{Mut}
use Rattle.std.specs.Fn.{Called}
use Rattle.std.specs.Array.{IsFromFnResultFrom, IsFromFnResult, index_steps}
use Rattle.std.specs.Iterator.{CallableAtEachTurn}
use Rattle.std.specs.List.{FoldsTo}
use Rattle.whole.specs.Parts.{tabulated}

module _ {A : Type 0} (f : ℕ → A) where
  pub tabulated_length : (n : ℕ) → length (tabulated n f) ≡ n
  unfolding tabulated
  tabulated_length zero = refl
  tabulated_length (suc n) = length-append (tabulated n f) (f n ∷ []) ∙ (let e = tabulated_length n in omega arith)

  pub tabulated_at : (n j : ℕ) (d : A) → j < n → get_or (tabulated n f) j d ≡ f j
  unfolding tabulated
  tabulated_at zero j d h = absurd (omega arith)
  tabulated_at (suc n) j d h =
      ⊎_elim
      (λ e. ap (λ (i : ℕ). get_or (tabulated n f ++ (f n ∷ [])) i d) e ∙ get_or_at (tabulated n f) (f n) [] d n (tabulated_length n) ∙ ap f (sym e))
      (λ l. get_or-append (tabulated n f) (f n ∷ []) d j (let e = tabulated_length n in omega arith) ∙ tabulated_at n j d l)
      (eq-or-lt_of_le (let h' : j ≤ n = omega arith in h'))

-- two lists whose numbers agree
pub tabulated_same : {A : Type 0} (d : A) (n : ℕ) (f g : ℕ → A) → ((j : ℕ) → j < n → f j ≡ g j) → tabulated n f ≡ tabulated n g
tabulated_same d n f g h =
    let m = tabulated_length f n in
    ext_get_or d (tabulated n f) (tabulated n g) (m ∙ sym (tabulated_length g n))
    (λ j l. tabulated_at f n j d (omega arith) ∙ h j (omega arith) ∙ sym (tabulated_at g n j d (omega arith)))

-- ---- what `array::from_fn` makes of a closure that gives h i of each i below n
module _ {F : Type 0} (g : Mut F (ℕ × Unit {0}) ℤ) (h : ℕ → ℤ) {f : F} {n : ℕ} (calls : (i : ℕ) (y : ℤ) (q : F) → i < n → Called g f (i, tt) y q → (q ≡ f) × (y ≡ h i)) where
  called_at : (ys : List ℤ) (p : F) → p ≡ f → (m i : ℕ) → i + m ≤ n → IsFromFnResultFrom g p ys i m → (k j : ℕ) → k < m → i + k ≡ j → get_or ys j (pos 0) ≡ h j
  called_at ys p e zero i few made k j l at = absurd (omega arith)
  called_at ys p e (suc m) i few made zero j l at =
      let y = calls i made.1 made.0 (omega arith) (subst (λ (p : F). Called g p (i, tt) made.1 made.0) e made.3) in
      let here : i ≡ j = omega arith in
      ap (λ (m : ℕ). get_or ys m (pos 0)) (sym here) ∙ made.2.1 (pos 0) ∙ y.1 ∙ ap h here
  called_at ys p e (suc m) i few made (suc k) j l at =
      let y = calls i made.1 made.0 (omega arith) (subst (λ (p : F). Called g p (i, tt) made.1 made.0) e made.3) in
      called_at ys made.0 y.0 m (i + 1) (omega arith) made.4 k j (omega arith) (omega arith)

  pub from_fn_is : {ys : List ℤ} → IsFromFnResult g f ys n → ys ≡ tabulated n h
  from_fn_is {ys} made =
      ext_get_or (pos 0) ys (tabulated n h) (made.long ∙ sym (tabulated_length h n))
      (λ j l. called_at ys f refl n 0 (omega arith) made.each j j (omega arith) (omega arith) ∙ sym (tabulated_at h n j (pos 0) (omega arith)))

-- and that it may be called at each i: it stays as it is, and may be called at each i below n
pub serves_each : {P : Type 0} {R : P → ℕ → P → Type 0} {Q : P → ℕ → Type 0} {n : ℕ} {f : P} → ((i : ℕ) (q : P) → R f i q → q ≡ f) → ((i : ℕ) → i < n → Q f i)
    → CallableAtEachTurn (index_steps n) R Q 0 f
serves_each {P} {R} {Q} {n} {f} kept may = record { at = λ xs t q x u ran folded step. subst (λ (p : P). Q p x) (sym (stays xs f q refl folded)) (may x (omega arith)) }
  where
    stays : (xs : List ℕ) (p q : P) → p ≡ f → FoldsTo R p xs q → q ≡ f
    stays [] p q e folded = sym folded ∙ e
    stays (x ∷ xs) p q e folded = stays xs folded.0 q (kept x folded.0 (subst (λ (p : P). R p x folded.0) e folded.1)) folded.2
