-- What the machine makes of i64 arithmetic. A signed number is held as bits, so a proof's goals read `to_z w64 (of_z w64 z)` at every local;
-- that is z where z fits. `need! e ok` answers that an operation does not overflow, `runs e ok` that straight code computes its expression.
-- Assumes nothing.
use mathlib.Core.Path.{◌≡◌, refl, sym, ap, ap₂, subst}
use Prim.Native.Nat.{◌+◌, ◌-◌, ◌<◌, ◌≤◌, ◌^◌}
use native.Mathlib.Omega.{arith}
use lib.Dec.{T}
use lib.IntN.{ℤ, pos, negsuc, neg_ℤ, nat_abs, ◌+ℤ◌, ◌-ℤ◌, ◌*ℤ◌}
use lib.Signed.{mag, non_neg}
use mir.Syntax.{w64}
use mir.Val.{Fits, SFits, to_z, of_z}
use mir.Facts.{to_z-of_z}
use Rattle.whole.proofs.PlusMinus.{plus, minus, one_is_zero, abs_is}
use Rattle.whole.proofs.Expressions.{Expression, var, lit, neg, size, ◌⊕◌, ◌⊖◌, ◌⊛◌, ◌⊓◌, ◌⊔◌, ◌÷↓◌, ◌÷↑◌, value, split, is}

-- a number as it is read back from its bits
abbrev pub back : ℤ → ℤ
back z = to_z w64 (of_z w64 z)

-- an expression whose value is in the range of an i64
abbrev pub InRange : Expression → Type 0
InRange e = ((split e).p < 2 ^ 63 + (split e).n) × ((split e).n ≤ 2 ^ 63 + (split e).p)

pub fits! : (e : Expression) → InRange e → SFits w64 (value e)
fits! e h = record { sfits = go (value e) (is e) }
  where
    go : (z : ℤ) → plus z + (split e).n ≡ (split e).p + minus z → mag z < 2 ^ 63
    go (pos n) i = omega arith
    go (negsuc n) i = omega arith

-- what the machine asks of straight code: each part in range. Lesser, greater, size and quotients are calls, and no straight code
abbrev pub Runs : Expression → Type 0
Runs (var x) = mag x < 2 ^ 63
Runs (lit k) = k < 2 ^ 63
Runs (neg a) = Runs a × InRange (neg a)
Runs (size a) = ⊥
Runs (a ⊕ b) = Runs a × Runs b × InRange (a ⊕ b)
Runs (a ⊖ b) = Runs a × Runs b × InRange (a ⊖ b)
Runs (a ⊛ b) = Runs a × Runs b × InRange (a ⊛ b)
Runs (a ⊓ b) = ⊥
Runs (a ⊔ b) = ⊥
Runs (a ÷↓ k) = ⊥
Runs (a ÷↑ k) = ⊥

-- the number that straight code holds at its end
abbrev pub held : Expression → ℤ
held (var x) = back x
held (lit k) = pos k
held (neg a) = back (neg_ℤ (held a))
held (size a) = value (size a)
held (a ⊕ b) = back (held a +ℤ held b)
held (a ⊖ b) = back (held a -ℤ held b)
held (a ⊛ b) = back (held a *ℤ held b)
held (a ⊓ b) = value (a ⊓ b)
held (a ⊔ b) = value (a ⊔ b)
held (a ÷↓ k) = value (a ÷↓ k)
held (a ÷↑ k) = value (a ÷↑ k)

-- the number that its last operation makes, before it is stored
abbrev pub made : Expression → ℤ
made (var x) = x
made (lit k) = pos k
made (neg a) = neg_ℤ (held a)
made (size a) = value (size a)
made (a ⊕ b) = held a +ℤ held b
made (a ⊖ b) = held a -ℤ held b
made (a ⊛ b) = held a *ℤ held b
made (a ⊓ b) = value (a ⊓ b)
made (a ⊔ b) = value (a ⊔ b)
made (a ÷↓ k) = value (a ÷↓ k)
made (a ÷↑ k) = value (a ÷↑ k)

stored : (y : ℤ) (e : Expression) → y ≡ value e → InRange e → back y ≡ value e
stored y e q f = rw q (to_z-of_z (fits! e f))

pub runs : (e : Expression) → Runs e → held e ≡ value e
runs (var x) o = to_z-of_z {w = w64} (record { sfits = o })
runs (lit k) o = refl
runs (neg a) o = stored (neg_ℤ (held a)) (neg a) (ap neg_ℤ (runs a o.0)) o.1
runs (size a) o = absurd o
runs (a ⊕ b) o = stored (held a +ℤ held b) (a ⊕ b) (ap₂ ◌+ℤ◌ (runs a o.0) (runs b o.1)) o.2
runs (a ⊖ b) o = stored (held a -ℤ held b) (a ⊖ b) (ap₂ ◌-ℤ◌ (runs a o.0) (runs b o.1)) o.2
runs (a ⊛ b) o = stored (held a *ℤ held b) (a ⊛ b) (ap₂ ◌*ℤ◌ (runs a o.0) (runs b o.1)) o.2
runs (a ⊓ b) o = absurd o
runs (a ⊔ b) o = absurd o
runs (a ÷↓ k) o = absurd o
runs (a ÷↑ k) o = absurd o

pub makes : (e : Expression) → Runs e → made e ≡ value e
makes (var x) o = refl
makes (lit k) o = refl
makes (neg a) o = ap neg_ℤ (runs a o.0)
makes (size a) o = refl
makes (a ⊕ b) o = ap₂ ◌+ℤ◌ (runs a o.0) (runs b o.1)
makes (a ⊖ b) o = ap₂ ◌-ℤ◌ (runs a o.0) (runs b o.1)
makes (a ⊛ b) o = ap₂ ◌*ℤ◌ (runs a o.0) (runs b o.1)
makes (a ⊓ b) o = refl
makes (a ⊔ b) o = refl
makes (a ÷↓ k) o = refl
makes (a ÷↑ k) o = refl

fits : (e : Expression) → Runs e → SFits w64 (value e)
fits (var x) o = record { sfits = o }
fits (lit k) o = record { sfits = o }
fits (neg a) o = fits! (neg a) o.1
fits (size a) o = absurd o
fits (a ⊕ b) o = fits! (a ⊕ b) o.2
fits (a ⊖ b) o = fits! (a ⊖ b) o.2
fits (a ⊛ b) o = fits! (a ⊛ b) o.2
fits (a ⊓ b) o = absurd o
fits (a ⊔ b) o = absurd o
fits (a ÷↓ k) o = absurd o
fits (a ÷↑ k) o = absurd o

pub need! : (e : Expression) → Runs e → SFits w64 (made e)
need! e o = rw (makes e o) (fits e o)

-- numbers that fit, read back
pub fits_back : {x : ℤ} → SFits w64 x → SFits w64 (back x)
fits_back {x} f = subst (SFits w64) (sym (to_z-of_z f)) f

pub clean₂ {ℓ} : {A : Type ℓ} (f : ℤ → ℤ → A) {x y : ℤ} → SFits w64 x → SFits w64 y → f (back x) (back y) ≡ f x y
clean₂ f h k = ap₂ f (to_z-of_z h) (to_z-of_z k)

-- a number from 0 up, as an index
pub non_neg_by : (x : ℤ) → minus x ≤ plus x → T (non_neg x)
non_neg_by (pos n) h = tt
non_neg_by (negsuc n) h = absurd (omega arith)

pub index_by : (x : ℤ) → (plus x - minus x) + (minus x - plus x) < 2 ^ 64 → Fits w64 (nat_abs x)
index_by x h = record { fits = omega (arith, abs_is x, one_is_zero x) }
