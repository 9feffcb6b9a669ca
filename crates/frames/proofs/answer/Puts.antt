-- Laws of lines put in a buffer one after another. Assumes nothing.
use mathlib.Core.Path.{◌≡◌, refl, ◌∙◌}
use mathlib.Core.List.{List, [], ◌++◌}
use Prim.Native.Nat.{ℕ, ◌+◌, ◌≤◌}
use lib.ListN.{length}
use Rattle.whole.proofs.Laid.{laid_none, laid_same, laid_size, laid_then}
use Rattle.frames.specs.Answer.{Puts}
use Rattle.frames.specs.declared.answer.Answers.{Answers}

pub puts_none : (a : Answers) → a.at ≤ length a.out.now → Puts a a 0 []
puts_none a h = record { same = refl; long = refl; laid = laid_none a.out.now a.at h }

-- the same line, and the same size, said otherwise
pub puts_same : {a b : Answers} {n : ℕ} {xs ys : List ℕ} → xs ≡ ys → Puts a b n xs → Puts a b n ys
puts_same e p = record { same = p.same; long = p.long; laid = laid_same e p.laid }

pub puts_size : {a b : Answers} {n m : ℕ} {xs : List ℕ} → n ≡ m → Puts a b n xs → Puts a b m xs
puts_size e p = record { same = p.same; long = p.long; laid = laid_size e p.laid }

-- a line after a line
pub puts_then : {a b c : Answers} {n m : ℕ} {xs ys : List ℕ} → a.at + n ≤ length a.out.now → Puts a b n xs → Puts b c m ys → Puts a c (n + m) (xs ++ ys)
puts_then h p q = record { same = q.same ∙ p.same; long = q.long ∙ p.long; laid = laid_then h p.laid q.laid }
