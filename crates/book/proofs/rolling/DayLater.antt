-- Laws of a day's step in place: the eight numbers by date, and the stretches of a block that hold them. Assumes nothing.
use mathlib.Core.Path.{◌≡◌, ap, ap₂, ◌∙◌}
use mathlib.Core.List.{List, [], ◌∷◌, ◌++◌, append-nil}
use Prim.Native.Nat.{ℕ, suc}
use native.Mathlib.Omega.{arith}
use lib.IntN.{ℤ, pos, ◌+ℤ◌, ◌-ℤ◌}
use lib.ListN.{length, take, drop, set, length-append, length-drop, drop_of_length-le}
use lib.Seq.{paste, length-take-le, take_all, drop-cons, set_at, take_at, drop_at}
use Rattle.whole.specs.Parts.{part, number}
use Rattle.book.specs.Roll.{day_later, rolled_rubles, rolled_holding}

-- ---- eight numbers by date: each takes the next one's place, as code copies them, and the last is then 0
pub stepped_on : (xs : List ℤ) → length xs ≡ 8 → set (paste xs 0 (drop 1 xs) 7) 7 (pos 0) ≡ day_later xs
unfolding day_later
stepped_on xs long =
    ap (λ (r : List ℤ). set (take 7 (drop 1 xs) ++ r) 7 (pos 0)) (drop-cons xs 7 (pos 0) (omega arith))
    ∙ set_at (take 7 (drop 1 xs)) (number xs 7) (drop 8 xs) (pos 0) 7 (length-take-le 7 (drop 1 xs) (omega (arith, length-drop 1 xs)))
    ∙ ap₂ (λ (p r : List ℤ). p ++ pos 0 ∷ r) (take_all 7 (drop 1 xs) (omega (arith, length-drop 1 xs))) (drop_of_length-le xs {i = 8} (omega arith))

pub later_length : (xs : List ℤ) (n : ℕ) → length xs ≡ suc n → length (day_later xs) ≡ suc n
unfolding day_later
later_length xs n e = simp (length-append, length-drop) (omega arith)

-- ---- nine numbers of rubles: the sum stored at 0, then `&mut rubles[1..9]` stepped on
pub rubles_rolled : (rubles later : List ℤ) (x : ℤ) → length rubles ≡ 9 → x ≡ number rubles 0 +ℤ number rubles 1
    → later ≡ day_later (take 8 (drop 1 (set rubles 0 x)))
    → take 1 (set rubles 0 x) ++ (later ++ drop 8 (drop 1 (set rubles 0 x))) ≡ rolled_rubles rubles
unfolding rolled_rubles part
rubles_rolled [] later x long e f = absurd (omega arith)
rubles_rolled (r ∷ rs) later x long e f =
    ap₂ (λ (y : ℤ) (s : List ℤ). y ∷ s) e (ap (λ (s : List ℤ). later ++ s) (drop_of_length-le rs {i = 8} (omega arith)) ∙ append-nil later ∙ f)

-- ---- seventeen numbers of a holding: the sum at 0, then the claims, then the obligations
pub holding_rolled : (holding claims obligations : List ℤ) (x : ℤ) → length holding ≡ 17
    → x ≡ number holding 0 +ℤ number holding 1 -ℤ number holding 9
    → claims ≡ day_later (take 8 (drop 1 (set holding 0 x)))
    → obligations ≡ day_later (take 8 (drop 9 (take 1 (set holding 0 x) ++ (claims ++ drop 8 (drop 1 (set holding 0 x))))))
    → take 9 (take 1 (set holding 0 x) ++ (claims ++ drop 8 (drop 1 (set holding 0 x))))
    ++ (obligations ++ drop 8 (drop 9 (take 1 (set holding 0 x) ++ (claims ++ drop 8 (drop 1 (set holding 0 x))))))
    ≡ rolled_holding holding
unfolding rolled_holding part
holding_rolled [] claims obligations x long e f g = absurd (omega arith)
holding_rolled (h ∷ hs) claims obligations x long e f g =
    ap₂ (λ (y : ℤ) (s : List ℤ). y ∷ s) e
    (ap₂ ◌++◌ (take_at claims (drop 8 hs) 8 eight ∙ f)
    (ap (λ (s : List ℤ). obligations ++ drop 8 s) rest ∙ ap (λ (s : List ℤ). obligations ++ s) (drop_of_length-le (drop 8 hs) {i = 8} (omega (arith, length-drop 8 hs)))
    ∙ append-nil obligations ∙ g ∙ ap (λ (s : List ℤ). day_later (take 8 s)) rest))
  where
    eight : length claims ≡ 8
    eight = ap length f ∙ later_length (take 8 hs) 7 (length-take-le 8 hs (omega arith))

    rest : drop 8 (claims ++ drop 8 hs) ≡ drop 8 hs
    rest = drop_at claims (drop 8 hs) 8 eight
