-- Laws of the roll, stretch by stretch: what a block holds after it. Assumes nothing.
use mathlib.Core.Path.{◌≡◌, refl, sym, ap, ap₂, ◌∙◌}
use mathlib.Core.Logic.{◌⊎◌, inl, inr, ⊎_elim}
use mathlib.Core.Bool.{true, false}
use mathlib.Core.List.{List, ◌++◌}
use Prim.Native.Nat.{ℕ, zero, suc, ◌+◌, ◌*◌, ◌-◌, ◌≤◌, ◌<◌}
use native.Mathlib.Nat.{eq-or-lt_of_le, add-zero}
use native.Mathlib.Numerals.{add-one}
use native.Mathlib.Omega.{arith}
use lib.IntN.{ℤ, pos}
use lib.ListN.{length, take, drop, length-append, take-append-drop}
use lib.Seq.{drop-length, drop-drop}
use Rattle.whole.specs.Bounds.{is_zero}
use Rattle.whole.specs.Marks.{pieces}
use Rattle.whole.specs.Parts.{part, put, number}
use Rattle.whole.proofs.Parts.{part_at, part_length, part_put, part_put_other, put_length}
use Rattle.book.specs.Block.{account_kind, ruble_numbers, holding_of, InHead}
use Rattle.book.specs.Rules.{in_bounds, good_block}
use Rattle.book.specs.Roll.{day_later, rolled_rubles, rolled_holding, rolled}
use Rattle.whole.proofs.Lists.{back_put}
use Rattle.book.proofs.Blocks.{rubles_length, holding_length_lem, lent_holding}
use Rattle.book.proofs.Good.{still_good}
use Rattle.book.proofs.rolling.DayLater.{later_length}

-- ---- the stretches keep their lengths
pub rolled_rubles_length : (rubles : List ℤ) → length rubles ≡ 9 → length (rolled_rubles rubles) ≡ 9
unfolding rolled_rubles
rolled_rubles_length rubles e = ap suc (later_length (part 1 8 rubles) 7 (part_length (pos 0) 1 8 rubles (omega arith)))

pub rolled_holding_length : (holding : List ℤ) → length holding ≡ 17 → length (rolled_holding holding) ≡ 17
unfolding rolled_holding
rolled_holding_length holding e =
    ap suc (length-append (day_later (part 1 8 holding)) (day_later (part 9 8 holding))
    ∙ ap₂ ◌+◌ (later_length (part 1 8 holding) 7 (part_length (pos 0) 1 8 holding (omega arith)))
    (later_length (part 9 8 holding) 7 (part_length (pos 0) 9 8 holding (omega arith))))

-- ---- as the code rolls a block: its rubles, and then one holding after another
unfoldable pub rolled_to : ℕ → List ℤ → List ℤ
rolled_to zero block = put 1 9 block (rolled_rubles (ruble_numbers block))
rolled_to (suc a) block = put (16 + 17 * a) 17 (rolled_to a block) (rolled_holding (holding_of block a))

-- a block of 288 numbers is its stretches, one after another
module _ (block : List ℤ) where
  holdings_on : (n i : ℕ) → 16 + 17 * (i + n) ≡ length block → pieces (holding_of block) i n ≡ drop (16 + 17 * i) block
  unfolding pieces part
  holdings_on zero i e = sym (ap (λ (k : ℕ). drop k block) (let k : 16 + 17 * i ≡ length block = omega arith in k) ∙ drop-length block)
  holdings_on (suc n) i e =
      let on : 16 + 17 * (suc i + n) ≡ length block = omega arith in
      let here = drop (16 + 17 * i) block in
      ap (λ (xs : List ℤ). take 17 here ++ xs)
      (holdings_on n (suc i) on ∙ ap (λ (k : ℕ). drop k block) (let k : 16 + 17 * suc i ≡ 16 + 17 * i + 17 = omega arith in k) ∙ sym (drop-drop 17 (16 + 17 * i) block))
      ∙ take-append-drop 17 here

  all_stretches : length block ≡ 288 → part 0 1 block ++ (ruble_numbers block ++ (part 10 6 block ++ pieces (holding_of block) 0 16)) ≡ block
  unfolding part
  all_stretches long =
      ap (λ (xs : List ℤ). take 1 block ++ (take 9 (drop 1 block) ++ (take 6 (drop 10 block) ++ xs))) (holdings_on 16 0 (sym long))
      ∙ ap (λ (xs : List ℤ). take 1 block ++ (take 9 (drop 1 block) ++ xs))
      (ap (λ (xs : List ℤ). take 6 (drop 10 block) ++ xs) (sym (drop-drop 6 10 block)) ∙ take-append-drop 6 (drop 10 block))
      ∙ ap (λ (xs : List ℤ). take 1 block ++ xs)
      (ap (λ (xs : List ℤ). take 9 (drop 1 block) ++ xs) (sym (drop-drop 9 1 block)) ∙ take-append-drop 9 (drop 1 block))
      ∙ take-append-drop 1 block

same_pieces : (f g : ℕ → List ℤ) (n i : ℕ) → ((a : ℕ) → i ≤ a → a < i + n → f a ≡ g a) → pieces f i n ≡ pieces g i n
unfolding pieces
same_pieces f g zero i h = refl
same_pieces f g (suc n) i h = ap₂ ◌++◌ (h i (omega arith) (omega arith)) (same_pieces f g n (suc i) (λ a p q. h a (omega arith) (omega arith)))

-- ---- a block of 288 numbers with its rubles and its first n holdings rolled
module _ (block : List ℤ) (long : length block ≡ 288) where
  nine : length (rolled_rubles (ruble_numbers block)) ≡ 9
  nine = rolled_rubles_length (ruble_numbers block) (rubles_length block long)

  seventeen : (a : ℕ) → a < 16 → length (rolled_holding (holding_of block a)) ≡ 17
  seventeen a l = rolled_holding_length (holding_of block a) (holding_length_lem block long a l)

  pub to_length : (n : ℕ) → n ≤ 16 → length (rolled_to n block) ≡ 288
  unfolding rolled_to
  to_length zero l = put_length (pos 0) 1 9 block (rolled_rubles (ruble_numbers block)) (omega arith) nine ∙ long
  to_length (suc n) l = let e = to_length n (omega arith) in
      put_length (pos 0) (16 + 17 * n) 17 (rolled_to n block) (rolled_holding (holding_of block n)) (omega arith) (seventeen n (omega arith)) ∙ e

  -- a stretch that is not among those rolled is as it was
  to_beside : (n : ℕ) → n ≤ 16 → (b m : ℕ) → b + m ≤ 288 → (b + m ≤ 1) ⊎ (10 ≤ b) → (b + m ≤ 16) ⊎ (16 + 17 * n ≤ b)
      → part b m (rolled_to n block) ≡ part b m block
  unfolding rolled_to
  to_beside zero l b m h p q =
      part_put_other (pos 0) 1 9 block (rolled_rubles (ruble_numbers block)) (omega arith) nine b m (omega arith) p
  to_beside (suc n) l b m h p q = let e = to_length n (omega arith) in
      part_put_other (pos 0) (16 + 17 * n) 17 (rolled_to n block) (rolled_holding (holding_of block n)) (omega arith) (seventeen n (omega arith)) b m (omega arith)
      (⊎_elim (λ k. inl (omega arith)) (λ k. inr (omega arith)) q)
      ∙ to_beside n (omega arith) b m h p (⊎_elim (λ k. inl k) (λ k. inr (omega arith)) q)

  pub to_ahead : (n a : ℕ) → n ≤ a → a < 16 → holding_of (rolled_to n block) a ≡ holding_of block a
  to_ahead n a h l = to_beside n (omega arith) (16 + 17 * a) 17 (omega arith) (inr (omega arith)) (inr (omega arith))

  to_holding : (n a : ℕ) → n ≤ 16 → a < n → holding_of (rolled_to n block) a ≡ rolled_holding (holding_of block a)
  unfolding rolled_to
  to_holding zero a l h = absurd (omega arith)
  to_holding (suc n) a l h = let e = to_length n (omega arith) in
      ⊎_elim
      (λ q. ap (holding_of (rolled_to (suc n) block)) q
      ∙ part_put (pos 0) (16 + 17 * n) 17 (rolled_to n block) (rolled_holding (holding_of block n)) (omega arith) (seventeen n (omega arith))
      ∙ ap (λ (b : ℕ). rolled_holding (holding_of block b)) (sym q))
      (λ q. part_put_other (pos 0) (16 + 17 * n) 17 (rolled_to n block) (rolled_holding (holding_of block n)) (omega arith) (seventeen n (omega arith))
      (16 + 17 * a) 17 (omega arith) (inl (omega arith))
      ∙ to_holding n a (omega arith) q)
      (eq-or-lt_of_le (let k : a ≤ n = omega arith in k))

  to_rubles : (n : ℕ) → n ≤ 16 → ruble_numbers (rolled_to n block) ≡ rolled_rubles (ruble_numbers block)
  unfolding rolled_to
  to_rubles zero l = part_put (pos 0) 1 9 block (rolled_rubles (ruble_numbers block)) (omega arith) nine
  to_rubles (suc n) l = let e = to_length n (omega arith) in
      part_put_other (pos 0) (16 + 17 * n) 17 (rolled_to n block) (rolled_holding (holding_of block n)) (omega arith) (seventeen n (omega arith)) 1 9 (omega arith) (inl (omega arith))
      ∙ to_rubles n (omega arith)

  -- ---- as code rolls it in place: the rubles, then a holding at each turn
  pub to_begin : (rubles : List ℤ) → rubles ≡ rolled_rubles (take 9 (drop 1 block)) → take 1 block ++ (rubles ++ drop 9 (drop 1 block)) ≡ rolled_to 0 block
  unfolding rolled_to put part
  to_begin rubles e = ap (λ (s : List ℤ). take 1 block ++ (s ++ drop 9 (drop 1 block))) e

  module _ (n : ℕ) (l : n < 16) (so_far : List ℤ) (e : so_far ≡ rolled_to n block) where
    pub holding_next_up : take (16 + 17 * n + 17 - (16 + 17 * n)) (drop (16 + 17 * n) so_far) ≡ holding_of block n
    holding_next_up = lent_holding so_far n ∙ ap (λ (s : List ℤ). holding_of s n) e ∙ to_ahead n n (omega arith) l

    pub to_next : (holding : List ℤ) → holding ≡ rolled_holding (take (16 + 17 * n + 17 - (16 + 17 * n)) (drop (16 + 17 * n) so_far))
        → take (16 + 17 * n) so_far ++ (holding ++ drop (16 + 17 * n + 17 - (16 + 17 * n)) (drop (16 + 17 * n) so_far)) ≡ rolled_to (n + 1) block
    unfolding rolled_to
    to_next holding f =
        back_put (16 + 17 * n) 17 so_far holding
        ∙ ap₂ (put (16 + 17 * n) 17) e (f ∙ ap rolled_holding holding_next_up)
        ∙ ap (λ (k : ℕ). rolled_to k block) (sym (add-one n))

  -- ---- the block rolled
  pub rolled_to_lem : rolled block ≡ rolled_to 16 block
  unfolding rolled
  rolled_to_lem =
      sym (ap₂ ◌++◌ (to_beside 16 (omega arith) 0 1 (omega arith) (inl (omega arith)) (inl (omega arith)))
      (ap₂ ◌++◌ (to_rubles 16 (omega arith))
      (ap₂ ◌++◌ (to_beside 16 (omega arith) 10 6 (omega arith) (inr (omega arith)) (inl (omega arith)))
      (same_pieces (holding_of (rolled_to 16 block)) (λ a. rolled_holding (holding_of block a)) 16 0 (λ a p q. to_holding 16 a (omega arith) q)))))
      ∙ all_stretches (rolled_to 16 block) (to_length 16 (omega arith))

  pub rolled_length : length (rolled block) ≡ 288
  rolled_length = ap length rolled_to_lem ∙ to_length 16 (omega arith)

  pub rolled_rubles_lem : ruble_numbers (rolled block) ≡ rolled_rubles (ruble_numbers block)
  rolled_rubles_lem = ap ruble_numbers rolled_to_lem ∙ to_rubles 16 (omega arith)

  pub rolled_holding_lem : (a : ℕ) → a < 16 → holding_of (rolled block) a ≡ rolled_holding (holding_of block a)
  rolled_holding_lem a l = ap (λ (b : List ℤ). holding_of b a) rolled_to_lem ∙ to_holding 16 a (omega arith) l

  pub rolled_head : (k : ℕ) → InHead k → number (rolled block) k ≡ number block k
  rolled_head k h = ap (λ (b : List ℤ). number b k) rolled_to_lem ∙ sym (alone (rolled_to 16 block) k)
      ∙ ap (λ (s : List ℤ). number s 0) (to_beside 16 (omega arith) k 1 (⊎_elim (λ e. omega arith) (λ l. omega arith) h)
      (⊎_elim (λ e. inl (omega arith)) (λ l. inr l.0) h) (⊎_elim (λ e. inl (omega arith)) (λ l. inl (omega arith)) h))
      ∙ alone block k
    where
      alone : (xs : List ℤ) (k : ℕ) → number (part k 1 xs) 0 ≡ number xs k
      alone xs k = part_at (pos 0) k 1 xs 0 (omega arith) ∙ ap (number xs) (add-zero k)

  pub rolled_good : is_zero (account_kind block) ≡ false → good_block block ≡ true → in_bounds (rolled block) ≡ true → good_block (rolled block) ≡ true
  rolled_good = still_good block (rolled block) rolled_head
