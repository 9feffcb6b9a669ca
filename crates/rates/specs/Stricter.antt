-- Document 02, #103: an own row may only be stricter than the clearing row that it stands over. "An own row now must have the clearing row's price, mids,
-- covered-sales mark and group; shares and concentration limits no greater; rates no smaller; lows no higher, ups no lower; special delivery kept where
-- set." One mark for each of its 64 numbers by rising number, as the rules of a row have them (specs/Rules); where the request asks for nothing, true.
-- The first false mark is the first laxer number. Below the marks stands the same by name, for callers.
-- Assumes nothing.
use Rattle.std.specs.Prelude.{◌≡◌, Bool, true, List, [], ◌∷◌, ◌++◌, ℕ, ◌<◌, ℤ, pos, ◌≤ℤ◌, replicate}
use Rattle.std.specs.Int.Signed.{le_z}
use Rattle.whole.specs.Bounds.{equal}
use Rattle.whole.specs.Marks.{pieces}
use Rattle.rates.specs.Units.{dates}
use Rattle.rates.specs.Row.{price, acceptance_share, pool_share, covered_sales, special_delivery, fall, rise, base_rate, raised_rate, market_limit, interest_limit, spread_group, mid, low, up, outer_low, outer_up}

-- two tests; the own row's number stands first
infix 90 ◌no_greater◌
abbrev pub ◌no_greater◌ : ℤ → ℤ → Bool
x no_greater y = le_z x y

infix 90 ◌no_smaller◌
abbrev pub ◌no_smaller◌ : ℤ → ℤ → Bool
x no_smaller y = le_z y x

-- ---- the marks of an own row over its clearing row
-- numbers 0 to 5; that both have one kind is a rule of the tables already
unfoldable pub stricter_terms : List ℤ → List ℤ → List Bool
stricter_terms own clearing =
    true
    ∷ equal (price own) (price clearing)
    ∷ acceptance_share own no_greater acceptance_share clearing
    ∷ pool_share own no_greater pool_share clearing
    ∷ equal (covered_sales own) (covered_sales clearing)
    ∷ special_delivery own no_smaller special_delivery clearing
    ∷ []

-- numbers 6 to 9
unfoldable pub stricter_rates : List ℤ → List ℤ → List Bool
stricter_rates own clearing =
    base_rate own fall no_smaller base_rate clearing fall
    ∷ base_rate own rise no_smaller base_rate clearing rise
    ∷ raised_rate own fall no_smaller raised_rate clearing fall
    ∷ raised_rate own rise no_smaller raised_rate clearing rise
    ∷ []

-- numbers 10 to 15; the last three have no meaning and are zero
unfoldable pub stricter_limits : List ℤ → List ℤ → List Bool
stricter_limits own clearing =
    market_limit own no_greater market_limit clearing
    ∷ interest_limit own no_greater interest_limit clearing
    ∷ equal (spread_group own) (spread_group clearing)
    ∷ true
    ∷ true
    ∷ true
    ∷ []

-- numbers 16 + 5d to 20 + 5d: the outer low is a low, the outer up an up
unfoldable pub stricter_date : List ℤ → List ℤ → ℕ → List Bool
stricter_date own clearing d =
    equal (mid own d) (mid clearing d)
    ∷ low own d no_greater low clearing d
    ∷ up own d no_smaller up clearing d
    ∷ outer_low own d no_greater outer_low clearing d
    ∷ outer_up own d no_smaller outer_up clearing d
    ∷ []

-- a row that is present; 56 to 63 have no meaning and are zero
unfoldable pub stricter_row : List ℤ → List ℤ → List Bool
stricter_row own clearing =
    stricter_terms own clearing
    ++ (stricter_rates own clearing ++ (stricter_limits own clearing ++ (pieces (stricter_date own clearing) 0 dates ++ replicate 8 true)))

-- ---- by name, what a stricter row keeps of its clearing row
pub record StricterDate (own clearing : List ℤ) (d : ℕ) : Type 0 where
  pub same_mid : mid own d ≡ mid clearing d
  pub low_no_higher : low own d ≤ℤ low clearing d
  pub up_no_lower : up clearing d ≤ℤ up own d
  pub outer_low_no_higher : outer_low own d ≤ℤ outer_low clearing d
  pub outer_up_no_lower : outer_up clearing d ≤ℤ outer_up own d

pub record Stricter (own clearing : List ℤ) : Type 0 where
  pub same_price : price own ≡ price clearing
  pub acceptance_no_greater : acceptance_share own ≤ℤ acceptance_share clearing
  pub pool_no_greater : pool_share own ≤ℤ pool_share clearing
  pub same_sales : covered_sales own ≡ covered_sales clearing
  pub special_kept : special_delivery clearing ≡ pos 1 → special_delivery own ≡ pos 1
  pub base_no_smaller : (s : ℕ) → s < 2 → base_rate clearing s ≤ℤ base_rate own s
  pub raised_no_smaller : (s : ℕ) → s < 2 → raised_rate clearing s ≤ℤ raised_rate own s
  pub market_no_greater : market_limit own ≤ℤ market_limit clearing
  pub interest_no_greater : interest_limit own ≤ℤ interest_limit clearing
  pub same_group : spread_group own ≡ spread_group clearing
  pub date : (d : ℕ) → d < dates → StricterDate own clearing d
