-- What a call is lent to read, as one record: a definition takes the tables whole, so that one more thing lent is one more field.
-- Assumes nothing.
use Rattle.std.specs.Prelude.{◌≡◌, List, ℕ, ◌+◌, ◌*◌, ℤ}
use Rattle.std.specs.Borrow.{Bor}
use denote.Triple.Both.{Both}
use Rattle.rates.specs.declared.tables.Tables.{Tables as Borrowed}

-- the clearing table, the own table and the groups
pub record Tables : Type 0 where
  pub clearing : List ℤ
  pub own : List ℤ
  pub groups : List ℤ

-- as a `requires` names them
abbrev pub lent : Bor (List ℤ) → Bor (List ℤ) → Bor (List ℤ) → Tables
lent clearing own groups = record { clearing = clearing.now; own = own.now; groups = groups.now }

-- in an `ensures` a parameter is a pair: as it was found, and as it was left
abbrev pub Lent : Type 0
Lent = Both (Bor (List ℤ)) (Bor (List ℤ))

abbrev pub given : Lent → Lent → Lent → Tables
given clearing own groups = lent clearing.entry own.entry groups.entry

-- the numbers of tables that are lent as one
abbrev pub numbers_of : Borrowed → Tables
numbers_of tables = lent tables.clearing tables.own tables.groups

-- a part that is lent of a table stands in that table, from number k on, eight bytes a number
pub record PartOf (table : Bor (List ℤ)) (k : ℕ) (part : Bor (List ℤ)) : Type 0 where
  pub block : part.ref_ptr.0 ≡ table.ref_ptr.0
  pub offset : part.ref_ptr.1 ≡ table.ref_ptr.1 + 8 * k
