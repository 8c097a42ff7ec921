-- A row divided by a number, and a row less a multiple of another, without a quotient.
use Rattle.std.specs.Prelude.{◌≡◌, ℕ, ◌<◌, ℤ, pos, ◌-ℤ◌, ◌*ℤ◌, ◌<ℤ◌, List, length}
use Rattle.row_arithmetic.specs.Rows.{Row, number}

-- the row divided by t over its denominator: its numbers, over t
pub record IsQuotientOf (t : ℤ) (row new : Row) : Type 0 where
  pub size : length new.numbers ≡ length row.numbers
  pub positive : pos 0 <ℤ new.bottom
  pub same : (k : ℕ) → k < length row.numbers → t *ℤ number new.numbers k ≡ new.bottom *ℤ number row.numbers k

-- the row less t over its denominator times the pivot row
pub record IsLessOf (t : ℤ) (pivot row new : Row) : Type 0 where
  pub size : length new.numbers ≡ length row.numbers
  pub positive : pos 0 <ℤ new.bottom
  pub same : (k : ℕ) → k < length row.numbers → (row.bottom *ℤ pivot.bottom) *ℤ number new.numbers k ≡ new.bottom *ℤ (pivot.bottom *ℤ number row.numbers k -ℤ t *ℤ number pivot.numbers k)
