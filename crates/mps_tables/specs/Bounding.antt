-- Columns whose bounds are being told.
use Rattle.std.specs.Prelude.{ℕ, ◌&&◌, not, Bool, List, map, Option, None, if◌then◌else◌}
use Rattle.std.specs.List.{list_any}
use Rattle.rational.specs.Rational.{ℚ}
use Rattle.rational.specs.Tests.{is_negative}
use Rattle.mps_grammar.specs.Told.{BoundTelling}
use Rattle.mps_grammar.specs.Programs.{bounded, bounds_for, sets_low}
use Rattle.mps_tables.specs.declared.columns.Bounding.{Bounding}

-- a column with what these bounds make of it, and whether one of them set the low bound
abbrev pub bounding_of : Bool → List BoundTelling → Bounding
bounding_of mark told = record { column = bounded mark told; low_is_set = list_any (λ b. sets_low b.kind) told }

-- the columns with what these bounds make of them
abbrev pub boundings_of : List (List ℕ × Bool) → List BoundTelling → List Bounding
boundings_of columns told = map (λ c. bounding_of c.1 (bounds_for told c.0)) columns

-- the low bound that a high bound leaves: a negative one takes it away, unless a bound set it before
abbrev pub low_left : Bool → ℚ → Option ℚ → Option ℚ
low_left is_set high low = if is_negative high && not is_set then None else low
