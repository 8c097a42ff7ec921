-- The incumbent as it is kept.
use Rattle.std.specs.Prelude.{◌≡◌, List, Option, Some, None, Bool, true, not}
use Rattle.rational.specs.Rational.{ℚ}
use Rattle.rational.specs.Tests.{is_le}
use Rattle.program_law.specs.Program.{Program}
use Rattle.program_law.specs.Columns.{value}
use Rattle.search_steps.specs.declared.progress.Incumbent.{Incumbent}

-- its point
abbrev pub point_of : Option Incumbent → Option (List ℚ)
point_of None = None
point_of (Some i) = Some i.point

-- its value is kept beside it
abbrev pub HasValue : Program → Option Incumbent → Type 0
HasValue p None = Unit {0}
HasValue p (Some i) = i.value ≡ value p i.point

-- a value is below the one that is kept; where none is kept, each value is
abbrev pub is_below : ℚ → Option Incumbent → Bool
is_below v None = true
is_below v (Some i) = not (is_le i.value v)
