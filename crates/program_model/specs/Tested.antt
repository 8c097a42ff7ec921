-- What the tests of a point answer. Places count from 0 in an answer and from 1 in an event.
use Rattle.std.specs.Prelude.{◌≡◌, suc, ◌≤◌, List, Result, Ok, Err}
use Rattle.rational.specs.Rational.{ℚ}
use Rattle.frac_core.specs.declared.fractions.Refused.{Refused}
use Rattle.frac_core.specs.declared.fractions.Tried.{Tried}
use Rattle.frac_core.specs.declared.fractions.Tried.TheVariants.{Is, Past as PastTried}
use Rattle.program_law.specs.Program.{Program}
use Rattle.program_law.specs.Region.{Region}
use Rattle.program_law.specs.Point.{Point, IsFeasibleIn}
use Rattle.program_law.specs.Value.{value_of}
use Rattle.program_law.specs.Verdict.{columns_of}
use Rattle.cert_check_law.specs.declared.Event.{Event}
use Rattle.cert_check_law.specs.declared.Event.TheVariants.{Past, Failed}
use Rattle.program_model.specs.declared.points.PointTest.{PointTest}
use Rattle.program_model.specs.declared.points.PointTest.TheVariants.{Inside, Row, Bound, Mark}

-- the event that an answer tells, if any
abbrev pub event_of : Result PointTest Refused → Result (Unit {0}) Event
event_of (Ok Inside) = Ok tt
event_of (Ok (Row i)) = Err (Failed 1 (suc i))
event_of (Ok (Bound j)) = Err (Failed 2 (suc j))
event_of (Ok (Mark j)) = Err (Failed 3 (suc j))
event_of (Err r) = Err (Past r)

-- a past operation, or one of the three rules at a row or a column
abbrev pub IsPointEvent : Event → Type 0
IsPointEvent (Past r) = Unit {0}
IsPointEvent (Failed rule place) = (1 ≤ rule) × (rule ≤ 3) × (1 ≤ place)

-- inside is every point with these columns
abbrev pub IsInsideIfTold : Program → Region → List ℚ → Result PointTest Refused → Type 0
IsInsideIfTold p region x (Ok Inside) = (point : Point) → columns_of point ≡ x → IsFeasibleIn p region point
IsInsideIfTold p region x answer = Unit {0}

-- a number that is told is the value of every point with these columns
abbrev pub IsValueIfTold : Program → List ℚ → Tried → Type 0
IsValueIfTold p x (Is v) = (point : Point) → columns_of point ≡ x → value_of p point ≡ v
IsValueIfTold p x (PastTried r) = Unit {0}
