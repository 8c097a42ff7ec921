-- The answer of a row as a result.
use Rattle.std.specs.Prelude.{List, Result, Ok, Err}
use Rattle.rational.specs.Rational.{ℚ}
use Rattle.frac_core.specs.Row.{Row, Entries, Refusal}
use Rattle.frac_core.specs.declared.fractions.Refused.{Refused}

-- a row's answer: its entries, or the first refusal on the way to them
abbrev pub row_answered : Row → Result (List ℚ) Refused
row_answered (Entries row) = Ok row
row_answered (Refusal r) = Err r
