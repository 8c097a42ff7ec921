-- The sides of a row with a range.
use Rattle.std.specs.Prelude.{Bool, false, Option, Some, None, if◌then◌else◌}
use Rattle.rational.specs.Rational.{ℚ}
use Rattle.program_law.specs.declared.Row.{Row}
use Rattle.mps_tokens.specs.declared.words.RowKind.{RowKind}
use Rattle.mps_grammar.specs.Programs.{makes_past, sides_of}

-- whether there is a range and the side that it makes doesn't fit
abbrev pub is_past : RowKind → ℚ → Option ℚ → Bool
is_past kind right None = false
is_past kind right (Some range) = makes_past (Some kind) right range

-- the sides of a row, where they fit
abbrev pub sides_if_held : RowKind → ℚ → Option ℚ → Option Row
sides_if_held kind right range = if is_past kind right range then None else Some (sides_of kind right range)
