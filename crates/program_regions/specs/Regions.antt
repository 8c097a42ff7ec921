-- The first column of a region whose low bound is above its high bound.
use Rattle.std.specs.Prelude.{ℕ, Option, Bool, position}
use Rattle.program_law.specs.declared.Row.{Row}
use Rattle.program_law.specs.Region.{Region, is_above}

abbrev pub is_crossed : Row → Bool
is_crossed b = is_above b.low b.high

abbrev pub first_crossed : Region → Option ℕ
first_crossed region = position is_crossed region
