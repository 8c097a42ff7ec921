-- The ways back from a form, as they are walked.
use Rattle.std.specs.Prelude.{List, ◌++◌, Result, Ok, if◌then◌else◌}
use Rattle.rational.specs.Rational.{ℚ, neg_ℚ}
use Rattle.rational.specs.Sums.{entry}
use Rattle.frac_core.specs.Parts.{max_part}
use Rattle.frac_core.specs.declared.fractions.Refused.{Refused}
use Rattle.program_law.specs.Region.{Region}
use Rattle.equational_law.specs.Standing.{Standing}
use Rattle.frac_core.specs.Calculated.{◌>>=◌}
use Rattle.equational_law.specs.Calculation.{point_entry_in, ray_entry_in, point_in, ray_in}
use Rattle.equational.specs.declared.back.Carried.{Carried}
use Rattle.equational.specs.declared.back.Carried.TheVariants.{Point, Direction}
use Rattle.equational_rows.specs.declared.equations.First.{First}

-- a column's number
abbrev pub column_in : Carried → Standing → List ℚ → Result ℚ Refused
column_in Point s z = point_entry_in max_part s z
column_in Direction s d = ray_entry_in max_part s d

-- the numbers of all columns
abbrev pub columns_in : Carried → Region → List ℚ → Result (List ℚ) Refused
columns_in Point region z = point_in max_part region z
columns_in Direction region d = ray_in max_part region d

-- the numbers so far, and then those of the rest
abbrev pub with_rest : List ℚ → Result (List ℚ) Refused → Result (List ℚ) Refused
with_rest xs rest = rest >>= λ ys. Ok (xs ++ ys)

-- the multiplier of a row's first equation, with the sign that the equation had
abbrev pub multiplier_at : List ℚ → First → ℚ
multiplier_at y f = if f.negated then neg_ℚ (entry y f.equation) else entry y f.equation
