-- Where the slacks stand; rows as they are appended, one after another; and what a call leaves of a calculation.
use Rattle.std.specs.Prelude.{ℕ, ◌+◌, ◌-◌, ◌++◌, ◌∷◌, [], List, length, map, replicate, Bool, Result, Ok, if◌then◌else◌}
use Rattle.rational.specs.Rational.{ℚ, neg_ℚ, one_ℚ}
use Rattle.frac_core.specs.declared.fractions.Refused.{Refused}
use Rattle.frac_core.specs.declared.fractions.Op.TheVariants.{Sub}
use Rattle.frac_core.specs.Parts.{max_part}
use Rattle.exact_matrix.specs.Systems.{joined}
use Rattle.rational.specs.Vectors.{zeros}
use Rattle.program_law.specs.Region.{Region}
use Rattle.rational.specs.Tests.{is_negative}
use Rattle.program_law.specs.Program.{Program, sides}
use Rattle.equational_law.specs.Equations.{Equation, matrix_row, right_of, row_slacks, bound_slacks}
use Rattle.equational_rows.specs.declared.rows.Slacks.{Slacks}
use Rattle.equational_rows.specs.Firsts.{begins_negated}
use Rattle.frac_core.specs.Calculated.{◌>>=◌, operated}

-- where the slacks stand: behind the columns that stand for the region's, first those of the file's rows
pub record Laid : Type 0 where
  pub region : Region
  pub row_slacks : ℕ

abbrev pub all_slacks : Laid → ℕ
all_slacks l = l.row_slacks + bound_slacks l.region

abbrev pub laid : Program → Region → Laid
laid p region = record { region = region; row_slacks = row_slacks (sides p) }

-- negated, or as it is
abbrev pub signed_by : Bool → ℚ → ℚ
signed_by negated x = if negated then neg_ℚ x else x

abbrev pub signed : Bool → List ℚ → List ℚ
signed negated xs = if negated then map neg_ℚ xs else xs

-- the rows of M one after another, and r
pub record Built : Type 0 where
  pub entries : List ℚ
  pub right : List ℚ

abbrev pub no_rows : Built
no_rows = record { entries = []; right = [] }

abbrev pub with_equation : ℕ → Built → Equation → Built
with_equation slacks b e = record { entries = b.entries ++ matrix_row slacks e; right = b.right ++ right_of e ∷ [] }

abbrev pub with_equations : ℕ → Built → List Equation → Built
with_equations slacks b es = record { entries = b.entries ++ joined (map (matrix_row slacks) es); right = b.right ++ map right_of es }

-- the slacks of an equation and its right side, behind its entries on the columns
abbrev pub ended : ℕ → Built → Slacks → ℚ → Built
ended all b s r =
    record {
      entries = b.entries ++ (zeros s.before ++ (replicate s.own (signed_by (is_negative r) s.entry) ++ zeros (all - (s.before + s.own))));
      right = b.right ++ signed_by (is_negative r) r ∷ [];
    }

-- the equations of a calculation appended, and whether the first is negated
abbrev pub taken : ℕ → Built → Result (List Equation) Refused → Result (Built × Bool) Refused
taken slacks b t = t >>= λ es. Ok (with_equations slacks b es, begins_negated es)

-- the same without that
abbrev pub appended : ℕ → Built → Result (List Equation) Refused → Result Built Refused
appended slacks b t = t >>= λ es. Ok (with_equations slacks b es)

-- the equation of a side
abbrev pub side_in : List ℚ → Slacks → ℚ → ℚ → Result (List Equation) Refused
side_in row s side a = operated max_part Sub side a >>= λ r. Ok (record { entries = row; before = s.before; own = replicate s.own s.entry; right = r } ∷ [])

-- the equations of two different sides
abbrev pub two_sides_in : ℚ → ℚ → ℕ → List ℚ → ℚ → Result (List Equation) Refused
two_sides_in l u k row a =
    operated max_part Sub u a >>= λ r. operated max_part Sub u l >>= λ gap. Ok (record { entries = row; before = k; own = one_ℚ ∷ []; right = r }
    ∷ record { entries = zeros (length row); before = k; own = one_ℚ ∷ one_ℚ ∷ []; right = gap } ∷ [])
