-- The parts that a form is made of.
use Rattle.std.specs.Prelude.{◌≡◌, ℕ, ◌+◌, ◌++◌, List, length, map, replicate, Result, Ok}
use Rattle.rational.specs.Rational.{ℚ}
use Rattle.rational.specs.Vectors.{zeros}
use Rattle.frac_core.specs.declared.fractions.Refused.{Refused}
use Rattle.frac_core.specs.Parts.{max_part}
use Rattle.frac_core.specs.Calculated.{◌>>=◌}
use Rattle.exact_matrix.specs.Systems.{joined}
use Rattle.program_law.specs.Region.{Region}
use Rattle.program_law.specs.Program.{Program, IsProgram, sides}
use Rattle.equational_law.specs.Standing.{parts, spread, spread_rows}
use Rattle.equational_law.specs.Form.{padded, equations, form_of}
use Rattle.equational_law.specs.Calculation.{products_in, sums_in, constant_in}
use Rattle.equational_rows.specs.Firsts.{firsts_from}
use Rattle.equational_rows.specs.declared.equations.First.{First}
use Rattle.equational_rows.specs.Built.{Laid, laid, all_slacks, Built}

-- the rows of Q over the form's columns
abbrev pub quadratic_rows : Laid → List (List ℚ) → List (List ℚ)
quadratic_rows l pairs =
    map (padded (all_slacks l)) (spread_rows l.region (map (spread l.region) pairs)) ++ replicate (all_slacks l) (zeros (parts l.region + all_slacks l))

-- the costs of the file's columns and the constant, given the shift
unfoldable pub objective_in : ℕ → Program → List ℚ → Result (List ℚ × ℚ) Refused
objective_in top p h = products_in top p.pairs h >>= λ qh. sums_in top p.costs qh >>= λ costs. constant_in top p h qh >>= λ constant. Ok (costs, constant)

-- the same with the costs on the form's columns
abbrev pub objective_on : Laid → Program → List ℚ → Result (List ℚ × ℚ) Refused
objective_on l p h = objective_in max_part p h >>= λ o. Ok (padded (all_slacks l) (spread l.region o.0), o.1)

-- these parts make the form of a program in a region
pub record IsMade (p : Program) (region : Region) (l : Laid) (b : Built) (fs : List First) (q c : List ℚ) (c0 : ℚ) : Type 0 where
  pub program : IsProgram p
  pub columns : length region ≡ length p.columns
  pub layout : l ≡ laid p region
  pub entries : b.entries ≡ joined (form_of p region).matrix
  pub right : b.right ≡ (form_of p region).right
  pub quadratic : q ≡ joined (form_of p region).quadratic
  pub cost : c ≡ (form_of p region).cost
  pub constant : c0 ≡ (form_of p region).constant
  pub firsts : fs ≡ firsts_from 0 (sides p) (equations p region)
