-- All equations: those of the rows, and then those of the columns.
use Rattle.std.specs.Prelude.{◌≡◌, ℕ, List, ◌++◌, length, Result, Ok}
use Rattle.std.proofs.Common.{refl, sym, ap, ◌∙◌}
use Rattle.rational.specs.Rational.{ℚ}
use Rattle.frac_core.specs.Parts.{max_part}
use Rattle.frac_core.specs.Calculated.{◌>>=◌}
use Rattle.frac_core.specs.declared.fractions.Refused.{Refused}
use Rattle.exact_matrix.specs.declared.systems.Stop.{Stop}
use Rattle.exact_matrix.specs.Stops.{Stops}
use Rattle.program_law.specs.Region.{Region}
use Rattle.program_law.specs.Program.{Program, sides}
use Rattle.equational_law.specs.Standing.{shift}
use Rattle.equational_law.specs.Equations.{Equation, row_equations, row_slacks, bound_equations}
use Rattle.equational_law.specs.Form.{equations}
use Rattle.equational_law.specs.Calculation.{row_equations_in, bound_equations_in, equations_in}
use Rattle.equational_rows.specs.Firsts.{firsts_from}
use Rattle.equational_rows.specs.declared.equations.First.{First}
use Rattle.equational_rows.specs.Built.{Built, no_rows, appended}
use Rattle.equational_rows.proofs.Chains.{stops_as}
use Rattle.equational_rows.proofs.Gathered.{more_on, more_stops}

abbrev rows_in : Region → List ℚ → Program → Result (List Equation) Refused
rows_in region h p = row_equations_in max_part region h 0 (sides p) p.entries

abbrev columns_in : Region → ℕ → Result (List Equation) Refused
columns_in region k = bound_equations_in max_part region k 0 region

two_parts : (p : Program) (region : Region) → equations_in max_part p region
    ≡ (rows_in region (shift region) p >>= λ es. columns_in region (row_slacks (sides p)) >>= λ others. Ok (es ++ others))
unfolding equations_in
two_parts p region = refl

module _ (n : ℕ) (start : Built) (p : Program) (region : Region) (h : List ℚ) (k : ℕ) (none : start ≡ no_rows) (shifted : h ≡ shift region) (behind : k ≡ row_slacks (sides p)) where
  abbrev whole : Result Built Refused
  whole = appended n no_rows (equations_in max_part p region)

  parts : equations_in max_part p region ≡ (rows_in region h p >>= λ es. columns_in region k >>= λ others. Ok (es ++ others))
  parts =
      two_parts p region
      ∙ ap (λ (h : List ℚ). rows_in region h p >>= λ es. columns_in region (row_slacks (sides p)) >>= λ others. Ok (es ++ others)) (sym shifted)
      ∙ ap (λ (k : ℕ). rows_in region h p >>= λ es. columns_in region k >>= λ others. Ok (es ++ others)) (sym behind)

  begun : appended n start (equations_in max_part p region) ≡ whole
  begun = ap (λ (b : Built). appended n b (equations_in max_part p region)) none

  pub rows_stop_all : (e : Stop) → Stops e (appended n start (rows_in region h p)) → Stops e whole
  rows_stop_all e s = more_stops e n start (equations_in max_part p region) (rows_in region h p) (columns_in region k) whole parts s begun

  pub firsts_of_all : (firsts : List First) → ((more : List Equation) → firsts ≡ firsts_from (length start.right) (sides p) (row_equations region h 0 (sides p) p.entries ++ more))
      → firsts ≡ firsts_from 0 (sides p) (equations p region)
  firsts_of_all firsts told =
      told (bound_equations region (row_slacks (sides p)) 0 region)
      ∙ ap (λ (b : Built). firsts_from (length b.right) (sides p) (row_equations region h 0 (sides p) p.entries ++ bound_equations region (row_slacks (sides p)) 0 region)) none
      ∙ ap (λ (h : List ℚ). firsts_from 0 (sides p) (row_equations region h 0 (sides p) p.entries ++ bound_equations region (row_slacks (sides p)) 0 region)) shifted

  module _ (middle : Built) (rows : appended n start (rows_in region h p) ≡ Ok middle) where
    rest : appended n middle (columns_in region k) ≡ whole
    rest = more_on n start middle (equations_in max_part p region) (rows_in region h p) (columns_in region k) whole parts rows begun

    pub columns_stop_all : (e : Stop) → Stops e (appended n middle (columns_in region k)) → Stops e whole
    columns_stop_all e s = stops_as e (appended n middle (columns_in region k)) whole rest s

    pub all_told : (new : Built) → appended n middle (columns_in region k) ≡ Ok new → whole ≡ Ok new
    all_told new columns = sym rest ∙ columns
