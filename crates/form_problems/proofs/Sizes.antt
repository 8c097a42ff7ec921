-- How many columns and equations the form of a region has, and its feasible problem.
use Rattle.std.proofs.Common.{◌≡◌, ℕ, suc, ◌<◌, ◌≤◌, ◌+◌, ◌*◌, ◌^◌, Bool, true, false, List, [], ◌∷◌, length, Some, None, Option, arith, sym, ap, subst, ◌∙◌, cond}
use Rattle.std.proofs.lemmas.List.{length-append, length-map}
use Rattle.rational.specs.Rational.{ℚ, one_ℚ, ◌-ℚ◌}
use Rattle.rational.specs.Order.{same_fields}
use Rattle.rational.specs.Vectors.{dot, zeros, unit_vector}
use Rattle.program_law.specs.declared.Row.{Row}
use Rattle.program_law.specs.Region.{Region}
use Rattle.program_law.specs.Program.{Program, IsProgram, sides}
use Rattle.exact_matrix.specs.Grid.{Grid}
use Rattle.equational_law.specs.Standing.{parts, parts_at, standing_by, shift, spread}
use Rattle.equational_law.specs.Equations.{Equation, bound_slacks, bound_slacks_by, bound_equations, bound_equation_by, count_by, row_slacks, slacks_at, row_equations, row_equations_by, right_of}
use Rattle.equational_law.specs.Form.{Form, form_of, equations}
use Rattle.equational_law.specs.Form as form
use Rattle.equational_law.specs.Solutions.{IsForm}
use Rattle.equational_law.proofs.Shapes.{shape}
use Rattle.linear_basis_law.specs.Problem.{Problem, width, IsProblem}
use Rattle.linear_basis.specs.Kept.{problem}
use Rattle.quad_solve_law.specs.Problems.{feasible_problem}
use Rattle.quad_solve_law.proofs.Directions.{feasible_is_a_problem}
use Rattle.equational.specs.Formed.{Formed}
use Rattle.form_problems.specs.Chains.{IsFormOf}

-- ---- how many columns and equations a form has at most

few_parts : (region : Region) → parts region ≤ 2 * length region
few_parts [] = omega arith
few_parts (b ∷ bs) = omega (arith, at b.low b.high, few_parts bs)
  where
    at : (low high : Option ℚ) → parts_at (standing_by low high) ≤ 2
    at (Some l) high = omega arith
    at None (Some u) = omega arith
    at None None = omega arith

few_bound_slacks : (region : Region) → bound_slacks region ≤ length region
few_bound_slacks [] = omega arith
few_bound_slacks (b ∷ bs) = omega (arith, at b.low b.high, few_bound_slacks bs)
  where
    at : (low high : Option ℚ) → bound_slacks_by low high ≤ 1
    at (Some l) (Some u) = omega arith
    at (Some l) None = omega arith
    at None high = omega arith

few_slacks_by : (low high : Option ℚ) → (count_by low high).1 ≤ 2
few_slacks_by (Some l) (Some u) = by (same_fields l u)
  where
    by : (t : Bool) → (cond {A = ℕ × ℕ} t (1, 0) (2, 2)).1 ≤ 2
    by true = omega arith
    by false = omega arith
few_slacks_by (Some l) None = omega arith
few_slacks_by None (Some u) = omega arith
few_slacks_by None None = omega arith

few_row_slacks : (ss : List Row) → row_slacks ss ≤ 2 * length ss
few_row_slacks [] = omega arith
few_row_slacks (s ∷ ss) = omega (arith, few_slacks_by s.low s.high, few_row_slacks ss)

few_equations_by : (low high : Option ℚ) (k : ℕ) (row : List ℚ) (a : ℚ) → length (row_equations_by low high k row a) ≤ 2
few_equations_by (Some l) (Some u) k row a = by (same_fields l u)
  where
    by : (t : Bool) → length {A = Equation} (cond t (record { entries = row; before = k; own = []; right = l -ℚ a } ∷ [])
        (record { entries = row; before = k; own = one_ℚ ∷ []; right = u -ℚ a } ∷ record { entries = zeros (length row); before = k; own = one_ℚ ∷ one_ℚ ∷ []; right = u -ℚ l } ∷ [])) ≤ 2
    by true = omega arith
    by false = omega arith
few_equations_by (Some l) None k row a = omega arith
few_equations_by None (Some u) k row a = omega arith
few_equations_by None None k row a = omega arith

few_row_equations : (region : Region) (h : List ℚ) (k : ℕ) (ss : List Row) (rows : List (List ℚ)) → length (row_equations region h k ss rows) ≤ 2 * length ss
few_row_equations region h k [] rows = omega arith
few_row_equations region h k (s ∷ ss) [] = omega arith
few_row_equations region h k (s ∷ ss) (row ∷ rows) =
    rw (length-append (row_equations_by s.low s.high k (spread region row) (dot row h)) (row_equations region h (k + slacks_at s) ss rows))
    (omega (arith, few_equations_by s.low s.high k (spread region row) (dot row h), few_row_equations region h (k + slacks_at s) ss rows))

few_bound_equations : (region : Region) (k j : ℕ) (bs : Region) → length (bound_equations region k j bs) ≤ length bs
few_bound_equations region k j [] = omega arith
few_bound_equations region k j (b ∷ bs) =
    rw (length-append (bound_equation_by b.low b.high k (spread region (unit_vector (length region) j))) (bound_equations region (k + bound_slacks_by b.low b.high) (suc j) bs))
    (omega (arith, at b.low b.high (spread region (unit_vector (length region) j)), few_bound_equations region (k + bound_slacks_by b.low b.high) (suc j) bs))
  where
    at : (low high : Option ℚ) (unit : List ℚ) → length (bound_equation_by low high k unit) ≤ 1
    at (Some l) (Some u) unit = omega arith
    at (Some l) None unit = omega arith
    at None high unit = omega arith

module _ (p : Program) (region : Region) (is : IsProgram p) (wide : length region ≡ length p.columns) where
  pub few_equations : length (form_of p region).right ≤ 2 * length p.rows + length region
  few_equations =
      rw (length-map (equations p region) right_of)
      (rw (length-append (row_equations region (shift region) 0 (sides p) p.entries) (bound_equations region (row_slacks (sides p)) 0 region))
      (omega (arith, few_row_equations region (shift region) 0 (sides p) p.entries, few_bound_equations region (row_slacks (sides p)) 0 region, length-map p.rows (λ (r : List ℕ × Row). r.1))))

  pub few_columns : form.width p region ≤ 3 * length region + 2 * length p.rows
  few_columns = omega (arith, few_parts region, few_bound_slacks region, few_row_slacks (sides p), length-map p.rows (λ (r : List ℕ × Row). r.1))

  problem_few : width (feasible_problem (form_of p region)) < 2 ^ 32
  problem_few = omega (arith, few_equations, few_columns, (shape p region is wide).cost, is.few_rows, is.few_columns, wide)

-- ---- the problem of a form's matrix and right side

pub of_form : (m : Grid ℚ) (r : List ℚ) (f : Form) → m.rows ≡ f.matrix → m.columns ≡ length f.cost → r ≡ f.right → problem m r ≡ feasible_problem f
of_form m r f rows columns right = cc

pub feasible_is : (f : Form) (q : Problem) → IsForm (length f.cost) f → q ≡ feasible_problem f → IsProblem q
feasible_is f q is e = subst IsProblem (sym e) (feasible_is_a_problem (length f.cost) f is)

pub feasible_few : (kept : Formed) (p : Program) (q : Problem) → IsFormOf kept p → q ≡ feasible_problem kept.form → width q < 2 ^ 32
feasible_few kept p q h e =
    subst (λ q. width q < 2 ^ 32) (sym (e ∙ ap (λ (f : Formed). feasible_problem f.form) h.exact)) (problem_few p kept.region h.program h.wide)
