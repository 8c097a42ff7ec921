-- The sites of the calculation of a region that isn't crossed: which are reached, which operations belong to each, and at which a budget
-- is used up.
use Rattle.std.specs.Prelude.{◌⊎◌, ℕ, List, Contains}
use Rattle.rational.specs.Rational.{ℚ}
use Rattle.frac_core.specs.declared.fractions.Refused.{Refused}
use Rattle.program_law.specs.Region.{Region}
use Rattle.program_law.specs.Program.{Program}
use Rattle.program_law.specs.Columns.{IsRelaxedPoint}
use Rattle.linear_basis_law.specs.Problem.{Problem}
use Rattle.linear_basis_law.specs.Basis.{Tableau, IsZeroCost, IsFinal, solution_of, farkas_of}
use Rattle.linear_basis_law.specs.Operations.{basis_ops}
use Rattle.linear_simplex_law.specs.Chain.{EndsChain, IsSpent}
use Rattle.equational_law.specs.Form.{Form, width, form_of}
use Rattle.equational_law.specs.Solutions.{IsFormRay}
use Rattle.equational_law.specs.Calculation.{form_ops}
use Rattle.face_descent_law.specs.Small.{IsStationary}
use Rattle.quad_solve_law.specs.Problems.{feasible_problem, ray_problem, price_problem}
use Rattle.quad_solve_law.specs.Walk.{IsSolvedWithin, IsDecidedWithin, IsOnWalk, IsSpentWalk, IsWalkWithin}
use Rattle.quad_solve_law.specs.Operations.{back_ops, ray_back_ops, point_face_ops, price_ops, multiplier_ops}

-- the form; a basis of the feasible chain; one of the ray chain; a point of a walk; and a basis of the price chain at such a point
pub data RegionSite : Type 0 where
  AtForm : RegionSite
  AtFeasible : Tableau → RegionSite
  AtRay : Tableau → RegionSite
  AtFace : List ℚ → RegionSite
  AtPrice : List ℚ → Tableau → RegionSite

-- a chain of the problem ends at b
abbrev pub IsOnChain : Problem → Tableau → Type 0
IsOnChain p b = (steps : ℕ) × EndsChain p steps b

abbrev pub HasNoRay : Form → Type 0
HasNoRay f = (r : List ℚ) → ¬ (IsFormRay f r)

-- the ray chain is reached where the region has a point, and a walk where its form has no ray
abbrev pub IsReached : Program → Region → RegionSite → Type 0
IsReached p region AtForm = Unit {0}
IsReached p region (AtFeasible b) = IsOnChain (feasible_problem (form_of p region)) b
IsReached p region (AtRay b) = ((x : List ℚ) × IsRelaxedPoint p region x) × IsOnChain (ray_problem (form_of p region)) b
IsReached p region (AtFace z) = HasNoRay (form_of p region) × IsOnWalk (width p region) (form_of p region) z
IsReached p region (AtPrice z b) =
    HasNoRay (form_of p region) × IsOnWalk (width p region) (form_of p region) z × IsStationary (form_of p region) z
    × IsOnChain (price_problem (form_of p region) z) b

-- To a basis belongs its calculation, and to one that ends its chain also what is done with its solution or its Farkas vector: the way
-- back, the price step, or the multipliers. To a point of a walk belong its face calculation, the way back, and the value there.
abbrev pub IsOperationAt : Program → Region → RegionSite → Refused → Type 0
IsOperationAt p region AtForm r = Contains (form_ops p region) r
IsOperationAt p region (AtFeasible b) r =
    let problem = feasible_problem (form_of p region) in
    Contains (basis_ops problem b) r ⊎ (IsZeroCost problem b × Contains (back_ops region (solution_of problem b)) r)
IsOperationAt p region (AtRay b) r =
    let problem = ray_problem (form_of p region) in
    Contains (basis_ops problem b) r ⊎ (IsZeroCost problem b × Contains (ray_back_ops region (solution_of problem b)) r)
IsOperationAt p region (AtFace z) r = Contains (point_face_ops (width p region) p region (form_of p region) z) r
IsOperationAt p region (AtPrice z b) r =
    let problem = price_problem (form_of p region) z in
    Contains (basis_ops problem b) r ⊎ (IsZeroCost problem b × Contains (price_ops (form_of p region) z (solution_of problem b)) r)
    ⊎ (IsFinal problem b × Contains (multiplier_ops (form_of p region) (farkas_of problem b)) r)

-- the budget is used up: a chain with so many strict steps ends at a basis and would go on; or a walk with so many price steps ends at a
-- stationary point whose price problem isn't refuted
abbrev pub IsSpentAt : Program → Region → ℕ → RegionSite → Type 0
IsSpentAt p region budget AtForm = ⊥
IsSpentAt p region budget (AtFeasible b) = IsSpent (feasible_problem (form_of p region)) budget b
IsSpentAt p region budget (AtRay b) = IsSpent (ray_problem (form_of p region)) budget b
IsSpentAt p region budget (AtFace z) = IsSpentWalk (width p region) (form_of p region) budget z
IsSpentAt p region budget (AtPrice z b) = IsSpent (price_problem (form_of p region) z) budget b

-- What comes before a site ends within the budget. The feasible chain comes first, then the ray chain, and then the walk, with the price
-- chain at each stationary point before the price step that leaves it.
abbrev pub IsWithinBefore : Program → Region → ℕ → RegionSite → Type 0
IsWithinBefore p region budget AtForm = Unit {0}
IsWithinBefore p region budget (AtFeasible b) = Unit {0}
IsWithinBefore p region budget (AtRay b) = (x : List ℚ) × IsSolvedWithin (feasible_problem (form_of p region)) budget x
IsWithinBefore p region budget (AtFace z) =
    IsWalkWithin (width p region) (form_of p region) budget z × IsDecidedWithin (price_problem (form_of p region) z) budget
IsWithinBefore p region budget (AtPrice z b) = IsWalkWithin (width p region) (form_of p region) budget z

-- the first site at which the budget is used up: what comes before it ends within the budget
pub record IsFirstSpent (p : Program) (region : Region) (budget : ℕ) (site : RegionSite) : Type 0 where
  pub reached : IsReached p region site
  pub before : IsWithinBefore p region budget site
  pub spent : IsSpentAt p region budget site
