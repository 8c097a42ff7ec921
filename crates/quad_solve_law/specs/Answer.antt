-- What the form of a region that isn't crossed tells of it, within a budget of strict steps for each chain and of price steps for the walk.
use Rattle.std.specs.Prelude.{◌≡◌, ℕ, ◌≤◌, List, ◌∷◌, map}
use Rattle.rational.specs.Rational.{ℚ, neg_ℚ}
use Rattle.program_law.specs.Region.{Region}
use Rattle.program_law.specs.Program.{Program}
use Rattle.program_law.specs.Columns.{value}
use Rattle.equational_law.specs.Form.{width, form_of, point_of, direction_of, multipliers_of}
use Rattle.face_descent_law.specs.Small.{IsStationary}
use Rattle.quad_solve_law.specs.Problems.{feasible_problem, ray_problem, price_problem, price_multipliers}
use Rattle.quad_solve_law.specs.Walk.{IsSolvedWithin, IsRefutedWithin, Visit, IsWalkFrom, HasPricesWithin, price_steps}

-- the answers: multipliers of the rows that leave no point; a point and a direction along which the values fall without end; or a point
-- with the least value, and multipliers of the rows that show it
pub data Answer : Type 0 where
  Empty : List ℚ → Answer
  Ray : List ℚ → List ℚ → Answer
  Best : List ℚ → ℚ → List ℚ → Answer

-- the feasible chain ends at a zero-cost basis, and x is its solution carried back
pub record IsFound (p : Program) (region : Region) (budget : ℕ) (x : List ℚ) : Type 0 where
  pub solution : List ℚ
  pub solved : IsSolvedWithin (feasible_problem (form_of p region)) budget solution
  pub point : x ≡ point_of region solution

-- the first case: the feasible chain ends at a final basis, and y is its Farkas vector, negated and carried back
pub record IsEmpty (p : Program) (region : Region) (budget : ℕ) (y : List ℚ) : Type 0 where
  pub farkas : List ℚ
  pub refuted : IsRefutedWithin (feasible_problem (form_of p region)) budget farkas
  pub multipliers : y ≡ multipliers_of p region (map neg_ℚ farkas)

-- the second case: the ray chain ends at a zero-cost basis, and d is its solution carried back; x is that of the feasible chain
pub record IsFalling (p : Program) (region : Region) (budget : ℕ) (x d : List ℚ) : Type 0 where
  pub found : IsFound p region budget x
  pub ray : List ℚ
  pub solved : IsSolvedWithin (ray_problem (form_of p region)) budget ray
  pub direction : d ≡ direction_of region ray

-- the third case: the ray chain ends at a final basis, and a walk comes to a stationary point at which the price chain ends at a final
-- basis. That point carried back is x, with its value, and y are the multipliers of that basis, carried back. The budget is kept by each
-- chain and by the price steps.
pub record IsBest (p : Program) (region : Region) (budget : ℕ) (x : List ℚ) (least : ℚ) (y : List ℚ) : Type 0 where
  pub start : List ℚ
  pub solved : IsSolvedWithin (feasible_problem (form_of p region)) budget start
  pub no_ray : (w : List ℚ) × IsRefutedWithin (ray_problem (form_of p region)) budget w
  pub newest : Visit
  pub earlier : List Visit
  pub walk : IsWalkFrom (width p region) (form_of p region) start (newest ∷ earlier)
  pub stationary : IsStationary (form_of p region) newest.point
  pub farkas : List ℚ
  pub refuted : IsRefutedWithin (price_problem (form_of p region) newest.point) budget farkas
  pub prices : HasPricesWithin (form_of p region) budget (newest ∷ earlier)
  pub count : price_steps (newest ∷ earlier) ≤ budget
  pub point : x ≡ point_of region newest.point
  pub value : least ≡ value p x
  pub multipliers : y ≡ multipliers_of p region (price_multipliers (form_of p region) farkas)

-- the region's answer, within a budget
abbrev pub IsAnswer : Program → Region → ℕ → Answer → Type 0
IsAnswer p region budget (Empty y) = IsEmpty p region budget y
IsAnswer p region budget (Ray x d) = IsFalling p region budget x d
IsAnswer p region budget (Best x least y) = IsBest p region budget x least y
