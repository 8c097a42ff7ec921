-- Walks on a form: lists of points, the newest first, each with how it was reached.
use Rattle.std.specs.Prelude.{◌≡◌, ◌⊎◌, ℕ, suc, ◌+◌, ◌≤◌, List, [], ◌∷◌, ◌++◌, map, All}
use Rattle.rational.specs.Rational.{ℚ}
use Rattle.rational.specs.Order.{◌<ℚ◌}
use Rattle.linear_basis_law.specs.Problem.{Problem}
use Rattle.linear_basis_law.specs.Basis.{Tableau, IsZeroCost, IsFinal, solution_of, farkas_of}
use Rattle.linear_simplex_law.specs.Chain.{EndsWithin}
use Rattle.equational_law.specs.Form.{Form}
use Rattle.face_descent_law.specs.Small.{IsStationary, height}
use Rattle.face_descent_law.specs.Step.{IsShrinkStep, moved}
use Rattle.quad_solve_law.specs.Problems.{feasible_problem, ray_problem, price_problem, direction}
use Rattle.quad_solve_law.specs.Steps.{IsPriceStep}

-- ---- how a chain ends

-- a chain with at most so many strict steps ends at a zero-cost basis, whose solution is x
pub record IsSolvedWithin (p : Problem) (budget : ℕ) (x : List ℚ) : Type 0 where
  pub basis : Tableau
  pub ends : EndsWithin p budget basis
  pub zero_cost : IsZeroCost p basis
  pub solution : x ≡ solution_of p basis

-- a chain with at most so many strict steps ends at a final basis, whose Farkas vector is y
pub record IsRefutedWithin (p : Problem) (budget : ℕ) (y : List ℚ) : Type 0 where
  pub basis : Tableau
  pub ends : EndsWithin p budget basis
  pub final : IsFinal p basis
  pub farkas : y ≡ farkas_of p basis

-- the same for a chain of any length
abbrev pub IsSolved : Problem → List ℚ → Type 0
IsSolved p x = (budget : ℕ) × IsSolvedWithin p budget x

abbrev pub IsRefuted : Problem → List ℚ → Type 0
IsRefuted p y = (budget : ℕ) × IsRefutedWithin p budget y

-- a chain with at most so many strict steps comes to an end, of the one kind or the other
abbrev pub IsDecidedWithin : Problem → ℕ → Type 0
IsDecidedWithin p budget = ((x : List ℚ) × IsSolvedWithin p budget x) ⊎ ((y : List ℚ) × IsRefutedWithin p budget y)

-- ---- walks

-- how a point of a walk was reached: it is where the walk starts, or a shrink step or a price step led there
pub data Way : Type 0 where
  Start : Way
  Shrink : Way
  Price : Way

-- a point of a walk, and how it was reached
pub record Visit : Type 0 where
  pub point : List ℚ
  pub way : Way

-- a price step from a stationary point z: along the direction of a solution at which a chain of the price problem ends
pub record IsPriced (f : Form) (z next : List ℚ) : Type 0 where
  pub stationary : IsStationary f z
  pub solution : List ℚ
  pub solved : IsSolved (price_problem f z) solution
  pub step : ℚ
  pub goes : IsPriceStep f z (direction f z solution) step
  pub end : next ≡ moved z (direction f z solution) step

-- a walk over n columns goes on from z to next in this way
abbrev pub GoesOn : ℕ → Form → Way → List ℚ → List ℚ → Type 0
GoesOn n f Start z next = ⊥
GoesOn n f Shrink z next = IsShrinkStep n f z next
GoesOn n f Price z next = IsPriced f z next

-- where z is stationary, its value is below that of each stationary point of the list
abbrev pub IsLowest : Form → List ℚ → List Visit → Type 0
IsLowest f z visits = IsStationary f z → All (λ v. IsStationary f v.point → height f z <ℚ height f v.point) visits

-- a walk from x: it starts there, and each further point is reached from the one before it by a shrink step or a price step; the value
-- at each stationary point is below that at every earlier one
abbrev pub IsWalkFrom : ℕ → Form → List ℚ → List Visit → Type 0
IsWalkFrom n f x [] = ⊥
IsWalkFrom n f x (v ∷ []) = v ≡ record { point = x; way = Start }
IsWalkFrom n f x (v ∷ u ∷ earlier) = GoesOn n f v.way u.point v.point × IsLowest f v.point (u ∷ earlier) × IsWalkFrom n f x (u ∷ earlier)

-- a walk on a form: it starts at a solution at which a chain of the feasible problem ends
pub record IsWalk (n : ℕ) (f : Form) (walk : List Visit) : Type 0 where
  pub start : List ℚ
  pub solved : IsSolved (feasible_problem f) start
  pub steps : IsWalkFrom n f start walk

-- z is the newest point of a walk
pub record IsOnWalk (n : ℕ) (f : Form) (z : List ℚ) : Type 0 where
  pub way : Way
  pub earlier : List Visit
  pub walk : IsWalk n f (record { point = z; way = way } ∷ earlier)

-- a walk that goes on by shrink steps to these points, the newest first
abbrev pub with_shrinks : List (List ℚ) → List Visit → List Visit
with_shrinks points walk = map (λ z. record { point = z; way = Shrink }) points ++ walk

-- ---- what is counted

-- how many price steps a walk has
abbrev pub one_if_price : Way → ℕ
one_if_price Start = 0
one_if_price Shrink = 0
one_if_price Price = 1

abbrev pub price_steps : List Visit → ℕ
price_steps [] = 0
price_steps (v ∷ walk) = one_if_price v.way + price_steps walk

-- how many shrink steps a walk ends with, after its start or its last price step
abbrev pub more_if_shrink : Way → ℕ → ℕ
more_if_shrink Start k = 0
more_if_shrink Shrink k = suc k
more_if_shrink Price k = 0

abbrev pub last_shrinks : List Visit → ℕ
last_shrinks [] = 0
last_shrinks (v ∷ walk) = more_if_shrink v.way (last_shrinks walk)

-- the price chain at each stationary point of a walk ends within the budget
abbrev pub HasPricesWithin : Form → ℕ → List Visit → Type 0
HasPricesWithin f budget walk = All (λ v. IsStationary f v.point → IsDecidedWithin (price_problem f v.point) budget) walk

-- A walk to z that keeps within the budget: the feasible chain ends at its start, and the ray chain at a final basis, within it; so does the
-- price chain at each stationary point before z; and there are at most so many price steps.
pub record IsWalkWithin (n : ℕ) (f : Form) (budget : ℕ) (z : List ℚ) : Type 0 where
  pub start : List ℚ
  pub solved : IsSolvedWithin (feasible_problem f) budget start
  pub no_ray : (w : List ℚ) × IsRefutedWithin (ray_problem f) budget w
  pub way : Way
  pub earlier : List Visit
  pub walk : IsWalkFrom n f start (record { point = z; way = way } ∷ earlier)
  pub prices : HasPricesWithin f budget earlier
  pub count : price_steps (record { point = z; way = way } ∷ earlier) ≤ budget

-- a walk with as many price steps as the budget ends at z, which is stationary, and whose price problem isn't refuted
pub record IsSpentWalk (n : ℕ) (f : Form) (budget : ℕ) (z : List ℚ) : Type 0 where
  pub way : Way
  pub earlier : List Visit
  pub walk : IsWalk n f (record { point = z; way = way } ∷ earlier)
  pub count : price_steps (record { point = z; way = way } ∷ earlier) ≡ budget
  pub stationary : IsStationary f z
  pub goes_on : (y : List ℚ) → ¬ (IsRefuted (price_problem f z) y)
