-- Whose form it is, and why the price problem at a point of it has no answer.
use Rattle.std.specs.Prelude.{◌≡◌, ℕ, List, length}
use Rattle.rational.specs.Rational.{ℚ}
use Rattle.program_law.specs.Program.{Program, IsProgram}
use Rattle.exact_matrix.specs.Stops.{IsStopIn}
use Rattle.equational_law.specs.Form.{Form}
use Rattle.equational.specs.Formed.{Formed, formed}
use Rattle.face_descent_law.specs.Operations.{gradient_ops}
use Rattle.linear_simplex.specs.Decided.{IsLinearStopOf}
use Rattle.quad_solve_law.specs.Problems.{price_problem}
use Rattle.form_problems.specs.declared.chains.PriceStop.{PriceStop}
use Rattle.form_problems.specs.declared.chains.PriceStop.TheVariants.{Gradient, Chain}

-- the form is that of its region and the program
pub record IsFormOf (kept : Formed) (p : Program) : Type 0 where
  pub program : IsProgram p
  pub wide : length kept.region ≡ length p.columns
  pub exact : kept ≡ formed p kept.region

-- an operation of the gradient at z is past; or the price chain there stops
abbrev pub IsPriceStopOf : Form → ℕ → List ℚ → PriceStop → Type 0
IsPriceStopOf f budget z (Gradient stop) = IsStopIn (gradient_ops f z) stop
IsPriceStopOf f budget z (Chain stop) = IsLinearStopOf (price_problem f z) budget stop
