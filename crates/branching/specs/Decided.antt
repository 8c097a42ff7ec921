-- What is found of a program.
use Rattle.std.specs.Prelude.{◌≡◌, ℕ, ◌≤◌, List, length, Ok}
use Rattle.rational.specs.Rational.{ℚ}
use Rattle.program_law.specs.declared.Square.{Square}
use Rattle.program_law.specs.Program.{Program, most_columns}
use Rattle.program_law.specs.Verdict.{IsNotConvex}
use Rattle.certificate_law.specs.declared.Certificate.{Certificate}
use Rattle.certificate_law.specs.declared.Certificate.TheVariants.{NotConvex}
use Rattle.program_law.specs.Squares.{AreSquaresOf}
use Rattle.certificate_law.specs.Fits.{FitsSquares}
use Rattle.convexity.specs.declared.Curvature.TheVariants.{Squares, Negative}
use Rattle.convexity.specs.ReductionCalculation.{squares_of}
use Rattle.branching_law.specs.Found.{Reduced, Convex, Curved, IsFoundOf}

-- what the reduction of Q answers
abbrev pub IsReducedBy : Program → Reduced → Type 0
IsReducedBy p (Convex squares) = squares_of p.pairs ≡ Ok (Squares squares)
IsReducedBy p (Curved v) = squares_of p.pairs ≡ Ok (Negative v)

-- the certificate that is found, within the budgets, of a program whose reduction is that of the squares' calculation
pub record IsFound (p : Program) (bases boxes : ℕ) (c : Certificate) : Type 0 where
  pub reduced : Reduced
  pub reduction : IsReducedBy p reduced
  pub found : IsFoundOf p reduced bases boxes c

-- some vector has a negative form
abbrev pub IsCurved : Program → Type 0
IsCurved p = (v : List ℚ) × IsNotConvex p v

-- the certificate claims so
abbrev pub ClaimsCurved : Certificate → Type 0
ClaimsCurved c = (v : List ℚ) × (c ≡ NotConvex v)

-- squares of Q that may stand in a certificate
pub record AreSquaresFor (p : Program) (squares : List Square) : Type 0 where
  pub sum : AreSquaresOf p.pairs squares
  pub fitting : FitsSquares p squares
  pub few : length squares ≤ most_columns
