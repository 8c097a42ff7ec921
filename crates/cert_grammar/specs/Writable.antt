-- What is asked of a certificate that is written.
use Rattle.std.specs.Prelude.{ℕ, ◌≤◌, ◌+◌, List, [], ◌∷◌, length, unsigned_abs}
use Rattle.std.specs.List.{AllByRecursion}
use Rattle.program_law.specs.declared.Square.{Square}
use Rattle.program_law.specs.Program.{Program}
use Rattle.certificate_law.specs.declared.Node.{Node}
use Rattle.certificate_law.specs.declared.Node.TheVariants as nodes
use Rattle.certificate_law.specs.declared.Certificate.{Certificate}
use Rattle.certificate_law.specs.declared.Certificate.TheVariants.{Optimal, Infeasible, Unbounded, NotConvex}
use Rattle.certificate_law.specs.Fits as certificates
use Rattle.certificate_law.specs.Limits.{most_squares, most_branches}
use Rattle.rational.specs.Rational.{ℚ, Fits}
use Rattle.frac_core.specs.Parts.{max_part}

abbrev pub branch_count : List Node → ℕ
branch_count [] = 0
branch_count (nodes.Branch j k ∷ ns) = branch_count ns + 1
branch_count (n ∷ ns) = branch_count ns

abbrev pub squares_of : Certificate → List Square
squares_of (Optimal x v squares tree) = squares
squares_of (Infeasible tree) = []
squares_of (Unbounded x d squares) = squares
squares_of (NotConvex v) = []

abbrev pub nodes_of : Certificate → List Node
nodes_of (Optimal x v squares tree) = tree
nodes_of (Infeasible tree) = tree
nodes_of (Unbounded x d squares) = []
nodes_of (NotConvex v) = []

-- ---- numbers that fit

abbrev pub AllFit : List ℚ → Type 0
AllFit vs = AllByRecursion (Fits max_part) vs

abbrev pub SquareFits : Square → Type 0
SquareFits s = Fits max_part s.weight × AllFit s.coef

abbrev pub NodeFits : Node → Type 0
NodeFits (nodes.Branch j k) = unsigned_abs k ≤ max_part
NodeFits (nodes.Bound w y) = AllFit w × AllFit y
NodeFits (nodes.Farkas y) = AllFit y
NodeFits (nodes.Cross j) = Unit {0}

-- no part of a number is above 2^127 - 1
abbrev pub NumbersFit : Certificate → Type 0
NumbersFit (Optimal x v squares tree) = AllFit x × Fits max_part v × AllByRecursion SquareFits squares × AllByRecursion NodeFits tree
NumbersFit (Infeasible tree) = AllByRecursion NodeFits tree
NumbersFit (Unbounded x d squares) = AllFit x × AllFit d × AllByRecursion SquareFits squares
NumbersFit (NotConvex v) = AllFit v

-- its lengths, columns and signs are those of a certificate of the program, and its squares and branches are within the limits
pub record IsWritable (p : Program) (c : Certificate) : Type 0 where
  pub fitting : certificates.Fits p c
  pub few_squares : length (squares_of c) ≤ most_squares
  pub few_branches : branch_count (nodes_of c) ≤ most_branches
