-- What is asked of a certificate before it is checked.
use Rattle.std.specs.Prelude.{◌≡◌, ◌≢◌, ◌<◌, ◌^◌, pos, neg_ℤ, List, [], ◌∷◌, length}
use Rattle.std.specs.List.{AllByRecursion}
use Rattle.rational.specs.Rational.{ℚ}
use Rattle.program_law.specs.declared.Square.{Square}
use Rattle.program_law.specs.Program.{Program}
use Rattle.certificate_law.specs.declared.Node.{Node}
use Rattle.certificate_law.specs.declared.Node.TheVariants.{Branch, Bound, Farkas, Cross}
use Rattle.certificate_law.specs.declared.Certificate.{Certificate}
use Rattle.certificate_law.specs.declared.Certificate.TheVariants.{Optimal, Infeasible, Unbounded, NotConvex}
use Rattle.certificate_law.specs.Nodes.{IsOneTree}
use Rattle.program_law.specs.Squares.{ArePositive}

abbrev pub IsRowVector : Program → List ℚ → Type 0
IsRowVector p y = length y ≡ length p.rows

abbrev pub IsColumnVector : Program → List ℚ → Type 0
IsColumnVector p x = length x ≡ length p.columns

-- a node's columns are the program's, its vectors have its lengths, and a branch's number isn't -2^127
abbrev pub FitsNode : Program → Node → Type 0
FitsNode p (Branch j k) = (j < length p.columns) × (k ≢ neg_ℤ (pos (2 ^ 127)))
FitsNode p (Bound w y) = IsColumnVector p w × IsRowVector p y
FitsNode p (Farkas y) = IsRowVector p y
FitsNode p (Cross j) = j < length p.columns

-- no BOUND leaf
abbrev pub HasNoBound : List Node → Type 0
HasNoBound [] = Unit {0}
HasNoBound (Branch j k ∷ ns) = HasNoBound ns
HasNoBound (Bound w y ∷ ns) = ⊥
HasNoBound (Farkas y ∷ ns) = HasNoBound ns
HasNoBound (Cross j ∷ ns) = HasNoBound ns

-- one whole tree of fewer than 2^32 nodes
pub record FitsTree (p : Program) (nodes : List Node) : Type 0 where
  pub tree : IsOneTree nodes
  pub count : length nodes < 2 ^ 32
  pub nodes_fit : AllByRecursion (FitsNode p) nodes

-- the weights are above 0, and each square has an entry for each column
pub record FitsSquares (p : Program) (squares : List Square) : Type 0 where
  pub positive : ArePositive squares
  pub widths : AllByRecursion (λ s. IsColumnVector p s.coef) squares

abbrev pub Fits : Program → Certificate → Type 0
Fits p (Optimal x v squares tree) = IsColumnVector p x × FitsSquares p squares × FitsTree p tree
Fits p (Infeasible tree) = FitsTree p tree × HasNoBound tree
Fits p (Unbounded x d squares) = IsColumnVector p x × IsColumnVector p d × FitsSquares p squares
Fits p (NotConvex v) = IsColumnVector p v
