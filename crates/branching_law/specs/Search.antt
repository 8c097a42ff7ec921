-- Earned trees: the nodes that a search takes, in preorder, and the paths that wait.
use Rattle.std.specs.Prelude.{◌≡◌, ℕ, suc, ◌+◌, List, [], ◌∷◌, ◌++◌, length}
use Rattle.rational.specs.Rational.{ℚ}
use Rattle.rational.specs.Vectors.{IsSemidefinite}
use Rattle.program_law.specs.Region.{Region, IsCrossedRegion}
use Rattle.program_law.specs.Program.{Program}
use Rattle.certificate_law.specs.declared.Node.{Node}
use Rattle.certificate_law.specs.declared.Node.TheVariants.{Branch, Bound, Farkas, Cross}
use Rattle.quad_solve_law.specs.Answer.{IsFalling}
use Rattle.branching_law.specs.declared.Turn.{Turn}
use Rattle.branching_law.specs.Paths.{region_of, below, above}
use Rattle.branching_law.specs.Rounding.{IsMarked, IsRounding}
use Rattle.branching_law.specs.Nodes.{Search, ForBest, ForPoint, IsTaken}

-- the paths that wait after a node: a branch's two, the lower one first, stand in its place; a leaf's path is done
abbrev pub after : Node → List Turn → List (List Turn) → List (List Turn)
after (Branch j k) path waiting = (path ++ below j k ∷ []) ∷ (path ++ above j k ∷ []) ∷ waiting
after (Bound x y) path waiting = waiting
after (Farkas y) path waiting = waiting
after (Cross j) path waiting = waiting

-- the points that leaves carry, with those of a node
abbrev pub points_with : List (List ℚ) → Node → List (List ℚ)
points_with points (Branch j k) = points
points_with points (Bound x y) = points ++ x ∷ []
points_with points (Farkas y) = points
points_with points (Cross j) = points

-- The nodes are taken one after the other, each at the path that waits first; left are the paths that wait after them. The points are
-- those of the leaves before.
abbrev pub AreTaken : Search → Program → ℕ → List (List ℚ) → List (List Turn) → List Node → List (List Turn) → Type 0
AreTaken aim p bases points waiting [] left = waiting ≡ left
AreTaken aim p bases points [] (n ∷ ns) left = ⊥
AreTaken aim p bases points (path ∷ waiting) (n ∷ ns) left =
    IsTaken aim p bases points (region_of p path) n × AreTaken aim p bases (points_with points n) (after n path waiting) ns left

-- A search for a point is made where a column is marked and the root's answer is a ray. For a search for the best nothing is asked here: the
-- node that is taken at its root shows that the root's answer is no ray. Before that the root alone is open, in either search.
abbrev pub IsSearchOf : Search → Program → ℕ → Region → Type 0
IsSearchOf ForBest p bases root = Unit {0}
IsSearchOf ForPoint p bases root = IsMarked p × (IsCrossedRegion root → ⊥) × ((x : List ℚ) × (d : List ℚ) × IsFalling p root bases x d)

-- An earned tree as far as it goes: the nodes in preorder, below the rounding turns, and the paths to the leaves that are still open. It is
-- whole where none is left. There is one only where no vector has a negative form.
pub record IsEarned (aim : Search) (p : Program) (bases : ℕ) (turns : List Turn) (nodes : List Node) (open_paths : List (List Turn)) : Type 0 where
  pub convex : IsSemidefinite (length p.columns) p.pairs
  pub rounding : IsRounding p turns
  pub root : IsSearchOf aim p bases (region_of p turns)
  pub taken : AreTaken aim p bases [] (turns ∷ []) nodes open_paths

-- the count of a tree: its inner nodes
abbrev pub branches : List Node → ℕ
branches [] = 0
branches (Branch j k ∷ ns) = suc (branches ns)
branches (Bound x y ∷ ns) = branches ns
branches (Farkas y ∷ ns) = branches ns
branches (Cross j ∷ ns) = branches ns

-- the most that a budget of branches may be
abbrev pub most_boxes : ℕ
most_boxes = 20000

-- the points of its leaves, in order
abbrev pub points_of : List Node → List (List ℚ)
points_of [] = []
points_of (Branch j k ∷ ns) = points_of ns
points_of (Bound x y ∷ ns) = x ∷ points_of ns
points_of (Farkas y ∷ ns) = points_of ns
points_of (Cross j ∷ ns) = points_of ns

-- an earned tree with one inner node more than the budget of branches
pub record IsSpentTree (p : Program) (bases boxes : ℕ) : Type 0 where
  pub aim : Search
  pub turns : List Turn
  pub nodes : List Node
  pub open_paths : List (List Turn)
  pub earned : IsEarned aim p bases turns nodes open_paths
  pub count : branches nodes ≡ boxes + 1
