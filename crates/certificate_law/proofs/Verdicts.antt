-- What a good certificate claims is true.
use Rattle.std.specs.Prelude.{◌≡◌, List, ◌∷◌, [], Some, None}
use Rattle.std.proofs.Common.{sym, subst, ◌∙◌, ap}
use Rattle.rational.specs.Rational.{ℚ}
use Rattle.rational.specs.Order.{◌≤ℚ◌, ◌<ℚ◌}
use Rattle.program_law.specs.declared.Square.{Square}
use Rattle.program_law.specs.Region.{Region}
use Rattle.program_law.specs.Program.{Program, bounds}
use Rattle.program_law.specs.Point.{Point, IsRelaxedIn, IsFeasibleIn, IsFeasible}
use Rattle.program_law.specs.Value.{value_of}
use Rattle.program_law.specs.Verdict.{columns_of, IsTrueOf}
use Rattle.program_law.specs.Columns.{IsPoint, value}
use Rattle.program_law.proofs.Bridge.{relaxed_to, feasible_to, feasible_back, value_is, point_of, columns_point}
use Rattle.certificate_law.specs.declared.Node.{Node}
use Rattle.certificate_law.specs.declared.Certificate.{Certificate}
use Rattle.certificate_law.specs.declared.Certificate.TheVariants.{Optimal, Infeasible, Unbounded, NotConvex}
use Rattle.certificate_law.specs.Leaf.{IsGoodBound, IsGoodFarkas}
use Rattle.certificate_law.specs.Tree.{IsGoodTree}
use Rattle.program_law.specs.Squares.{AreSquaresOf}
use Rattle.certificate_law.specs.Ray.{IsRay}
use Rattle.certificate_law.specs.Good.{IsGood, verdict_of}
use Rattle.certificate_law.proofs.Leaves.{farkas}
use Rattle.certificate_law.proofs.Convex.{bounded}
use Rattle.certificate_law.proofs.Trees.{no_points, at_least}
use Rattle.certificate_law.proofs.Rays.{falls_below}

-- ---- said of all p and q
pub farkas_point : (p : Program) (region : Region) (y : List ℚ) (point : Point) → IsGoodFarkas p region y → IsRelaxedIn p region point → ⊥
farkas_point p region y point good h = farkas p region y good (columns_of point) (relaxed_to p region point h)

pub bound_point : (p : Program) (squares : List Square) (v : ℚ) (region : Region) (w y : List ℚ) (point : Point) → AreSquaresOf p.pairs squares → IsGoodBound p v region w y → IsRelaxedIn p region point → v ≤ℚ value_of p point
bound_point p squares v region w y point s good h =
    subst (λ z. v ≤ℚ z) (sym (value_is p point)) (bounded p squares v region w y s good (columns_of point) (relaxed_to p region point h))

pub tree_point : (p : Program) (squares : List Square) (v : ℚ) (region : Region) (tree : List Node) (point : Point) → AreSquaresOf p.pairs squares → IsGoodTree p (Some v) region tree → IsFeasibleIn p region point → v ≤ℚ value_of p point
tree_point p squares v region tree point s good h =
    subst (λ z. v ≤ℚ z) (sym (value_is p point)) ((at_least p squares v tree (region ∷ []) (columns_of point) s good).0 (feasible_to p region point h))

pub empty_tree : (p : Program) (region : Region) (tree : List Node) (point : Point) → IsGoodTree p None region tree → IsFeasibleIn p region point → ⊥
empty_tree p region tree point good h = (no_points p tree (region ∷ []) (columns_of point) good).0 (feasible_to p region point h)

-- a point with these columns
at_columns : (p : Program) (x : List ℚ) → IsPoint p (bounds p) x → IsFeasible p (point_of x)
at_columns p x h = feasible_back p (bounds p) (point_of x) (subst (IsPoint p (bounds p)) (sym (columns_point x)) h)

value_at : (p : Program) (x : List ℚ) → value_of p (point_of x) ≡ value p x
value_at p x = value_is p (point_of x) ∙ ap (value p) (columns_point x)

pub ray_point : (p : Program) (squares : List Square) (x d : List ℚ) → AreSquaresOf p.pairs squares → IsPoint p (bounds p) x → IsRay p d → (t : ℚ) → (lower : Point) × IsFeasible p lower × (value_of p lower <ℚ t)
ray_point p squares x d s point ray t =
    let found = falls_below p squares x d point s ray t in
    (point_of found.0, at_columns p found.0 found.1, subst (λ z. z <ℚ t) (sym (value_at p found.0)) found.2)

pub good_is_true : (p : Program) (c : Certificate) → IsGood p c → IsTrueOf p (verdict_of c)
good_is_true p (Optimal x v squares tree) good =
    record {
      point = point_of x;
      has_columns = columns_point x;
      feasible = at_columns p x good.point;
      has_value = value_at p x ∙ good.has_value;
      least = λ other h. tree_point p squares v (bounds p) tree other good.has_squares good.bounded h;
    }
good_is_true p (Infeasible tree) good = λ point h. empty_tree p (bounds p) tree point good h
good_is_true p (Unbounded x d squares) good =
    record {
      point = point_of x;
      feasible = at_columns p x good.point;
      below = λ t. ray_point p squares x d good.has_squares good.point good.ray t;
    }
good_is_true p (NotConvex v) good = good
