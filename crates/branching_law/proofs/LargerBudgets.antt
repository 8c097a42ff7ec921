-- Larger budgets keep what was found.
use Rattle.std.specs.Prelude.{ℕ, ◌≤◌, List, [], ◌∷◌, ◌++◌}
use Rattle.std.proofs.Common.{inl, inr}
use Rattle.std.proofs.Math.Nat.{le_trans}
use Rattle.rational.specs.Rational.{ℚ}
use Rattle.program_law.specs.Region.{Region}
use Rattle.program_law.specs.Program.{Program, bounds}
use Rattle.program_law.specs.Columns.{value}
use Rattle.certificate_law.specs.declared.Node.{Node}
use Rattle.certificate_law.specs.declared.Node.TheVariants.{Branch, Bound, Farkas, Cross}
use Rattle.certificate_law.specs.declared.Certificate.{Certificate}
use Rattle.quad_solve_law.specs.Problems.{feasible_problem}
use Rattle.quad_solve_law.specs.Answer.{Empty, Ray, Best, IsFound}
use Rattle.quad_solve_law.proofs.SomeAnswer.{more_solved, more_answers}
use Rattle.equational_law.specs.Form.{form_of}
use Rattle.branching_law.specs.declared.Turn.{Turn}
use Rattle.branching_law.specs.Paths.{region_of}
use Rattle.branching_law.specs.Nodes.{Search, ForBest, ForPoint, IsTaken}
use Rattle.branching_law.specs.Search.{after, AreTaken, IsSearchOf, IsEarned}
use Rattle.branching_law.specs.Found.{Reduced, Convex, Curved, IsFoundOf}

module _ (p : Program) (a b : ℕ) (l : a ≤ b) where
  more_found : (region : Region) (x : List ℚ) → IsFound p region a x → IsFound p region b x
  more_found region x h = record { solution = h.solution; solved = more_solved (feasible_problem (form_of p region)) a b h.solution l h.solved; point = h.point }

  more_node : (aim : Search) (points : List (List ℚ)) (region : Region) (n : Node) → IsTaken aim p a points region n → IsTaken aim p b points region n
  more_node ForBest points region (Branch j k) h = record {
    uncrossed = h.uncrossed;
    point = h.point;
    carried = (h.carried.0, more_answers p region a b (Best h.point (value p h.point) h.carried.0) l h.carried.1);
    branch = h.branch;
    below = h.below;
  }
  more_node ForPoint points region (Branch j k) h = record { uncrossed = h.uncrossed; point = h.point; carried = more_found region h.point h.carried; branch = h.branch; below = h.below }
  more_node ForBest points region (Bound x y) h = record { uncrossed = h.uncrossed; best = more_answers p region a b (Best x (value p x) y) l h.best; closed = h.closed }
  more_node ForPoint points region (Bound x y) h = h
  more_node aim points region (Farkas y) h = record { uncrossed = h.uncrossed; empty = more_answers p region a b (Empty y) l h.empty }
  more_node aim points region (Cross j) h = h

  more_taken : (aim : Search) (points : List (List ℚ)) (waiting left : List (List Turn)) (nodes : List Node) → AreTaken aim p a points waiting nodes left → AreTaken aim p b points waiting nodes left
  more_taken aim points waiting left [] h = h
  more_taken aim points [] left (n ∷ ns) h = h
  more_taken aim points (path ∷ waiting) left (Branch j k ∷ ns) h =
      (more_node aim points (region_of p path) (Branch j k) h.0, more_taken aim points (after (Branch j k) path waiting) left ns h.1)
  more_taken aim points (path ∷ waiting) left (Bound x y ∷ ns) h = (more_node aim points (region_of p path) (Bound x y) h.0, more_taken aim (points ++ x ∷ []) waiting left ns h.1)
  more_taken aim points (path ∷ waiting) left (Farkas y ∷ ns) h = (more_node aim points (region_of p path) (Farkas y) h.0, more_taken aim points waiting left ns h.1)
  more_taken aim points (path ∷ waiting) left (Cross j ∷ ns) h = (h.0, more_taken aim points waiting left ns h.1)

  more_root : (aim : Search) (root : Region) → IsSearchOf aim p a root → IsSearchOf aim p b root
  more_root ForBest root h = h
  more_root ForPoint root h = (h.0, h.1, (h.2.0, h.2.1, more_answers p root a b (Ray h.2.0 h.2.1) l h.2.2))

  pub more_earned : (aim : Search) (turns : List Turn) (nodes : List Node) (left : List (List Turn)) → IsEarned aim p a turns nodes left → IsEarned aim p b turns nodes left
  more_earned aim turns nodes left h = record {
    convex = h.convex;
    rounding = h.rounding;
    root = more_root aim (region_of p turns) h.root;
    taken = more_taken aim [] (turns ∷ []) left nodes h.taken;
  }

  pub more_certificates : (r : Reduced) (s t : ℕ) (c : Certificate) → s ≤ t → IsFoundOf p r a s c → IsFoundOf p r b t c
  more_certificates (Curved v) s t c m h = h
  more_certificates (Convex squares) s t c m (inl h) =
      inl (record {
        unmarked = h.unmarked;
        uncrossed = h.uncrossed;
        point = h.point;
        ray = h.ray;
        falling = more_answers p (bounds p) a b (Ray h.point h.ray) l h.falling;
        certificate = h.certificate;
      })
  more_certificates (Convex squares) s t c m (inr (inl h)) =
      inr (inl (record {
        turns = h.turns;
        nodes = h.nodes;
        path = h.path;
        open_paths = h.open_paths;
        earned = more_earned ForPoint h.turns h.nodes (h.path ∷ h.open_paths) h.earned;
        count = le_trans h.count m;
        uncrossed = h.uncrossed;
        point = h.point;
        found = more_found (region_of p h.path) h.point h.found;
        whole = h.whole;
        start = h.start;
        ray = h.ray;
        falling = more_answers p (region_of p h.turns) a b (Ray h.start h.ray) l h.falling;
        certificate = h.certificate;
      }))
  more_certificates (Convex squares) s t c m (inr (inr h)) =
      inr (inr (record {
        aim = h.aim;
        turns = h.turns;
        nodes = h.nodes;
        earned = more_earned h.aim h.turns h.nodes [] h.earned;
        count = le_trans h.count m;
        incumbent = h.incumbent;
        best = h.best;
        certificate = h.certificate;
      }))
