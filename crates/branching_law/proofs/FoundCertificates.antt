-- The certificate that is found is good, and its tree is one whole tree.
use Rattle.std.specs.Prelude.{ℕ, List, [], ◌∷◌, Contains, Option, Some, None}
use Rattle.std.proofs.Common.{refl, sym, subst, inl, inr}
use Rattle.rational.specs.Rational.{ℚ}
use Rattle.program_law.specs.declared.Square.{Square}
use Rattle.program_law.specs.Program.{Program, IsProgram, bounds}
use Rattle.program_law.specs.Columns.{IsRelaxedPoint, value}
use Rattle.certificate_law.specs.declared.Node.{Node}
use Rattle.certificate_law.specs.declared.Certificate.{Certificate}
use Rattle.program_law.specs.Squares.{AreSquaresOf}
use Rattle.certificate_law.specs.Nodes.{IsOneTree}
use Rattle.certificate_law.specs.Tree.{IsGoodTree}
use Rattle.certificate_law.specs.Ray.{IsRay}
use Rattle.certificate_law.specs.Good.{IsGood}
use Rattle.equational_law.proofs.Rays.{is_ray}
use Rattle.quad_solve_law.specs.Answer.{IsFalling}
use Rattle.quad_solve_law.proofs.RegionAnswers.{found_is_point, falling_is_ray}
use Rattle.branching_law.specs.declared.Turn.{Turn}
use Rattle.branching_law.specs.Paths.{region_of}
use Rattle.branching_law.specs.Rounding.{under_rounding}
use Rattle.branching_law.specs.Nodes.{Search}
use Rattle.branching_law.specs.Search.{IsEarned, points_of}
use Rattle.branching_law.specs.Found.{IsIncumbent, Reduced, Convex, Curved, IsReductionOf, IsFallingProgram, IsFallingAt, decided, IsFoundOf}
use Rattle.branching_law.proofs.PathRegions.{behind_has}
use Rattle.branching_law.proofs.Trees.{Reaches, wide, good_nodes, in_bounds, all_points}
use Rattle.branching_law.proofs.RoundedTrees.{good_under_rounding, trees_under_rounding}
use Rattle.branching_law.proofs.NodeSteps.{whole_trees}
use Rattle.branching_law.proofs.Incumbents.{first_is_kept, first_is_least, nothing_in}
use Rattle.branching_law.proofs.Marks.{kept_unmarked}

module _ (p : Program) (is : IsProgram p) (bases : ℕ) where
  pub good_earned : (aim : Search) (v : Option ℚ) (turns : List Turn) (nodes : List Node) → IsEarned aim p bases turns nodes [] → Reaches p v (points_of nodes)
      → IsGoodTree p v (bounds p) (under_rounding turns nodes)
  good_earned aim v turns nodes earned least =
      good_under_rounding p v (bounds p) turns nodes earned.rounding.turns_due
      (good_nodes p is earned.convex bases aim v [] (turns ∷ []) nodes earned.taken least)

  pub earned_points : (aim : Search) (turns : List Turn) (nodes : List Node) (left : List (List Turn)) → IsEarned aim p bases turns nodes left
      → (x : List ℚ) → Contains (points_of nodes) x → IsRelaxedPoint p (bounds p) x
  earned_points aim turns nodes left earned = all_points p is earned.convex bases aim [] (turns ∷ []) left nodes earned.taken (λ x c. nothing_in x c)

  ray_of : (path : List Turn) (x d : List ℚ) → IsFalling p (region_of p path) bases x d → IsRay p d
  ray_of path x d h = is_ray p (region_of p path) d (behind_has (bounds p) path) (falling_is_ray p (region_of p path) is (wide p path) bases x d h)

  module _ (squares : List Square) (sum : AreSquaresOf p.pairs squares) where
    decided_good : (aim : Search) (turns : List Turn) (nodes : List Node) (o : Option (List ℚ)) → IsEarned aim p bases turns nodes [] → IsIncumbent p (points_of nodes) o
        → IsGood p (decided p squares o (under_rounding turns nodes))
    decided_good aim turns nodes None earned best = good_earned aim None turns nodes earned best
    decided_good aim turns nodes (Some x) earned best =
        let kept = first_is_kept p (points_of nodes) x best in
        record {
          point = record { relaxed = earned_points aim turns nodes [] earned x kept.among; whole = kept.whole };
          has_value = refl;
          has_squares = sum;
          bounded = good_earned aim (Some (value p x)) turns nodes earned (first_is_least p (points_of nodes) x best);
        }

    falling_program_good : (c : Certificate) → IsFallingProgram p bases squares c → IsGood p c
    falling_program_good c h =
        subst (IsGood p) (sym h.certificate) (record {
          point = record { relaxed = found_is_point p (bounds p) is (wide p []) bases h.point h.falling.found; whole = kept_unmarked p h.point h.unmarked };
          ray = ray_of [] h.point h.ray h.falling;
          has_squares = sum;
        })

    falling_good : (boxes : ℕ) (c : Certificate) → IsFallingAt p bases boxes squares c → IsGood p c
    falling_good boxes c h =
        subst (IsGood p) (sym h.certificate) (record {
          point = record {
            relaxed = in_bounds p is h.earned.convex bases h.path h.point (found_is_point p (region_of p h.path) is (wide p h.path) bases h.point h.found);
            whole = h.whole;
          };
          ray = ray_of h.turns h.start h.ray h.falling;
          has_squares = sum;
        })

  pub found_is_good : (r : Reduced) (boxes : ℕ) (c : Certificate) → IsReductionOf p.pairs r → IsFoundOf p r bases boxes c → IsGood p c
  found_is_good (Curved v) boxes c curved h = subst (IsGood p) (sym h) curved
  found_is_good (Convex squares) boxes c sum h =
      elim h [
        | inl a ↦ falling_program_good squares sum c a
        | inr b ↦ elim b [
          | inl a ↦ falling_good squares sum boxes c a
          | inr d ↦ subst (IsGood p) (sym d.certificate) (decided_good squares sum d.aim d.turns d.nodes d.incumbent d.earned d.best)
        ]
      ]

pub earned_is_one_tree : (aim : Search) (p : Program) (bases : ℕ) (turns : List Turn) (nodes : List Node) → IsEarned aim p bases turns nodes [] → IsOneTree (under_rounding turns nodes)
earned_is_one_tree aim p bases turns nodes earned = trees_under_rounding turns nodes (whole_trees aim p bases [] (turns ∷ []) nodes earned.taken)
