-- One node more of an earned tree.
use Rattle.std.specs.Prelude.{◌≡◌, ℕ, List, [], ◌∷◌, ◌++◌, length}
use Rattle.std.proofs.Common.{refl, sym, ap, subst, append_assoc, append-nil}
use Rattle.rational.specs.Rational.{ℚ}
use Rattle.program_law.specs.Program.{Program}
use Rattle.certificate_law.specs.declared.Node.{Node}
use Rattle.certificate_law.specs.declared.Node.TheVariants.{Branch, Bound, Farkas, Cross}
use Rattle.certificate_law.specs.Nodes.{AreTrees}
use Rattle.branching_law.specs.declared.Turn.{Turn}
use Rattle.branching_law.specs.Paths.{region_of}
use Rattle.branching_law.specs.Nodes.{Search, IsTaken}
use Rattle.branching_law.specs.Search.{after, points_with, AreTaken, IsEarned, points_of}

module _ (aim : Search) (p : Program) (bases : ℕ) where
  pub taken_last : (points : List (List ℚ)) (waiting : List (List Turn)) (nodes : List Node) (path : List Turn) (rest : List (List Turn)) (n : Node)
      → AreTaken aim p bases points waiting nodes (path ∷ rest) → IsTaken aim p bases (points ++ points_of nodes) (region_of p path) n
      → AreTaken aim p bases points waiting (nodes ++ n ∷ []) (after n path rest)
  taken_last points waiting [] path rest n taken step =
      subst (λ (w : List (List Turn)). AreTaken aim p bases points w (n ∷ []) (after n path rest)) (sym taken)
      (subst (λ (xs : List (List ℚ)). IsTaken aim p bases xs (region_of p path) n) (append-nil points) step, refl)
  taken_last points [] (m ∷ ns) path rest n taken step = absurd taken
  taken_last points (w ∷ ws) (Branch j k ∷ ns) path rest n taken step = (taken.0, taken_last points (after (Branch j k) w ws) ns path rest n taken.1 step)
  taken_last points (w ∷ ws) (Bound x y ∷ ns) path rest n taken step = (
    taken.0,
    taken_last (points ++ x ∷ []) ws ns path rest n taken.1
        (subst (λ (xs : List (List ℚ)). IsTaken aim p bases xs (region_of p path) n) (sym (append_assoc points (x ∷ []) (points_of ns))) step),
  )
  taken_last points (w ∷ ws) (Farkas y ∷ ns) path rest n taken step = (taken.0, taken_last points ws ns path rest n taken.1 step)
  taken_last points (w ∷ ws) (Cross j ∷ ns) path rest n taken step = (taken.0, taken_last points ws ns path rest n taken.1 step)

  pub earned_last : (turns : List Turn) (nodes : List Node) (path : List Turn) (rest : List (List Turn)) (n : Node)
      → IsEarned aim p bases turns nodes (path ∷ rest) → IsTaken aim p bases (points_of nodes) (region_of p path) n
      → IsEarned aim p bases turns (nodes ++ n ∷ []) (after n path rest)
  earned_last turns nodes path rest n earned step = record {
    convex = earned.convex;
    rounding = earned.rounding;
    root = earned.root;
    taken = taken_last [] (turns ∷ []) nodes path rest n earned.taken step;
  }

  pub whole_trees : (points : List (List ℚ)) (waiting : List (List Turn)) (nodes : List Node) → AreTaken aim p bases points waiting nodes [] → AreTrees (length waiting) nodes
  whole_trees points waiting [] taken = subst (λ (w : List (List Turn)). AreTrees (length w) []) (sym taken) tt
  whole_trees points [] (n ∷ ns) taken = absurd taken
  whole_trees points (path ∷ waiting) (Branch j k ∷ ns) taken = whole_trees points (after (Branch j k) path waiting) ns taken.1
  whole_trees points (path ∷ waiting) (Bound x y ∷ ns) taken = whole_trees (points ++ x ∷ []) waiting ns taken.1
  whole_trees points (path ∷ waiting) (Farkas y ∷ ns) taken = whole_trees points waiting ns taken.1
  whole_trees points (path ∷ waiting) (Cross j ∷ ns) taken = whole_trees points waiting ns taken.1

pub points_last : (nodes : List Node) (n : Node) → points_of (nodes ++ n ∷ []) ≡ points_with (points_of nodes) n
points_last [] (Branch j k) = refl
points_last [] (Bound x y) = refl
points_last [] (Farkas y) = refl
points_last [] (Cross j) = refl
points_last (Branch j k ∷ ns) n = points_last ns n
points_last (Bound x y ∷ ns) (Branch j k) = ap (λ t. x ∷ t) (points_last ns (Branch j k))
points_last (Bound x y ∷ ns) (Bound w u) = ap (λ t. x ∷ t) (points_last ns (Bound w u))
points_last (Bound x y ∷ ns) (Farkas u) = ap (λ t. x ∷ t) (points_last ns (Farkas u))
points_last (Bound x y ∷ ns) (Cross j) = ap (λ t. x ∷ t) (points_last ns (Cross j))
points_last (Farkas y ∷ ns) n = points_last ns n
points_last (Cross j ∷ ns) n = points_last ns n
