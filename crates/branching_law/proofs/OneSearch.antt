-- Two searches of a program take the same nodes, as far as both go.
use Rattle.std.specs.Prelude.{◌≡◌, ℕ, ◌+◌, ◌≤◌, ℤ, List, [], ◌∷◌, length}
use Rattle.std.proofs.Common.{refl, sym, ◌∙◌, ap, subst, arith, inl, inr}
use Rattle.rational.specs.Rational.{ℚ}
use Rattle.rational.specs.Order.{◌<ℚ◌}
use Rattle.rational.specs.Rounding.{IsFloor}
use Rattle.rational.specs.Vectors.{IsSemidefinite}
use Rattle.rational.proofs.OrderLaws.{not-le_of_lt}
use Rattle.rational.proofs.Rounding.{IsFloor-unique}
use Rattle.rational.specs.Sums.{entry}
use Rattle.program_law.specs.Region.{Region, IsCrossedAt, IsCrossedRegion}
use Rattle.program_law.specs.Program.{Program, IsProgram, marks}
use Rattle.program_law.specs.Columns.{AreWholeOn, value}
use Rattle.certificate_law.specs.declared.Node.{Node}
use Rattle.certificate_law.specs.declared.Node.TheVariants.{Branch, Bound, Farkas, Cross}
use Rattle.quad_solve_law.specs.Answer.{Empty, Best, IsFound, IsFalling, IsBest}
use Rattle.quad_solve_law.proofs.OneAnswer.{one_answer, one_found}
use Rattle.quad_solve_law.proofs.RegionAnswers.{no_point_where_empty, no_best_where_empty, found_is_point, falling_is_ray}
use Rattle.branching_law.specs.declared.Turn.{Turn}
use Rattle.branching_law.specs.Paths.{region_of, IsFirst}
use Rattle.branching_law.specs.Nodes.{Search, ForBest, ForPoint, IsFractionalAt, IsBranch, IsTaken}
use Rattle.branching_law.specs.Search.{after, points_with, AreTaken, IsEarned, branches}
use Rattle.branching_law.proofs.Trees.{wide}
use Rattle.branching_law.proofs.Marks.{branch_is_not_kept}
use Rattle.branching_law.proofs.RoundedTrees.{branches-append}
use Rattle.branching_law.proofs.RoundingTurns.{first_is_one, rounding_is_one}
use Rattle.branching_law.proofs.BelowRoots.{best_root}

same_multipliers : (y z : List ℚ) → Empty y ≡ Empty z → y ≡ z
same_multipliers y z e = cc

same_best : (x z : List ℚ) (v w : ℚ) (y u : List ℚ) → Best x v y ≡ Best z w u → (x ≡ z) × (y ≡ u)
same_best x z v w y u e = (cc, cc)

branch_is_one : (p : Program) (x : List ℚ) (j i : ℕ) (k l : ℤ) → IsBranch p x j k → IsBranch p x i l → Branch j k ≡ Branch i l
branch_is_one p x j i k l h g =
    let e = first_is_one (IsFractionalAt p x) j i h.first g.first in
    let f = IsFloor-unique k l (entry x i) (subst (λ (n : ℕ). IsFloor k (entry x n)) e h.floor) g.floor in
    ap (λ n. Branch n k) e ∙ ap (λ m. Branch i m) f

module _ (p : Program) (is : IsProgram p) (convex : IsSemidefinite (length p.columns) p.pairs) where
  pub crossed_by : (region : Region) (j : ℕ) → IsFirst (IsCrossedAt region) j → IsCrossedRegion region
  crossed_by region j h = record { column = j; crossed = h.holds }

  best_points : (a b : ℕ) (path : List Turn) (x z : List ℚ) (v w : ℚ) (y u : List ℚ) → IsBest p (region_of p path) a x v y → IsBest p (region_of p path) b z w u → (x ≡ z) × (y ≡ u)
  best_points a b path x z v w y u h g = same_best x z v w y u (one_answer p (region_of p path) is (wide p path) convex a b (Best x v y) (Best z w u) h g)

  pub node_is_one : (aim : Search) (a b : ℕ) (points : List (List ℚ)) (path : List Turn) (n m : Node) → IsTaken aim p a points (region_of p path) n → IsTaken aim p b points (region_of p path) m → n ≡ m
  node_is_one aim a b points path (Cross j) (Cross i) h g = ap Cross (first_is_one (IsCrossedAt (region_of p path)) j i h g)
  node_is_one aim a b points path (Cross j) (Farkas u) h g = absurd (g.uncrossed (crossed_by (region_of p path) j h))
  node_is_one aim a b points path (Cross j) (Branch i l) h g = absurd (g.uncrossed (crossed_by (region_of p path) j h))
  node_is_one ForBest a b points path (Cross j) (Bound z u) h g = absurd (g.uncrossed (crossed_by (region_of p path) j h))
  node_is_one ForPoint a b points path (Cross j) (Bound z u) h g = absurd g
  node_is_one aim a b points path (Farkas y) (Cross i) h g = absurd (h.uncrossed (crossed_by (region_of p path) i g))
  node_is_one aim a b points path (Farkas y) (Farkas u) h g =
      ap Farkas (same_multipliers y u (one_answer p (region_of p path) is (wide p path) convex a b (Empty y) (Empty u) h.empty g.empty))
  node_is_one ForBest a b points path (Farkas y) (Branch i l) h g = absurd (no_best_where_empty p (region_of p path) is (wide p path) b a g.point _ g.carried.0 y g.carried.1 h.empty)
  node_is_one ForPoint a b points path (Farkas y) (Branch i l) h g = absurd (no_point_where_empty p (region_of p path) is (wide p path) b a g.point y g.carried h.empty)
  node_is_one ForBest a b points path (Farkas y) (Bound z u) h g = absurd (no_best_where_empty p (region_of p path) is (wide p path) b a z _ u y g.best h.empty)
  node_is_one ForPoint a b points path (Farkas y) (Bound z u) h g = absurd g
  node_is_one ForBest a b points path (Branch j k) (Cross i) h g = absurd (h.uncrossed (crossed_by (region_of p path) i g))
  node_is_one ForPoint a b points path (Branch j k) (Cross i) h g = absurd (h.uncrossed (crossed_by (region_of p path) i g))
  node_is_one ForBest a b points path (Branch j k) (Farkas u) h g = absurd (no_best_where_empty p (region_of p path) is (wide p path) a b h.point _ h.carried.0 u h.carried.1 g.empty)
  node_is_one ForPoint a b points path (Branch j k) (Farkas u) h g = absurd (no_point_where_empty p (region_of p path) is (wide p path) a b h.point u h.carried g.empty)
  node_is_one ForBest a b points path (Branch j k) (Branch i l) h g =
      let e = (best_points a b path h.point g.point _ _ h.carried.0 g.carried.0 h.carried.1 g.carried.1).0 in
      branch_is_one p g.point j i k l (subst (λ (x : List ℚ). IsBranch p x j k) e h.branch) g.branch
  node_is_one ForPoint a b points path (Branch j k) (Branch i l) h g =
      let e = one_found p (region_of p path) is (wide p path) a b h.point g.point h.carried g.carried in
      branch_is_one p g.point j i k l (subst (λ (x : List ℚ). IsBranch p x j k) e h.branch) g.branch
  node_is_one ForBest a b points path (Branch j k) (Bound z u) h g =
      let e = (best_points a b path h.point z _ _ h.carried.0 u h.carried.1 g.best).0 in
      elim g.closed [
        | inl w ↦ absurd (branch_is_not_kept p h.point j h.branch.first.holds (subst (AreWholeOn (marks p)) (sym e) w))
        | inr other ↦ absurd (not-le_of_lt (subst (λ (x : List ℚ). value p x <ℚ value p other.0) e (h.below other.0 other.1)) other.2)
      ]
  node_is_one ForPoint a b points path (Branch j k) (Bound z u) h g = absurd g
  node_is_one ForBest a b points path (Bound x y) (Cross i) h g = absurd (h.uncrossed (crossed_by (region_of p path) i g))
  node_is_one ForPoint a b points path (Bound x y) (Cross i) h g = absurd h
  node_is_one ForBest a b points path (Bound x y) (Farkas u) h g = absurd (no_best_where_empty p (region_of p path) is (wide p path) a b x _ y u h.best g.empty)
  node_is_one ForPoint a b points path (Bound x y) (Farkas u) h g = absurd h
  node_is_one ForBest a b points path (Bound x y) (Branch i l) h g =
      let e = (best_points b a path g.point x _ _ g.carried.0 y g.carried.1 h.best).0 in
      elim h.closed [
        | inl w ↦ absurd (branch_is_not_kept p g.point i g.branch.first.holds (subst (AreWholeOn (marks p)) (sym e) w))
        | inr other ↦ absurd (not-le_of_lt (subst (λ (x : List ℚ). value p x <ℚ value p other.0) e (g.below other.0 other.1)) other.2)
      ]
  node_is_one ForPoint a b points path (Bound x y) (Branch i l) h g = absurd h
  node_is_one ForBest a b points path (Bound x y) (Bound z u) h g =
      let e = best_points a b path x z _ _ y u h.best g.best in
      ap (λ w. Bound w y) e.0 ∙ ap (λ w. Bound z w) e.1
  node_is_one ForPoint a b points path (Bound x y) (Bound z u) h g = absurd h

  -- ---- one list of nodes

  -- no node can be taken at the path that waits first
  abbrev pub IsStuck : Search → ℕ → List (List Turn) → Type 0
  IsStuck aim b [] = Unit {0}
  IsStuck aim b (path ∷ rest) = (points : List (List ℚ)) (n : Node) → IsTaken aim p b points (region_of p path) n → ⊥

  -- a search for a point is stuck at one that keeps the marks
  pub stuck_at_kept : (a b : ℕ) (path : List Turn) (rest : List (List Turn)) (x : List ℚ) → (IsCrossedRegion (region_of p path) → ⊥) → IsFound p (region_of p path) a x → AreWholeOn (marks p) x
      → IsStuck ForPoint b (path ∷ rest)
  stuck_at_kept a b path rest x uncrossed found whole points (Branch j k) h =
      let f = one_found p (region_of p path) is (wide p path) b a h.point x h.carried found in
      branch_is_not_kept p h.point j h.branch.first.holds (subst (AreWholeOn (marks p)) (sym f) whole)
  stuck_at_kept a b path rest x uncrossed found whole points (Bound w y) h = h
  stuck_at_kept a b path rest x uncrossed found whole points (Farkas y) h = no_point_where_empty p (region_of p path) is (wide p path) a b x y found h.empty
  stuck_at_kept a b path rest x uncrossed found whole points (Cross j) h = uncrossed (crossed_by (region_of p path) j h)

  none_after : (aim : Search) (b : ℕ) (points : List (List ℚ)) (waiting left right : List (List Turn)) (n : Node) (ns : List Node) → waiting ≡ left → IsStuck aim b left
      → AreTaken aim p b points waiting (n ∷ ns) right → ⊥
  none_after aim b points [] left right n ns e stuck taken = taken
  none_after aim b points (path ∷ rest) left right n ns e stuck taken = subst (IsStuck aim b) (sym e) stuck points n taken.0

  pub nodes_are_one : (aim : Search) (a b : ℕ) (points : List (List ℚ)) (waiting left right : List (List Turn)) (ns ms : List Node) → AreTaken aim p a points waiting ns left
      → AreTaken aim p b points waiting ms right → IsStuck aim b left → IsStuck aim a right → (ns ≡ ms) × (left ≡ right)
  nodes_are_one aim a b points waiting left right [] [] h g e f = (refl, sym h ∙ g)
  nodes_are_one aim a b points waiting left right [] (m ∷ ms) h g e f = absurd (none_after aim b points waiting left right m ms h e g)
  nodes_are_one aim a b points waiting left right (n ∷ ns) [] h g e f = absurd (none_after aim a points waiting right left n ns g f h)
  nodes_are_one aim a b points [] left right (n ∷ ns) (m ∷ ms) h g e f = absurd h
  nodes_are_one aim a b points (path ∷ rest) left right (n ∷ ns) (m ∷ ms) h g e f =
      let same = node_is_one aim a b points path n m h.0 g.0 in
      let others = nodes_are_one aim a b (points_with points n) (after n path rest) left right ns ms h.1
      (subst (λ (k : Node). AreTaken aim p b (points_with points k) (after k path rest) ms right) (sym same) g.1) e f in
      (ap (λ k. k ∷ ns) same ∙ ap (λ ks. m ∷ ks) others.0, others.1)

  counted : (n m : Node) (ns ms : List Node) → n ≡ m → branches ns ≤ branches ms → branches (n ∷ ns) ≤ branches (m ∷ ms)
  counted n m ns ms e l =
      let a = branches-append (n ∷ []) ns in let b = branches-append (m ∷ []) ms in let c : branches (n ∷ []) ≡ branches (m ∷ []) = ap (λ k. branches (k ∷ [])) e in
      total (branches (n ∷ ns)) (branches (m ∷ ms)) (branches (n ∷ [])) (branches (m ∷ [])) (branches ns) (branches ms) a b c l
    where
      total : (x y i j k l : ℕ) → x ≡ i + k → y ≡ j + l → i ≡ j → k ≤ l → x ≤ y
      total x y i j k l a b c d = omega (arith, a, b, c, d)

  -- a search that is stuck has at least the branches of each other
  pub most_branches : (aim : Search) (b : ℕ) (points : List (List ℚ)) (waiting left right : List (List Turn)) (ns ms : List Node) → AreTaken aim p b points waiting ns left
      → AreTaken aim p b points waiting ms right → IsStuck aim b right → branches ns ≤ branches ms
  most_branches aim b points waiting left right [] ms h g stuck = omega arith
  most_branches aim b points waiting left right (n ∷ ns) [] h g stuck = absurd (none_after aim b points waiting right left n ns g stuck h)
  most_branches aim b points [] left right (n ∷ ns) (m ∷ ms) h g stuck = absurd h
  most_branches aim b points (path ∷ rest) left right (n ∷ ns) (m ∷ ms) h g stuck =
      let same = node_is_one aim b b points path n m h.0 g.0 in
      counted n m ns ms same (most_branches aim b (points_with points n) (after n path rest) left right ns ms h.1
      (subst (λ (k : Node). AreTaken aim p b (points_with points k) (after k path rest) ms right) (sym same) g.1) stuck)

  -- ---- one search

  -- a search for the best that has taken a node, or one for a point
  abbrev pub IsBegun : Search → List Node → Type 0
  IsBegun ForPoint nodes = Unit {0}
  IsBegun ForBest [] = ⊥
  IsBegun ForBest (n ∷ ns) = Unit {0}

  module _ (b : ℕ) where
    not_both_aims : (turns others : List Turn) (n : Node) (ns more : List Node) (left right : List (List Turn)) → IsEarned ForBest p b turns (n ∷ ns) left → IsEarned ForPoint p b others more right → ⊥
    not_both_aims turns others n ns more left right h g =
        let f = g.root.2 in
        let falling : IsFalling p (region_of p turns) b f.0 f.1 = subst (λ (t : List Turn). IsFalling p (region_of p t) b f.0 f.1) (rounding_is_one p others turns g.rounding h.rounding) f.2 in
        best_root p is b turns left n ns h f.0 f.1 (found_is_point p (region_of p turns) is (wide p turns) b f.0 falling.found) (falling_is_ray p (region_of p turns) is (wide p turns) b f.0 f.1 falling)

    aims_are_one : (aim other : Search) (turns others : List Turn) (nodes more : List Node) (left right : List (List Turn)) → IsEarned aim p b turns nodes left → IsEarned other p b others more right
        → IsBegun aim nodes → IsBegun other more → aim ≡ other
    aims_are_one ForBest ForBest turns others nodes more left right h g s t = refl
    aims_are_one ForPoint ForPoint turns others nodes more left right h g s t = refl
    aims_are_one ForBest ForPoint turns others [] more left right h g s t = absurd s
    aims_are_one ForBest ForPoint turns others (n ∷ ns) more left right h g s t = absurd (not_both_aims turns others n ns more left right h g)
    aims_are_one ForPoint ForBest turns others nodes [] left right h g s t = absurd t
    aims_are_one ForPoint ForBest turns others nodes (m ∷ ms) left right h g s t = absurd (not_both_aims others turns m ms nodes right left g h)

    -- a search that has begun and can take no further node
    pub record Halt : Type 0 where
      pub aim : Search
      pub turns : List Turn
      pub nodes : List Node
      pub left : List (List Turn)
      pub earned : IsEarned aim p b turns nodes left
      pub begun : IsBegun aim nodes
      pub stuck : IsStuck aim b left

    pub same_aim : (h k : Halt) → h.aim ≡ k.aim
    same_aim h k = aims_are_one h.aim k.aim h.turns k.turns h.nodes k.nodes h.left k.left h.earned k.earned h.begun k.begun

    -- the nodes of one search, as those of another from the same root
    as_taken : (aim other : Search) (turns others : List Turn) (nodes more : List Node) (left right : List (List Turn)) → aim ≡ other → IsEarned aim p b turns nodes left → IsEarned other p b others more right
        → AreTaken other p b [] (others ∷ []) nodes left
    as_taken aim other turns others nodes more left right e h g =
        subst (λ (a : Search). AreTaken a p b [] (others ∷ []) nodes left) e
        (subst (λ (t : List Turn). AreTaken aim p b [] (t ∷ []) nodes left) (rounding_is_one p turns others h.rounding g.rounding) h.taken)

    pub same_end : (h k : Halt) → h.left ≡ k.left
    same_end h k =
        let e = same_aim h k in
        (nodes_are_one k.aim b b [] (k.turns ∷ []) h.left k.left h.nodes k.nodes (as_taken h.aim k.aim h.turns k.turns h.nodes k.nodes h.left k.left e h.earned k.earned) k.earned.taken
        (subst (λ (a : Search). IsStuck a b h.left) e h.stuck) k.stuck).1

    pub tree_is_within : (aim : Search) (turns : List Turn) (nodes : List Node) (left : List (List Turn)) (k : Halt) → IsEarned aim p b turns nodes left → IsBegun aim nodes → branches nodes ≤ branches k.nodes
    tree_is_within aim turns nodes left k earned begun =
        most_branches k.aim b [] (k.turns ∷ []) left k.left nodes k.nodes
        (as_taken aim k.aim turns k.turns nodes k.nodes left k.left (aims_are_one aim k.aim turns k.turns nodes k.nodes left k.left earned k.earned begun k.begun) earned k.earned) k.earned.taken k.stuck
