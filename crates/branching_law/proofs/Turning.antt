-- One turn of a search's loop.
use Rattle.std.specs.Prelude.{◌≡◌, ℕ, ◌<◌, ◌≤◌, ℤ, List, [], ◌∷◌, ◌++◌, Option, Some, None}
use Rattle.std.proofs.Common.{refl, sym, ◌∙◌, subst, arith, inl, inr}
use Rattle.rational.specs.Rational.{ℚ}
use Rattle.rational.specs.Order.{◌≤ℚ◌, ◌<ℚ◌}
use Rattle.program_law.specs.Region.{Region, IsCrossedAt, IsCrossedRegion}
use Rattle.program_law.specs.Program.{Program, marks}
use Rattle.program_law.specs.Columns.{AreWholeOn, value}
use Rattle.certificate_law.specs.declared.Node.{Node}
use Rattle.certificate_law.specs.declared.Node.TheVariants.{Branch, Bound, Farkas, Cross}
use Rattle.quad_solve_law.specs.Answer.{IsFound, IsEmpty, IsBest}
use Rattle.branching_law.specs.declared.Turn.{Turn}
use Rattle.branching_law.specs.Paths.{region_of, below, above, IsFirst}
use Rattle.branching_law.specs.Nodes.{Search, ForBest, ForPoint, IsBranch, IsBelowKept, IsNotBelowKept, IsInnerNode}
use Rattle.branching_law.specs.Search.{after, points_with, AreTaken, IsEarned, IsSpentTree, branches, points_of}
use Rattle.branching_law.specs.Found.{IsIncumbent}
use Rattle.branching_law.specs.Searching.{IsSearching, IsBelowIncumbent}
use Rattle.branching_law.proofs.RoundedTrees.{branches-append}
use Rattle.branching_law.proofs.NodeSteps.{earned_last, points_last}
use Rattle.branching_law.proofs.Incumbents.{stays, better, below_all, not_below, nothing_in}

pub at_value : (p : Program) (region : Region) (bases : ℕ) (x : List ℚ) (v : ℚ) (y : List ℚ) → IsBest p region bases x v y → IsBest p region bases x (value p x) y
at_value p region bases x v y h = subst (λ (t : ℚ). IsBest p region bases x t y) h.value h

pub below_points : (p : Program) (points : List (List ℚ)) (o : Option (List ℚ)) (v : ℚ) → IsIncumbent p points o → IsBelowIncumbent p v o → IsBelowKept p points v
below_points p points None v h l = below_all p points None v h (λ b e. absurd (bad b e))
  where
    bad : (b : List ℚ) → None ≡ Some b → ⊥
    bad b e = cc
below_points p points (Some x) v h l = below_all p points (Some x) v h (λ b e. subst (λ (w : List ℚ). v <ℚ value p w) (same x b e) l)
  where
    same : (x b : List ℚ) → Some x ≡ Some b → x ≡ b
    same x b e = cc

module _ (aim : Search) (p : Program) (bases boxes : ℕ) (turns : List Turn) (nodes : List Node) (path : List Turn) (rest : List (List Turn)) (o : Option (List ℚ))
    (h : IsSearching aim p bases boxes turns nodes (path ∷ rest) o) where
  -- a node that brings no point
  same_points : (n : Node) → points_with (points_of nodes) n ≡ points_of nodes → IsIncumbent p (points_of (nodes ++ n ∷ [])) o
  same_points n e = subst (λ (xs : List (List ℚ)). IsIncumbent p xs o) (sym (points_last nodes n ∙ e)) h.best

  same_count : (n : Node) → branches (n ∷ []) ≡ 0 → branches (nodes ++ n ∷ []) ≤ boxes
  same_count n e = let a = branches-append nodes (n ∷ []) in let b = h.count in omega (arith, a, b, e)

  pub close_crossed : (j : ℕ) → IsFirst (IsCrossedAt (region_of p path)) j → IsSearching aim p bases boxes turns (nodes ++ Cross j ∷ []) rest o
  close_crossed j c = record {
    earned = earned_last aim p bases turns nodes path rest (Cross j) h.earned c;
    count = same_count (Cross j) refl;
    best = same_points (Cross j) refl;
  }

  pub close_empty : (y : List ℚ) → (IsCrossedRegion (region_of p path) → ⊥) → IsEmpty p (region_of p path) bases y → IsSearching aim p bases boxes turns (nodes ++ Farkas y ∷ []) rest o
  close_empty y uncrossed empty = record {
    earned = earned_last aim p bases turns nodes path rest (Farkas y) h.earned (record { uncrossed = uncrossed; empty = empty });
    count = same_count (Farkas y) refl;
    best = same_points (Farkas y) refl;
  }

  branched : (j : ℕ) (k : ℤ) → IsInnerNode aim p bases (points_of nodes) (region_of p path) j k → IsEarned aim p bases turns (nodes ++ Branch j k ∷ []) (after (Branch j k) path rest)
  branched j k inner = earned_last aim p bases turns nodes path rest (Branch j k) h.earned inner

  pub go_on : (j : ℕ) (k : ℤ) → IsInnerNode aim p bases (points_of nodes) (region_of p path) j k → branches nodes < boxes
      → IsSearching aim p bases boxes turns (nodes ++ Branch j k ∷ []) ((path ++ below j k ∷ []) ∷ (path ++ above j k ∷ []) ∷ rest) o
  go_on j k inner less = record {
    earned = branched j k inner;
    count = (let a = branches-append nodes (Branch j k ∷ []) in omega (arith, a));
    best = same_points (Branch j k) refl;
  }

  pub spent : (j : ℕ) (k : ℤ) → IsInnerNode aim p bases (points_of nodes) (region_of p path) j k → branches nodes ≡ boxes → IsSpentTree p bases boxes
  spent j k inner e = record {
    aim = aim;
    turns = turns;
    nodes = nodes ++ Branch j k ∷ [];
    open_paths = after (Branch j k) path rest;
    earned = branched j k inner;
    count = (let a = branches-append nodes (Branch j k ∷ []) in omega (arith, a, e));
  }

pub inner_best : (p : Program) (bases : ℕ) (points : List (List ℚ)) (o : Option (List ℚ)) (path : List Turn) (x : List ℚ) (v : ℚ) (y : List ℚ) (j : ℕ) (k : ℤ) → IsIncumbent p points o
    → (IsCrossedRegion (region_of p path) → ⊥) → IsBest p (region_of p path) bases x v y → IsBelowIncumbent p v o → IsBranch p x j k → IsInnerNode ForBest p bases points (region_of p path) j k
inner_best p bases points o path x v y j k best uncrossed h less branch = record {
  uncrossed = uncrossed;
  point = x;
  carried = (y, at_value p (region_of p path) bases x v y h);
  branch = branch;
  below = subst (IsBelowKept p points) h.value (below_points p points o v best less);
}

-- a search for a point has no points of leaves
pub no_points : (p : Program) (bases boxes : ℕ) (turns : List Turn) (nodes : List Node) (waiting : List (List Turn)) → IsEarned ForPoint p bases turns nodes waiting → points_of nodes ≡ []
no_points p bases boxes turns nodes waiting e = by [] (turns ∷ []) nodes e.taken
  where
    by : (points : List (List ℚ)) (from : List (List Turn)) (ns : List Node) → AreTaken ForPoint p bases points from ns waiting → points_of ns ≡ []
    by points from [] t = refl
    by points [] (n ∷ ns) t = absurd t
    by points (w ∷ ws) (Branch j k ∷ ns) t = by points (after (Branch j k) w ws) ns t.1
    by points (w ∷ ws) (Bound x y ∷ ns) t = absurd t.0
    by points (w ∷ ws) (Farkas y ∷ ns) t = by points ws ns t.1
    by points (w ∷ ws) (Cross j ∷ ns) t = by points ws ns t.1

pub inner_point : (p : Program) (bases boxes : ℕ) (turns : List Turn) (nodes : List Node) (waiting : List (List Turn)) (path : List Turn) (x : List ℚ) (j : ℕ) (k : ℤ)
    → IsEarned ForPoint p bases turns nodes waiting → (IsCrossedRegion (region_of p path) → ⊥) → IsFound p (region_of p path) bases x → IsBranch p x j k
    → IsInnerNode ForPoint p bases (points_of nodes) (region_of p path) j k
inner_point p bases boxes turns nodes waiting path x j k e uncrossed found branch = record {
  uncrossed = uncrossed;
  point = x;
  carried = found;
  branch = branch;
  below = subst (λ (xs : List (List ℚ)). IsBelowKept p xs (value p x)) (sym (no_points p bases boxes turns nodes waiting e))
      (λ w kept. nothing_in w kept.among);
}

module _ (p : Program) (bases boxes : ℕ) (turns : List Turn) (nodes : List Node) (path : List Turn) (rest : List (List Turn)) where
  module _ (o : Option (List ℚ)) (h : IsSearching ForBest p bases boxes turns nodes (path ∷ rest) o) (x : List ℚ) (v : ℚ) (y : List ℚ) where
    bound_count : branches (nodes ++ Bound x y ∷ []) ≤ boxes
    bound_count = let a = branches-append nodes (Bound x y ∷ []) in let b = h.count in omega (arith, a, b)

    pub close_better : (IsCrossedRegion (region_of p path) → ⊥) → IsBest p (region_of p path) bases x v y → IsBelowIncumbent p v o → AreWholeOn (marks p) x
        → IsSearching ForBest p bases boxes turns (nodes ++ Bound x y ∷ []) rest (Some x)
    close_better uncrossed b less w = record {
      earned = earned_last ForBest p bases turns nodes path rest (Bound x y) h.earned (record { uncrossed = uncrossed; best = at_value p (region_of p path) bases x v y b; closed = inl w });
      count = bound_count;
      best = subst (λ (xs : List (List ℚ)). IsIncumbent p xs (Some x)) (sym (points_last nodes (Bound x y)))
          (better p (points_of nodes) x w (subst (IsBelowKept p (points_of nodes)) b.value (below_points p (points_of nodes) o v h.best less)));
    }

  pub close_not_below : (i x : List ℚ) (v : ℚ) (y : List ℚ) → IsSearching ForBest p bases boxes turns nodes (path ∷ rest) (Some i) → (IsCrossedRegion (region_of p path) → ⊥)
      → IsBest p (region_of p path) bases x v y → value p i ≤ℚ v → IsSearching ForBest p bases boxes turns (nodes ++ Bound x y ∷ []) rest (Some i)
  close_not_below i x v y h uncrossed b l =
      let n : IsNotBelowKept p (points_of nodes) (value p x) = subst (IsNotBelowKept p (points_of nodes)) b.value (not_below p (points_of nodes) i v h.best l) in
      record {
        earned = earned_last ForBest p bases turns nodes path rest (Bound x y) h.earned (record { uncrossed = uncrossed; best = at_value p (region_of p path) bases x v y b; closed = inr n });
        count = bound_count (Some i) h x v y;
        best = subst (λ (xs : List (List ℚ)). IsIncumbent p xs (Some i)) (sym (points_last nodes (Bound x y))) (stays p (points_of nodes) (Some i) x h.best (inr n));
      }
