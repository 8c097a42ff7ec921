-- Earned trees are good, and their points are points of the program.
use Rattle.std.specs.Prelude.{◌≡◌, ℕ, ℤ, List, [], ◌∷◌, ◌++◌, map, length, Contains, Option, Some, None}
use Rattle.std.proofs.Common.{sym, ◌∙◌, subst, inl, inr, append_assoc, append-nil}
use Rattle.std.proofs.lemmas.List.{length-map}
use Rattle.std.proofs.lemmas.List.Elements.{Contains-append_left, Contains-append_right, Contains-push, Contains-push_cases}
use Rattle.rational.specs.Rational.{ℚ}
use Rattle.rational.specs.Order.{◌≤ℚ◌}
use Rattle.rational.specs.Vectors.{IsSemidefinite}
use Rattle.rational.proofs.OrderLaws.{le_trans}
use Rattle.program_law.specs.Region.{Region, left_of, right_of}
use Rattle.program_law.specs.Program.{Program, IsProgram, bounds}
use Rattle.program_law.specs.Columns.{IsRelaxedPoint, value}
use Rattle.certificate_law.specs.declared.Node.{Node}
use Rattle.certificate_law.specs.declared.Node.TheVariants.{Branch, Bound, Farkas, Cross}
use Rattle.certificate_law.specs.Leaf.{IsGoodBound}
use Rattle.certificate_law.specs.Tree.{IsGoodFor, AreGood}
use Rattle.quad_solve_law.proofs.RegionAnswers.{empty_is_good, best_is_good, best_is_point}
use Rattle.branching_law.specs.declared.Turn.{Turn}
use Rattle.branching_law.specs.Paths.{region_of, below, above}
use Rattle.branching_law.specs.Nodes.{Search, ForBest, ForPoint, IsKept, IsBoundLeaf}
use Rattle.branching_law.specs.Search.{after, AreTaken, points_of}
use Rattle.branching_law.proofs.PathRegions.{behind_last, length-behind, inside}

-- no point that keeps the marks has a value below v; without a v, none keeps them
abbrev pub Reaches : Program → Option ℚ → List (List ℚ) → Type 0
Reaches p None points = (x : List ℚ) → ¬ (IsKept p points x)
Reaches p (Some v) points = (x : List ℚ) → IsKept p points x → v ≤ℚ value p x

pub first_of : {A : Type 0} (x : A) (xs : List A) → Contains (x ∷ xs) x
first_of x xs = Contains-append_left (x ∷ []) xs x (Contains-push [] x)

pub wide : (p : Program) (path : List Turn) → length (region_of p path) ≡ length p.columns
wide p path = length-behind (bounds p) path ∙ length-map p.columns _

module _ (p : Program) (is : IsProgram p) (convex : IsSemidefinite (length p.columns) p.pairs) (bases : ℕ) where
  leaf : (v : Option ℚ) (points : List (List ℚ)) (path : List Turn) (x y : List ℚ) (later : List (List ℚ)) → IsBoundLeaf p bases points (region_of p path) x y → Reaches p v (points ++ x ∷ later)
      → IsGoodFor p v (region_of p path) x y
  leaf None points path x y later c least =
      elim c.closed [
        | inl w ↦ least x (record { among = Contains-append_right points (x ∷ later) x (first_of x later); whole = w })
        | inr k ↦ least k.0 (record { among = Contains-append_left points (x ∷ later) k.0 k.1.among; whole = k.1.whole })
      ]
  leaf (Some v) points path x y later c least =
      let good : IsGoodBound p (value p x) (region_of p path) x y = best_is_good p (region_of p path) is (wide p path) convex bases x (value p x) y c.best c.uncrossed in
      let enough : v ≤ℚ value p x =
      elim c.closed [
        | inl w ↦ least x (record { among = Contains-append_right points (x ∷ later) x (first_of x later); whole = w })
        | inr k ↦ le_trans (least k.0 (record { among = Contains-append_left points (x ∷ later) k.0 k.1.among; whole = k.1.whole })) k.2
      ] in
      record { has_sides = good.has_sides; enough = le_trans enough good.enough }

  branched : (v : Option ℚ) (path : List Turn) (j : ℕ) (k : ℤ) (waiting : List (List Turn)) (ns : List Node)
      → AreGood p v (map (region_of p) (after (Branch j k) path waiting)) ns
      → AreGood p v (left_of (region_of p path) j k ∷ right_of (region_of p path) j k ∷ map (region_of p) waiting) ns
  branched v path j k waiting ns good =
      subst (λ (r : Region). AreGood p v (left_of (region_of p path) j k ∷ r ∷ map (region_of p) waiting) ns) (behind_last (bounds p) path (above j k))
      (subst (λ (r : Region). AreGood p v (r ∷ region_of p (path ++ above j k ∷ []) ∷ map (region_of p) waiting) ns) (behind_last (bounds p) path (below j k)) good)

  pub good_nodes : (aim : Search) (v : Option ℚ) (points : List (List ℚ)) (waiting : List (List Turn)) (nodes : List Node) → AreTaken aim p bases points waiting nodes []
      → Reaches p v (points ++ points_of nodes) → AreGood p v (map (region_of p) waiting) nodes
  good_nodes aim v points waiting [] taken least = subst (λ (w : List (List Turn)). AreGood p v (map (region_of p) w) []) (sym taken) tt
  good_nodes aim v points [] (n ∷ ns) taken least = absurd taken
  good_nodes aim v points (path ∷ waiting) (Branch j k ∷ ns) taken least =
      (taken.0.branch.first.holds.marked, branched v path j k waiting ns (good_nodes aim v points (after (Branch j k) path waiting) ns taken.1 least))
  good_nodes ForBest v points (path ∷ waiting) (Bound x y ∷ ns) taken least = (
    leaf v points path x y (points_of ns) taken.0 least,
    good_nodes ForBest v (points ++ x ∷ []) waiting ns taken.1 (subst (Reaches p v) (sym (append_assoc points (x ∷ []) (points_of ns))) least),
  )
  good_nodes ForPoint v points (path ∷ waiting) (Bound x y ∷ ns) taken least = absurd taken.0
  good_nodes aim v points (path ∷ waiting) (Farkas y ∷ ns) taken least =
      (empty_is_good p (region_of p path) is (wide p path) bases y taken.0.uncrossed taken.0.empty, good_nodes aim v points waiting ns taken.1 least)
  good_nodes aim v points (path ∷ waiting) (Cross j ∷ ns) taken least = (taken.0.holds, good_nodes aim v points waiting ns taken.1 least)

  -- ---- points

  pub in_bounds : (path : List Turn) (x : List ℚ) → IsRelaxedPoint p (region_of p path) x → IsRelaxedPoint p (bounds p) x
  in_bounds path x h = record { rows = h.rows; columns = inside (bounds p) path x h.columns }

  pub all_points : (aim : Search) (points : List (List ℚ)) (waiting left : List (List Turn)) (nodes : List Node) → AreTaken aim p bases points waiting nodes left
      → ((x : List ℚ) → Contains points x → IsRelaxedPoint p (bounds p) x) → (x : List ℚ) → Contains (points ++ points_of nodes) x → IsRelaxedPoint p (bounds p) x
  all_points aim points waiting left [] taken known = subst (λ (xs : List (List ℚ)). (x : List ℚ) → Contains xs x → IsRelaxedPoint p (bounds p) x) (sym (append-nil points)) known
  all_points aim points [] left (n ∷ ns) taken known = absurd taken
  all_points aim points (path ∷ waiting) left (Branch j k ∷ ns) taken known = all_points aim points (after (Branch j k) path waiting) left ns taken.1 known
  all_points ForBest points (path ∷ waiting) left (Bound x y ∷ ns) taken known =
      subst (λ (xs : List (List ℚ)). (x : List ℚ) → Contains xs x → IsRelaxedPoint p (bounds p) x) (append_assoc points (x ∷ []) (points_of ns))
      (all_points ForBest (points ++ x ∷ []) waiting left ns taken.1
      (λ u d. elim (Contains-push_cases points x u d) [
        | inl e ↦ known u e
        | inr e ↦ subst (IsRelaxedPoint p (bounds p)) e (in_bounds path x (best_is_point p (region_of p path) is (wide p path) convex bases x (value p x) y taken.0.best))
      ]))
  all_points ForPoint points (path ∷ waiting) left (Bound x y ∷ ns) taken known = absurd taken.0
  all_points aim points (path ∷ waiting) left (Farkas y ∷ ns) taken known = all_points aim points waiting left ns taken.1 known
  all_points aim points (path ∷ waiting) left (Cross j ∷ ns) taken known = all_points aim points waiting left ns taken.1 known
