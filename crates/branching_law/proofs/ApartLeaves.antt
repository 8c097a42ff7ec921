-- The leaves of an earned tree leave disjoint whole values to the marked columns, and each leaves some.
use Rattle.std.specs.Prelude.{◌≡◌, ℕ, zero, suc, ◌<◌, ℤ, pos, ◌+ℤ◌, List, [], ◌∷◌, ◌++◌, length, All, AllPairs, Option, Some, None, IfSome, Bool, true, false}
use Rattle.std.proofs.Common.{refl, sym, ◌∙◌, subst, cond, arith, inl, inr}
use Rattle.std.proofs.lemmas.List.{length-map}
use Rattle.std.proofs.lemmas.List.Elements.{All-nil, All-cons, All-head, All-tail, All-weaker}
use Rattle.std.proofs.lemmas.List.Kept.{AllPairs-cons}
use Rattle.rational.specs.Rational.{ℚ, whole}
use Rattle.rational.specs.Order.{◌≤ℚ◌}
use Rattle.rational.specs.Vectors.{IsSemidefinite}
use Rattle.rational.proofs.OrderLaws.{le_trans, not-le_of_lt}
use Rattle.rational.proofs.Order.{lt_le}
use Rattle.rational.specs.Tests.{is_le}
use Rattle.program_law.proofs.Numbers.{le_tested, lt_tested}
use Rattle.rational.specs.Sums.{entry}
use Rattle.program_law.specs.Region.{Region, smaller, larger, cut_high, cut_low, left_of, right_of, IsCrossedRegion, bounds_at}
use Rattle.program_law.specs.Program.{Program, IsProgram, bounds, marks, is_marked}
use Rattle.program_law.specs.Point.{IsWithin}
use Rattle.program_law.specs.Columns.{IsRelaxedPoint, value}
use Rattle.certificate_law.specs.declared.Node.{Node}
use Rattle.certificate_law.specs.declared.Node.TheVariants.{Branch, Bound, Farkas, Cross}
use Rattle.quad_solve_law.proofs.RegionAnswers.{found_is_point, best_is_point}
use Rattle.branching_law.specs.declared.Turn.{Turn}
use Rattle.branching_law.specs.Paths.{region_of, below, above}
use Rattle.branching_law.specs.Rounding.{IsMarkedAt, IsRounding}
use Rattle.branching_law.specs.Nodes.{Search, ForBest, ForPoint, Carries, IsInnerNode}
use Rattle.branching_law.specs.Search.{after, AreTaken, IsEarned}
use Rattle.branching_law.specs.Wholes.{HoldsWholes, HasWholes, AreApart, leaf_paths}
use Rattle.branching_law.proofs.PathRegions.{behind_last, of_smaller, of_larger}
use Rattle.branching_law.proofs.Floors.{next_whole}
use Rattle.branching_law.proofs.Trees.{wide}
use Rattle.branching_law.proofs.Grids.{AreGrid, IsSplit, grid_at, rounded_grid, left_grid, right_grid, within_at, split_by, pick, pick_within}

-- ---- values behind a cut

of_high_cut : (bs : Region) (j : ℕ) (k : ℚ) (i : ℕ) (x : ℚ) → IsWithin (bounds_at (cut_high bs j k) i) x → IsWithin (bounds_at bs i) x
of_high_cut [] j k i x w = w
of_high_cut (b ∷ bs) zero k zero x w = record { low = w.low; high = of_smaller b.high k x w.high }
of_high_cut (b ∷ bs) zero k (suc i) x w = w
of_high_cut (b ∷ bs) (suc j) k zero x w = w
of_high_cut (b ∷ bs) (suc j) k (suc i) x w = of_high_cut bs j k i x w

of_low_cut : (bs : Region) (j : ℕ) (k : ℚ) (i : ℕ) (x : ℚ) → IsWithin (bounds_at (cut_low bs j k) i) x → IsWithin (bounds_at bs i) x
of_low_cut [] j k i x w = w
of_low_cut (b ∷ bs) zero k zero x w = record { low = of_larger b.low k x w.low; high = w.high }
of_low_cut (b ∷ bs) zero k (suc i) x w = w
of_low_cut (b ∷ bs) (suc j) k zero x w = w
of_low_cut (b ∷ bs) (suc j) k (suc i) x w = of_low_cut bs j k i x w

at_most_cut : (o : Option ℚ) (k x : ℚ) → IfSome (smaller o k) (λ h. x ≤ℚ h) → x ≤ℚ k
at_most_cut None k x w = w
at_most_cut (Some h) k x w = by (is_le h k) refl w
  where
    by : (b : Bool) → is_le h k ≡ b → x ≤ℚ cond b h k → x ≤ℚ k
    by true e w = le_trans w (le_tested h k e)
    by false e w = w

at_least_cut : (o : Option ℚ) (k x : ℚ) → IfSome (larger o k) (λ l. l ≤ℚ x) → k ≤ℚ x
at_least_cut None k x w = w
at_least_cut (Some l) k x w = by (is_le l k) refl w
  where
    by : (b : Bool) → is_le l k ≡ b → cond b k l ≤ℚ x → k ≤ℚ x
    by true e w = w
    by false e w = le_trans (lt_le k l (lt_tested l k e)) w

bad_mark : {P : Type 0} → false ≡ true → P
bad_mark e = absurd (bad e)
  where
    bad : false ≡ true → ⊥
    bad e = cc

-- no number lies in both halves at the branch's column
apart_at : (ms : List Bool) (bs : Region) (j : ℕ) (k : ℤ) (x : ℚ) → length bs ≡ length ms → is_marked ms j ≡ true → IsWithin (bounds_at (left_of bs j k) j) x → IsWithin (bounds_at (right_of bs j k) j) x → ⊥
apart_at [] bs j k x e m l r = bad_mark m
apart_at (b ∷ ms) [] j k x e m l r = absurd (bad (length ms) e)
  where
    bad : (n : ℕ) → 0 ≡ suc n → ⊥
    bad n e = omega arith
apart_at (b ∷ ms) (c ∷ bs) zero k x e m l r =
    not-le_of_lt (next_whole k) (le_trans (at_least_cut c.low (whole (k +ℤ pos 1)) x r.low) (at_most_cut c.high (whole k) x l.high))
apart_at (b ∷ ms) (c ∷ bs) (suc j) k x e m l r = apart_at ms bs j k x (same (length bs) (length ms) e) m l r
  where
    same : (a b : ℕ) → suc a ≡ suc b → a ≡ b
    same a b e = omega arith

module _ (p : Program) where
  marks_long : length (marks p) ≡ length p.columns
  marks_long = length-map p.columns _

  abbrev pub Apart : List Turn → List Turn → Type 0
  Apart a b = AreApart p (region_of p a) (region_of p b)

  abbrev pub Some_in : List Turn → Type 0
  Some_in a = HasWholes p (region_of p a)

  below_is : (path : List Turn) (j : ℕ) (k : ℤ) → region_of p (path ++ below j k ∷ []) ≡ left_of (region_of p path) j k
  below_is path j k = behind_last (bounds p) path (below j k)

  above_is : (path : List Turn) (j : ℕ) (k : ℤ) → region_of p (path ++ above j k ∷ []) ≡ right_of (region_of p path) j k
  above_is path j k = behind_last (bounds p) path (above j k)

  holds_left : (path : List Turn) (j : ℕ) (k : ℤ) (z : ℕ → ℤ) → HoldsWholes p (region_of p (path ++ below j k ∷ [])) z → HoldsWholes p (left_of (region_of p path) j k) z
  holds_left path j k z h = subst (λ (r : Region). HoldsWholes p r z) (below_is path j k) h

  holds_right : (path : List Turn) (j : ℕ) (k : ℤ) (z : ℕ → ℤ) → HoldsWholes p (region_of p (path ++ above j k ∷ [])) z → HoldsWholes p (right_of (region_of p path) j k) z
  holds_right path j k z h = subst (λ (r : Region). HoldsWholes p r z) (above_is path j k) h

  below_in : (path : List Turn) (j : ℕ) (k : ℤ) (z : ℕ → ℤ) → HoldsWholes p (region_of p (path ++ below j k ∷ [])) z → HoldsWholes p (region_of p path) z
  below_in path j k z h = λ i m. of_high_cut (region_of p path) j (whole k) i (whole (z i)) (holds_left path j k z h i m)

  above_in : (path : List Turn) (j : ℕ) (k : ℤ) (z : ℕ → ℤ) → HoldsWholes p (region_of p (path ++ above j k ∷ [])) z → HoldsWholes p (region_of p path) z
  above_in path j k z h = λ i m. of_low_cut (region_of p path) j (whole (k +ℤ pos 1)) i (whole (z i)) (holds_right path j k z h i m)

  halves_apart : (path : List Turn) (j : ℕ) (k : ℤ) → IsMarkedAt p j → Apart (path ++ below j k ∷ []) (path ++ above j k ∷ [])
  halves_apart path j k m z h g =
      apart_at (marks p) (region_of p path) j k (whole (z j)) (wide p path ∙ sym marks_long) m (holds_left path j k z h j m) (holds_right path j k z g j m)

  module _ (aim : Search) (bases : ℕ) where
    -- ---- disjoint

    apart_from_leaves : (a : List Turn) (points : List (List ℚ)) (waiting left : List (List Turn)) (nodes : List Node) → AreTaken aim p bases points waiting nodes left
        → All (Apart a) waiting → All (Apart a) (leaf_paths waiting nodes)
    apart_from_leaves a points waiting left [] taken h = h
    apart_from_leaves a points [] left (n ∷ ns) taken h = absurd taken
    apart_from_leaves a points (path ∷ waiting) left (Branch j k ∷ ns) taken h =
        let one = All-head (Apart a) path waiting h in
        apart_from_leaves a points (after (Branch j k) path waiting) left ns taken.1
        (All-cons (Apart a) (path ++ below j k ∷ []) ((path ++ above j k ∷ []) ∷ waiting) (λ z u v. one z u (below_in path j k z v))
        (All-cons (Apart a) (path ++ above j k ∷ []) waiting (λ z u v. one z u (above_in path j k z v)) (All-tail (Apart a) path waiting h)))
    apart_from_leaves a points (path ∷ waiting) left (Bound x y ∷ ns) taken h =
        All-cons (Apart a) path (leaf_paths waiting ns) (All-head (Apart a) path waiting h) (apart_from_leaves a (points ++ x ∷ []) waiting left ns taken.1 (All-tail (Apart a) path waiting h))
    apart_from_leaves a points (path ∷ waiting) left (Farkas y ∷ ns) taken h =
        All-cons (Apart a) path (leaf_paths waiting ns) (All-head (Apart a) path waiting h) (apart_from_leaves a points waiting left ns taken.1 (All-tail (Apart a) path waiting h))
    apart_from_leaves a points (path ∷ waiting) left (Cross j ∷ ns) taken h =
        All-cons (Apart a) path (leaf_paths waiting ns) (All-head (Apart a) path waiting h) (apart_from_leaves a points waiting left ns taken.1 (All-tail (Apart a) path waiting h))

    pairs_head : (a : List Turn) (more : List (List Turn)) → AllPairs Apart (a ∷ more) → All (Apart a) more
    pairs_head a more h = λ k d within. h zero (suc k) d (omega arith) (omega arith)

    pairs_tail : (a : List Turn) (more : List (List Turn)) → AllPairs Apart (a ∷ more) → AllPairs Apart more
    pairs_tail a more h = λ i j d lt within. h (suc i) (suc j) d (omega arith) (omega arith)

    pub apart_leaves : (points : List (List ℚ)) (waiting left : List (List Turn)) (nodes : List Node) → AreTaken aim p bases points waiting nodes left
        → AllPairs Apart waiting → AllPairs Apart (leaf_paths waiting nodes)
    apart_leaves points waiting left [] taken h = h
    apart_leaves points [] left (n ∷ ns) taken h = absurd taken
    apart_leaves points (path ∷ waiting) left (Branch j k ∷ ns) taken h =
        let others = pairs_head path waiting h in
        let lower : All (Apart (path ++ below j k ∷ [])) waiting = λ i d within z u v. others i d within z (below_in path j k z u) v in
        let upper : All (Apart (path ++ above j k ∷ [])) waiting = λ i d within z u v. others i d within z (above_in path j k z u) v in
        apart_leaves points (after (Branch j k) path waiting) left ns taken.1
        (AllPairs-cons Apart (path ++ below j k ∷ []) ((path ++ above j k ∷ []) ∷ waiting)
        (All-cons (Apart (path ++ below j k ∷ [])) (path ++ above j k ∷ []) waiting (halves_apart path j k taken.0.branch.first.holds.marked) lower)
        (AllPairs-cons Apart (path ++ above j k ∷ []) waiting upper (pairs_tail path waiting h)))
    apart_leaves points (path ∷ waiting) left (Bound x y ∷ ns) taken h =
        AllPairs-cons Apart path (leaf_paths waiting ns) (apart_from_leaves path (points ++ x ∷ []) waiting left ns taken.1 (pairs_head path waiting h))
        (apart_leaves (points ++ x ∷ []) waiting left ns taken.1 (pairs_tail path waiting h))
    apart_leaves points (path ∷ waiting) left (Farkas y ∷ ns) taken h =
        AllPairs-cons Apart path (leaf_paths waiting ns) (apart_from_leaves path points waiting left ns taken.1 (pairs_head path waiting h))
        (apart_leaves points waiting left ns taken.1 (pairs_tail path waiting h))
    apart_leaves points (path ∷ waiting) left (Cross j ∷ ns) taken h =
        AllPairs-cons Apart path (leaf_paths waiting ns) (apart_from_leaves path points waiting left ns taken.1 (pairs_head path waiting h))
        (apart_leaves points waiting left ns taken.1 (pairs_tail path waiting h))

    pub earned_apart : (turns : List Turn) (nodes : List Node) (left : List (List Turn)) → IsEarned aim p bases turns nodes left → AllPairs Apart (leaf_paths (turns ∷ []) nodes)
    earned_apart turns nodes left earned =
        apart_leaves [] (turns ∷ []) left nodes earned.taken (AllPairs-cons Apart turns [] (All-nil (Apart turns)) (λ i j d lt within. absurd (none j within)))
      where
        none : (j : ℕ) → j < 0 → ⊥
        none j h = omega arith

-- ---- not empty

module _ (p : Program) (is : IsProgram p) (aim : Search) (bases : ℕ) where
  carried_point : IsSemidefinite (length p.columns) p.pairs → (path : List Turn) (x : List ℚ) → Carries aim p (region_of p path) bases x → IsRelaxedPoint p (region_of p path) x
  carried_point convex path x c = by aim c
    where
      by : (a : Search) → Carries a p (region_of p path) bases x → IsRelaxedPoint p (region_of p path) x
      by ForBest c = best_is_point p (region_of p path) is (wide p path) convex bases x (value p x) c.0 c.1
      by ForPoint c = found_is_point p (region_of p path) is (wide p path) bases x c

  pub split_at : IsSemidefinite (length p.columns) p.pairs → (points : List (List ℚ)) (path : List Turn) (j : ℕ) (k : ℤ) → AreGrid (marks p) (region_of p path)
      → IsInnerNode aim p bases points (region_of p path) j k → IsSplit k (bounds_at (region_of p path) j)
  split_at convex points path j k g inner =
      split_by (bounds_at (region_of p path) j) (entry inner.point j) k (grid_at (marks p) (region_of p path) j g inner.branch.first.holds.marked)
      (within_at (region_of p path) inner.point j (carried_point convex path inner.point inner.carried).columns) inner.branch.floor inner.branch.first.holds.fractional

  pub below_grid_of : (path : List Turn) (j : ℕ) (k : ℤ) → AreGrid (marks p) (region_of p path) → IsSplit k (bounds_at (region_of p path) j) → AreGrid (marks p) (region_of p (path ++ below j k ∷ []))
  below_grid_of path j k g s = subst (AreGrid (marks p)) (sym (below_is p path j k)) (left_grid (marks p) (region_of p path) j k g s)

  pub above_grid_of : (path : List Turn) (j : ℕ) (k : ℤ) → AreGrid (marks p) (region_of p path) → IsSplit k (bounds_at (region_of p path) j) → AreGrid (marks p) (region_of p (path ++ above j k ∷ []))
  above_grid_of path j k g s = subst (AreGrid (marks p)) (sym (above_is p path j k)) (right_grid (marks p) (region_of p path) j k g s)

  abbrev Grid : List Turn → Type 0
  Grid path = AreGrid (marks p) (region_of p path)

  pub grid_leaves : IsSemidefinite (length p.columns) p.pairs → (points : List (List ℚ)) (waiting left : List (List Turn)) (nodes : List Node) → AreTaken aim p bases points waiting nodes left
      → All Grid waiting → All Grid (leaf_paths waiting nodes)
  grid_leaves convex points waiting left [] taken h = h
  grid_leaves convex points [] left (n ∷ ns) taken h = absurd taken
  grid_leaves convex points (path ∷ waiting) left (Branch j k ∷ ns) taken h =
      let g = All-head Grid path waiting h in
      let s = split_at convex points path j k g taken.0 in
      grid_leaves convex points (after (Branch j k) path waiting) left ns taken.1
      (All-cons Grid (path ++ below j k ∷ []) ((path ++ above j k ∷ []) ∷ waiting) (below_grid_of path j k g s)
      (All-cons Grid (path ++ above j k ∷ []) waiting (above_grid_of path j k g s) (All-tail Grid path waiting h)))
  grid_leaves convex points (path ∷ waiting) left (Bound x y ∷ ns) taken h =
      All-cons Grid path (leaf_paths waiting ns) (All-head Grid path waiting h) (grid_leaves convex (points ++ x ∷ []) waiting left ns taken.1 (All-tail Grid path waiting h))
  grid_leaves convex points (path ∷ waiting) left (Farkas y ∷ ns) taken h =
      All-cons Grid path (leaf_paths waiting ns) (All-head Grid path waiting h) (grid_leaves convex points waiting left ns taken.1 (All-tail Grid path waiting h))
  grid_leaves convex points (path ∷ waiting) left (Cross j ∷ ns) taken h =
      All-cons Grid path (leaf_paths waiting ns) (All-head Grid path waiting h) (grid_leaves convex points waiting left ns taken.1 (All-tail Grid path waiting h))

  grid_has : (region : Region) → AreGrid (marks p) region → HasWholes p region
  grid_has region g = ((λ j. pick (bounds_at region j).low (bounds_at region j).high), λ j m. pick_within (bounds_at region j) (grid_at (marks p) region j g m))

  pub root_grid : (turns : List Turn) → IsRounding p turns → (IsCrossedRegion (region_of p turns) → ⊥) → AreGrid (marks p) (region_of p turns)
  root_grid turns r uncrossed =
      elim r.ends [
        | inl c ↦ absurd (uncrossed c)
        | inr none ↦ rounded_grid (marks p) (region_of p turns) uncrossed (λ j m.
            ((λ f. none j (record { marked = m; fractional = inl f })), λ f. none j (record { marked = m; fractional = inr f })))
      ]

  pub earned_has : (turns : List Turn) (nodes : List Node) (left : List (List Turn)) → IsEarned aim p bases turns nodes left → (IsCrossedRegion (region_of p turns) → ⊥)
      → All (λ path. HasWholes p (region_of p path)) (leaf_paths (turns ∷ []) nodes)
  earned_has turns nodes left earned uncrossed =
      All-weaker Grid (λ path. HasWholes p (region_of p path)) (λ path g. grid_has (region_of p path) g) (leaf_paths (turns ∷ []) nodes)
      (grid_leaves earned.convex [] (turns ∷ []) left nodes earned.taken (All-cons Grid turns [] (root_grid turns earned.rounding uncrossed) (All-nil Grid)))
