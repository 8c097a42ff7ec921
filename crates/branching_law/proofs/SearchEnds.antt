-- A search comes to its end, or to where a budget is used up; with budgets that are large enough it comes to its end.
use Rattle.std.specs.Prelude.{◌≡◌, ◌⊎◌, ℕ, zero, suc, ◌+◌, ◌≤◌, ◌^◌, List, [], ◌∷◌, ◌++◌, map, length, Option, Some, None}
use Rattle.std.proofs.Common.{refl, ap, subst, arith, inl, inr, length-append}
use Rattle.std.proofs.lemmas.Bool.{cases_lt}
use Rattle.rational.specs.Rational.{ℚ, neg_ℚ}
use Rattle.rational.specs.Vectors.{IsSemidefinite}
use Rattle.rational.proofs.Order.{le_or_lt}
use Rattle.program_law.specs.declared.Square.{Square}
use Rattle.program_law.specs.Region.{IsCrossedRegion}
use Rattle.program_law.specs.Program.{Program, IsProgram, bounds, marks}
use Rattle.program_law.specs.Columns.{value}
use Rattle.certificate_law.specs.declared.Node.{Node}
use Rattle.certificate_law.specs.declared.Node.TheVariants.{Branch, Bound, Farkas, Cross}
use Rattle.certificate_law.specs.declared.Certificate.{Certificate}
use Rattle.certificate_law.specs.declared.Certificate.TheVariants.{Unbounded}
use Rattle.program_law.specs.Squares.{AreSquaresOf}
use Rattle.linear_basis_law.specs.Basis.{Tableau}
use Rattle.equational_law.specs.Form.{width, form_of, point_of, multipliers_of}
use Rattle.quad_solve_law.specs.Answer.{Answer, Empty, Ray, Best, IsAnswer, IsFound, IsFalling, IsBest}
use Rattle.quad_solve_law.specs.Sites.{RegionSite, AtFeasible, HasNoRay, IsFirstSpent}
use Rattle.quad_solve_law.proofs.FirstSpent.{answer_or_spent, feasible_told}
use Rattle.branching_law.specs.declared.Turn.{Turn}
use Rattle.branching_law.specs.Paths.{region_of}
use Rattle.branching_law.specs.Rounding.{IsMarked, IsRounding, under_rounding}
use Rattle.branching_law.specs.Nodes.{Search, ForBest, ForPoint}
use Rattle.branching_law.specs.Search.{after, AreTaken, IsSpentTree, branches, points_of}
use Rattle.branching_law.specs.Searching.{IsSearching, IsBelowIncumbent}
use Rattle.branching_law.specs.Found.{Convex, decided, IsFoundOf}
use Rattle.branching_law.specs.Reached.{IsAsked, IsReachedPath, IsFirstSpentSite}
use Rattle.branching_law.specs.Wholes.{AreBounded, choices}
use Rattle.branching_law.proofs.Trees.{wide}
use Rattle.branching_law.proofs.Convex.{convex_by_squares}
use Rattle.branching_law.proofs.Choices.{few_leaves}
use Rattle.branching_law.proofs.BelowRoots.{root_uncrossed, some_mark, best_meets_no_ray, best_has_no_ray, no_fall, spent_site_small}
use Rattle.branching_law.proofs.Incumbents.{no_incumbent}
use Rattle.branching_law.proofs.Turning.{close_crossed, close_empty, close_not_below, close_better, go_on, spent, inner_best, inner_point}
use Rattle.branching_law.proofs.Decisions.{first_crossed_or, branch_or, some_marked_or}

pub spent_is_small : (p : Program) (bases boxes : ℕ) → IsProgram p → IsSpentTree p bases boxes
    → ((turns : List Turn) → IsRounding p turns → (IsCrossedRegion (region_of p turns) → ⊥) → AreBounded p (bounds p)) → boxes + 2 ≤ choices (marks p) (bounds p)
spent_is_small p bases boxes is tree bounded =
    let e = tree.count in
    let uncrossed = root_uncrossed tree.aim p bases tree.turns tree.nodes tree.open_paths tree.earned (omega (arith, e)) in
    let l = few_leaves tree.aim p bases tree.turns tree.nodes tree.open_paths is tree.earned uncrossed (bounded tree.turns tree.earned.rounding uncrossed) in
    omega (arith, e, l)

-- how many nodes there are
taken_count : (aim : Search) (p : Program) (bases : ℕ) (points : List (List ℚ)) (waiting left : List (List Turn)) (nodes : List Node) → AreTaken aim p bases points waiting nodes left
    → length nodes + length left ≡ branches nodes + branches nodes + length waiting
taken_count aim p bases points waiting left [] taken = let e : length waiting ≡ length left = ap (λ (w : List (List Turn)). length w) taken in omega (arith, e)
taken_count aim p bases points [] left (n ∷ ns) taken = absurd taken
taken_count aim p bases points (path ∷ waiting) left (Branch j k ∷ ns) taken = let e = taken_count aim p bases points (after (Branch j k) path waiting) left ns taken.1 in omega (arith, e)
taken_count aim p bases points (path ∷ waiting) left (Bound x y ∷ ns) taken = let e = taken_count aim p bases (points ++ x ∷ []) waiting left ns taken.1 in omega (arith, e)
taken_count aim p bases points (path ∷ waiting) left (Farkas y ∷ ns) taken = let e = taken_count aim p bases points waiting left ns taken.1 in omega (arith, e)
taken_count aim p bases points (path ∷ waiting) left (Cross j ∷ ns) taken = let e = taken_count aim p bases points waiting left ns taken.1 in omega (arith, e)

feasible_is_asked : (nodes : List Node) (b : Tableau) → IsAsked ForPoint nodes (AtFeasible b)
feasible_is_asked [] b = tt
feasible_is_asked (n ∷ ns) b = tt

abbrev IsLarge : Program → ℕ → Type 0
IsLarge p bases =
    (path : List Turn) → IsReachedPath p bases path → (IsCrossedRegion (region_of p path) → ⊥)
    → 2 ^ (width p (region_of p path) + width p (region_of p path) + length (form_of p (region_of p path)).matrix + 1) ≤ bases

abbrev HasRoom : Program → ℕ → Type 0
HasRoom p boxes =
    (turns : List Turn) → IsRounding p turns → (IsCrossedRegion (region_of p turns) → ⊥) → IsMarked p → AreBounded p (bounds p) × (choices (marks p) (bounds p) ≤ boxes)

pub never_used_up : (p : Program) (bases boxes : ℕ) → IsProgram p → IsSpentTree p bases boxes → HasRoom p boxes → ⊥
never_used_up p bases boxes is tree room =
    let e = tree.count in
    let some : 1 ≤ branches tree.nodes = omega (arith, e) in
    let uncrossed = root_uncrossed tree.aim p bases tree.turns tree.nodes tree.open_paths tree.earned some in
    let r = room tree.turns tree.earned.rounding uncrossed (some_mark tree.aim p bases [] (tree.turns ∷ []) tree.open_paths tree.nodes tree.earned.taken some) in
    let l = few_leaves tree.aim p bases tree.turns tree.nodes tree.open_paths is tree.earned uncrossed r.0 in
    let m = r.1 in
    omega (arith, e, l, m)

module _ (p : Program) (squares : List Square) (bases boxes : ℕ) (is : IsProgram p) (sum : AreSquaresOf p.pairs squares) (turns : List Turn) (rounding : IsRounding p turns) where
  convex : IsSemidefinite (length p.columns) p.pairs
  convex = convex_by_squares p squares is sum

  abbrev pub Found : Type 0
  Found = (c : Certificate) × IsFoundOf p (Convex squares) bases boxes c

  -- a certificate, or a site at which the budget of strict steps is used up first, or a tree with a branch too many
  abbrev pub Ends : Type 0
  Ends = Found ⊎ ((path : List Turn) × (site : RegionSite) × IsFirstSpentSite p bases boxes path site) ⊎ IsSpentTree p bases boxes

  abbrev Going : Search → List Node → List (List Turn) → Option (List ℚ) → Type 0
  Going aim nodes waiting o = IsSearching aim p bases boxes turns nodes waiting o

  stops_at : (aim : Search) (nodes : List Node) (path : List Turn) (rest : List (List Turn)) (o : Option (List ℚ)) → Going aim nodes (path ∷ rest) o → (IsCrossedRegion (region_of p path) → ⊥)
      → (site : RegionSite) → IsAsked aim nodes site → IsFirstSpent p (region_of p path) bases site → Ends
  stops_at aim nodes path rest o h uncrossed site asked first =
      inr (inl (
        path,
        site,
        record {
          reached = record {
            comes = record { aim = aim; turns = turns; nodes = nodes; open_paths = rest; earned = h.earned };
            uncrossed = uncrossed;
            asked = asked;
            reached = first.reached;
          };
          first = first;
          few = h.count;
        },
      ))

  over : (aim : Search) (nodes : List Node) (path : List Turn) (rest : List (List Turn)) (o : Option (List ℚ)) → Going aim nodes (path ∷ rest) o → length nodes ≡ boxes + boxes + 2 → ⊥
  over aim nodes path rest o h e =
      let a = taken_count aim p bases [] (turns ∷ []) (path ∷ rest) nodes h.earned.taken in
      let b = h.count in
      omega (arith, a, b, e)

  ended : (aim : Search) (nodes : List Node) (o : Option (List ℚ)) → Going aim nodes [] o → Ends
  ended aim nodes o h =
      inl (
        decided p squares o (under_rounding turns nodes),
        inr (inr (record { aim = aim; turns = turns; nodes = nodes; earned = h.earned; count = h.count; incumbent = o; best = h.best; certificate = refl })),
      )

  -- ---- a search for the best

  -- the search ends here, or takes a node
  abbrev Next : Search → List Node → Type 0
  Next aim nodes = Ends ⊎ ((n : Node) × (waiting : List (List Turn)) × (o : Option (List ℚ)) × Going aim (nodes ++ n ∷ []) waiting o)

  module _ (nodes : List Node) (path : List Turn) (rest : List (List Turn)) where
    better_step : (o : Option (List ℚ)) → Going ForBest nodes (path ∷ rest) o → (IsCrossedRegion (region_of p path) → ⊥) → (x : List ℚ) (v : ℚ) (y : List ℚ) → IsBest p (region_of p path) bases x v y
        → IsBelowIncumbent p v o → Next ForBest nodes
    better_step o h uncrossed x v y b less =
        elim (branch_or p x) [
          | inl branch ↦
              let inner = inner_best p bases (points_of nodes) o path x v y branch.0 branch.1 h.best uncrossed b less branch.2 in
              elim (cases_lt (branches nodes) boxes) [
                | inl few ↦ inr (Branch branch.0 branch.1, after (Branch branch.0 branch.1) path rest, o, go_on ForBest p bases boxes turns nodes path rest o h branch.0 branch.1 inner few)
                | inr many ↦ inl (inr (inr (spent ForBest p bases boxes turns nodes path rest o h branch.0 branch.1 inner (let c = h.count in omega (arith, many, c)))))
              ]
          | inr whole ↦ inr (Bound x y, rest, Some x, close_better p bases boxes turns nodes path rest o h x v y uncrossed b less whole)
        ]

    value_step : (o : Option (List ℚ)) → Going ForBest nodes (path ∷ rest) o → (IsCrossedRegion (region_of p path) → ⊥) → (x : List ℚ) (v : ℚ) (y : List ℚ) → IsBest p (region_of p path) bases x v y → Next ForBest nodes
    value_step None h uncrossed x v y b = better_step None h uncrossed x v y b tt
    value_step (Some i) h uncrossed x v y b =
        elim (le_or_lt (value p i) v) [
          | inl l ↦ inr (Bound x y, rest, Some i, close_not_below p bases boxes turns nodes path rest i x v y h uncrossed b l)
          | inr less ↦ better_step (Some i) h uncrossed x v y b less
        ]

    best_step : (o : Option (List ℚ)) → Going ForBest nodes (path ∷ rest) o → HasNoRay (form_of p (region_of p path)) → Next ForBest nodes
    best_step o h none =
        elim (first_crossed_or (region_of p path)) [
          | inl c ↦ inr (Cross c.0, rest, o, close_crossed ForBest p bases boxes turns nodes path rest o h c.0 c.1)
          | inr uncrossed ↦ elim (answer_or_spent p (region_of p path) is (wide p path) convex bases) [
            | inl a ↦ by uncrossed a.0 a.1
            | inr s ↦ inl (stops_at ForBest nodes path rest o h uncrossed s.0 tt s.1)
          ]
        ]
      where
        by : (IsCrossedRegion (region_of p path) → ⊥) → (a : Answer) → IsAnswer p (region_of p path) bases a → Next ForBest nodes
        by uncrossed (Empty y) e = inr (Farkas y, rest, o, close_empty ForBest p bases boxes turns nodes path rest o h y uncrossed e)
        by uncrossed (Ray x d) r = absurd (no_fall p is bases path x d none r)
        by uncrossed (Best x v y) b = value_step o h uncrossed x v y b

  longer : (fuel : ℕ) (n m : Node) (ns : List Node) → suc fuel + length (n ∷ ns) ≡ boxes + boxes + 2 → fuel + length (n ∷ (ns ++ m ∷ [])) ≡ boxes + boxes + 2
  longer fuel n m ns e = let l = length-append ns (m ∷ []) in omega (arith, e, l)

  run_best : (fuel : ℕ) (n : Node) (ns : List Node) (waiting : List (List Turn)) (o : Option (List ℚ)) → Going ForBest (n ∷ ns) waiting o → fuel + length (n ∷ ns) ≡ boxes + boxes + 2 → Ends
  run_best fuel n ns [] o h e = ended ForBest (n ∷ ns) o h
  run_best zero n ns (path ∷ rest) o h e = absurd (over ForBest (n ∷ ns) path rest o h (omega (arith, e)))
  run_best (suc fuel) n ns (path ∷ rest) o h e =
      elim (best_step (n ∷ ns) path rest o h (best_meets_no_ray p is bases turns path rest n ns h.earned)) [
        | inl done ↦ done
        | inr s ↦ run_best fuel n (ns ++ s.0 ∷ []) s.1 s.2 s.3 (longer fuel n s.0 ns e)
      ]

  -- ---- a search for a point

  module _ (start d : List ℚ) (falling : IsFalling p (region_of p turns) bases start d) where
    module _ (nodes : List Node) (path : List Turn) (rest : List (List Turn)) (o : Option (List ℚ)) (h : Going ForPoint nodes (path ∷ rest) o) where
      found_step : (IsCrossedRegion (region_of p path) → ⊥) → (x : List ℚ) → IsFound p (region_of p path) bases x → Next ForPoint nodes
      found_step uncrossed x found =
          elim (branch_or p x) [
            | inl branch ↦
                let inner = inner_point p bases boxes turns nodes (path ∷ rest) path x branch.0 branch.1 h.earned uncrossed found branch.2 in
                elim (cases_lt (branches nodes) boxes) [
                  | inl few ↦ inr (Branch branch.0 branch.1, after (Branch branch.0 branch.1) path rest, o, go_on ForPoint p bases boxes turns nodes path rest o h branch.0 branch.1 inner few)
                  | inr many ↦ inl (inr (inr (spent ForPoint p bases boxes turns nodes path rest o h branch.0 branch.1 inner (let c = h.count in omega (arith, many, c)))))
                ]
            | inr whole ↦ inl (inl (
              Unbounded x d squares,
              inr (inl (record {
                turns = turns;
                nodes = nodes;
                path = path;
                open_paths = rest;
                earned = h.earned;
                count = h.count;
                uncrossed = uncrossed;
                point = x;
                found = found;
                whole = whole;
                start = start;
                ray = d;
                falling = falling;
                certificate = refl;
              })),
            ))
          ]

      point_step : Next ForPoint nodes
      point_step =
          elim (first_crossed_or (region_of p path)) [
            | inl c ↦ inr (Cross c.0, rest, o, close_crossed ForPoint p bases boxes turns nodes path rest o h c.0 c.1)
            | inr uncrossed ↦ elim (feasible_told p (region_of p path) is (wide p path) convex bases) [
              | inr s ↦ inl (stops_at ForPoint nodes path rest o h uncrossed (AtFeasible s.0) (feasible_is_asked nodes s.0) s.1)
              | inl d ↦ elim d [
                | inl s ↦ found_step uncrossed (point_of (region_of p path) s.0) (record { solution = s.0; solved = s.1; point = refl })
                | inr r ↦
                    let y = multipliers_of p (region_of p path) (map neg_ℚ r.0) in
                    inr (Farkas y, rest, o, close_empty ForPoint p bases boxes turns nodes path rest o h y uncrossed (record { farkas = r.0; refuted = r.1; multipliers = refl }))
              ]
            ]
          ]

    run_point : (fuel : ℕ) (nodes : List Node) (waiting : List (List Turn)) (o : Option (List ℚ)) → Going ForPoint nodes waiting o → fuel + length nodes ≡ boxes + boxes + 2 → Ends
    run_point fuel nodes [] o h e = ended ForPoint nodes o h
    run_point zero nodes (path ∷ rest) o h e = absurd (over ForPoint nodes path rest o h (omega (arith, e)))
    run_point (suc fuel) nodes (path ∷ rest) o h e =
        elim (point_step nodes path rest o h) [
          | inl done ↦ done
          | inr s ↦ run_point fuel (nodes ++ s.0 ∷ []) s.1 s.2 s.3 (let l = length-append nodes (s.0 ∷ []) in omega (arith, e, l))
        ]

  -- ---- the root

  best_start : Going ForBest [] (turns ∷ []) None
  best_start = record { earned = record { convex = convex; rounding = rounding; root = tt; taken = refl }; count = omega arith; best = no_incumbent p }

  first_count : (n : Node) → boxes + boxes + 1 + length (n ∷ []) ≡ boxes + boxes + 2
  first_count n = omega arith

  not_rounded : (more : List Turn) → IsRounding p more → ¬ (IsMarked p) → more ≡ []
  not_rounded [] r none = refl
  not_rounded (t ∷ more) r none = absurd (none (t.column, r.turns_due.0.first.holds.marked))

  falls : (IsCrossedRegion (region_of p turns) → ⊥) → (x d : List ℚ) → IsFalling p (region_of p turns) bases x d → Ends
  falls uncrossed x d falling =
      elim (some_marked_or p) [
        | inl marked ↦
            run_point x d falling (boxes + boxes + 2) [] (turns ∷ []) None
            (record { earned = record { convex = convex; rounding = rounding; root = (marked, uncrossed, (x, d, falling)); taken = refl }; count = omega arith; best = no_incumbent p })
            (omega arith)
        | inr none ↦
            let e = not_rounded turns rounding none in
            inl (
              Unbounded x d squares,
              inl (record {
                unmarked = none;
                uncrossed = subst (λ (w : List Turn). IsCrossedRegion (region_of p w) → ⊥) e uncrossed;
                point = x;
                ray = d;
                falling = subst (λ (w : List Turn). IsFalling p (region_of p w) bases x d) e falling;
                certificate = refl;
              }),
            )
      ]

  pub some_outcome : Ends
  some_outcome =
      elim (first_crossed_or (region_of p turns)) [
        | inl c ↦ run_best (boxes + boxes + 1) (Cross c.0) [] [] None (close_crossed ForBest p bases boxes turns [] turns [] None best_start c.0 c.1) (first_count (Cross c.0))
        | inr uncrossed ↦ elim (answer_or_spent p (region_of p turns) is (wide p turns) convex bases) [
          | inl a ↦ by uncrossed a.0 a.1
          | inr s ↦ stops_at ForBest [] turns [] None best_start uncrossed s.0 tt s.1
        ]
      ]
    where
      by : (IsCrossedRegion (region_of p turns) → ⊥) → (a : Answer) → IsAnswer p (region_of p turns) bases a → Ends
      by uncrossed (Empty y) e = run_best (boxes + boxes + 1) (Farkas y) [] [] None (close_empty ForBest p bases boxes turns [] turns [] None best_start y uncrossed e) (first_count (Farkas y))
      by uncrossed (Ray x d) f = falls uncrossed x d f
      by uncrossed (Best x v y) b =
          elim (best_step [] turns [] None best_start (best_has_no_ray p is turns bases x v y b)) [
            | inl done ↦ done
            | inr s ↦ run_best (boxes + boxes + 1) s.0 [] s.1 s.2 s.3 (first_count s.0)
          ]

  -- a certificate is found where neither budget is used up
  pub found_unless : ((path : List Turn) (site : RegionSite) → ¬ (IsFirstSpentSite p bases boxes path site)) → ¬ (IsSpentTree p bases boxes) → Found
  found_unless no_site no_tree =
      elim some_outcome [
        | inl c ↦ c
        | inr r ↦ elim r [ inl s ↦ absurd (no_site s.0 s.1 s.2) | inr tree ↦ absurd (no_tree tree) ]
      ]

  pub some_end : IsLarge p bases → HasRoom p boxes → Found
  some_end large room =
      found_unless
      (λ path site s. clash bases _ (spent_site_small p bases path site is (record { reached = s.reached; spent = s.first.spent })) (large path s.reached.comes s.reached.uncrossed))
      (λ tree. never_used_up p bases boxes is tree room)
    where
      clash : (b n : ℕ) → b + 2 ≤ n → n ≤ b → ⊥
      clash b n h k = omega (arith, h, k)
