-- What the end of a search says of its certificate.
use Rattle.std.specs.Prelude.{◌≡◌, ℕ, suc, ◌+◌, ◌<◌, ◌≤◌, ◌^◌, List, [], ◌∷◌, ◌++◌, length, Option, Some, None, true, false}
use Rattle.std.specs.List.{AllByRecursion}
use Rattle.std.proofs.Common.{refl, sym, ◌∙◌, ap, ap₂, subst, arith, append-nil, inl, inr}
use Rattle.std.proofs.lemmas.List.{length-map}
use Rattle.rational.specs.Rational.{ℚ}
use Rattle.program_law.specs.declared.Square.{Square}
use Rattle.program_law.specs.Region.{Region, IsCrossedRegion}
use Rattle.program_law.specs.Program.{Program, IsProgram, bounds, most_columns}
use Rattle.program_law.specs.Columns.{AllWithin}
use Rattle.certificate_law.specs.declared.Node.{Node}
use Rattle.certificate_law.specs.declared.Node.TheVariants.{Branch, Bound, Farkas, Cross}
use Rattle.certificate_law.specs.declared.Certificate.{Certificate}
use Rattle.certificate_law.specs.declared.Certificate.TheVariants.{Optimal, Infeasible, Unbounded}
use Rattle.certificate_law.specs.Nodes.{IsOneTree}
use Rattle.certificate_law.specs.Fits.{IsColumnVector, FitsTree}
use Rattle.cert_grammar.specs.Writable.{branch_count, IsWritable}
use Rattle.quad_solve_law.specs.Answer.{IsFound, IsFalling}
use Rattle.branching_law.specs.declared.Turn.{Turn}
use Rattle.branching_law.specs.Paths.{region_of}
use Rattle.branching_law.specs.Rounding.{IsMarked, IsRounding, under_rounding}
use Rattle.branching_law.specs.Nodes.{Search, ForBest, ForPoint}
use Rattle.branching_law.specs.Search.{IsEarned, branches, most_boxes, points_of}
use Rattle.branching_law.specs.Searching.{IsSearching}
use Rattle.branching_law.specs.Sizes.{HasNumber, IsBranchNumber}
use Rattle.branching_law.specs.Found.{Convex, decided, IsFoundOf}
use Rattle.branching_law.proofs.Incumbents.{first_is_kept, no_incumbent}
use Rattle.branching_law.proofs.FoundCertificates.{earned_points, earned_is_one_tree}
use Rattle.branching_law.proofs.NodeSizes.{node_sizes, rounding_sizes, rounding_numbers, both_fit, one_tree_count, earned_no_bound}
use Rattle.branching_law.proofs.RoundedTrees.{branches-under_rounding}
use Rattle.branching_law.proofs.RoundingTurns.{rounding_is_one, rounding_is_short}
use Rattle.branching_law.proofs.Convex.{convex_by_squares}
use Rattle.search_steps.specs.declared.trails.Trail.{Trail}
use Rattle.search_steps.specs.declared.progress.Incumbent.{Incumbent}
use Rattle.search_steps.specs.declared.progress.Progress.{Progress}
use Rattle.search_steps.specs.Incumbents.{point_of, HasValue}
use Rattle.search_steps.specs.Trails.{path_of, waiting_of, paths_left, IsTrail}
use Rattle.search_steps.specs.Trees.{nodes_before, nodes_behind}
use Rattle.search_steps.specs.Progressing.{IsOnWay, IsRoot}
use Rattle.branching.specs.Reaching.{IsEndedBy, IsPathOf}
use Rattle.branching.specs.Decided.{AreSquaresFor}
use Rattle.search_steps.proofs.Ways.{root_path, root_waiting}
use Rattle.search_steps.proofs.Around.{around}

-- ---- the beginning

best_begins : (p : Program) (squares : List Square) (bases boxes : ℕ) (root : Trail) → IsProgram p → AreSquaresFor p squares → IsRoot p root
    → IsSearching ForBest p bases boxes root.turns [] (root.turns ∷ []) None
best_begins p squares bases boxes root is sum h = record {
  earned = record { convex = convex_by_squares p squares is sum.sum; rounding = h.rounding; root = tt; taken = refl };
  count = omega arith;
  best = no_incumbent p;
}

point_begins : (p : Program) (squares : List Square) (bases boxes : ℕ) (root : Trail) (x d : List ℚ) → IsProgram p → AreSquaresFor p squares → IsRoot p root → IsMarked p
    → (IsCrossedRegion (region_of p root.turns) → ⊥) → IsFalling p (region_of p root.turns) bases x d → IsSearching ForPoint p bases boxes root.turns [] (root.turns ∷ []) None
point_begins p squares bases boxes root x d is sum h marked uncrossed falling = record {
  earned = record { convex = convex_by_squares p squares is sum.sum; rounding = h.rounding; root = (marked, uncrossed, (x, d, falling)); taken = refl };
  count = omega arith;
  best = no_incumbent p;
}

root_region : (p : Program) (root : Trail) → IsRoot p root → root.walk.region ≡ region_of p root.turns
root_region p root h = h.trail.region ∙ ap (region_of p) (root_path root h.first)

root_left : (root : Trail) → root.walk.before ≡ [] → paths_left true root ≡ root.turns ∷ []
root_left root none = ap₂ (λ (w : List Turn) (ws : List (List Turn)). w ∷ ws) (root_path root none) (root_waiting root none)

starts : (aim : Search) (p : Program) (bases boxes : ℕ) (root : Trail) (progress : Progress) → IsRoot p root → progress.nodes ≡ nodes_before root.turns → progress.trail ≡ root
    → progress.branches ≡ 0 → progress.incumbent ≡ None → IsSearching aim p bases boxes root.turns [] (root.turns ∷ []) None → IsOnWay aim p bases boxes true progress
starts aim p bases boxes root progress h nodes trail none no_one searching = record {
  nodes = [];
  put = nodes ∙ sym (ap (λ (t : Trail). nodes_before t.turns) trail) ∙ sym (append-nil (nodes_before progress.trail.turns));
  searching = subst (λ (t : Trail). IsSearching aim p bases boxes t.turns [] (paths_left true t) (point_of progress.incumbent)) (sym trail)
      (subst (λ (o : Option Incumbent). IsSearching aim p bases boxes root.turns [] (paths_left true root) (point_of o)) (sym no_one)
      (subst (λ (ws : List (List Turn)). IsSearching aim p bases boxes root.turns [] ws None) (sym (root_left root h.first)) searching));
  trail = λ _. subst (IsTrail p) (sym trail) h.trail;
  count = none;
  value = subst (HasValue p) (sym no_one) tt;
  numbers = tt;
  rounding_numbers = subst (λ (t : Trail). AllByRecursion (λ (t : Turn). IsBranchNumber t.k) t.turns) (sym trail) h.numbers;
}

pub best_starts : (p : Program) (squares : List Square) (bases boxes : ℕ) (root : Trail) (progress : Progress) → IsProgram p → AreSquaresFor p squares → IsRoot p root
    → progress.nodes ≡ nodes_before root.turns → progress.trail ≡ root → progress.branches ≡ 0 → progress.incumbent ≡ None → IsOnWay ForBest p bases boxes true progress
best_starts p squares bases boxes root progress is sum h nodes trail none no_one =
    starts ForBest p bases boxes root progress h nodes trail none no_one (best_begins p squares bases boxes root is sum h)

pub point_starts : (p : Program) (squares : List Square) (bases boxes : ℕ) (root : Trail) (progress : Progress) (x d : List ℚ) → IsProgram p → AreSquaresFor p squares → IsRoot p root → IsMarked p
    → (IsCrossedRegion root.walk.region → ⊥) → IsFalling p root.walk.region bases x d
    → progress.nodes ≡ nodes_before root.turns → progress.trail ≡ root → progress.branches ≡ 0 → progress.incumbent ≡ None → IsOnWay ForPoint p bases boxes true progress
point_starts p squares bases boxes root progress x d is sum h marked uncrossed falling nodes trail none no_one =
    starts ForPoint p bases boxes root progress h nodes trail none no_one
    (point_begins p squares bases boxes root x d is sum h marked (subst (λ (r : Region). IsCrossedRegion r → ⊥) (root_region p root h) uncrossed)
    (subst (λ (r : Region). IsFalling p r bases x d) (root_region p root h) falling))

pub root_for_best : (p : Program) (squares : List Square) (bases boxes : ℕ) (root : Trail) → IsProgram p → AreSquaresFor p squares → IsRoot p root → IsPathOf ForBest p bases boxes (path_of root)
root_for_best p squares bases boxes root is sum h = record {
  turns = root.turns;
  nodes = [];
  waiting = [];
  earned = subst (λ (w : List Turn). IsEarned ForBest p bases root.turns [] (w ∷ [])) (sym (root_path root h.first)) (best_begins p squares bases boxes root is sum h).earned;
  few = omega arith;
}

-- ---- the tree

branches_same : (ns : List Node) → branch_count ns ≡ branches ns
branches_same [] = refl
branches_same (Branch j k ∷ ns) = let e = branches_same ns in omega (arith, e)
branches_same (Bound x y ∷ ns) = branches_same ns
branches_same (Farkas y ∷ ns) = branches_same ns
branches_same (Cross j ∷ ns) = branches_same ns

within_size : (region : Region) (x : List ℚ) → AllWithin region x → length x ≡ length region
within_size [] [] h = refl
within_size [] (x ∷ xs) h = absurd h
within_size (b ∷ bs) [] h = absurd h
within_size (b ∷ bs) (x ∷ xs) h = ap suc (within_size bs xs h.1)

-- rounding takes at most two branches a column, and a search its budget
abbrev most_branches : ℕ
most_branches = most_columns + most_columns + most_boxes

few_nodes : (count turns nodes all columns boxes : ℕ) → count ≡ all + all + 1 → all ≡ turns + nodes → turns ≤ columns + columns → columns ≤ most_columns → nodes ≤ boxes → boxes ≤ most_boxes
    → (count < 2 ^ 32) × (all ≤ most_branches)
few_nodes count turns nodes all columns boxes c a t l n b = (omega (arith, c, a, t, l, n, b), omega (arith, c, a, t, l, n, b))

module _ (aim : Search) (p : Program) (bases boxes : ℕ) (is : IsProgram p) (few : boxes ≤ most_boxes) (turns : List Turn) (nodes : List Node) (o : Option (List ℚ))
    (h : IsSearching aim p bases boxes turns nodes [] o) (numbers : AllByRecursion HasNumber nodes) (rounding : AllByRecursion (λ (t : Turn). IsBranchNumber t.k) turns) where
  sizes : (length (under_rounding turns nodes) < 2 ^ 32) × (branches (under_rounding turns nodes) ≤ most_branches)
  sizes =
      few_nodes (length (under_rounding turns nodes)) (length turns) (branches nodes) (branches (under_rounding turns nodes)) (length p.columns) boxes
      (one_tree_count (under_rounding turns nodes) (earned_is_one_tree aim p bases turns nodes h.earned)) (branches-under_rounding turns nodes)
      (rounding_is_short p turns h.earned.rounding.turns_due) is.few_columns h.count few

  tree_fits : FitsTree p (under_rounding turns nodes)
  tree_fits = record {
    tree = earned_is_one_tree aim p bases turns nodes h.earned;
    count = sizes.0;
    nodes_fit = both_fit p (under_rounding turns nodes)
        (rounding_sizes p turns nodes h.earned.rounding.turns_due (node_sizes p is h.earned.convex bases aim [] (turns ∷ []) [] nodes h.earned.taken))
        (rounding_numbers turns nodes rounding numbers);
  }

  few_branches : branch_count (under_rounding turns nodes) ≤ most_branches
  few_branches = subst (λ (n : ℕ). n ≤ most_branches) (sym (branches_same (under_rounding turns nodes))) sizes.1

point_size : (aim : Search) (p : Program) (bases boxes : ℕ) (is : IsProgram p) (turns : List Turn) (nodes : List Node) (x : List ℚ) → IsSearching aim p bases boxes turns nodes [] (Some x) → IsColumnVector p x
point_size aim p bases boxes is turns nodes x h =
    within_size (bounds p) x (earned_points p is bases aim turns nodes [] h.earned x (first_is_kept p (points_of nodes) x h.best).among).columns
    ∙ length-map p.columns _

writable : (aim : Search) (p : Program) (bases boxes : ℕ) (is : IsProgram p) (few : boxes ≤ most_boxes) (squares : List Square) (sum : AreSquaresFor p squares) (turns : List Turn) (nodes : List Node) (o : Option (List ℚ))
    → IsSearching aim p bases boxes turns nodes [] o → AllByRecursion HasNumber nodes → AllByRecursion (λ (t : Turn). IsBranchNumber t.k) turns → IsWritable p (decided p squares o (under_rounding turns nodes))
writable aim p bases boxes is few squares sum turns nodes None h numbers rounding = record {
  fitting = (tree_fits aim p bases boxes is few turns nodes None h numbers rounding, earned_no_bound aim p bases turns nodes [] h.earned h.best);
  few_squares = omega arith;
  few_branches = few_branches aim p bases boxes is few turns nodes None h numbers rounding;
}
writable aim p bases boxes is few squares sum turns nodes (Some x) h numbers rounding = record {
  fitting = (point_size aim p bases boxes is turns nodes x h, sum.fitting, tree_fits aim p bases boxes is few turns nodes (Some x) h numbers rounding);
  few_squares = sum.few;
  few_branches = few_branches aim p bases boxes is few turns nodes (Some x) h numbers rounding;
}

module _ (aim : Search) (p : Program) (bases boxes : ℕ) (progress : Progress) (h : IsOnWay aim p bases boxes false progress) where
  tree_is : progress.nodes ++ nodes_behind progress.trail.turns ≡ under_rounding progress.trail.turns h.nodes
  tree_is = ap (λ (ns : List Node). ns ++ nodes_behind progress.trail.turns) h.put ∙ around progress.trail.turns h.nodes

  pub whole_tree : IsOneTree (progress.nodes ++ nodes_behind progress.trail.turns)
  whole_tree = subst IsOneTree (sym tree_is) (earned_is_one_tree aim p bases progress.trail.turns h.nodes h.searching.earned)

-- the certificate of an incumbent and a tree
abbrev pub certificate : List Square → Option Incumbent → List Node → Certificate
certificate squares None tree = Infeasible tree
certificate squares (Some i) tree = Optimal i.point i.value squares tree

certificate_is : (p : Program) (squares : List Square) (o : Option Incumbent) (tree all : List Node) → HasValue p o → tree ≡ all → certificate squares o tree ≡ decided p squares (point_of o) all
certificate_is p squares None tree all has e = ap Infeasible e
certificate_is p squares (Some i) tree all has e = ap₂ (λ (v : ℚ) (ns : List Node). Optimal i.point v squares ns) has e

pub certified : (p : Program) (bases boxes : ℕ) (squares : List Square) (progress : Progress) (way : (aim : Search) × IsOnWay aim p bases boxes false progress) (is : IsProgram p) (few : boxes ≤ most_boxes) (sum : AreSquaresFor p squares)
    (o : Option Incumbent) (tree : List Node) → progress.incumbent ≡ o → tree ≡ progress.nodes ++ nodes_behind progress.trail.turns
    → IsFoundOf p (Convex squares) bases boxes (certificate squares o tree) × IsWritable p (certificate squares o tree)
certified p bases boxes squares progress way is few sum o tree same e =
    let aim = way.0 in
    let h = way.1 in
    let turns = progress.trail.turns in
    let searching = subst (λ (i : Option Incumbent). IsSearching aim p bases boxes turns h.nodes [] (point_of i)) same h.searching in
    let c = certificate_is p squares o tree (under_rounding turns h.nodes) (subst (HasValue p) same h.value) (e ∙ tree_is aim p bases boxes progress h) in (
      inr (inr (record { aim = aim; turns = turns; nodes = h.nodes; earned = searching.earned; count = searching.count; incumbent = point_of o; best = searching.best; certificate = c })),
      subst (IsWritable p) (sym c) (writable aim p bases boxes is few squares sum turns h.nodes (point_of o) searching h.numbers h.rounding_numbers),
    )

-- ---- falling without end

no_turns : (p : Program) (turns : List Turn) → IsRounding p turns → (IsMarked p → ⊥) → turns ≡ []
no_turns p [] h unmarked = refl
no_turns p (t ∷ turns) h unmarked = absurd (unmarked (t.column, h.turns_due.0.first.holds.marked))

pub unmarked_found : (p : Program) (bases boxes : ℕ) (squares : List Square) (root : Trail) (x d : List ℚ) → IsRoot p root → (IsMarked p → ⊥) → (IsCrossedRegion root.walk.region → ⊥) → IsFalling p root.walk.region bases x d
    → IsFoundOf p (Convex squares) bases boxes (Unbounded x d squares)
unmarked_found p bases boxes squares root x d h unmarked uncrossed falling =
    let region : root.walk.region ≡ bounds p = root_region p root h ∙ ap (region_of p) (no_turns p root.turns h.rounding unmarked) in
    inl (record {
      unmarked = unmarked;
      uncrossed = subst (λ (r : Region). IsCrossedRegion r → ⊥) region uncrossed;
      point = x;
      ray = d;
      falling = subst (λ (r : Region). IsFalling p r bases x d) region falling;
      certificate = refl;
    })

pub ended_found : (p : Program) (bases boxes : ℕ) (squares : List Square) (root : Trail) (progress : Progress) (start x d : List ℚ) → IsRoot p root → IsFalling p root.walk.region bases start d
    → IsEndedBy p bases boxes x progress → IsFoundOf p (Convex squares) bases boxes (Unbounded x d squares)
ended_found p bases boxes squares root progress start x d h falling e =
    let searching = e.way.searching in
    let trail = e.way.trail refl in
    let turns : root.turns ≡ progress.trail.turns = rounding_is_one p root.turns progress.trail.turns h.rounding searching.earned.rounding in
    inr (inl (record {
      turns = progress.trail.turns;
      nodes = e.way.nodes;
      path = path_of progress.trail;
      open_paths = waiting_of progress.trail;
      earned = searching.earned;
      count = searching.count;
      uncrossed = subst (λ (r : Region). IsCrossedRegion r → ⊥) trail.region e.uncrossed;
      point = x;
      found = subst (λ (r : Region). IsFound p r bases x) trail.region e.found;
      whole = e.whole;
      start = start;
      ray = d;
      falling = subst (λ (r : Region). IsFalling p r bases start d) (root_region p root h ∙ ap (region_of p) turns) falling;
      certificate = refl;
    }))
