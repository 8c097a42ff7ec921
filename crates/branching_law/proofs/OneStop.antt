-- A search ends in one way: at one site at which a budget is used up first, with one branch too many, or with a certificate.
use Rattle.std.specs.Prelude.{◌≡◌, ℕ, ◌+◌, ◌≤◌, List, [], ◌∷◌, length}
use Rattle.std.proofs.Common.{refl, sym, ◌∙◌, subst, arith, inl, inr}
use Rattle.rational.specs.Rational.{ℚ}
use Rattle.rational.specs.Vectors.{IsSemidefinite}
use Rattle.program_law.specs.declared.Square.{Square}
use Rattle.program_law.specs.Region.{IsCrossedRegion}
use Rattle.program_law.specs.Program.{Program, IsProgram}
use Rattle.program_law.specs.Columns.{value}
use Rattle.certificate_law.specs.declared.Node.{Node}
use Rattle.certificate_law.specs.declared.Node.TheVariants.{Branch, Bound, Farkas, Cross}
use Rattle.certificate_law.specs.declared.Certificate.{Certificate}
use Rattle.equational_law.specs.Form.{width, form_of}
use Rattle.equational_law.proofs.Shapes.{shape}
use Rattle.quad_solve_law.specs.Problems.{feasible_problem}
use Rattle.quad_solve_law.specs.Walk.{IsDecidedWithin}
use Rattle.quad_solve_law.specs.Answer.{Answer, Empty, Ray, Best, IsAnswer, IsFound, IsFalling}
use Rattle.quad_solve_law.specs.Sites.{RegionSite, AtForm, AtFeasible, AtRay, AtFace, AtPrice, IsFirstSpent}
use Rattle.quad_solve_law.proofs.Directions.{feasible_is_a_problem}
use Rattle.quad_solve_law.proofs.FirstSpent.{one_site, no_answer_beside}
use Rattle.quad_solve_law.proofs.OneEnd.{spent_is_undecided}
use Rattle.quad_solve_law.proofs.RegionAnswers.{found_is_point, falling_is_ray}
use Rattle.branching_law.specs.declared.Turn.{Turn}
use Rattle.branching_law.specs.Paths.{region_of}
use Rattle.branching_law.specs.Rounding.{IsMarked, IsRounding}
use Rattle.branching_law.specs.Nodes.{Search, ForBest, ForPoint}
use Rattle.branching_law.specs.Search.{AreTaken, IsEarned, IsSpentTree, branches}
use Rattle.branching_law.specs.Found.{Convex, IsFallingProgram, IsFallingAt, IsDecided, IsFoundOf}
use Rattle.branching_law.specs.Reached.{IsFeasibilitySite, IsAsked, IsFirstSpentSite}
use Rattle.branching_law.proofs.Trees.{wide}
use Rattle.branching_law.proofs.RoundingTurns.{rounding_is_one}
use Rattle.branching_law.proofs.BelowRoots.{best_root, some_mark}
use Rattle.branching_law.proofs.OneSearch.{crossed_by, IsStuck, IsBegun, Halt, stuck_at_kept, same_aim, same_end, tree_is_within}

heads : {A : Type 0} {a b : A} {xs ys : List A} → a ∷ xs ≡ b ∷ ys → a ≡ b
heads e = cc

none_left : {A : Type 0} {a : A} {xs : List A} → a ∷ xs ≡ [] → ⊥
none_left e = cc

none_begins : {A : Type 0} {a : A} {xs : List A} → [] ≡ a ∷ xs → ⊥
none_begins e = cc

too_few : (a b boxes : ℕ) → a ≡ boxes + 1 → a ≤ b → b ≤ boxes → ⊥
too_few a b boxes e l m = omega (arith, e, l, m)

module _ (p : Program) (is : IsProgram p) (convex : IsSemidefinite (length p.columns) p.pairs) (bases : ℕ) where
  abbrev HasNoAnswer : List Turn → Type 0
  HasNoAnswer path = (a : Answer) → IsAnswer p (region_of p path) bases a → ⊥

  abbrev First : List Turn → RegionSite → Type 0
  First path site = IsFirstSpent p (region_of p path) bases site

  no_answer : (path : List Turn) (site : RegionSite) → First path site → HasNoAnswer path
  no_answer path site h a k = no_answer_beside p (region_of p path) is (wide p path) convex bases site a h k

  undecided : (path : List Turn) (site : RegionSite) → IsFeasibilitySite site → First path site → IsDecidedWithin (feasible_problem (form_of p (region_of p path))) bases → ⊥
  undecided path AtForm f h d = h.spent
  undecided path (AtFeasible b) f h d =
      let form = form_of p (region_of p path) in
      spent_is_undecided (feasible_problem form) (feasible_is_a_problem (width p (region_of p path)) form (shape p (region_of p path) is (wide p path))) bases b h.spent d
  undecided path (AtRay b) f h d = f
  undecided path (AtFace z) f h d = f
  undecided path (AtPrice z b) f h d = f

  -- ---- where a budget is used up no node is taken

  best_stuck : (path : List Turn) (rest : List (List Turn)) → (IsCrossedRegion (region_of p path) → ⊥) → HasNoAnswer path → IsStuck p is convex ForBest bases (path ∷ rest)
  best_stuck path rest uncrossed none points (Branch j k) h = none (Best h.point (value p h.point) h.carried.0) h.carried.1
  best_stuck path rest uncrossed none points (Bound x y) h = none (Best x (value p x) y) h.best
  best_stuck path rest uncrossed none points (Farkas y) h = none (Empty y) h.empty
  best_stuck path rest uncrossed none points (Cross j) h = uncrossed (crossed_by p is convex (region_of p path) j h)

  point_stuck : (path : List Turn) (rest : List (List Turn)) → (IsCrossedRegion (region_of p path) → ⊥) → (IsDecidedWithin (feasible_problem (form_of p (region_of p path))) bases → ⊥)
      → IsStuck p is convex ForPoint bases (path ∷ rest)
  point_stuck path rest uncrossed none points (Branch j k) h = none (inl (h.carried.solution, h.carried.solved))
  point_stuck path rest uncrossed none points (Bound x y) h = h
  point_stuck path rest uncrossed none points (Farkas y) h = none (inr (h.empty.farkas, h.empty.refuted))
  point_stuck path rest uncrossed none points (Cross j) h = uncrossed (crossed_by p is convex (region_of p path) j h)

  site_stuck : (aim : Search) (n : Node) (ns : List Node) (path : List Turn) (rest : List (List Turn)) (site : RegionSite) → (IsCrossedRegion (region_of p path) → ⊥) → IsAsked aim (n ∷ ns) site → First path site
      → IsStuck p is convex aim bases (path ∷ rest)
  site_stuck ForBest n ns path rest site uncrossed asked h = best_stuck path rest uncrossed (no_answer path site h)
  site_stuck ForPoint n ns path rest site uncrossed asked h = point_stuck path rest uncrossed (undecided path site asked h)

  -- a search takes no node where its root has no answer within the budget, and there is none for a point
  root_answers : (aim : Search) (turns : List Turn) (n : Node) (ns : List Node) (left : List (List Turn)) → IsEarned aim p bases turns (n ∷ ns) left → (IsCrossedRegion (region_of p turns) → ⊥)
      → HasNoAnswer turns → ⊥
  root_answers ForBest turns n ns left e uncrossed none = best_stuck turns [] uncrossed none [] n e.taken.0
  root_answers ForPoint turns n ns left e uncrossed none = none (Ray e.root.2.0 e.root.2.1) e.root.2.2

  -- ---- the site

  -- a site at which a budget is used up first, with its search
  record Spent (boxes : ℕ) (path : List Turn) (site : RegionSite) (nodes : List Node) : Type 0 where
    aim : Search
    turns : List Turn
    rest : List (List Turn)
    earned : IsEarned aim p bases turns nodes (path ∷ rest)
    uncrossed : IsCrossedRegion (region_of p path) → ⊥
    asked : IsAsked aim nodes site
    first : First path site
    few : branches nodes ≤ boxes

  spent_of : (boxes : ℕ) (path : List Turn) (site : RegionSite) (h : IsFirstSpentSite p bases boxes path site) → Spent boxes path site h.reached.comes.nodes
  spent_of boxes path site h = record {
    aim = h.reached.comes.aim;
    turns = h.reached.comes.turns;
    rest = h.reached.comes.open_paths;
    earned = h.reached.comes.earned;
    uncrossed = h.reached.uncrossed;
    asked = h.reached.asked;
    first = h.first;
    few = h.few;
  }

  -- its search has taken nodes, and stops there
  begun : (aim : Search) (n : Node) (ns : List Node) → IsBegun p is convex aim (n ∷ ns)
  begun ForBest n ns = tt
  begun ForPoint n ns = tt

  halt : (boxes : ℕ) (path : List Turn) (site : RegionSite) (n : Node) (ns : List Node) → Spent boxes path site (n ∷ ns) → Halt p is convex bases
  halt boxes path site n ns h = record {
    aim = h.aim;
    turns = h.turns;
    nodes = n ∷ ns;
    left = path ∷ h.rest;
    earned = h.earned;
    begun = begun h.aim n ns;
    stuck = site_stuck h.aim n ns path h.rest site h.uncrossed h.asked h.first;
  }

  -- or it is at the root
  at_root : (boxes : ℕ) (path : List Turn) (site : RegionSite) (h : Spent boxes path site []) → path ≡ h.turns
  at_root boxes path site h = sym (heads h.earned.taken)

  -- and then no search of the program has taken a node
  none_taken : (boxes : ℕ) (path : List Turn) (site : RegionSite) → Spent boxes path site [] → (aim : Search) (turns : List Turn) (n : Node) (ns : List Node) (left : List (List Turn))
      → IsEarned aim p bases turns (n ∷ ns) left → ⊥
  none_taken boxes path site h aim turns n ns left e =
      let same : path ≡ turns = at_root boxes path site h ∙ rounding_is_one p h.turns turns h.earned.rounding e.rounding in
      root_answers aim turns n ns left e (subst (λ (t : List Turn). IsCrossedRegion (region_of p t) → ⊥) same h.uncrossed) (subst HasNoAnswer same (no_answer path site h.first))

  none_falling : (boxes : ℕ) (path : List Turn) (site : RegionSite) → Spent boxes path site [] → (turns : List Turn) (x d : List ℚ) → IsRounding p turns → IsFalling p (region_of p turns) bases x d → ⊥
  none_falling boxes path site h turns x d r f =
      let same : path ≡ turns = at_root boxes path site h ∙ rounding_is_one p h.turns turns h.earned.rounding r in
      subst HasNoAnswer same (no_answer path site h.first) (Ray x d) f

  halted_at : (boxes : ℕ) (path : List Turn) (site : RegionSite) (n : Node) (ns : List Node) (h : Spent boxes path site (n ∷ ns)) (k : Halt p is convex bases) → path ∷ h.rest ≡ k.left
  unfolding halt
  halted_at boxes path site n ns h k = same_end p is convex bases (halt boxes path site n ns h) k

  one_path : (boxes : ℕ) (path other : List Turn) (site place : RegionSite) (nodes more : List Node) → Spent boxes path site nodes → Spent boxes other place more → path ≡ other
  unfolding halt
  one_path boxes path other site place [] [] h k =
      at_root boxes path site h ∙ rounding_is_one p h.turns k.turns h.earned.rounding k.earned.rounding ∙ sym (at_root boxes other place k)
  one_path boxes path other site place [] (m ∷ ms) h k = absurd (none_taken boxes path site h k.aim k.turns m ms (other ∷ k.rest) k.earned)
  one_path boxes path other site place (n ∷ ns) [] h k = absurd (none_taken boxes other place k h.aim h.turns n ns (path ∷ h.rest) h.earned)
  one_path boxes path other site place (n ∷ ns) (m ∷ ms) h k = heads (halted_at boxes path site n ns h (halt boxes other place m ms k))

  pub one_spent_site : (boxes : ℕ) (path other : List Turn) (site place : RegionSite) → IsFirstSpentSite p bases boxes path site → IsFirstSpentSite p bases boxes other place → (path ≡ other) × (site ≡ place)
  one_spent_site boxes path other site place h k =
      let e = one_path boxes path other site place h.reached.comes.nodes k.reached.comes.nodes (spent_of boxes path site h) (spent_of boxes other place k) in
      (e, one_site p (region_of p other) is (wide p other) convex bases site place (subst (λ (w : List Turn). First w site) e h.first) k.first)

  -- ---- no tree with a branch too many

  some_begun : (aim : Search) (nodes : List Node) → 1 ≤ branches nodes → IsBegun p is convex aim nodes
  some_begun ForPoint nodes l = tt
  some_begun ForBest [] l = none l
    where
      none : 1 ≤ 0 → ⊥
      none l = omega (arith, l)
  some_begun ForBest (n ∷ ns) l = tt

  some_branch : (boxes : ℕ) (tree : IsSpentTree p bases boxes) → 1 ≤ branches tree.nodes
  some_branch boxes tree = by (branches tree.nodes) tree.count
    where
      by : (k : ℕ) → k ≡ boxes + 1 → 1 ≤ k
      by k e = omega (arith, e)

  no_tree : (boxes : ℕ) → IsSpentTree p bases boxes → (k : Halt p is convex bases) → branches k.nodes ≤ boxes → ⊥
  no_tree boxes tree k few =
      too_few (branches tree.nodes) (branches k.nodes) boxes tree.count
      (tree_is_within p is convex bases tree.aim tree.turns tree.nodes tree.open_paths k tree.earned (some_begun tree.aim tree.nodes (some_branch boxes tree))) few

  tree_or_site : (boxes : ℕ) (path : List Turn) (site : RegionSite) (nodes : List Node) → Spent boxes path site nodes → IsSpentTree p bases boxes → ⊥
  unfolding halt
  tree_or_site boxes path site [] h tree = by tree.nodes tree.earned (some_branch boxes tree)
    where
      none : 1 ≤ 0 → ⊥
      none l = omega (arith, l)

      by : (ns : List Node) → IsEarned tree.aim p bases tree.turns ns tree.open_paths → 1 ≤ branches ns → ⊥
      by [] e l = none l
      by (n ∷ ns) e l = none_taken boxes path site h tree.aim tree.turns n ns tree.open_paths e
  tree_or_site boxes path site (n ∷ ns) h tree = no_tree boxes tree (halt boxes path site n ns h) h.few

  pub no_tree_beside : (boxes : ℕ) (path : List Turn) (site : RegionSite) → IsFirstSpentSite p bases boxes path site → IsSpentTree p bases boxes → ⊥
  no_tree_beside boxes path site h tree = tree_or_site boxes path site h.reached.comes.nodes (spent_of boxes path site h) tree

  -- ---- no certificate

  module _ (squares : List Square) (boxes : ℕ) (c : Certificate) where
    halt_at : IsFallingAt p bases boxes squares c → Halt p is convex bases
    halt_at g = record {
      aim = ForPoint;
      turns = g.turns;
      nodes = g.nodes;
      left = g.path ∷ g.open_paths;
      earned = g.earned;
      begun = tt;
      stuck = stuck_at_kept p is convex bases bases g.path g.open_paths g.point g.uncrossed g.found g.whole;
    }

    begun_of_end : (aim : Search) (turns : List Turn) (nodes : List Node) → AreTaken aim p bases [] (turns ∷ []) nodes [] → IsBegun p is convex aim nodes
    begun_of_end ForPoint turns nodes e = tt
    begun_of_end ForBest turns [] e = none_left e
    begun_of_end ForBest turns (n ∷ ns) e = tt

    halt_end : IsDecided p bases boxes squares c → Halt p is convex bases
    halt_end g = record { aim = g.aim; turns = g.turns; nodes = g.nodes; left = []; earned = g.earned; begun = begun_of_end g.aim g.turns g.nodes g.earned.taken; stuck = tt }

    -- without marks rounding has no turn
    not_rounded : (turns : List Turn) → IsRounding p turns → ¬ (IsMarked p) → [] ≡ turns
    not_rounded [] r none = refl
    not_rounded (t ∷ turns) r none = absurd (none (t.column, r.turns_due.0.first.holds.marked))

    falls_at : (g : IsFallingProgram p bases squares c) (turns : List Turn) → IsRounding p turns → IsFalling p (region_of p turns) bases g.point g.ray
    falls_at g turns r = subst (λ (t : List Turn). IsFalling p (region_of p t) bases g.point g.ray) (not_rounded turns r g.unmarked) g.falling

    -- no search takes a node where the program falls and no column is marked
    no_search : (g : IsFallingProgram p bases squares c) (aim : Search) (turns : List Turn) (n : Node) (ns : List Node) (left : List (List Turn)) → IsEarned aim p bases turns (n ∷ ns) left → ⊥
    no_search g ForPoint turns n ns left e = g.unmarked e.root.0
    no_search g ForBest turns n ns left e =
        let f = falls_at g turns e.rounding in
        best_root p is bases turns left n ns e g.point g.ray (found_is_point p (region_of p turns) is (wide p turns) bases g.point f.found) (falling_is_ray p (region_of p turns) is (wide p turns) bases g.point g.ray f)

    -- beside a site
    site_or_falling : (path : List Turn) (site : RegionSite) (nodes : List Node) → Spent boxes path site nodes → IsFallingProgram p bases squares c → ⊥
    site_or_falling path site [] h g = none_falling boxes path site h h.turns g.point g.ray h.earned.rounding (falls_at g h.turns h.earned.rounding)
    site_or_falling path site (n ∷ ns) h g = no_search g h.aim h.turns n ns (path ∷ h.rest) h.earned

    site_or_point : (path : List Turn) (site : RegionSite) (nodes : List Node) → Spent boxes path site nodes → IsFallingAt p bases boxes squares c → ⊥
    unfolding halt halt_at
    site_or_point path site [] h g = none_falling boxes path site h g.turns g.start g.ray g.earned.rounding g.falling
    site_or_point path site (n ∷ ns) h g =
        let e : path ≡ g.path = heads (halted_at boxes path site n ns h (halt_at g)) in
        let found : IsFound p (region_of p path) bases g.point = subst (λ (w : List Turn). IsFound p (region_of p w) bases g.point) (sym e) g.found in
        undecided path site (subst (λ (a : Search). IsAsked a (n ∷ ns) site) (same_aim p is convex bases (halt boxes path site n ns h) (halt_at g)) h.asked) h.first (inl (found.solution, found.solved))

    site_or_decided : (path : List Turn) (site : RegionSite) (nodes : List Node) → Spent boxes path site nodes → IsDecided p bases boxes squares c → ⊥
    unfolding halt_end
    site_or_decided path site [] h g = by g.nodes g.earned
      where
        by : (ns : List Node) → IsEarned g.aim p bases g.turns ns [] → ⊥
        by [] e = none_left e.taken
        by (n ∷ ns) e = none_taken boxes path site h g.aim g.turns n ns [] e
    site_or_decided path site (n ∷ ns) h g = none_left (halted_at boxes path site n ns h (halt_end g))

    site_or_found : (path : List Turn) (site : RegionSite) (nodes : List Node) → Spent boxes path site nodes → IsFoundOf p (Convex squares) bases boxes c → ⊥
    site_or_found path site nodes h (inl g) = site_or_falling path site nodes h g
    site_or_found path site nodes h (inr (inl g)) = site_or_point path site nodes h g
    site_or_found path site nodes h (inr (inr g)) = site_or_decided path site nodes h g

    pub no_certificate_at_site : (path : List Turn) (site : RegionSite) → IsFirstSpentSite p bases boxes path site → IsFoundOf p (Convex squares) bases boxes c → ⊥
    no_certificate_at_site path site h g = site_or_found path site h.reached.comes.nodes (spent_of boxes path site h) g

    -- beside a tree
    pub no_certificate_beside_tree : IsSpentTree p bases boxes → IsFoundOf p (Convex squares) bases boxes c → ⊥
    unfolding halt_at halt_end
    no_certificate_beside_tree tree (inl g) = g.unmarked (some_mark tree.aim p bases [] (tree.turns ∷ []) tree.open_paths tree.nodes tree.earned.taken (some_branch boxes tree))
    no_certificate_beside_tree tree (inr (inl g)) = no_tree boxes tree (halt_at g) g.count
    no_certificate_beside_tree tree (inr (inr g)) = no_tree boxes tree (halt_end g) g.count
