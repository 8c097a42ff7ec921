-- What the root of a search says of all nodes below it.
use Rattle.std.specs.Prelude.{◌≡◌, ℕ, ◌+◌, ◌≤◌, ◌^◌, List, [], ◌∷◌, ◌++◌, length, Contains, All}
use Rattle.std.proofs.Common.{refl, sym, ◌∙◌, ap, subst, arith, append_assoc, append-nil}
use Rattle.std.proofs.lemmas.List.Elements.{All-nil, All-cons, All-head, All-tail, All-contains}
use Rattle.rational.specs.Rational.{ℚ}
use Rattle.program_law.specs.Region.{Region, IsCrossedRegion}
use Rattle.program_law.specs.Program.{Program, IsProgram, bounds}
use Rattle.program_law.specs.Columns.{IsRelaxedPoint}
use Rattle.certificate_law.specs.declared.Node.{Node}
use Rattle.certificate_law.specs.declared.Node.TheVariants.{Branch, Bound, Farkas, Cross}
use Rattle.certificate_law.proofs.Leaves.{farkas}
use Rattle.certificate_law.proofs.Trees.{crossed}
use Rattle.equational_law.specs.Form.{width, form_of}
use Rattle.equational_law.specs.Solutions.{IsRegionRay}
use Rattle.equational_law.proofs.Rays.{ray_of, ray_from}
use Rattle.equational_law.proofs.Shapes.{shape}
use Rattle.quad_solve_law.specs.Problems.{ray_problem}
use Rattle.quad_solve_law.specs.Answer.{IsFalling, IsBest}
use Rattle.quad_solve_law.specs.Sites.{RegionSite, HasNoRay}
use Rattle.quad_solve_law.proofs.Decided.{refuted_is_farkas}
use Rattle.quad_solve_law.proofs.Directions.{rays_form_a_problem, refuted_has_none}
use Rattle.quad_solve_law.proofs.RegionAnswers.{found_is_point, falling_is_ray, empty_is_good}
use Rattle.quad_solve_law.proofs.RegionRays.{no_ray_within}
use Rattle.quad_solve_law.proofs.SpentSites.{spent_is_small}
use Rattle.branching_law.specs.declared.Turn.{Turn}
use Rattle.branching_law.specs.Paths.{behind, region_behind, region_of, below, above}
use Rattle.branching_law.specs.Rounding.{IsMarked}
use Rattle.branching_law.specs.Nodes.{Search, ForBest, ForPoint}
use Rattle.branching_law.specs.Search.{after, AreTaken, IsEarned, branches}
use Rattle.branching_law.specs.Reached.{IsSpentSite}
use Rattle.branching_law.proofs.PathRegions.{behind_has, length-behind}
use Rattle.branching_law.proofs.Trees.{wide}

-- ---- paths below a root

pub behind_append : (region : Region) (path more : List Turn) → region_behind region (path ++ more) ≡ region_behind (region_behind region path) more
behind_append region [] more = refl
behind_append region (t ∷ path) more = behind_append (behind region t) path more

abbrev pub BeginsWith : List Turn → List Turn → Type 0
BeginsWith turns path = (more : List Turn) × (path ≡ turns ++ more)

longer : (turns path : List Turn) (t : Turn) → BeginsWith turns path → BeginsWith turns (path ++ t ∷ [])
longer turns path t h = (h.0 ++ t ∷ [], ap (λ (w : List Turn). w ++ t ∷ []) h.1 ∙ append_assoc turns h.0 (t ∷ []))

pub open_begin : (aim : Search) (p : Program) (bases : ℕ) (turns : List Turn) (points : List (List ℚ)) (waiting left : List (List Turn)) (nodes : List Node) → AreTaken aim p bases points waiting nodes left
    → All (BeginsWith turns) waiting → All (BeginsWith turns) left
open_begin aim p bases turns points waiting left [] taken h = subst (All (BeginsWith turns)) taken h
open_begin aim p bases turns points [] left (n ∷ ns) taken h = absurd taken
open_begin aim p bases turns points (path ∷ waiting) left (Branch j k ∷ ns) taken h =
    let first = All-head (BeginsWith turns) path waiting h in
    open_begin aim p bases turns points (after (Branch j k) path waiting) left ns taken.1
    (All-cons (BeginsWith turns) (path ++ below j k ∷ []) ((path ++ above j k ∷ []) ∷ waiting) (longer turns path (below j k) first)
    (All-cons (BeginsWith turns) (path ++ above j k ∷ []) waiting (longer turns path (above j k) first) (All-tail (BeginsWith turns) path waiting h)))
open_begin aim p bases turns points (path ∷ waiting) left (Bound x y ∷ ns) taken h =
    open_begin aim p bases turns (points ++ x ∷ []) waiting left ns taken.1 (All-tail (BeginsWith turns) path waiting h)
open_begin aim p bases turns points (path ∷ waiting) left (Farkas y ∷ ns) taken h = open_begin aim p bases turns points waiting left ns taken.1 (All-tail (BeginsWith turns) path waiting h)
open_begin aim p bases turns points (path ∷ waiting) left (Cross j ∷ ns) taken h = open_begin aim p bases turns points waiting left ns taken.1 (All-tail (BeginsWith turns) path waiting h)

pub earned_begins : (aim : Search) (p : Program) (bases : ℕ) (turns : List Turn) (nodes : List Node) (left : List (List Turn)) (path : List Turn) → IsEarned aim p bases turns nodes left
    → Contains left path → BeginsWith turns path
earned_begins aim p bases turns nodes left path earned c =
    All-contains (BeginsWith turns) left path (open_begin aim p bases turns [] (turns ∷ []) left nodes earned.taken
    (All-cons (BeginsWith turns) turns [] ([], sym (append-nil turns)) (All-nil (BeginsWith turns)))) c

-- ---- rays

module _ (p : Program) (is : IsProgram p) where
  pub no_ray_below : (turns more : List Turn) → HasNoRay (form_of p (region_of p turns)) → HasNoRay (form_of p (region_of p (turns ++ more)))
  no_ray_below turns more none =
      subst (λ (r : Region). HasNoRay (form_of p r)) (sym (behind_append (bounds p) turns more))
      (no_ray_within p (region_of p turns) (region_behind (region_of p turns) more) is (wide p turns) (length-behind (region_of p turns) more ∙ wide p turns) (behind_has (region_of p turns) more) none)

  pub best_has_no_ray : (path : List Turn) (bases : ℕ) (x : List ℚ) (v : ℚ) (y : List ℚ) → IsBest p (region_of p path) bases x v y → HasNoRay (form_of p (region_of p path))
  best_has_no_ray path bases x v y h r ray =
      let f = form_of p (region_of p path) in
      let fits = shape p (region_of p path) is (wide p path) in
      refuted_has_none (width p (region_of p path)) f r h.no_ray.0 fits
      (refuted_is_farkas (ray_problem f) (rays_form_a_problem (width p (region_of p path)) f fits) bases h.no_ray.0 h.no_ray.1) ray

  no_region_ray : (path : List Turn) (d : List ℚ) → HasNoRay (form_of p (region_of p path)) → IsRegionRay p (region_of p path) d → ⊥
  no_region_ray path d none ray = none (ray_of p (region_of p path) d) (ray_from p (region_of p path) d is (wide p path) ray).0

  module _ (bases : ℕ) (turns : List Turn) (left : List (List Turn)) where
    -- the root of a search for the best has no point, or no ray
    pub best_root : (n : Node) (ns : List Node) → IsEarned ForBest p bases turns (n ∷ ns) left → (x d : List ℚ) → IsRelaxedPoint p (region_of p turns) x → IsRegionRay p (region_of p turns) d → ⊥
    best_root (Branch j k) ns e x d at ray =
        no_region_ray turns d (best_has_no_ray turns bases e.taken.0.point _ e.taken.0.carried.0 e.taken.0.carried.1) ray
    best_root (Bound w y) ns e x d at ray = no_region_ray turns d (best_has_no_ray turns bases w _ y e.taken.0.best) ray
    best_root (Farkas y) ns e x d at ray = farkas p (region_of p turns) y (empty_is_good p (region_of p turns) is (wide p turns) bases y e.taken.0.uncrossed e.taken.0.empty) x at
    best_root (Cross j) ns e x d at ray = crossed (region_of p turns) x j e.taken.0.holds at.columns

    -- a tree that has an open path after some nodes begins with a branch
    no_more : (aim : Search) (points : List (List ℚ)) (path : List Turn) (rest : List (List Turn)) (ns : List Node) → AreTaken aim p bases points [] ns (path ∷ rest) → ⊥
    no_more aim points path rest [] taken = bad taken
      where
        bad : [] ≡ path ∷ rest → ⊥
        bad e = cc
    no_more aim points path rest (n ∷ ns) taken = taken

  pub best_has_root : (bases : ℕ) (turns : List Turn) (path : List Turn) (rest : List (List Turn)) (n : Node) (ns : List Node) → IsEarned ForBest p bases turns (n ∷ ns) (path ∷ rest)
      → HasNoRay (form_of p (region_of p turns))
  best_has_root bases turns path rest (Branch j k) ns e = best_has_no_ray turns bases e.taken.0.point _ e.taken.0.carried.0 e.taken.0.carried.1
  best_has_root bases turns path rest (Bound w y) ns e = absurd (no_more bases turns [] ForBest _ path rest ns e.taken.1)
  best_has_root bases turns path rest (Farkas y) ns e = absurd (no_more bases turns [] ForBest _ path rest ns e.taken.1)
  best_has_root bases turns path rest (Cross j) ns e = absurd (no_more bases turns [] ForBest _ path rest ns e.taken.1)

  pub best_meets_no_ray : (bases : ℕ) (turns : List Turn) (path : List Turn) (rest : List (List Turn)) (n : Node) (ns : List Node) → IsEarned ForBest p bases turns (n ∷ ns) (path ∷ rest)
      → HasNoRay (form_of p (region_of p path))
  best_meets_no_ray bases turns path rest n ns e =
      let b = earned_begins ForBest p bases turns (n ∷ ns) (path ∷ rest) path e (Rattle.branching_law.proofs.Trees.first_of path rest) in
      subst (λ (w : List Turn). HasNoRay (form_of p (region_of p w))) (sym b.1) (no_ray_below turns b.0 (best_has_root bases turns path rest n ns e))

  pub no_fall : (bases : ℕ) (path : List Turn) (x d : List ℚ) → HasNoRay (form_of p (region_of p path)) → IsFalling p (region_of p path) bases x d → ⊥
  no_fall bases path x d none h = no_region_ray path d none (falling_is_ray p (region_of p path) is (wide p path) bases x d h)

  pub point_root : (bases : ℕ) (turns : List Turn) (nodes : List Node) (left : List (List Turn)) → IsEarned ForPoint p bases turns nodes left
      → IsMarked p × ((x : List ℚ) × IsRelaxedPoint p (region_of p turns) x) × ((d : List ℚ) × IsRegionRay p (region_of p turns) d)
  point_root bases turns nodes left e =
      let f = e.root.2 in
      (e.root.0, (f.0, found_is_point p (region_of p turns) is (wide p turns) bases f.0 f.2.found), (f.1, falling_is_ray p (region_of p turns) is (wide p turns) bases f.0 f.1 f.2))

-- ---- budgets

pub spent_site_small : (p : Program) (bases : ℕ) (path : List Turn) (site : RegionSite) → IsProgram p → IsSpentSite p bases path site
    → bases + 2 ≤ 2 ^ (width p (region_of p path) + width p (region_of p path) + length (form_of p (region_of p path)).matrix + 1)
spent_site_small p bases path site is h = spent_is_small p (region_of p path) bases site is (wide p path) h.reached.comes.earned.convex h.reached.reached h.spent

-- a tree with a branch has a root that isn't crossed
pub root_uncrossed : (aim : Search) (p : Program) (bases : ℕ) (turns : List Turn) (nodes : List Node) (left : List (List Turn)) → IsEarned aim p bases turns nodes left → 1 ≤ branches nodes
    → IsCrossedRegion (region_of p turns) → ⊥
root_uncrossed aim p bases turns nodes left e = by nodes e.taken
  where
    none : (points : List (List ℚ)) (ns : List Node) → AreTaken aim p bases points [] ns left → 1 ≤ branches ns → ⊥
    none points [] taken l = omega arith
    none points (n ∷ ns) taken l = taken

    by : (nodes : List Node) → AreTaken aim p bases [] (turns ∷ []) nodes left → 1 ≤ branches nodes → IsCrossedRegion (region_of p turns) → ⊥
    by [] taken l c = omega arith
    by (Branch j k ∷ ns) taken l c = taken.0.uncrossed c
    by (Bound x y ∷ ns) taken l c = none _ ns taken.1 l
    by (Farkas y ∷ ns) taken l c = none _ ns taken.1 l
    by (Cross j ∷ ns) taken l c = none _ ns taken.1 l

-- and a marked column
pub some_mark : (aim : Search) (p : Program) (bases : ℕ) (points : List (List ℚ)) (waiting left : List (List Turn)) (nodes : List Node) → AreTaken aim p bases points waiting nodes left → 1 ≤ branches nodes → IsMarked p
some_mark aim p bases points waiting left [] taken l = absurd (none l)
  where
    none : 1 ≤ 0 → ⊥
    none l = omega arith
some_mark aim p bases points [] left (n ∷ ns) taken l = absurd taken
some_mark aim p bases points (path ∷ waiting) left (Branch j k ∷ ns) taken l = (j, taken.0.branch.first.holds.marked)
some_mark aim p bases points (path ∷ waiting) left (Bound x y ∷ ns) taken l = some_mark aim p bases (points ++ x ∷ []) waiting left ns taken.1 l
some_mark aim p bases points (path ∷ waiting) left (Farkas y ∷ ns) taken l = some_mark aim p bases points waiting left ns taken.1 l
some_mark aim p bases points (path ∷ waiting) left (Cross j ∷ ns) taken l = some_mark aim p bases points waiting left ns taken.1 l
