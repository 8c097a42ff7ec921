-- What is known of a node: an answer at the path at hand, and what the search makes of it.
use Rattle.std.specs.Prelude.{◌≡◌, ℕ, ◌<◌, ◌≤◌, List, [], ◌∷◌, ◌++◌, length, Option, Some, Bool, true, false, unsigned_abs}
use Rattle.std.proofs.Common.{refl, sym, ◌∙◌, ap, subst, arith}
use Rattle.frac_core.specs.Parts.{max_part}
use Rattle.rational.specs.Rational.{ℚ}
use Rattle.rational.specs.Rounding.{floor_of}
use Rattle.rational.proofs.Rounding.{IsFloor-floor_of}
use Rattle.program_law.specs.Region.{Region, IsCrossedRegion}
use Rattle.program_law.specs.Program.{Program, marks}
use Rattle.program_law.specs.Columns.{AreWholeOn}
use Rattle.rational.specs.Sums.{entry}
use Rattle.program_regions.specs.Regions.{first_crossed}
use Rattle.certificate_law.specs.declared.Node.{Node}
use Rattle.certificate_law.specs.declared.Node.TheVariants.{Branch, Bound, Farkas, Cross}
use Rattle.quad_solve_law.specs.Answer.{IsFound, IsEmpty, IsBest}
use Rattle.branching_law.specs.Paths.{region_of, IsFirst}
use Rattle.branching_law.specs.Nodes.{Search, ForBest, ForPoint, IsFractionalAt, IsBranch}
use Rattle.branching_law.specs.Search.{IsSpentTree, branches, points_of}
use Rattle.branching_law.specs.Searching.{IsSearching}
use Rattle.branching_law.proofs.Trees.{wide}
use Rattle.branching_law.proofs.FirstCrossed.{first_tested}
use Rattle.branching_law.proofs.Turning.{close_crossed, close_empty, close_not_below, close_better, go_on, spent, inner_best, inner_point}
use Rattle.search_steps.specs.declared.progress.Progress.{Progress}
use Rattle.search_steps.specs.Incumbents.{point_of, is_below}
use Rattle.search_steps.specs.Trails.{path_of, waiting_of, IsTrail}
use Rattle.search_steps.specs.Progressing.{IsOnWay, IsClosed, IsBranched, IsInner, HasBegun}
use Rattle.search_steps.proofs.Bounded.{number_fits}
use Rattle.search_steps.proofs.Grown.{closed_way, branched_way, first_and_others, below_incumbent, above_incumbent}

-- ---- leaves without a point

module _ (aim : Search) (p : Program) (bases boxes : ℕ) (old new : Progress) (h : IsOnWay aim p bases boxes true old) (more : Bool) (trail : more ≡ true → IsTrail p new.trail) where
  pub crossed_way : (j : ℕ) → first_crossed old.trail.walk.region ≡ Some j → IsClosed old (Cross j) more new
      → (way : IsOnWay aim p bases boxes more new) × (way.nodes ≡ h.nodes ++ Cross j ∷ [])
  crossed_way j first c =
      closed_way aim p bases boxes old new h old.incumbent (Cross j) more c trail h.value tt refl
      (close_crossed aim p bases boxes old.trail.turns h.nodes (path_of old.trail) (waiting_of old.trail) (point_of old.incumbent) h.searching j
      (first_tested (region_of p (path_of old.trail)) j (subst (λ (r : Region). first_crossed r ≡ Some j) (h.trail refl).region first)))

  pub empty_way : (y : List ℚ) → (IsCrossedRegion old.trail.walk.region → ⊥) → IsEmpty p old.trail.walk.region bases y → IsClosed old (Farkas y) more new
      → (way : IsOnWay aim p bases boxes more new) × (way.nodes ≡ h.nodes ++ Farkas y ∷ [])
  empty_way y uncrossed empty c =
      closed_way aim p bases boxes old new h old.incumbent (Farkas y) more c trail h.value tt refl
      (close_empty aim p bases boxes old.trail.turns h.nodes (path_of old.trail) (waiting_of old.trail) (point_of old.incumbent) h.searching y
      (subst (λ (r : Region). IsCrossedRegion r → ⊥) (h.trail refl).region uncrossed) (subst (λ (r : Region). IsEmpty p r bases y) (h.trail refl).region empty))

-- ---- a search for the best

begun : (aim : Search) (p : Program) (bases boxes : ℕ) (more : Bool) (new : Progress) (ns : List Node) (n : Node) → (way : IsOnWay aim p bases boxes more new) × (way.nodes ≡ ns ++ n ∷ [])
    → HasBegun aim p bases boxes more new
begun aim p bases boxes more new ns n w =
    let f = first_and_others ns n in
    record { way = w.0; first = f.0; others = f.1; taken = w.1 ∙ f.2 }

module _ (p : Program) (bases boxes : ℕ) (old new : Progress) (h : IsOnWay ForBest p bases boxes true old) (more : Bool) (trail : more ≡ true → IsTrail p new.trail) where
  pub crossed_begun : (j : ℕ) → first_crossed old.trail.walk.region ≡ Some j → IsClosed old (Cross j) more new → HasBegun ForBest p bases boxes more new
  crossed_begun j first c = begun ForBest p bases boxes more new h.nodes (Cross j) (crossed_way ForBest p bases boxes old new h more trail j first c)

  pub empty_begun : (y : List ℚ) → (IsCrossedRegion old.trail.walk.region → ⊥) → IsEmpty p old.trail.walk.region bases y → IsClosed old (Farkas y) more new → HasBegun ForBest p bases boxes more new
  empty_begun y uncrossed empty c = begun ForBest p bases boxes more new h.nodes (Farkas y) (empty_way ForBest p bases boxes old new h more trail y uncrossed empty c)

module _ (p : Program) (bases boxes : ℕ) (old : Progress) (h : IsOnWay ForBest p bases boxes true old) (x : List ℚ) (v : ℚ) (y : List ℚ) (uncrossed : IsCrossedRegion old.trail.walk.region → ⊥)
    (best : IsBest p old.trail.walk.region bases x v y) where
  here : IsCrossedRegion (region_of p (path_of old.trail)) → ⊥
  here = subst (λ (r : Region). IsCrossedRegion r → ⊥) (h.trail refl).region uncrossed

  best_here : IsBest p (region_of p (path_of old.trail)) bases x v y
  best_here = subst (λ (r : Region). IsBest p r bases x v y) (h.trail refl).region best

  pub not_below_begun : (new : Progress) (more : Bool) → is_below v old.incumbent ≡ false → (more ≡ true → IsTrail p new.trail) → IsClosed old (Bound x y) more new → HasBegun ForBest p bases boxes more new
  not_below_begun new more e trail c =
      let a = above_incumbent p v old.incumbent h.value e in
      let same : point_of old.incumbent ≡ Some a.incumbent.point = ap point_of a.is in
      let searching : IsSearching ForBest p bases boxes old.trail.turns h.nodes (path_of old.trail ∷ waiting_of old.trail) (Some a.incumbent.point) =
      subst (λ (o : Option (List ℚ)). IsSearching ForBest p bases boxes old.trail.turns h.nodes (path_of old.trail ∷ waiting_of old.trail) o) same h.searching in
      begun ForBest p bases boxes more new h.nodes (Bound x y)
      (closed_way ForBest p bases boxes old new h old.incumbent (Bound x y) more c trail h.value tt refl
      (subst (λ (o : Option (List ℚ)). IsSearching ForBest p bases boxes old.trail.turns (h.nodes ++ Bound x y ∷ []) (waiting_of old.trail) o) (sym same)
      (close_not_below p bases boxes old.trail.turns h.nodes (path_of old.trail) (waiting_of old.trail) a.incumbent.point x v y searching here best_here a.least)))

  pub better_begun : (kept new : Progress) (more : Bool) → kept ≡ record old { incumbent = Some (record { point = x; value = v }) } → is_below v old.incumbent ≡ true → AreWholeOn (marks p) x
      → (more ≡ true → IsTrail p new.trail) → IsClosed kept (Bound x y) more new → HasBegun ForBest p bases boxes more new
  better_begun kept new more same e whole trail c =
      begun ForBest p bases boxes more new h.nodes (Bound x y)
      (closed_way ForBest p bases boxes old new h (Some (record { point = x; value = v })) (Bound x y) more (subst (λ (g : Progress). IsClosed g (Bound x y) more new) same c) trail best.value tt refl
      (close_better p bases boxes old.trail.turns h.nodes (path_of old.trail) (waiting_of old.trail) (point_of old.incumbent) h.searching x v y here best_here
      (below_incumbent p v old.incumbent h.value e) whole))

  pub best_inner : is_below v old.incumbent ≡ true → IsInner ForBest p bases boxes x old
  best_inner e = record {
    way = h;
    inner = λ j k branch. inner_best p bases (points_of h.nodes) (point_of old.incumbent) (path_of old.trail) x v y j k h.searching.best here best_here (below_incumbent p v old.incumbent h.value e) branch;
  }

-- ---- a search for a point

pub point_inner : (p : Program) (bases boxes : ℕ) (old : Progress) (h : IsOnWay ForPoint p bases boxes true old) (x : List ℚ) → (IsCrossedRegion old.trail.walk.region → ⊥)
    → IsFound p old.trail.walk.region bases x → IsInner ForPoint p bases boxes x old
point_inner p bases boxes old h x uncrossed found = record {
  way = h;
  inner = λ j k branch. inner_point p bases boxes old.trail.turns h.nodes (path_of old.trail ∷ waiting_of old.trail) (path_of old.trail) x j k h.searching.earned
      (subst (λ (r : Region). IsCrossedRegion r → ⊥) (h.trail refl).region uncrossed) (subst (λ (r : Region). IsFound p r bases x) (h.trail refl).region found) branch;
}

-- ---- branches

-- the branch at the floor of the entry
pub branch_of : (p : Program) (x : List ℚ) (j : ℕ) (e : ℚ) → IsFirst (IsFractionalAt p x) j → entry x j ≡ e → IsBranch p x j (floor_of e)
branch_of p x j e first is = subst (λ (q : ℚ). IsBranch p x j (floor_of q)) is (record { first = first; floor = IsFloor-floor_of (entry x j) })

fewer : (aim : Search) (p : Program) (bases boxes : ℕ) (old : Progress) (h : IsOnWay aim p bases boxes true old) → (old.branches ≡ boxes → ⊥) → branches h.nodes < boxes
fewer aim p bases boxes old h other =
    by (branches h.nodes) old.branches h.searching.count h.count other
  where
    by : (n b : ℕ) → n ≤ boxes → b ≡ n → (b ≡ boxes → ⊥) → n < boxes
    by n b l e f = omega (arith, l, e, f)

module _ (aim : Search) (p : Program) (bases boxes : ℕ) (x : List ℚ) (old : Progress) (d : IsInner aim p bases boxes x old) where
  pub branch_begun : (new : Progress) (j : ℕ) (e : ℚ) → IsFirst (IsFractionalAt p x) j → entry x j ≡ e → (old.branches ≡ boxes → ⊥) → unsigned_abs (floor_of e) ≤ max_part
      → IsTrail p new.trail → IsBranched old j (floor_of e) new → HasBegun aim p bases boxes true new
  branch_begun new j e first is other fits trail c =
      begun aim p bases boxes true new d.way.nodes (Branch j (floor_of e))
      (branched_way aim p bases boxes old new d.way j (floor_of e) c trail (number_fits (floor_of e) fits)
      (go_on aim p bases boxes old.trail.turns d.way.nodes (path_of old.trail) (waiting_of old.trail) (point_of old.incumbent) d.way.searching j (floor_of e)
      (d.inner j (floor_of e) (branch_of p x j e first is)) (fewer aim p bases boxes old d.way other)))

  pub branches_spent : (j : ℕ) → IsFirst (IsFractionalAt p x) j → old.branches ≡ boxes → IsSpentTree p bases boxes
  branches_spent j first all =
      spent aim p bases boxes old.trail.turns d.way.nodes (path_of old.trail) (waiting_of old.trail) (point_of old.incumbent) d.way.searching j (floor_of (entry x j))
      (d.inner j (floor_of (entry x j)) (branch_of p x j (entry x j) first refl)) (sym d.way.count ∙ all)

-- ---- the path at hand

pub fewer_taken : (aim : Search) (p : Program) (bases boxes : ℕ) (old : Progress) (h : IsOnWay aim p bases boxes true old) → (old.branches ≡ boxes → ⊥) → old.branches < boxes
fewer_taken aim p bases boxes old h other = let l = fewer aim p bases boxes old h other in let e = h.count in omega (arith, l, e)

pub column_at_hand : (aim : Search) (p : Program) (bases boxes : ℕ) (old : Progress) (h : IsOnWay aim p bases boxes true old) (j : ℕ) → j < length p.columns → j < length old.trail.walk.region
column_at_hand aim p bases boxes old h j l =
    let e : length old.trail.walk.region ≡ length p.columns = ap (λ (r : Region). length r) (h.trail refl).region ∙ wide p (path_of old.trail) in
    subst (λ (n : ℕ). j < n) (sym e) l
