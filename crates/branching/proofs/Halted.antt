-- Stops at the path at hand.
use Rattle.std.specs.Prelude.{◌≡◌, ℕ, ◌≤◌, List, [], ◌∷◌, true}
use Rattle.std.proofs.Common.{refl, sym, subst, inl, inr}
use Rattle.program_law.specs.Region.{Region, IsCrossedRegion}
use Rattle.program_law.specs.Program.{Program}
use Rattle.certificate_law.specs.declared.Node.{Node}
use Rattle.quad_solve_law.specs.Sites.{AtForm, AtFeasible, AtRay, AtFace, AtPrice}
use Rattle.quad_solve_law.specs.Sites as calculation
use Rattle.quad_solve.specs.declared.sites.Site.{Site}
use Rattle.quad_solve.specs.declared.sites.Site.TheVariants.{Form, Chain, Face}
use Rattle.quad_solve.specs.declared.sites.Task.TheVariants.{Feasible, Ray, Price}
use Rattle.quad_solve.specs.declared.sites.RelaxStop.{RelaxStop}
use Rattle.quad_solve.specs.declared.sites.RelaxStop.TheVariants.{Memory, Spent, Past}
use Rattle.quad_solve.specs.Answers as region
use Rattle.quad_solve.specs.Answers.{IsNamed, StopsAtFeasibility}
use Rattle.branching_law.specs.declared.Turn.{Turn}
use Rattle.branching_law.specs.Paths.{region_of}
use Rattle.branching_law.specs.Nodes.{Search, ForBest, ForPoint}
use Rattle.branching_law.specs.Reached.{IsFeasibilitySite, IsAsked, IsReachedPath, IsReachedSite}
use Rattle.branching_law.specs.Search.{branches}
use Rattle.search_steps.specs.declared.progress.Progress.{Progress}
use Rattle.search_steps.specs.Trails.{path_of, waiting_of}
use Rattle.search_steps.specs.Progressing.{IsOnWay}
use Rattle.branching.specs.Reaching.{IsPathOf}
use Rattle.branching.specs.Stops.{IsDecideStopOf, stop_on}

pub path_at_hand : (aim : Search) (p : Program) (bases boxes : ℕ) (progress : Progress) → IsOnWay aim p bases boxes true progress → IsPathOf aim p bases boxes (path_of progress.trail)
path_at_hand aim p bases boxes progress h = record { turns = progress.trail.turns; nodes = h.nodes; waiting = waiting_of progress.trail; earned = h.searching.earned; few = h.searching.count }

abbrev IsSiteOf : RelaxStop → Site → Type 0
IsSiteOf Memory site = ⊥
IsSiteOf (Spent place) site = site ≡ place
IsSiteOf (Past place r) site = site ≡ place

module _ (p : Program) (bases boxes : ℕ) (path : List Turn) (uncrossed : IsCrossedRegion (region_of p path) → ⊥) (comes : IsReachedPath p bases path) (few : branches comes.nodes ≤ boxes) where
  at_site : (place : calculation.RegionSite) → IsAsked comes.aim comes.nodes place → calculation.IsReached p (region_of p path) place → IsReachedSite p bases path place
  at_site place asked reached = record { comes = comes; uncrossed = uncrossed; asked = asked; reached = reached }

  halted : (stop : RelaxStop) → ((place : calculation.RegionSite) (site : Site) → IsNamed place site → IsSiteOf stop site → IsAsked comes.aim comes.nodes place)
      → region.IsRelaxStopOf p (region_of p path) bases stop → IsDecideStopOf p bases boxes (stop_on path stop)
  unfolding at_site
  halted Memory asked h = tt
  halted (Spent site) asked h = record {
    place = h.place;
    named = h.named;
    spent = record { reached = at_site h.place (asked h.place site h.named refl) h.spent.reached; first = h.spent; few = few };
  }
  halted (Past site r) asked h =
      inr (record {
        place = h.place;
        named = h.named;
        past = record { reached = at_site h.place (asked h.place site h.named refl) h.reached; stands = h.stands; past = h.past };
      })

best_halted : (p : Program) (bases boxes : ℕ) (path : List Turn) → (IsCrossedRegion (region_of p path) → ⊥) → IsPathOf ForBest p bases boxes path → (stop : RelaxStop)
    → region.IsRelaxStopOf p (region_of p path) bases stop → IsDecideStopOf p bases boxes (stop_on path stop)
best_halted p bases boxes path uncrossed h stop is =
    halted p bases boxes path uncrossed (record { aim = ForBest; turns = h.turns; nodes = h.nodes; open_paths = h.waiting; earned = h.earned }) h.few stop (λ place site named at. tt) is

-- a site of feasibility is asked for in each search
feasible_place : (place : calculation.RegionSite) (site : Site) → IsNamed place site → region.IsOfFeasibility site → IsFeasibilitySite place
feasible_place AtForm site named f = tt
feasible_place (AtFeasible b) site named f = tt
feasible_place (AtRay b) site named f = elim f [ inl e ↦ bad named e | inr g ↦ worse g.0 named g.1 ]
  where
    bad : site ≡ Chain Ray [] b.columns → site ≡ Form → ⊥
    bad e f = cc

    worse : (basis : List ℕ) → site ≡ Chain Ray [] b.columns → site ≡ Chain Feasible [] basis → ⊥
    worse basis e f = cc
feasible_place (AtFace z) site named f = elim f [ inl e ↦ bad named e | inr g ↦ worse g.0 named g.1 ]
  where
    bad : site ≡ Face z → site ≡ Form → ⊥
    bad e f = cc

    worse : (basis : List ℕ) → site ≡ Face z → site ≡ Chain Feasible [] basis → ⊥
    worse basis e f = cc
feasible_place (AtPrice z b) site named f = elim f [ inl e ↦ bad named e | inr g ↦ worse g.0 named g.1 ]
  where
    bad : site ≡ Chain Price z b.columns → site ≡ Form → ⊥
    bad e f = cc

    worse : (basis : List ℕ) → site ≡ Chain Price z b.columns → site ≡ Chain Feasible [] basis → ⊥
    worse basis e f = cc

feasible_asked : (nodes : List Node) (place : calculation.RegionSite) → IsFeasibilitySite place → IsAsked ForPoint nodes place
feasible_asked [] place f = tt
feasible_asked (n ∷ ns) place f = f

site_of_stop : (stop : RelaxStop) (site : Site) → StopsAtFeasibility stop → IsSiteOf stop site → region.IsOfFeasibility site
site_of_stop Memory site f at = absurd at
site_of_stop (Spent place) site f at = subst region.IsOfFeasibility (sym at) f
site_of_stop (Past place r) site f at = subst region.IsOfFeasibility (sym at) f

point_halted : (p : Program) (bases boxes : ℕ) (path : List Turn) → (IsCrossedRegion (region_of p path) → ⊥) → IsPathOf ForPoint p bases boxes path → (stop : RelaxStop)
    → StopsAtFeasibility stop → region.IsRelaxStopOf p (region_of p path) bases stop → IsDecideStopOf p bases boxes (stop_on path stop)
point_halted p bases boxes path uncrossed h stop feasible is =
    halted p bases boxes path uncrossed (record { aim = ForPoint; turns = h.turns; nodes = h.nodes; open_paths = h.waiting; earned = h.earned }) h.few stop
    (λ place site named at. feasible_asked h.nodes place (feasible_place place site named (site_of_stop stop site feasible at))) is

-- the same at the region as it is kept
pub best_stop : (p : Program) (r : Region) (bases boxes : ℕ) (path : List Turn) (stop : RelaxStop) → r ≡ region_of p path → (IsCrossedRegion r → ⊥)
    → IsPathOf ForBest p bases boxes path → region.IsRelaxStopOf p r bases stop → IsDecideStopOf p bases boxes (stop_on path stop)
best_stop p r bases boxes path stop e uncrossed h is =
    best_halted p bases boxes path (subst (λ (r : Region). IsCrossedRegion r → ⊥) e uncrossed) h stop (subst (λ (r : Region). region.IsRelaxStopOf p r bases stop) e is)

pub point_stop : (p : Program) (r : Region) (bases boxes : ℕ) (path : List Turn) (stop : RelaxStop) → r ≡ region_of p path → (IsCrossedRegion r → ⊥)
    → IsPathOf ForPoint p bases boxes path → StopsAtFeasibility stop → region.IsRelaxStopOf p r bases stop → IsDecideStopOf p bases boxes (stop_on path stop)
point_stop p r bases boxes path stop e uncrossed h feasible is =
    point_halted p bases boxes path (subst (λ (r : Region). IsCrossedRegion r → ⊥) e uncrossed) h stop feasible (subst (λ (r : Region). region.IsRelaxStopOf p r bases stop) e is)
