-- The way of a search from its root to the path at hand, and the paths that wait behind it. Steps are listed with the newest first.
use Rattle.std.specs.Prelude.{◌≡◌, ℕ, ◌≤◌, ℤ, pos, ◌+ℤ◌, List, [], ◌∷◌, ◌++◌, Bool, true, false, unsigned_abs}
use Rattle.frac_core.specs.Parts.{max_part}
use Rattle.program_law.specs.Program.{Program}
use Rattle.branching_law.specs.declared.Cut.{Cut}
use Rattle.branching_law.specs.declared.Cut.TheVariants.{Below, Above}
use Rattle.branching_law.specs.declared.Turn.{Turn}
use Rattle.branching_law.specs.Paths.{region_of, below, above}
use Rattle.program_law.specs.Region.{Region}
use Rattle.program_regions.specs.declared.descents.Cut as cuts
use Rattle.search_steps.specs.declared.trails.Trail.{Trail}

-- a cut with its turn, and the region before it
abbrev pub Step : Type 0
Step = cuts.Cut Turn × Region

-- the path of steps from a root on
abbrev pub path_by : List Turn → List Step → List Turn
path_by root [] = root
path_by root (s ∷ steps) = path_by root steps ++ s.0.note ∷ []

-- after a turn below, the one above waits before the others; after one above it is done
abbrev pub with_other : Cut → List Turn → ℕ → ℤ → List (List Turn) → List (List Turn)
with_other Below path j k waiting = (path ++ above j k ∷ []) ∷ waiting
with_other Above path j k waiting = waiting

-- the paths that wait behind steps, the next one first
abbrev pub waiting_by : List Turn → List Step → List (List Turn)
waiting_by root [] = []
waiting_by root (s ∷ steps) = with_other s.0.note.cut (path_by root steps) s.0.note.column s.0.note.k (waiting_by root steps)

-- the path at hand, and those that wait behind it
abbrev pub path_of : Trail → List Turn
path_of trail = path_by trail.turns trail.walk.before

abbrev pub waiting_of : Trail → List (List Turn)
waiting_of trail = waiting_by trail.turns trail.walk.before

-- all paths that are left: with the one at hand, or none where all are done
abbrev pub paths_left : Bool → Trail → List (List Turn)
paths_left true trail = path_of trail ∷ waiting_of trail
paths_left false trail = []

-- a step from a path: the region before it is the path's, the column that was cut is the turn's, and the number after its k fits
pub record IsStepFrom (p : Program) (path : List Turn) (s : Step) : Type 0 where
  pub region : s.1 ≡ region_of p path
  pub column : s.0.note.column ≡ s.0.column
  pub next : unsigned_abs (s.0.note.k +ℤ pos 1) ≤ max_part

abbrev pub AreSteps : Program → List Turn → List Step → Type 0
AreSteps p root [] = Unit {0}
AreSteps p root (s ∷ steps) = IsStepFrom p (path_by root steps) s × AreSteps p root steps

-- a trail in a program: the region is that of the path at hand
pub record IsTrail (p : Program) (trail : Trail) : Type 0 where
  pub region : trail.walk.region ≡ region_of p (path_of trail)
  pub steps : AreSteps p trail.turns trail.walk.before

-- the trail went below, and the other side waits
pub record GoesBelow (old : Trail) (j : ℕ) (k : ℤ) (new : Trail) : Type 0 where
  pub turns : new.turns ≡ old.turns
  pub path : path_of new ≡ path_of old ++ below j k ∷ []
  pub waiting : waiting_of new ≡ (path_of old ++ above j k ∷ []) ∷ waiting_of old
