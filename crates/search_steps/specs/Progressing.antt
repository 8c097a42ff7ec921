-- How far a search has come, as it is kept.
use Rattle.std.specs.Prelude.{◌≡◌, ℕ, ◌+◌, ◌*◌, ◌-◌, List, [], ◌∷◌, ◌++◌, length, Bool, true, ℤ}
use Rattle.std.specs.List.{AllByRecursion}
use Rattle.rational.specs.Rational.{ℚ}
use Rattle.program_law.specs.Program.{Program}
use Rattle.certificate_law.specs.declared.Node.{Node}
use Rattle.certificate_law.specs.declared.Node.TheVariants.{Branch}
use Rattle.branching_law.specs.declared.Turn.{Turn}
use Rattle.branching_law.specs.Nodes.{Search, IsBranch, IsInnerNode}
use Rattle.branching_law.specs.Paths.{region_of}
use Rattle.branching_law.specs.Rounding.{IsRounding}
use Rattle.branching_law.specs.Search.{branches, points_of}
use Rattle.branching_law.specs.Searching.{IsSearching}
use Rattle.branching_law.specs.Sizes.{HasNumber, IsBranchNumber}
use Rattle.search_steps.specs.Incumbents.{point_of, HasValue}
use Rattle.search_steps.specs.Trails.{path_of, waiting_of, paths_left, IsTrail, GoesBelow}
use Rattle.search_steps.specs.Trees.{nodes_before}
use Rattle.search_steps.specs.declared.trails.Trail.{Trail}
use Rattle.search_steps.specs.declared.progress.Progress.{Progress}

-- the nodes that were put are those of rounding and of a search on its way; `more` says whether a path is at hand
pub record IsOnWay (aim : Search) (p : Program) (bases boxes : ℕ) (more : Bool) (progress : Progress) : Type 0 where
  pub nodes : List Node
  pub put : progress.nodes ≡ nodes_before progress.trail.turns ++ nodes
  pub searching : IsSearching aim p bases boxes progress.trail.turns nodes (paths_left more progress.trail) (point_of progress.incumbent)
  pub trail : more ≡ true → IsTrail p progress.trail
  pub count : progress.branches ≡ branches nodes
  pub value : HasValue p progress.incumbent
  pub numbers : AllByRecursion HasNumber nodes
  pub rounding_numbers : AllByRecursion (λ (t : Turn). IsBranchNumber t.k) progress.trail.turns

-- a leaf was put, and the next path is at hand, if there is one
pub record IsClosed (old : Progress) (leaf : Node) (more : Bool) (new : Progress) : Type 0 where
  pub nodes : new.nodes ≡ old.nodes ++ leaf ∷ []
  pub turns : new.trail.turns ≡ old.trail.turns
  pub paths : paths_left more new.trail ≡ waiting_of old.trail
  pub branches : new.branches ≡ old.branches
  pub incumbent : new.incumbent ≡ old.incumbent

-- a branch was put, and its lower side is at hand
pub record IsBranched (old : Progress) (j : ℕ) (k : ℤ) (new : Progress) : Type 0 where
  pub nodes : new.nodes ≡ old.nodes ++ Branch j k ∷ []
  pub trail : GoesBelow old.trail j k new.trail
  pub branches : new.branches ≡ old.branches + 1
  pub incumbent : new.incumbent ≡ old.incumbent

-- how much is left at most: each branch that may come, and each path that waits
abbrev pub work_left : ℕ → Progress → ℕ
work_left boxes progress = 2 * (boxes - progress.branches) + length (waiting_of progress.trail)

-- at the path at hand the branch at x is due, where there is one
pub record IsInner (aim : Search) (p : Program) (bases boxes : ℕ) (x : List ℚ) (progress : Progress) : Type 0 where
  pub way : IsOnWay aim p bases boxes true progress
  pub inner : (j : ℕ) (k : ℤ) → IsBranch p x j k → IsInnerNode aim p bases (points_of way.nodes) (region_of p (path_of progress.trail)) j k

-- a search that has taken a node
pub record HasBegun (aim : Search) (p : Program) (bases boxes : ℕ) (more : Bool) (progress : Progress) : Type 0 where
  pub way : IsOnWay aim p bases boxes more progress
  pub first : Node
  pub others : List Node
  pub taken : way.nodes ≡ first ∷ others

-- a root: rounding has ended, and no step was taken
pub record IsRoot (p : Program) (root : Trail) : Type 0 where
  pub rounding : IsRounding p root.turns
  pub first : root.walk.before ≡ []
  pub trail : IsTrail p root
  pub numbers : AllByRecursion (λ (t : Turn). IsBranchNumber t.k) root.turns
