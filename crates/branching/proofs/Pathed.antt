-- The turns of a reached path stand on columns: those of rounding and those of branches are on marked ones.
use Rattle.std.specs.Prelude.{ℕ, List, [], ◌∷◌, ◌++◌, Result, Ok, Err, IfErr}
use Rattle.std.specs.List.{AllByRecursion}
use Rattle.std.proofs.Common.{inl, inr, subst, sym}
use Rattle.rational.specs.Rational.{ℚ}
use Rattle.program_law.specs.Region.{Region}
use Rattle.program_law.specs.Program.{Program, bounds}
use Rattle.certificate_law.specs.declared.Node.{Node}
use Rattle.certificate_law.specs.declared.Node.TheVariants.{Branch, Bound, Farkas, Cross}
use Rattle.certificate_law.specs.declared.Certificate.{Certificate}
use Rattle.branching_law.specs.declared.Turn.{Turn}
use Rattle.branching_law.specs.Paths.{below, above, behind}
use Rattle.branching_law.specs.Rounding.{AreRoundingTurns}
use Rattle.branching_law.specs.Nodes.{Search}
use Rattle.branching_law.specs.Search.{AreTaken}
use Rattle.branching_law.specs.Reached.{IsReachedPath}
use Rattle.branching_law.proofs.NodeSizes.{marked_column}
use Rattle.branching.specs.declared.stops.DecideStop.{DecideStop}
use Rattle.branching.specs.declared.stops.DecideStop.TheVariants.{Memory, Bases, Boxes, Past}
use Rattle.branching.specs.Stops.{IsDecideStopOf, IsPathIn, HasPathIn}

with_more : (p : Program) (path more : List Turn) → IsPathIn p path → IsPathIn p more → IsPathIn p (path ++ more)
with_more p [] more h k = k
with_more p (t ∷ path) more h k = (h.0, with_more p path more h.1 k)

by_rounding : (p : Program) (region : Region) (turns : List Turn) → AreRoundingTurns p region turns → IsPathIn p turns
by_rounding p region [] h = tt
by_rounding p region (t ∷ turns) h = (marked_column p t.column h.0.first.holds.marked, by_rounding p (behind region t) turns h.1)

by_nodes : (aim : Search) (p : Program) (bases : ℕ) (points : List (List ℚ)) (waiting : List (List Turn)) (nodes : List Node) (left : List (List Turn)) → AllByRecursion (IsPathIn p) waiting
    → AreTaken aim p bases points waiting nodes left → AllByRecursion (IsPathIn p) left
by_nodes aim p bases points waiting [] left h t = subst (λ paths. AllByRecursion (IsPathIn p) paths) t h
by_nodes aim p bases points [] (n ∷ ns) left h t = absurd t
by_nodes aim p bases points (path ∷ waiting) (Branch j k ∷ ns) left h t =
    let column = marked_column p j t.0.branch.first.holds.marked in
    by_nodes aim p bases points ((path ++ below j k ∷ []) ∷ (path ++ above j k ∷ []) ∷ waiting) ns left
    (with_more p path (below j k ∷ []) h.0 (column, tt), (with_more p path (above j k ∷ []) h.0 (column, tt), h.1)) t.1
by_nodes aim p bases points (path ∷ waiting) (Bound x y ∷ ns) left h t = by_nodes aim p bases (points ++ x ∷ []) waiting ns left h.1 t.1
by_nodes aim p bases points (path ∷ waiting) (Farkas y ∷ ns) left h t = by_nodes aim p bases points waiting ns left h.1 t.1
by_nodes aim p bases points (path ∷ waiting) (Cross j ∷ ns) left h t = by_nodes aim p bases points waiting ns left h.1 t.1

reached_path : (p : Program) (bases : ℕ) (path : List Turn) → IsReachedPath p bases path → IsPathIn p path
reached_path p bases path r =
    (by_nodes r.aim p bases [] (r.turns ∷ []) r.nodes (path ∷ r.open_paths) (by_rounding p (bounds p) r.turns r.earned.rounding.turns_due, tt) r.earned.taken).0

stop_path : (p : Program) (bases boxes : ℕ) (stop : DecideStop) → IsDecideStopOf p bases boxes stop → HasPathIn p stop
stop_path p bases boxes Memory h = tt
stop_path p bases boxes (Bases path site) h = reached_path p bases path h.spent.reached.comes
stop_path p bases boxes (Boxes n) h = tt
stop_path p bases boxes (Past path site r) h = elim h [ inl s ↦ subst (IsPathIn p) (sym s.no_turns) tt | inr s ↦ reached_path p bases path s.past.reached.comes ]

pub path_if : (p : Program) (bases boxes : ℕ) (r : Result Certificate DecideStop) → IfErr r (IsDecideStopOf p bases boxes) → IfErr r (HasPathIn p)
path_if p bases boxes (Ok c) h = tt
path_if p bases boxes (Err s) h = stop_path p bases boxes s h
