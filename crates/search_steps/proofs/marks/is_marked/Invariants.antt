use Rattle.std.proofs.Common.{ℕ, ◌<◌}
use Rattle.branching_law.specs.Rounding.{IsMarkedAt}
use Rattle.search_steps.proofs.marks.is_marked.Given as goal

-- no column so far is marked
abbrev pub invariant-loop-j : goal.invariant-loop-j
invariant-loop-j l = (i : ℕ) → i < l.j → IsMarkedAt l.p i → ⊥
