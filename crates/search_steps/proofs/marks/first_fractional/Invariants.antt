use Rattle.std.proofs.Common.{ℕ, ◌<◌}
use Rattle.branching_law.specs.Nodes.{IsFractionalAt}
use Rattle.search_steps.proofs.marks.first_fractional.Given as goal

-- the point is whole at the marked columns that were tested
abbrev pub invariant-loop-j : goal.invariant-loop-j
invariant-loop-j l = (i : ℕ) → i < l.j → IsFractionalAt l.p l.x i → ⊥
