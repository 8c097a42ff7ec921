use Rattle.elimination_law.specs.Answers.{right_beside}
use Rattle.ratio_test.specs.Ratio.{IsLeast}
use Rattle.ratio_test.proofs.ratio.leaving.Given as goal

-- the least of the places so far
abbrev pub invariant-loop-k : goal.invariant-loop-k
invariant-loop-k l = IsLeast l.coordinates (right_beside l.point l.inverse.rows) l.k l.best
