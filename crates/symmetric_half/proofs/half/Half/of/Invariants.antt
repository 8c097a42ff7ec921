use Rattle.std.proofs.Common.{◌≡◌, take}
use Rattle.exact_matrix.specs.Systems.{joined}
use Rattle.symmetric_half.specs.Half.{upper_half}
use Rattle.symmetric_half.proofs.half.Half.of.Given as goal

-- the rows so far
abbrev pub invariant-loop-j : goal.invariant-loop-j
invariant-loop-j l = l.entries.items ≡ joined (take l.j (upper_half l.p.pairs))
