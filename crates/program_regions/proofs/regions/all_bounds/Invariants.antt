use Rattle.std.proofs.Common.{◌≡◌, take}
use Rattle.program_law.specs.Program.{bounds}
use Rattle.program_regions.proofs.regions.all_bounds.Given as goal

abbrev pub invariant-loop-j : goal.invariant-loop-j
invariant-loop-j l = l.bounds.items ≡ take l.j (bounds l.fn.p)
