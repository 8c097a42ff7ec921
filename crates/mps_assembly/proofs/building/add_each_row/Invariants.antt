use Rattle.std.proofs.Common.{◌≡◌}
use Rattle.mps_assembly.specs.Built.{rows_built}
use Rattle.mps_assembly.proofs.building.add_each_row.Given as goal

abbrev pub invariant-loop-row : goal.invariant-loop-row
invariant-loop-row l = l.program ≡ rows_built l.draft l.row
