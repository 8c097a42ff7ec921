use Rattle.std.proofs.Common.{◌≡◌}
use Rattle.mps_assembly.specs.Built.{columns_built}
use Rattle.mps_assembly.proofs.building.add_each_column.Given as goal

abbrev pub invariant-loop-column : goal.invariant-loop-column
invariant-loop-column l = l.program ≡ columns_built l.draft l.column
