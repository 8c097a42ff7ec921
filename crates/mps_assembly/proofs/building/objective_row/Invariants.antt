use Rattle.std.proofs.Common.{◌≡◌, take, None}
use Rattle.mps_grammar.specs.Told.{objective_in}
use Rattle.mps_assembly.proofs.building.objective_row.Given as goal

abbrev pub invariant-loop-row : goal.invariant-loop-row
invariant-loop-row l = objective_in (take l.row l.draft.rows) ≡ None
