use Rattle.std.proofs.Common.{◌≡◌, All}
use Rattle.program_law.specs.Changes.{zeros}
use Rattle.check_lines.proofs.fronts.spare_zeros.Given as goal

abbrev pub invariant-loop : goal.invariant-loop
invariant-loop l = All (λ v. v ≡ zeros l.columns) l.spare.items
