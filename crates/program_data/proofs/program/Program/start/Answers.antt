use Rattle.std.proofs.Common.{subst}
use Rattle.program_law.specs.Program.{IsName}
use Rattle.program_data.proofs.KeptLemmas.{started_kept}
use Rattle.program_data.proofs.program.Program.start.Goals as goal

pub invariant_of-result : goal.invariant_of-result
invariant_of-result c =
    rw (c.new.ensures, c.new-2.ensures, c.new-3.ensures, c.new-4.ensures, c.in_ok-costs.ensures) (started_kept c.args.objective c.whole.result (subst IsName c.objective.view_is c.objective.invariant) c.requires)
