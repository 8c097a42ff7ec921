use Rattle.std.specs.Prelude.{unsigned_abs}
use Rattle.exact_matrix.specs.State.{state}
use Rattle.exact_matrix.proofs.States.{no_pivot}
use Rattle.exact_matrix.proofs.elimination.step.Goals as goal

pub returns-in-None-clause-lines : goal.returns-in-None-clause-lines
returns-in-None-clause-lines g c =
    no_pivot (unsigned_abs g.F.ExactField.TOP) c.args.j (state g.F.ExactField.value c.args.pivots.now c.args.rows.now) c.in-None.ensures
