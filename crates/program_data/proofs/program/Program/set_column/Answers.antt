use Rattle.program_data.specs.Kept.{kept}
use Rattle.program_data.proofs.KeptLemmas.{bounds_changed}
use Rattle.program_data.proofs.program.Program.set_column.Goals as goal

pub invariant_of-self : goal.invariant_of-self
invariant_of-self c = rw c.renew.ensures (bounds_changed (kept c.self.inside) _ c.args.column c.args.value c.self.view_is c.self.invariant).1

pub returns : goal.returns
returns c = rw c.renew.ensures (bounds_changed (kept c.self.inside) _ c.args.column c.args.value c.self.view_is c.self.invariant).0
