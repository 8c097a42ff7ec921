use Rattle.program_data.specs.Kept.{kept}
use Rattle.program_data.proofs.KeptLemmas.{cost_changed}
use Rattle.program_data.proofs.program.Program.set_cost.Goals as goal

pub invariant_of-self : goal.invariant_of-self
invariant_of-self c = (cost_changed (kept c.self.inside) _ c.args.column c.args.value c.self.view_is c.self.invariant c.requires).1

pub returns : goal.returns
returns c = (cost_changed (kept c.self.inside) _ c.args.column c.args.value c.self.view_is c.self.invariant c.requires).0
