use Rattle.program_data.specs.Kept.{kept}
use Rattle.program_data.proofs.KeptLemmas.{sides_changed}
use Rattle.program_data.proofs.program.Program.set_row.Goals as goal

pub invariant_of-self : goal.invariant_of-self
invariant_of-self c = rw c.renew.ensures (sides_changed (kept c.self.inside) _ c.args.row c.args.sides c.self.view_is c.self.invariant c.requires.sides).1

pub returns : goal.returns
returns c = rw c.renew.ensures (sides_changed (kept c.self.inside) _ c.args.row c.args.sides c.self.view_is c.self.invariant c.requires.sides).0
