use Rattle.program_data.specs.Kept.{kept}
use Rattle.program_data.proofs.KeptLemmas.{entry_changed}
use Rattle.program_data.proofs.program.Program.set_entry.Goals as goal

pub invariant_of-self : goal.invariant_of-self
invariant_of-self c = rw c.set.ensures (entry_changed (kept c.self.inside) _ c.args.row c.args.column c.args.value c.self.view_is c.self.invariant c.requires.row c.requires.column).1

pub returns : goal.returns
returns c = rw c.set.ensures (entry_changed (kept c.self.inside) _ c.args.row c.args.column c.args.value c.self.view_is c.self.invariant c.requires.row c.requires.column).0
