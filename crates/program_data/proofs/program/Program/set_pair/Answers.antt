use Rattle.program_data.specs.Kept.{kept}
use Rattle.program_data.proofs.KeptLemmas.{pair_changed}
use Rattle.program_data.proofs.program.Program.set_pair.Goals as goal

pub invariant_of-self : goal.invariant_of-self
invariant_of-self c = rw (c.set-2.ensures, c.set.ensures) (pair_changed (kept c.self.inside) _ c.args.j c.args.k c.args.value c.self.view_is c.self.invariant c.requires.j c.requires.k).1

pub returns : goal.returns
returns c = rw (c.set-2.ensures, c.set.ensures) (pair_changed (kept c.self.inside) _ c.args.j c.args.k c.args.value c.self.view_is c.self.invariant c.requires.j c.requires.k).0
