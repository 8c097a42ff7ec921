use Rattle.named_things.proofs.NamedLemmas.{named_pushed}
use Rattle.named_things.proofs.named.Named.push.Goals as goal

pub returns-clause-ok : goal.returns-clause-ok
returns-clause-ok g c = rw (c.in_ok-insert.ensures.entries, ← c.self.view_is) (named_pushed c.self.inside.entries.entries c.args.name c.args.thing (rw c.self.view_is c.requires))
