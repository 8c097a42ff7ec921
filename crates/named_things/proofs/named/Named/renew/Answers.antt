use Rattle.named_things.proofs.NamedLemmas.{named_renewed}
use Rattle.named_things.proofs.named.Named.renew.Goals as goal

pub returns : goal.returns
returns g c = rw (← c.self.view_is) (named_renewed c.self.inside.entries.entries c.args.place c.args.thing)
