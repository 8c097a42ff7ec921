use Rattle.std.proofs.Common.{sym}
use Rattle.named_things.proofs.NamedLemmas.{name_found}
use Rattle.named_things.proofs.named.Named.name.Goals as goal

pub returns : goal.returns
returns g c =
    let found = rw c.unwrap.ensures at c.get_index.ensures.entry in
    rw (← c.self.view_is, c.deref.ensures.value) (name_found c.self.inside.entries.entries c.args.place c.unwrap.result.0.now c.unwrap.result.1.now (sym found))
