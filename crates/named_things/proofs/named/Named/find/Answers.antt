use Rattle.std.proofs.Common.{◌∙◌}
use Rattle.named_things.proofs.NamedLemmas.{place_from_position}
use Rattle.named_things.proofs.named.Named.find.Goals as goal

pub returns-clause-place : goal.returns-clause-place
returns-clause-place g c = rw (← c.self.view_is) (c.get_index_of.ensures.index ∙ place_from_position c.self.inside.entries.entries c.args.name.now)
