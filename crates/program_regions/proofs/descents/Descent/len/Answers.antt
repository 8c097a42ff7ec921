use Rattle.std.proofs.Common.{length, ap, ◌∙◌}
use Rattle.program_regions.proofs.DescentLemmas.{count}
use Rattle.program_regions.proofs.descents.Descent.len.Goals as goal

pub returns : goal.returns
returns g c = ap length c.as_slice.ensures.value ∙ count c.args.self.now c.self.inside.region c.self.inside.cuts.items _ c.self.view_is
