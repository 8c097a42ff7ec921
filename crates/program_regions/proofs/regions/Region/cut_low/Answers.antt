use Rattle.std.proofs.Common.{◌<◌, length, subst, sym, ap, ◌∙◌}
use Rattle.program_law.specs.Region.{Region, cut_low}
use Rattle.program_regions.proofs.RegionLemmas.{low_is}
use Rattle.program_regions.proofs.regions.Region.cut_low.Goals as goal

pub returns : goal.returns
returns c =
    let there = subst (λ (r : Region). c.args.j < length r) (sym c.self.view_is) c.requires in
    rw c.larger-bounds.ensures (low_is c.self.inside.bounds.items c.args.j c.args.k c.index_mut-bounds.result.now there c.index_mut-bounds.ensures.value) ∙ ap (λ (r : Region). cut_low r c.args.j c.args.k) c.self.view_is
