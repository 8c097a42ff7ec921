use Rattle.std.proofs.Common.{arith}
use Rattle.program_regions.proofs.DescentLemmas.{cut_at, is_kept}
use Rattle.program_regions.proofs.descents.Descent.cut.Goals as goal

pub offset_bounds-cuts-i : goal.offset_bounds-cuts-i
offset_bounds-cuts-i g c = let h = is_kept c.args.self.now c.self.inside.region c.self.inside.cuts.items _ c.args.i c.self.view_is c.requires in rw c.as_slice-cuts.ensures.value (omega (arith, h))

pub bounds-cuts-i : goal.bounds-cuts-i
bounds-cuts-i g c = rw c.as_slice-cuts.ensures.value (is_kept c.args.self.now c.self.inside.region c.self.inside.cuts.items _ c.args.i c.self.view_is c.requires)

pub bounds-cuts-i-2 : goal.bounds-cuts-i-2
bounds-cuts-i-2 g c = rw c.as_slice-cuts.ensures.value (is_kept c.args.self.now c.self.inside.region c.self.inside.cuts.items _ c.args.i c.self.view_is c.requires)

pub returns : goal.returns
returns g c =
    rw c.as_slice-cuts.ensures.value (cut_at c.args.self.now c.self.inside.region c.self.inside.cuts.items _ c.args.i c.index-cuts-i.result c.self.view_is
    (is_kept c.args.self.now c.self.inside.region c.self.inside.cuts.items _ c.args.i c.self.view_is c.requires))
