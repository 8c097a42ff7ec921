use Rattle.symmetric_half.proofs.Triangles.{size_is, half_is}
use Rattle.symmetric_half.proofs.half.Half.size.Goals as goal

pub returns-clause-size : goal.returns-clause-size
returns-clause-size c = size_is c.self.inside.size c.self.inside.entries.items c.args.self.now c.self.view_is

pub returns-clause-half : goal.returns-clause-half
returns-clause-half c = half_is c.self.inside.size c.self.inside.entries.items c.args.self.now c.self.view_is c.self.invariant.1
