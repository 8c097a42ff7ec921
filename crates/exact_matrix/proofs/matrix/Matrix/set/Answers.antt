use Rattle.std.proofs.Common.{◌<◌, ◌+◌, ◌*◌, length, arith}
use Rattle.exact_matrix.proofs.Grids.{place_within, entry_set}
use Rattle.exact_matrix.proofs.matrix.Matrix.set.Given.{Over}
use Rattle.exact_matrix.proofs.matrix.Matrix.set.Goals as goal
use Rattle.exact_matrix.proofs.matrix.Matrix.set.Goals.{After-self}

within : (g : Over) (c : After-self g) → c.args.i * c.self.inside.columns + c.args.j < length c.self.inside.entries.items
within g c = place_within c.self.inside.columns c.self.inside.rows c.self.inside.entries.items c.args.self.now c.args.i c.args.j c.self.view_is c.self.invariant c.requires.row c.requires.column

pub overflow_mul-place : goal.overflow_mul-place
overflow_mul-place g c = omega (arith, within g c, c.self.inside.entries.small, c.self.inside.entries.ok)

pub overflow_add-place : goal.overflow_add-place
overflow_add-place g c = omega (arith, within g c, c.self.inside.entries.small, c.self.inside.entries.ok)

pub index_mut-requires : goal.index_mut-requires
index_mut-requires g c = omega (arith, within g (goal.at.index_mut-requires g c).After-self, c.self.inside.entries.ok)

pub returns : goal.returns
returns g c =
    entry_set c.self.inside.columns c.self.inside.rows c.self.inside.entries.items c.args.self.now c.args.i c.args.j c.args.value c.self.view_is c.requires.row c.requires.column
