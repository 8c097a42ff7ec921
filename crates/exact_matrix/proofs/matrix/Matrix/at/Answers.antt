use Rattle.std.proofs.Common.{◌<◌, ◌+◌, ◌*◌, length, arith}
use Rattle.exact_matrix.proofs.Grids.{place_within, entry_is}
use Rattle.exact_matrix.proofs.matrix.Matrix.at.Given.{Over}
use Rattle.exact_matrix.proofs.matrix.Matrix.at.Goals as goal
use Rattle.exact_matrix.proofs.matrix.Matrix.at.Goals.{After-self}

within : (g : Over) (c : After-self g) → c.args.i * c.self.inside.columns + c.args.j < length c.self.inside.entries.items
within g c = place_within c.self.inside.columns c.self.inside.rows c.self.inside.entries.items c.args.self.now c.args.i c.args.j c.self.view_is c.self.invariant c.requires.row c.requires.column

pub overflow_mul-i : goal.overflow_mul-i
overflow_mul-i g c = omega (arith, within g c, c.self.inside.entries.small, c.self.inside.entries.ok)

pub overflow_add-i : goal.overflow_add-i
overflow_add-i g c = omega (arith, within g c, c.self.inside.entries.small, c.self.inside.entries.ok)

pub index-requires : goal.index-requires
index-requires g c = omega (arith, within g c, c.self.inside.entries.ok)

pub returns : goal.returns
returns g c =
    entry_is c.self.inside.columns c.self.inside.rows c.self.inside.entries.items c.args.self.now c.args.i c.args.j c.index.result.now c.self.view_is c.self.invariant c.requires.row c.requires.column c.index.ensures
