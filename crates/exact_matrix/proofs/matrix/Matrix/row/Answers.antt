use Rattle.std.proofs.Common.{◌≤◌, ◌+◌, ◌*◌, length, arith}
use Rattle.exact_matrix.proofs.Grids.{row_within, row_read, row_read_length}
use Rattle.exact_matrix.proofs.matrix.Matrix.row.Given.{Over}
use Rattle.exact_matrix.proofs.matrix.Matrix.row.Goals as goal
use Rattle.exact_matrix.proofs.matrix.Matrix.row.Goals.{After-self}

within : (g : Over) (c : After-self g) → c.args.i * c.self.inside.columns + c.self.inside.columns ≤ length c.self.inside.entries.items
within g c = row_within c.self.inside.columns c.self.inside.rows c.self.inside.entries.items c.args.self.now c.args.i c.self.view_is c.self.invariant c.requires

pub overflow_mul-start : goal.overflow_mul-start
overflow_mul-start g c = omega (arith, within g c, c.self.inside.entries.small, c.self.inside.entries.ok)

pub overflow_add-result : goal.overflow_add-result
overflow_add-result g c = omega (arith, within g (goal.at.overflow_add-result g c).After-self, c.self.inside.entries.small, c.self.inside.entries.ok)

pub offset_bounds-deref-start : goal.offset_bounds-deref-start
offset_bounds-deref-start g c = omega (arith, within g (goal.at.offset_bounds-deref-start g c).After-self, c.deref.ensures.len, c.self.inside.entries.ok)

pub slice_bounds-result-end : goal.slice_bounds-result-end
slice_bounds-result-end g c = omega (arith, within g (goal.at.slice_bounds-result-end g c).After-self, c.deref.ensures.len, c.self.inside.entries.ok)

pub returns-clause-value : goal.returns-clause-value
returns-clause-value g c =
    row_read c.self.inside.columns c.self.inside.rows c.self.inside.entries.items c.deref.result.now c.args.self.now c.args.i c.self.view_is c.requires c.deref.ensures.value

pub returns-clause-length : goal.returns-clause-length
returns-clause-length g c =
    row_read_length c.self.inside.columns c.self.inside.rows c.self.inside.entries.items c.deref.result.now c.args.self.now c.args.i c.self.view_is c.self.invariant c.requires c.deref.ensures.value
