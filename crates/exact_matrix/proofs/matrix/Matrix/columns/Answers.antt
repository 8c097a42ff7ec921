use Rattle.std.proofs.Common.{subst}
use Rattle.exact_matrix.specs.Grid.{IsGrid}
use Rattle.exact_matrix.proofs.Grids.{rows_of-shape, rows_of-length}
use Rattle.exact_matrix.proofs.matrix.Matrix.columns.Goals as goal

pub returns-clause-shape : goal.returns-clause-shape
returns-clause-shape g c =
    subst IsGrid c.self.view_is (λ k d h. rows_of-shape c.self.inside.columns c.self.inside.rows c.self.inside.entries.items c.self.invariant k d (rw rows_of-length at h))
