use Rattle.std.proofs.Common.{length, sym, ap, ◌∙◌}
use Rattle.exact_matrix.proofs.Grids.{rows_of-length}
use Rattle.exact_matrix.proofs.matrix.Matrix.rows.Goals as goal

pub returns : goal.returns
returns g c = sym (rows_of-length c.self.inside.columns c.self.inside.rows c.self.inside.entries.items) ∙ ap (λ m. length m.rows) c.self.view_is
