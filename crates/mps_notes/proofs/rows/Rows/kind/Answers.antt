use Rattle.mps_notes.proofs.RowsFound.{kind_found}
use Rattle.mps_notes.proofs.rows.Rows.kind.Goals as goal

pub returns : goal.returns
returns c = rw (← c.self.view_is) (kind_found c.self.inside.named c.args.row c.thing.result c.thing.ensures)
