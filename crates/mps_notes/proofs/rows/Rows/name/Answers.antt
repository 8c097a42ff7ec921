use Rattle.program_law.specs.Program.{IsName, marker}
use Rattle.named_things.specs.Named.{names_of}
use Rattle.mps_notes.proofs.RowLemmas.{names_kinds, all_at}
use Rattle.mps_notes.proofs.RowsFound.{absent_differs_at}
use Rattle.mps_notes.proofs.rows.Rows.name.Goals as goal

pub returns-clause-found : goal.returns-clause-found
returns-clause-found c = rw (← c.self.view_is, names_kinds c.self.inside.named) c.name.ensures

pub returns-clause-name : goal.returns-clause-name
returns-clause-name c = all_at IsName (names_of c.self.inside.named) c.args.row _ c.self.invariant.names c.name.ensures

pub returns-clause-marker : goal.returns-clause-marker
returns-clause-marker c = absent_differs_at (names_of c.self.inside.named) marker _ c.args.row c.self.invariant.no_marker c.name.ensures
