use Rattle.std.proofs.Common.{sym, ap, ◌∙◌}
use Rattle.named_things.specs.Named.{names_of}
use Rattle.mps_notes.proofs.RowLemmas.{names_kinds}
use Rattle.mps_notes.proofs.rows.Rows.names.Goals as goal

pub returns-clause-names : goal.returns-clause-names
returns-clause-names c = sym (names_kinds c.self.inside.named) ∙ ap names_of c.self.view_is

pub returns-clause-differ : goal.returns-clause-differ
returns-clause-differ c = rw (← c.self.view_is, names_kinds c.self.inside.named) c.self.invariant.differ

pub returns-clause-good : goal.returns-clause-good
returns-clause-good c = rw (← c.self.view_is, names_kinds c.self.inside.named) c.self.invariant.names
