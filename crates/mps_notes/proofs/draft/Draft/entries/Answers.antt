use Rattle.mps_notes.proofs.draft.Draft.entries.Goals as goal

pub returns-clause-within : goal.returns-clause-within
returns-clause-within c = rw (← c.self.view_is, c.entries.ensures) c.self.invariant.entries
