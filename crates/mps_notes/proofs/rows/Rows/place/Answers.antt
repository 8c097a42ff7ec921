use Rattle.named_things.specs.Named.{names_of}
use Rattle.mps_grammar.specs.Told.{used_names}
use Rattle.named_things.specs.Names.{name_at}
use Rattle.mps_notes.specs.Entries.{most_places}
use Rattle.mps_notes.specs.Rows.{kinds_of}
use Rattle.mps_notes.proofs.RowsFound.{place_found, place_within, few_used}
use Rattle.mps_notes.proofs.rows.Rows.place.Goals as goal

pub returns-clause-place : goal.returns-clause-place
returns-clause-place c = rw (← c.self.view_is) (place_found c.self.inside c.self.invariant c.args.row c.thing.result c.thing.ensures)

pub returns-clause-within : goal.returns-clause-within
returns-clause-within c =
    place_within (used_names (kinds_of c.self.inside.named)) (name_at (names_of (kinds_of c.self.inside.named)) c.args.row) c.thing.result.place most_places
    (place_found c.self.inside c.self.invariant c.args.row c.thing.result c.thing.ensures) (few_used c.self.inside c.self.invariant)
