-- What is read of a line, as its fields say it.
use Rattle.std.specs.Prelude.{List, [], ◌∷◌, Option, Some, None}
use Rattle.std.specs.Option.{option_map}
use Rattle.mps_grammar.specs.Fields as fields
use Rattle.mps_fields.specs.declared.fields.Pair.{Pair}
use Rattle.mps_fields.specs.declared.fields.Pairs.{Pairs}
use Rattle.mps_fields.specs.declared.fields.Entries.{Entries}
use Rattle.mps_fields.specs.declared.fields.Bounded.{Bounded}

abbrev pub viewed_pair : Pair → fields.Pair
viewed_pair p = (p.name.now, p.number.now)

abbrev pub second_pair : Option Pair → List fields.Pair
second_pair None = []
second_pair (Some p) = viewed_pair p ∷ []

abbrev pub viewed_pairs : Pairs → List fields.Pair
viewed_pairs p = viewed_pair p.first ∷ second_pair p.second

abbrev pub viewed_entries : Entries → fields.Entries
viewed_entries e = (e.head.now, viewed_pairs e.pairs)

abbrev pub viewed_bounded : Bounded → fields.Bounded
viewed_bounded b = record { set = b.set.now; column = b.column.now; number = option_map (λ spelling. spelling.now) b.number }
