-- A line's items with the places of their rows, and as entries.
use Rattle.std.specs.Prelude.{ℕ, ◌<◌, List, [], ◌∷◌, Option, Some, None, IfSome}
use Rattle.program_law.specs.Places.{place_of}
use Rattle.mps_tokens.specs.declared.words.RowKind.{RowKind}
use Rattle.named_things.specs.Named.{names_of}
use Rattle.mps_grammar.specs.Told.{used_names}
use Rattle.mps_notes.specs.declared.numbers.Entry.{Entry}
use Rattle.mps_fields.specs.declared.pairs.Item.{Item}
use Rattle.mps_fields.specs.declared.pairs.Items.{Items}
use Rattle.mps_notes.specs.declared.entries.Places.{Places}
use Rattle.named_things.specs.Names.{name_at}

-- each item's name is among so many
abbrev pub AreWithin : ℕ → Items → Type 0
AreWithin count items = (items.first.place < count) × IfSome items.second (λ item. item.place < count)

-- the place of a row among the objective and the rows of the program
abbrev pub row_place : List (List ℕ × RowKind) → ℕ → Option ℕ
row_place rows k = place_of (used_names rows) (name_at (names_of rows) k)

abbrev pub second_place : List (List ℕ × RowKind) → Option Item → Option ℕ
second_place rows None = None
second_place rows (Some item) = row_place rows item.place

abbrev pub row_places_of : List (List ℕ × RowKind) → Items → Places
row_places_of rows items = record { first = row_place rows items.first.place; second = second_place rows items.second }

abbrev pub entry_at : ℕ → ℕ → Item → Option ℕ → Entry
entry_at line column item place = record { line = line; column = column; row = item.place; place = place; value = item.value }

abbrev pub second_entry : ℕ → ℕ → Option Item → Option ℕ → List Entry
second_entry line column None place = []
second_entry line column (Some item) place = entry_at line column item place ∷ []

-- the entries of one or two items
abbrev pub items_entries : ℕ → ℕ → Items → Places → List Entry
items_entries line column items places = entry_at line column items.first places.first ∷ second_entry line column items.second places.second

-- columns are their own places
abbrev pub second_column : Option Item → Option ℕ
second_column None = None
second_column (Some item) = Some item.place

abbrev pub column_places_of : Items → Places
column_places_of items = record { first = Some items.first.place; second = second_column items.second }
