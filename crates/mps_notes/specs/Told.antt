-- What numbers by the places of columns and rows tell by their names.
use Rattle.std.specs.Prelude.{◌≡◌, ℕ, ◌<◌, List, map, length, reverse, Option}
use Rattle.std.specs.Option.{option_map}
use Rattle.std.specs.List.{AllByRecursion}
use Rattle.std.specs.Global.{Vec}
use Rattle.program_law.specs.Places.{place_of}
use Rattle.mps_grammar.specs.Told.{Telling, BoundTelling}
use Rattle.mps_notes.specs.declared.numbers.Entry.{Entry}
use Rattle.mps_notes.specs.declared.bounds.Bound.{Bound}
use Rattle.named_things.specs.Names.{name_at}

-- a number, by the names of the columns and the rows
abbrev pub telling_of : List (List ℕ) → List (List ℕ) → Entry → Telling
telling_of columns rows e = record { line = e.line; column = name_at columns e.column; row = name_at rows e.row; value = e.value }

-- numbers in order, as tellings with the last one first
abbrev pub tellings_of : List (List ℕ) → List (List ℕ) → List Entry → List Telling
tellings_of columns rows es = reverse (map (telling_of columns rows) es)

-- a number's column and row are there, and it has the place of its row's name among those that are used
pub record IsEntry (columns rows used : List (List ℕ)) (e : Entry) : Type 0 where
  pub column : e.column < length columns
  pub row : e.row < length rows
  pub place : e.place ≡ place_of used (name_at rows e.row)

abbrev pub AreEntries : List (List ℕ) → List (List ℕ) → List (List ℕ) → List Entry → Type 0
AreEntries columns rows used es = AllByRecursion (IsEntry columns rows used) es

-- a bound, by the names of the columns
abbrev pub bound_telling : List (List ℕ) → Bound → BoundTelling
bound_telling columns b = record { kind = b.kind; column = name_at columns b.column; value = b.value }

abbrev pub bounds_of : List (List ℕ) → List Bound → List BoundTelling
bounds_of columns bs = reverse (map (bound_telling columns) bs)

abbrev pub AreBounds : List (List ℕ) → List Bound → Type 0
AreBounds columns bs = AllByRecursion (λ b. b.column < length columns) bs

-- the bytes of a set's name, where there is one
abbrev pub text_in : Option (Vec ℕ) → Option (List ℕ)
text_in set = option_map (λ v. v.items) set
