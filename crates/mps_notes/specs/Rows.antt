-- The rows as they are kept.
use Rattle.std.specs.Prelude.{◌≡◌, ℕ, ◌≤◌, List, map, length, slice_get, Some, None, is_some}
use Rattle.mps_tokens.specs.declared.words.RowKind.{RowKind}
use Rattle.program_law.specs.Places.{place_of}
use Rattle.program_law.specs.Program.{marker, most_rows}
use Rattle.named_things.specs.Named.{names_of}
use Rattle.mps_grammar.specs.Told.{program_rows, objective_in, used_names}
use Rattle.mps_notes.specs.declared.rows.RowUse.{RowUse}
use Rattle.mps_notes.specs.declared.rows.Rows.TheInside.{Inside}
use Rattle.named_things.specs.Names.{Differ}
use Rattle.mps_notes.specs.Names.{AreNames}

abbrev pub with_kind : List ℕ × RowUse → List ℕ × RowKind
with_kind row = (row.0, row.1.kind)

abbrev pub kinds_of : List (List ℕ × RowUse) → List (List ℕ × RowKind)
kinds_of rows = map with_kind rows

-- the rows with their kinds
abbrev pub kinds_in : Inside → List (List ℕ × RowKind)
kinds_in rows = kinds_of rows.named

-- each row has its place among the objective and the rows of the program
abbrev pub ArePlaced : List (List ℕ × RowUse) → Type 0
ArePlaced rows = (i : ℕ) (row : List ℕ × RowUse) → slice_get rows i ≡ Some row → row.1.place ≡ place_of (used_names (kinds_of rows)) row.0

pub record IsRows (rows : Inside) : Type 0 where
  pub differ : Differ (names_of rows.named)
  pub names : AreNames (names_of rows.named)
  pub no_marker : place_of (names_of rows.named) marker ≡ None
  pub bound : rows.bound ≡ length (program_rows (kinds_in rows))
  pub few : rows.bound ≤ most_rows
  pub objective : rows.objective ≡ is_some (objective_in (kinds_in rows))
  pub placed : ArePlaced rows.named
