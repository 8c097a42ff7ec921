-- What reading a text answers.
use Rattle.std.specs.Prelude.{◌≡◌, ℕ, ◌+◌, ◌≤◌, List, length, Option, Result, Ok, Err, ⊤}
use Rattle.std.specs.Option.{option_map}
use Rattle.mps_grammar.specs.Told.{Told}
use Rattle.mps_grammar.specs.Verdict.{Fault}
use Rattle.mps_grammar.specs.Reading.{Spot}
use Rattle.mps_sections.specs.declared.stop.LineStop.{LineStop}
use Rattle.mps_sections.specs.declared.stop.LineStop.TheVariants as line_stops
use Rattle.mps_lines.specs.declared.stop.ReadStop.{ReadStop}
use Rattle.mps_lines.specs.declared.stop.ReadStop.TheVariants as stops
use Rattle.mps_lines.specs.declared.stop.Place.{Place}
use Rattle.mps_notes.specs.declared.notes.Notes.{Notes}
use Rattle.mps_notes.specs.declared.draft.Draft.{Draft}
use Rattle.mps_notes.specs.Notes.{Holds}

abbrev pub spot_of : Place → Spot
spot_of place = (place.byte, place.line)

abbrev pub spot_in : Option Place → Option Spot
spot_in place = option_map spot_of place

abbrev pub read_stop : ℕ → LineStop → ReadStop
read_stop line line_stops.Memory = stops.Memory
read_stop line (line_stops.Fault kind) = stops.Fault line kind

-- what is kept of the lines up to ENDATA and the place behind them, or the fault, or memory ran out
abbrev pub TellsNotes : Result (Told × Spot) Fault → Notes → Result Place ReadStop → Type 0
TellsNotes told notes (Ok place) = (all : Told) × (told ≡ Ok (all, spot_of place)) × Holds all notes
TellsNotes told notes (Err stops.Memory) = ⊤
TellsNotes told notes (Err (stops.Fault line kind)) = told ≡ Err (line, kind)

-- what the lines up to ENDATA tell and the place behind them, or the fault, or memory ran out
abbrev pub Tells : Result (Told × Spot) Fault → Result (Draft × Place) ReadStop → Type 0
Tells told (Ok d) = told ≡ Ok (d.0, spot_of d.1)
Tells told (Err stops.Memory) = ⊤
Tells told (Err (stops.Fault line kind)) = told ≡ Err (line, kind)

-- a place of a text: each line before it has a byte at least
pub record IsPlaceIn (text : List ℕ) (place : Place) : Type 0 where
  pub within : place.byte ≤ length text
  pub counted : 1 ≤ place.line
  pub early : place.line ≤ place.byte + 1
