-- What reading a text answers.
use Rattle.std.specs.Prelude.{◌≡◌, Result, Ok, Err, ⊤}
use Rattle.program_law.specs.Program.{Program}
use Rattle.mps_grammar.specs.Verdict.{Fault}
use Rattle.mps_grammar.specs.Reading.{Spot}
use Rattle.mps_lines.specs.declared.stop.Place.{Place}
use Rattle.mps_lines.specs.declared.stop.ReadStop.{ReadStop}
use Rattle.mps_lines.specs.declared.stop.ReadStop.TheVariants as stops
use Rattle.mps_lines.specs.Reading.{spot_of}

-- the program of a text and the place behind it, or its fault, or memory ran out
abbrev pub Reads : Result (Program × Spot) Fault → Result (Program × Place) ReadStop → Type 0
Reads answer (Ok r) = answer ≡ Ok (r.0, spot_of r.1)
Reads answer (Err stops.Memory) = ⊤
Reads answer (Err (stops.Fault line kind)) = answer ≡ Err (line, kind)
