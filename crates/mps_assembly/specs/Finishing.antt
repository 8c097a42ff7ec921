-- What finishing what is told answers.
use Rattle.std.specs.Prelude.{◌≡◌, None, Some, Result, Ok, Err, ⊤}
use Rattle.program_law.specs.Program.{Program}
use Rattle.mps_grammar.specs.Told.{Told}
use Rattle.mps_grammar.specs.Programs.{program_of, end_fault}
use Rattle.mps_lines.specs.declared.stop.ReadStop.{ReadStop}
use Rattle.mps_lines.specs.declared.stop.ReadStop.TheVariants as stops

-- the program of what is told, or its end fault, or memory ran out
abbrev pub Finishes : Told → Result Program ReadStop → Type 0
Finishes told (Ok p) = (end_fault told ≡ None) × (p ≡ program_of told)
Finishes told (Err stops.Memory) = ⊤
Finishes told (Err (stops.Fault line kind)) = end_fault told ≡ Some (line, kind)
