-- Reading a program's text back.
use Rattle.std.specs.Prelude.{◌≡◌, ◌+◌, ◌≤◌, length, Ok}
use Rattle.program_law.specs.Program.{Program}
use Rattle.mps_grammar.specs.Faults.{reach}
use Rattle.mps_grammar.specs.Reading.{Spot, read_of}
use Rattle.mps_writer_law.specs.Canonical.{program_lines, text_of_program}

-- the text's end, in the line after its last
abbrev pub end_of : Program → Spot
end_of p = (length (text_of_program p), length (program_lines p) + 1)

-- the text is accepted, where it isn't too long, and stands for the program
abbrev pub IsReadBack : Program → Type 0
IsReadBack p = length (text_of_program p) ≤ reach → read_of (text_of_program p) ≡ Ok (p, end_of p)
