-- What reading a whole text answers.
use Rattle.std.specs.Prelude.{ℕ, ◌+◌, List, [], ◌∷◌, length, min, drop, Option, Some, None, Result, Ok, Err, if◌then◌else◌}
use Rattle.program_law.specs.Program.{Program}
use Rattle.mps_tokens.specs.Lines.{raw_lines, without_return}
use Rattle.mps_grammar.specs.Lines.{is_passed}
use Rattle.mps_grammar.specs.Told.{Told, told_by}
use Rattle.mps_grammar.specs.Verdict.{Fault, verdict_of}
use Rattle.mps_grammar.specs.Programs.{program_of, end_fault}

-- a place of a text: how many bytes stand before it, and the number of its line
abbrev pub Spot : Type 0
Spot = ℕ × ℕ

-- the place behind lines that end after so many bytes; the last one may lack its line feed
abbrev pub behind : List ℕ → List (List ℕ) × ℕ → Spot
behind text v = (min v.1 (length text), length v.0 + 1)

-- what the lines up to ENDATA tell, and the place behind them, or the fault of the first line that has one
abbrev pub told_verdict : List ℕ → Result (List (List ℕ) × ℕ) Fault → Result (Told × Spot) Fault
told_verdict text (Ok v) = Ok (told_by v.0, behind text v)
told_verdict text (Err fault) = Err fault

abbrev pub told_of : List ℕ → Result (Told × Spot) Fault
told_of text = told_verdict text (verdict_of text)

-- the program of what is told, or an end fault
abbrev pub finished : Told → Spot → Option Fault → Result (Program × Spot) Fault
finished told spot (Some fault) = Err fault
finished told spot None = Ok (program_of told, spot)

abbrev pub read_told : Result (Told × Spot) Fault → Result (Program × Spot) Fault
read_told (Ok t) = finished t.0 t.1 (end_fault t.0)
read_told (Err fault) = Err fault

-- the program of a text and the place behind its ENDATA line, or its fault
abbrev pub read_of : List ℕ → Result (Program × Spot) Fault
read_of text = read_told (told_of text)

-- the first of these lines that is neither blank nor a comment, where they begin at a place
abbrev pub first_shown : ℕ → ℕ → List (List ℕ) → Option Spot
first_shown at line [] = None
first_shown at line (raw ∷ raws) = if is_passed (without_return raw) then first_shown (at + length raw + 1) (line + 1) raws else Some (at, line)

-- the same from a place of a text on
abbrev pub rest_of : List ℕ → Spot → Option Spot
rest_of text spot = first_shown spot.0 spot.1 (raw_lines (drop spot.0 text))
