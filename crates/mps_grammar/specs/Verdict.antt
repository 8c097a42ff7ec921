-- The lines of a program up to ENDATA, or the first line that has a fault.
use Rattle.std.specs.Prelude.{ℕ, ◌+◌, Bool, true, false, List, [], ◌∷◌, length, Option, Some, None, Result, Ok, Err, if◌then◌else◌}
use Rattle.mps_tokens.specs.Lines.{raw_lines, without_return}
use Rattle.mps_tokens.specs.declared.words.Section.{Section}
use Rattle.mps_tokens.specs.declared.words.Section.TheVariants as sections
use Rattle.mps_grammar.specs.declared.kinds.FaultKind.{FaultKind}
use Rattle.mps_grammar.specs.declared.kinds.FaultKind.TheVariants as kinds
use Rattle.mps_grammar.specs.Lines.{section_in}
use Rattle.mps_grammar.specs.Told.{told_by}
use Rattle.mps_grammar.specs.Faults.{line_fault}

-- a fault and the number of its line
abbrev pub Fault : Type 0
Fault = ℕ × FaultKind

abbrev pub is_end : Option Section → Bool
is_end (Some sections.EndData) = true
is_end section = false

-- a header ENDATA
abbrev pub ends : List ℕ → Bool
ends line = is_end (section_in line)

-- the fault of the line with this number, or else what comes after
abbrev pub unless : {A : Type 0} → Option FaultKind → ℕ → Result A Fault → Result A Fault
unless (Some kind) number after = Err (number, kind)
unless None number after = after

-- The lines up to ENDATA with it first, and how many bytes they and their line feeds have, where no line has a fault; else the fault of
-- the first one. `at` is how many bytes the earlier lines have. Lines after ENDATA aren't looked at.
abbrev pub verdict : ℕ → List (List ℕ) → List (List ℕ) → Result (List (List ℕ) × ℕ) Fault
verdict at earlier [] = Err (length earlier + 1, kinds.NoEnd)
verdict at earlier (raw ∷ raws) =
    unless (line_fault (told_by earlier) at raw) (length earlier + 1)
    (if ends (without_return raw) then Ok (without_return raw ∷ earlier, at + length raw + 1) else verdict (at + length raw + 1) (without_return raw ∷ earlier) raws)

abbrev pub verdict_of : List ℕ → Result (List (List ℕ) × ℕ) Fault
verdict_of text = verdict 0 [] (raw_lines text)
