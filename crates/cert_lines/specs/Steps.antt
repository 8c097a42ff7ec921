-- What reading one line more answers.
use Rattle.std.specs.Prelude.{◌≡◌, ℕ, ◌+◌, List, length, slice_get, Option, Some, None, Result, Ok, Err}
use Rattle.program_law.specs.Program.{Program}
use Rattle.certificate_law.specs.declared.Certificate.{Certificate}
use Rattle.cert_grammar.specs.declared.kinds.CertKind.{CertKind}
use Rattle.cert_grammar.specs.Items.{IsWithin}
use Rattle.cert_text_law.specs.History.{IsBehind}
use Rattle.cert_text_law.specs.Items.{text_items}
use Rattle.cert_text_law.specs.Reading.{read_of}
use Rattle.cert_lines.specs.declared.steps.Step.{Step}

-- the line is the next one behind so many
abbrev pub IsNext : Program → List ℕ → ℕ → ℕ → Step → Type 0
IsNext p text line given step =
    (slice_get (text_items p text) given ≡ Some step.item) × IsWithin p step.item × IsBehind p text line (given + 1) step.rest.now step.place

-- the text has its fault behind so many
abbrev pub IsFault : Program → List ℕ → ℕ → ℕ → CertKind → Type 0
IsFault p text line given kind = (given ≡ length (text_items p text)) × (read_of p line text ≡ Err (line + given, kind))

-- the text is read to its end by so many
abbrev pub IsEnd : Program → List ℕ → ℕ → ℕ → Type 0
IsEnd p text line given = (given ≡ length (text_items p text)) × (c : Certificate) × (read_of p line text ≡ Ok c)

abbrev pub Begins : Program → List ℕ → ℕ → Result Step CertKind → Type 0
Begins p text line (Ok step) = IsNext p text line 0 step
Begins p text line (Err kind) = IsFault p text line 0 kind

abbrev pub Goes : Program → List ℕ → ℕ → ℕ → Result (Option Step) CertKind → Type 0
Goes p text line given (Ok (Some step)) = IsNext p text line given step
Goes p text line given (Ok None) = IsEnd p text line given
Goes p text line given (Err kind) = IsFault p text line given kind
