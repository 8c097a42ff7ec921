-- What the check of a text answers.
use Rattle.std.specs.Prelude.{◌≡◌, Result, Ok, Err, ⊤}
use Rattle.program_law.specs.Program.{Program}
use Rattle.certificate_law.specs.declared.Certificate.{Certificate}
use Rattle.cert_check_law.specs.declared.Checked.{Checked}
use Rattle.cert_check_law.specs.Check.{checked, answer}
use Rattle.cert_grammar.specs.declared.kinds.CertStop.{CertStop}
use Rattle.cert_grammar.specs.declared.kinds.CertStop.TheVariants as stops
use Rattle.cert_text_law.specs.Reading.{Answer}

-- by what the text says: the answer of the check of its certificate, or its fault
abbrev pub IsTextAnswer : Program → Answer → Result Checked CertStop → Type 0
IsTextAnswer p said (Ok a) = (c : Certificate) × (said ≡ Ok c) × (a ≡ answer (checked p c))
IsTextAnswer p said (Err stops.Memory) = ⊤
IsTextAnswer p said (Err (stops.Fault line kind)) = said ≡ Err (line, kind)
