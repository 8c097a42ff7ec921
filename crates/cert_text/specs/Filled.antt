-- What reading the lines answers.
use Rattle.std.specs.Prelude.{◌≡◌, Result, Ok, Err, ⊤}
use Rattle.cert_grammar.specs.declared.kinds.CertStop.{CertStop}
use Rattle.cert_grammar.specs.declared.kinds.CertStop.TheVariants as stops
use Rattle.cert_text.specs.declared.draft.Draft.{Draft}
use Rattle.cert_text.specs.Drafts.{told}
use Rattle.cert_text_law.specs.Told.{certificate_told, IsTreeDue}
use Rattle.cert_text_law.specs.Reading.{Answer}

-- the draft tells the certificate that is the answer, or the answer is the fault
abbrev pub Fills : Answer → Draft → Result (Unit {0}) CertStop → Type 0
Fills answer d (Ok u) = (answer ≡ Ok (certificate_told d.claim (told d))) × IsTreeDue d.claim d.nodes
Fills answer d (Err stops.Memory) = ⊤
Fills answer d (Err (stops.Fault line kind)) = answer ≡ Err (line, kind)
