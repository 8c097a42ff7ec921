-- What is accepted is good and true.
use Rattle.std.specs.Prelude.{◌≡◌, Result, Ok, Err}
use Rattle.std.proofs.Common.{refl}
use Rattle.program_law.specs.Program.{Program, IsProgram}
use Rattle.program_law.specs.Verdict.{IsTrueOf}
use Rattle.certificate_law.specs.declared.Certificate.{Certificate}
use Rattle.certificate_law.specs.Good.{IsGood, verdict_of}
use Rattle.cert_check_law.specs.declared.Event.{Event}
use Rattle.cert_check_law.specs.declared.Event.TheVariants.{Past, Failed}
use Rattle.cert_check_law.specs.declared.Checked.TheVariants.{Accepted}
use Rattle.cert_check_law.specs.Check.{checked, answer}
use Rattle.certificate_law.specs.Fits.{Fits}
use Rattle.cert_check_law.proofs.Checks.{no_event_is_good, no_event_is_true}

no_event : (r : Result (Unit {0}) Event) → answer r ≡ Accepted → r ≡ Ok tt
no_event (Ok x) e = refl
no_event (Err (Past r)) e = cc
no_event (Err (Failed rule place)) e = cc

pub accepted_is_good : (p : Program) (c : Certificate) → IsProgram p → Fits p c → answer (checked p c) ≡ Accepted → IsGood p c
accepted_is_good p c is fit e = no_event_is_good p c is fit (no_event (checked p c) e)

pub accepted_is_true : (p : Program) (c : Certificate) → IsProgram p → Fits p c → answer (checked p c) ≡ Accepted → IsTrueOf p (verdict_of c)
accepted_is_true p c is fit e = no_event_is_true p c is fit (no_event (checked p c) e)
