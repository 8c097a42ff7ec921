-- The first line is the next one behind none.
use Rattle.std.proofs.Common.{ℕ, List, None, sym, subst}
use Rattle.program_law.specs.Program.{Program}
use Rattle.cert_grammar.specs.declared.kinds.CertKind.{CertKind}
use Rattle.cert_text_law.specs.History.{Follows}
use Rattle.cert_lines.specs.declared.steps.Step.{Step}
use Rattle.cert_lines.specs.Steps.{IsNext, IsFault}

-- what holds of the whole text behind none holds where the first line is to come
at_first : (P : List ℕ → ℕ → Type 0) (p : Program) (whole text : List ℕ) (line given : ℕ) → Follows p whole line given text None → P text 0 → P whole given
at_first P p whole text line given f h = subst (P whole) (sym f.0) (subst (λ t. P t 0) f.1 h)

pub next_first : (p : Program) (whole text : List ℕ) (line given : ℕ) (step : Step) → Follows p whole line given text None → IsNext p text line 0 step → IsNext p whole line given step
next_first p whole text line given step f h = at_first (λ t n. IsNext p t line n step) p whole text line given f h

pub fault_first : (p : Program) (whole text : List ℕ) (line given : ℕ) (kind : CertKind) → Follows p whole line given text None → IsFault p text line 0 kind → IsFault p whole line given kind
fault_first p whole text line given kind f h = at_first (λ t n. IsFault p t line n kind) p whole text line given f h
