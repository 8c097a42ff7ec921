-- What an answer tells a search for a point, and what its end tells of the program.
use Rattle.std.specs.Prelude.{◌≡◌, ◌↔◌, ℕ, ◌<◌, List, Bool, true, false, if◌then◌else◌, Result, Ok, Err, IfOk}
use Rattle.std.proofs.Common.{refl, sym, subst}
use Rattle.rational.specs.Rational.{ℚ}
use Rattle.program_law.specs.declared.Square.{Square}
use Rattle.program_law.specs.Program.{Program, IsProgram}
use Rattle.certificate_law.specs.declared.Certificate.{Certificate}
use Rattle.certificate_law.specs.declared.Certificate.TheVariants.{NotConvex}
use Rattle.certificate_law.specs.Good.{IsGood}
use Rattle.program_law.proofs.Squared.{squares_semidefinite}
use Rattle.cert_check_law.specs.Chain.{NoTestFails}
use Rattle.cert_check_law.specs.Check.{checked}
use Rattle.cert_check_law.proofs.Checks.{good_passes}
use Rattle.cert_grammar.specs.Writable.{IsWritable}
use Rattle.rational.proofs.OrderLaws.{not-le_of_lt}
use Rattle.program_law.specs.Verdict.{IsNotConvex}
use Rattle.convexity.specs.declared.Curvature.TheVariants.{Squares, Negative}
use Rattle.convexity.specs.ReductionCalculation.{squares_of}
use Rattle.branching_law.specs.Nodes.{ForPoint}
use Rattle.branching_law.specs.Found.{Convex, Curved, IsFoundOf}
use Rattle.branching_law.proofs.FoundCertificates.{found_is_good}
use Rattle.search_steps.specs.declared.progress.Progress.{Progress}
use Rattle.branching.specs.declared.point.Outcome.{Outcome}
use Rattle.branching.specs.declared.point.Outcome.TheVariants.{More, Done}
use Rattle.search_steps.specs.Progressing.{IsOnWay, work_left}
use Rattle.branching.specs.Reaching.{IsTakenTo}
use Rattle.branching.specs.Decided.{AreSquaresFor, ClaimsCurved, IsCurved, IsFound}

pub taken_after : (p : Program) (bases boxes : ℕ) (old new : Progress) (more : Bool) (o : Outcome) → o ≡ (if more then More else Done) → IsOnWay ForPoint p bases boxes more new
    → (more ≡ true → work_left boxes new < work_left boxes old) → IsTakenTo p bases boxes old new o
taken_after p bases boxes old new true o e way less = subst (IsTakenTo p bases boxes old new) (sym e) (way, less refl)
taken_after p bases boxes old new false o e way less = subst (IsTakenTo p bases boxes old new) (sym e) way

pub found_if : {E : Type 0} (p : Program) (bases boxes : ℕ) (squares : List Square) (r : Result Certificate E) → squares_of p.pairs ≡ Ok (Squares squares) → IfOk r (IsFoundOf p (Convex squares) bases boxes)
    → IfOk r (IsFound p bases boxes)
found_if p bases boxes squares (Ok c) e h = record { reduced = Convex squares; reduction = e; found = h }
found_if p bases boxes squares (Err s) e h = tt

pub good_if : {E : Type 0} (p : Program) (bases boxes : ℕ) (squares : List Square) (r : Result Certificate E) → IsProgram p → AreSquaresFor p squares → IfOk r (IsFoundOf p (Convex squares) bases boxes)
    → IfOk r (IsGood p)
good_if p bases boxes squares (Ok c) is sum h = found_is_good p is bases (Convex squares) boxes c sum.sum h
good_if p bases boxes squares (Err s) is sum h = tt

pub curved_found : (p : Program) (bases boxes : ℕ) (v : List ℚ) → squares_of p.pairs ≡ Ok (Negative v) → IsFound p bases boxes (NotConvex v)
curved_found p bases boxes v e = record { reduced = Curved v; reduction = e; found = refl }

pub accepted_if : {E : Type 0} (p : Program) (r : Result Certificate E) → IsProgram p → IfOk r (IsGood p) → IfOk r (IsWritable p) → IfOk r (λ c. NoTestFails (checked p c))
accepted_if p (Ok c) is good writable = good_passes p c is writable.fitting good
accepted_if p (Err s) is good writable = tt

-- where squares sum to Q, no vector has a negative form
no_claim : (p : Program) (squares : List Square) (c : Certificate) → AreSquaresFor p squares → IsGood p c → ClaimsCurved c ↔ IsCurved p
no_claim p squares c sum good =
    (λ claim. (claim.0, subst (IsGood p) claim.1 good), λ curved. absurd (not-le_of_lt curved.1 ((squares_semidefinite p.pairs squares sum.sum).not_negative curved.0)))

pub curved_if : {E : Type 0} (p : Program) (squares : List Square) (r : Result Certificate E) → AreSquaresFor p squares → IfOk r (IsGood p) → IfOk r (λ c. ClaimsCurved c ↔ IsCurved p)
curved_if p squares (Ok c) sum good = no_claim p squares c sum good
curved_if p squares (Err s) sum good = tt

pub claims_curved : (p : Program) (v : List ℚ) → IsNotConvex p v → ClaimsCurved (NotConvex v) ↔ IsCurved p
claims_curved p v curved = (λ claim. (v, curved), λ is. (v, refl))
