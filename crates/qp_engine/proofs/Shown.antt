-- What is written of a sample is due.
use Rattle.std.proofs.Common.{◌≡◌, inl, inr, ℕ, List, refl, sym, ap, ◌∙◌, subst}
use Rattle.rational.specs.Rational.{ℚ}
use Rattle.frac_core.specs.declared.fractions.Refused.{Refused}
use Rattle.program_law.specs.declared.Square.{Square}
use Rattle.program_law.specs.Program.{Program, IsProgram}
use Rattle.program_law.specs.Verdict.{Verdict, IsTrueOf, IsOptimal}
use Rattle.certificate_law.specs.declared.Node.{Node}
use Rattle.certificate_law.specs.declared.Certificate.{Certificate}
use Rattle.certificate_law.specs.declared.Certificate.TheVariants.{Optimal, Infeasible, Unbounded, NotConvex}
use Rattle.certificate_law.specs.Good.{IsGood, verdict_of}
use Rattle.certificate_law.proofs.Verdicts.{good_is_true}
use Rattle.cert_check_law.specs.Check.{checked, answer}
use Rattle.cert_check_law.specs.declared.Checked.TheVariants.{Accepted, Past}
use Rattle.branching.specs.Decided.{IsFound}
use Rattle.branching.specs.Stops.{IsDecideStopOf}
use Rattle.branching.specs.declared.stops.DecideStop.{DecideStop}
use Rattle.sample_make.specs.Samples.{sample_of, IsOptimalVerdict}
use Rattle.qp_words.specs.declared.order.Order.{Order}
use Rattle.qp_answers.specs.Said.{Said, said}
use Rattle.qp_answers.specs.Outcomes.{IsStopDue}
use Rattle.qp_engine.specs.Sampling.{sample, sample_text, HasSampled, IsSampleDue, IsShownBy, IsShownDue}
use Rattle.qp_answers.specs.Withheld.{check_text}
use Rattle.qp_answers.specs.declared.status.Status.TheVariants as status

-- a certificate whose verdict is optimal is no other
no_other : (c : Certificate) → IsOptimalVerdict (verdict_of c) → ((x : List ℚ) (v : ℚ) (squares : List Square) (tree : List Node) → c ≡ Optimal x v squares tree → ⊥) → ⊥
no_other (Optimal x v squares tree) h none = none x v squares tree refl
no_other (Infeasible tree) h none = h
no_other (Unbounded x d squares) h none = h
no_other (NotConvex v) h none = h

-- a good certificate of a sample is an optimal one
pub only_optimal : (order : Order) (p : Program) (c : Certificate) → p ≡ sample order → IsGood p c
    → ((kind number : ℕ) (verdict : Verdict) → IsTrueOf (sample_of kind number) verdict → IsOptimalVerdict verdict)
    → ((x : List ℚ) (v : ℚ) (squares : List Square) (tree : List Node) → c ≡ Optimal x v squares tree → ⊥) → ⊥
only_optimal order p c e good law none = no_other c (law order.kind order.number (verdict_of c) (subst (λ p. IsTrueOf p (verdict_of c)) e (good_is_true p c good))) none

pub least : (order : Order) (p : Program) (c : Certificate) (x : List ℚ) (v : ℚ) (squares : List Square) (tree : List Node) → p ≡ sample order → IsGood p c → c ≡ Optimal x v squares tree
    → IsOptimal (sample order) x v
least order p c x v squares tree e good is = subst (λ p. IsOptimal p x v) e (good_is_true p (Optimal x v squares tree) (subst (IsGood p) is good))

pub shown_due : (order : Order) (p : Program) (c : Certificate) (x : List ℚ) (v : ℚ) (text : List ℕ) (s : Said) → p ≡ sample order → IsOptimal (sample order) x v → answer (checked p c) ≡ Accepted
    → text ≡ sample_text order p v → s ≡ said status.Done text → IsShownDue order c s
shown_due order p c x v text s e best is w h =
    subst (λ k. IsShownBy order c k s) (sym (ap (λ p. answer (checked p c)) (sym e) ∙ is))
    (record { value = v; optimal = (x, best); written = h ∙ ap (said status.Done) (w ∙ ap (λ p. sample_text order p v) e) })

pub past_shown : (order : Order) (p : Program) (c : Certificate) (r : Refused) (text : List ℕ) (s : Said) → p ≡ sample order → answer (checked p c) ≡ Past r
    → text ≡ check_text r → s ≡ said status.Withheld text → IsShownDue order c s
past_shown order p c r text s e is w h =
    subst (λ k. IsShownBy order c k s) (sym (ap (λ p. answer (checked p c)) (sym e) ∙ is)) (h ∙ ap (said status.Withheld) w)

pub tells_least : (order : Order) (p : Program) (x : List ℚ) (v : ℚ) (text : List ℕ) (s : Said) → p ≡ sample order → IsOptimal (sample order) x v → text ≡ sample_text order p v → s ≡ said status.Done text
    → HasSampled order s.text
tells_least order p x v text s e best w h = record { value = v; optimal = (x, best); prints = ap (λ (s : Said). s.text) h ∙ w ∙ ap (λ p. sample_text order p v) e }

pub sample_is_due : (order : Order) (p : Program) (bases boxes : ℕ) (c : Certificate) (s : Said) → p ≡ sample order → bases ≡ order.bases → boxes ≡ order.boxes → IsProgram p → IsFound p bases boxes c
    → IsShownDue order c s → IsSampleDue order s
sample_is_due order p bases boxes c s e same_bases same_boxes is found due = (
  subst IsProgram e is,
  inl (record {
    certificate = c;
    found = subst (λ p. IsFound p order.bases order.boxes c) e (subst (λ (n : ℕ). IsFound p order.bases n c) same_boxes (subst (λ (n : ℕ). IsFound p n boxes c) same_bases found));
    due = due;
  }),
)

pub sample_stop_is_due : (order : Order) (p : Program) (bases boxes : ℕ) (stop : DecideStop) (s : Said) → p ≡ sample order → bases ≡ order.bases → boxes ≡ order.boxes → IsProgram p → IsDecideStopOf p bases boxes stop
    → IsStopDue p bases stop s → IsSampleDue order s
sample_stop_is_due order p bases boxes stop s e same_bases same_boxes is stops due = (
  subst IsProgram e is,
  inr (record {
    stop = stop;
    stops = subst (λ p. IsDecideStopOf p order.bases order.boxes stop) e (subst (λ (n : ℕ). IsDecideStopOf p order.bases n stop) same_boxes (subst (λ (n : ℕ). IsDecideStopOf p n boxes stop) same_bases stops));
    due = subst (λ p. IsStopDue p order.bases stop s) e (subst (λ (n : ℕ). IsStopDue p n stop s) same_bases due);
  }),
)

-- what is withheld is not done
pub never_done : (s : Said) (P : Type 0) → s.status ≡ status.Withheld → s.status ≡ status.Done → P
never_done s P e done = absurd (apart (sym e ∙ done))
  where
    apart : status.Withheld ≡ status.Done → ⊥
    apart e = cc
