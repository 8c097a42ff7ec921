-- What an answer says, where the calculation gives a value or the first operation that is past.
use Rattle.std.specs.Prelude.{◌≡◌, List, Result, Ok, Err, IfOk}
use Rattle.frac_core.specs.declared.fractions.Refused.{Refused}
use Rattle.frac_core.specs.Parts.{max_part}
use Rattle.exact_matrix.specs.declared.systems.Stop.{Stop}
use Rattle.exact_matrix.specs.declared.systems.Stop.TheVariants.{Memory, Past}
use Rattle.equational_law.specs.Calculation.{Gives}
use Rattle.equational_law.proofs.Calculated.{given_value, given_within, given_past}
use Rattle.exact_matrix.specs.Stops.{Answers, IsAnswerOf}

pub answer_operations : {A : Type 0} (ops : List Refused) (v : A) (t : Result A Refused) (r : Result A Stop)
    → Gives max_part ops v t → Answers (λ x. x) r t → IsAnswerOf ops r
answer_operations ops v t (Ok x) gives is = given_within max_part ops v t x gives is
answer_operations ops v t (Err (Past r)) gives is = given_past max_part ops v t r gives is
answer_operations ops v t (Err Memory) gives is = tt

pub answer_value : {A : Type 0} (ops : List Refused) (v : A) (t : Result A Refused) (r : Result A Stop)
    → Gives max_part ops v t → Answers (λ x. x) r t → IfOk r (λ x. x ≡ v)
answer_value ops v t (Ok x) gives is = given_value max_part ops v t x gives is
answer_value ops v t (Err r) gives is = tt
