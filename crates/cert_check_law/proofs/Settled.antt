-- What a calculation settles: without an event it ends with a value and a fact, and a test that fails refutes the fact.
use Rattle.std.specs.Prelude.{◌≡◌, Result, Ok, Err}
use Rattle.cert_check_law.specs.declared.Event.{Event}
use Rattle.cert_check_law.specs.declared.Event.TheVariants.{Past, Failed}
use Rattle.cert_check_law.specs.Chain.{NoTestFails}

abbrev pub Ends : {A : Type 0} → Result A Event → A → Type 0 → Type 0
Ends (Ok x) v T = (x ≡ v) × T
Ends (Err (Past r)) v T = Unit {0}
Ends (Err (Failed rule place)) v T = T → ⊥

pub record Settles {A : Type 0} (r : Result A Event) (v : A) (T : Type 0) : Type 0 where
  pub ends : Ends r v T

-- an Ok shows the fact
pub shown : {A : Type 0} {T : Type 0} (r : Result A Event) (v x : A) → Settles r v T → r ≡ Ok x → T
shown (Ok y) v x s e = s.ends.1
shown (Err d) v x s e = absurd (no e)
  where
    no : Err d ≡ Ok x → ⊥
    no e = cc

-- where the fact holds no test fails
pub passes : {A : Type 0} {T : Type 0} (r : Result A Event) (v : A) → Settles r v T → T → NoTestFails r
passes (Ok y) v s t = tt
passes (Err (Past r)) v s t = tt
passes (Err (Failed rule place)) v s t = s.ends t
