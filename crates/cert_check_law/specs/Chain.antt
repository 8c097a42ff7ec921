-- Calculations: operations and tests in order, up to the first event.
use Rattle.std.specs.Prelude.{ℕ, Bool, Result, Ok, Err, if◌then◌else◌}
use Rattle.rational.specs.Rational.{ℚ}
use Rattle.frac_core.specs.Calculated.{tried}
use Rattle.frac_core.specs.declared.fractions.Op.{Op}
use Rattle.frac_core.specs.declared.fractions.Tried.{Tried}
use Rattle.frac_core.specs.declared.fractions.Tried.TheVariants.{Is, Past as PastTried}
use Rattle.cert_check_law.specs.declared.Event.{Event}
use Rattle.cert_check_law.specs.declared.Event.TheVariants.{Past, Failed}

-- one part after another, up to the first event
infixl 10 ◌>>=◌
abbrev pub ◌>>=◌ : {A B : Type 0} → Result A Event → (A → Result B Event) → Result B Event
(Ok x) >>= f = f x
(Err e) >>= f = Err e

-- an operation's answer: its result, or the event that it is past
abbrev pub answered : Tried → Result ℚ Event
answered (Is x) = Ok x
answered (PastTried r) = Err (Past r)

-- an operation: past where its exact result doesn't fit
abbrev pub op : Op → ℚ → ℚ → Result ℚ Event
op o x y = answered (tried o x y)

-- a test, with the rule that it breaks and the place where it fails
abbrev pub test : Bool → ℕ → ℕ → Result (Unit {0}) Event
test holds rule place = if holds then Ok tt else Err (Failed rule place)

-- no test failed: an operation alone may have ended it
abbrev pub NoTestFails : {A : Type 0} → Result A Event → Type 0
NoTestFails (Ok x) = Unit {0}
NoTestFails (Err (Past r)) = Unit {0}
NoTestFails (Err (Failed rule place)) = ⊥
