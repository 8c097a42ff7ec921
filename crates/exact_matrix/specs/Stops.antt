-- What is said of a call that may stop: for memory, or at an operation that is past.
use Rattle.std.specs.Prelude.{◌≡◌, ℕ, List, Result, Ok, Err}
use Rattle.std.specs.List.{All}
use Rattle.frac_core.specs.declared.fractions.Refused.{Refused}
use Rattle.frac_core.specs.Operations.{IsWithin, IsFirstPast, IsPastOf}
use Rattle.frac_core.specs.Parts.{max_part}
use Rattle.exact_matrix.specs.declared.systems.Stop.{Stop}
use Rattle.exact_matrix.specs.declared.systems.Stop.TheVariants.{Memory, Past}

-- memory, or an operation of the list that is past
abbrev pub IsStopIn : List Refused → Stop → Type 0
IsStopIn operations Memory = Unit {0}
IsStopIn operations (Past r) = IsPastOf operations r

-- a calculation that a stop ends ends with its refusal
abbrev pub Stops : {A : Type 0} → Stop → Result A Refused → Type 0
Stops Memory t = Unit {0}
Stops (Past r) t = t ≡ Err r

-- a call ends with what the calculation does, as `view` sees it, unless memory runs out
abbrev pub Answers : {T A : Type 0} → (T → A) → Result T Stop → Result A Refused → Type 0
Answers view (Ok x) t = t ≡ Ok (view x)
Answers view (Err e) t = Stops e t

-- memory, or the first operation of the list that is past
abbrev pub IsFirstStop : ℕ → List Refused → Stop → Type 0
IsFirstStop top operations Memory = Unit {0}
IsFirstStop top operations (Past r) = IsFirstPast top operations r

-- no operation of the list is past where there is an answer; a refusal is the first that is
abbrev pub IsAnswerIn : {A : Type 0} → ℕ → List Refused → Result A Stop → Type 0
IsAnswerIn top operations (Ok x) = All (IsWithin top) operations
IsAnswerIn top operations (Err stop) = IsFirstStop top operations stop

-- the same of fractions
abbrev pub IsAnswerOf : {A : Type 0} → List Refused → Result A Stop → Type 0
IsAnswerOf operations result = IsAnswerIn max_part operations result
