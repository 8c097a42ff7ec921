-- A calculation as a list: operations over exact values and tests, in order, and the first of them that makes an event.
use Rattle.std.specs.Prelude.{◌≡◌, ℕ, List, ◌∷◌, ◌++◌, map, Bool, true, Result, Ok, Err}
use Rattle.std.specs.List.{All}
use Rattle.frac_core.specs.Parts.{max_part}
use Rattle.frac_core.specs.declared.fractions.Refused.{Refused}
use Rattle.frac_core.specs.Operations.{IsWithin}
use Rattle.cert_check_law.specs.declared.Event.{Event}
use Rattle.cert_check_law.specs.declared.Event.TheVariants.{Past, Failed}

-- an operation with its operands; or a test: whether it holds, its rule, and the place that it speaks of
pub data Entry : Type 0 where
  Operation : Refused → Entry
  Test : Bool → ℕ → ℕ → Entry

-- operations alone
abbrev pub operations : List Refused → List Entry
operations ops = map Operation ops

-- a test holds; an operation asks for nothing
abbrev pub Holds : Entry → Type 0
Holds (Operation o) = Unit {0}
Holds (Test holds rule place) = holds ≡ true

-- no event: the operation's exact result fits, or the test holds
abbrev pub Passes : Entry → Type 0
Passes (Operation o) = IsWithin max_part o
Passes (Test holds rule place) = holds ≡ true

-- the event of an entry that doesn't pass
abbrev pub event_of : Entry → Event
event_of (Operation o) = Past o
event_of (Test holds rule place) = Failed rule place

-- e is the event of an entry of the list that doesn't pass, and each entry before that one passes
pub record IsFirstEvent (entries : List Entry) (e : Event) : Type 0 where
  pub earlier : List Entry
  pub entry : Entry
  pub later : List Entry
  pub place : entries ≡ earlier ++ entry ∷ later
  pub before : All Passes earlier
  pub stops : ¬ (Passes entry)
  pub event : e ≡ event_of entry

-- how a calculation ends by its list: without event where each entry passes, and else with the first event
abbrev pub EndsAs : List Entry → Result (Unit {0}) Event → Type 0
EndsAs entries (Ok x) = All Passes entries
EndsAs entries (Err e) = IsFirstEvent entries e
