-- A line's pairs with the places of their names and their numbers.
use Rattle.std.specs.Prelude.{◌≡◌, ℕ, Bool, List, [], ◌∷◌, Option, Some, None, Result, Ok, Err, if◌then◌else◌}
use Rattle.rational.specs.Rational.{ℚ}
use Rattle.program_law.specs.Places.{place_of}
use Rattle.mps_tokens.specs.declared.fault.NumberFault.{NumberFault}
use Rattle.mps_tokens.specs.declared.fault.NumberFault.TheVariants as number_faults
use Rattle.mps_tokens.specs.Numbers.{number_of}
use Rattle.mps_grammar.specs.declared.kinds.FaultKind.{FaultKind}
use Rattle.mps_grammar.specs.declared.kinds.FaultKind.TheVariants as kinds
use Rattle.mps_grammar.specs.Fields.{Pair}
use Rattle.mps_grammar.specs.Told.{twice}
use Rattle.mps_grammar.specs.Faults.{Tests, first_of, has_unknown, has_no_number, has_past}
use Rattle.mps_fields.specs.declared.pairs.Item.{Item}
use Rattle.mps_fields.specs.declared.pairs.Items.{Items}

-- what a spelling stands for, or twice that
abbrev pub number_in : Bool → List ℕ → Result ℚ NumberFault
number_in doubled spelling = if doubled then twice (number_of spelling) else number_of spelling

abbrev pub kind_for : NumberFault → FaultKind
kind_for number_faults.NotNumber = kinds.NumberText
kind_for number_faults.Past = kinds.NumberPast

-- both numbers, or the fault that comes first in the order of the tests
abbrev pub both_of : Result ℚ NumberFault → Result ℚ NumberFault → Result (ℚ × ℚ) NumberFault
both_of (Ok a) (Ok b) = Ok (a, b)
both_of (Ok a) (Err fault) = Err fault
both_of (Err number_faults.NotNumber) b = Err number_faults.NotNumber
both_of (Err number_faults.Past) (Ok b) = Err number_faults.Past
both_of (Err number_faults.Past) (Err fault) = Err fault

-- the tests of a line's pairs alone
abbrev pub pair_tests : List (List ℕ) → (List ℕ → Result ℚ NumberFault) → List Pair → Tests
pair_tests names read pairs = (has_unknown names pairs, kinds.NameUnknown) ∷ (has_no_number read pairs, kinds.NumberText) ∷ (has_past read pairs, kinds.NumberPast) ∷ []

-- an item has the place of its pair's name and the number of its spelling
pub record IsItem (names : List (List ℕ)) (read : List ℕ → Result ℚ NumberFault) (pair : Pair) (item : Item) : Type 0 where
  pub place : place_of names pair.0 ≡ Some item.place
  pub value : read pair.1 ≡ Ok item.value

abbrev pub AreItems : List (List ℕ) → (List ℕ → Result ℚ NumberFault) → List Pair → Item → Option Item → Type 0
AreItems names read [] first second = ⊥
AreItems names read (p ∷ []) first None = IsItem names read p first
AreItems names read (p ∷ []) first (Some second) = ⊥
AreItems names read (p ∷ q ∷ []) first None = ⊥
AreItems names read (p ∷ q ∷ []) first (Some second) = IsItem names read p first × IsItem names read q second
AreItems names read (p ∷ q ∷ r ∷ rest) first second = ⊥

abbrev pub Resolves : List (List ℕ) → (List ℕ → Result ℚ NumberFault) → List Pair → Result Items FaultKind → Type 0
Resolves names read pairs (Ok items) = (first_of (pair_tests names read pairs) ≡ None) × AreItems names read pairs items.first items.second
Resolves names read pairs (Err kind) = first_of (pair_tests names read pairs) ≡ Some kind
