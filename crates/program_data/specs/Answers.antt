-- What naming and adding answer.
use Rattle.std.specs.Prelude.{◌≡◌, ℕ, ◌≤◌, ◌<◌, List, None, IsSome, Result, Ok, Err}
use Rattle.program_law.specs.Program.{IsName}
use Rattle.program_law.specs.Places.{place_of}
use Rattle.program_data.specs.declared.faults.NameFault.{NameFault}
use Rattle.program_data.specs.declared.faults.NameFault.TheVariants as name
use Rattle.program_data.specs.declared.faults.AddFault.{AddFault}
use Rattle.program_data.specs.declared.faults.AddFault.TheVariants as add

-- bytes as a name: the same bytes, or they aren't a name, or they are one and memory ran out
abbrev pub IsNamed : List ℕ → Result (List ℕ) NameFault → Type 0
IsNamed bytes (Ok n) = (n ≡ bytes) × IsName bytes
IsNamed bytes (Err name.Bad) = IsName bytes → ⊥
IsNamed bytes (Err name.Memory) = IsName bytes

-- A thing is to be put after so many others, and some names are taken. There are as many as there may be; or fewer and the name
-- is taken; or there are fewer and the name is new. Then the answer is the thing's place, unless memory ran out.
abbrev pub IsPlaced : ℕ → ℕ → List (List ℕ) → List ℕ → Result ℕ AddFault → Type 0
IsPlaced most count taken n (Ok place) = (place ≡ count) × (count < most) × (place_of taken n ≡ None)
IsPlaced most count taken n (Err add.Many) = most ≤ count
IsPlaced most count taken n (Err add.Twice) = (count < most) × IsSome (place_of taken n)
IsPlaced most count taken n (Err add.Memory) = (count < most) × (place_of taken n ≡ None)
