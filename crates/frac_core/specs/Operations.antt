-- The operations of a calculation in order, and the first of them that is refused.
use Rattle.std.specs.Prelude.{◌≡◌, ℕ, List, ◌∷◌, ◌++◌}
use Rattle.std.specs.List.{All, Contains}
use Rattle.rational.specs.Rational.{ℚ, Fits}
use Rattle.frac_core.specs.declared.fractions.Op.{Op}
use Rattle.frac_core.specs.declared.fractions.Refused.{Refused}
use Rattle.frac_core.specs.declared.fractions.Tried.{Tried}
use Rattle.frac_core.specs.declared.fractions.Tried.TheVariants.{Is, Past}
use Rattle.frac_core.specs.Calculated.{exact_of}
use Rattle.frac_core.specs.Parts.{max_part}

-- an operation with its operands
abbrev pub operation : Op → ℚ → ℚ → Refused
operation op p q = record { op = op; left = p; right = q }

-- the exact result has no part above top
abbrev pub IsWithin : ℕ → Refused → Type 0
IsWithin top o = Fits top (exact_of o.op o.left o.right)

-- the exact result has a part above top
abbrev pub IsPast : ℕ → Refused → Type 0
IsPast top o = ¬ (IsWithin top o)

-- r stands in the list, and is past for fractions
abbrev pub IsPastOf : List Refused → Refused → Type 0
IsPastOf operations r = Contains operations r × IsPast max_part r

-- r stands in the list and is past, and each operation before it is not
pub record IsFirstPast (top : ℕ) (operations : List Refused) (r : Refused) : Type 0 where
  pub earlier : List Refused
  pub later : List Refused
  pub place : operations ≡ earlier ++ r ∷ later
  pub within : All (IsWithin top) earlier
  pub past : IsPast top r

-- the answer of the operations in order: a number where none is past, and else the first that is
abbrev pub Tries : ℕ → List Refused → Tried → Type 0
Tries top operations (Is q) = All (IsWithin top) operations
Tries top operations (Past r) = IsFirstPast top operations r
