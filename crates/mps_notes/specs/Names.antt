-- Names of rows and columns.
use Rattle.std.specs.Prelude.{ℕ, List}
use Rattle.std.specs.List.{AllByRecursion}
use Rattle.program_law.specs.Program.{IsName}

-- each of them is a name that a program may have
abbrev pub AreNames : List (List ℕ) → Type 0
AreNames names = AllByRecursion IsName names
