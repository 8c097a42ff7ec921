-- A form as it is kept: its parts, and how its columns and equations came from a program and a region.
use Rattle.std.specs.Prelude.{◌≡◌, ℕ, ◌<◌, ◌≤◌, List, length}
use Rattle.std.specs.List.{All}
use Rattle.program_law.specs.Region.{Region}
use Rattle.program_law.specs.Program.{Program, sides}
use Rattle.rational.specs.Vectors.{IsSymmetric}
use Rattle.equational_law.specs.Standing.{parts}
use Rattle.equational_law.specs.Solutions.{IsForm}
use Rattle.equational_law.specs.Form.{Form, equations, form_of}
use Rattle.equational_rows.specs.Firsts.{firsts_from}
use Rattle.equational_rows.specs.declared.equations.First.{First}

-- the form; the region, whose bounds say how the columns stand; and the first equation of each row of the file
pub record Formed : Type 0 where
  pub form : Form
  pub region : Region
  pub firsts : List First

-- what is kept of the form of a program in a region
abbrev pub formed : Program → Region → Formed
formed p region = record { form = form_of p region; region = region; firsts = firsts_from 0 (sides p) (equations p region) }

-- what holds of every form that is kept, of which M has m columns and Q has n: its parts fit, no right side is below 0, Q is symmetric,
-- the bounds say how the file's columns stand, and each row of the file has an equation
pub record IsKept (m n : ℕ) (region : Region) (kept : List First) (f : Form) : Type 0 where
  pub width : m ≡ length f.cost
  pub square : n ≡ length f.cost
  pub form : IsForm (length f.cost) f
  pub symmetric : IsSymmetric (length f.cost) f.quadratic
  pub parts : parts region ≤ length f.cost
  pub firsts : All (λ s. s.equation < length f.right) kept
