-- The branches of a tree, and a walk with room for them.
use Rattle.std.specs.Prelude.{◌≡◌, ℕ, suc, ◌≤◌, List, [], ◌∷◌, Option}
use Rattle.rational.specs.Rational.{ℚ}
use Rattle.program_law.specs.Program.{Program, bounds}
use Rattle.program_regions.specs.Descents.{Descended}
use Rattle.certificate_law.specs.declared.Node.{Node}
use Rattle.certificate_law.specs.declared.Node.TheVariants.{Branch, Bound, Farkas, Cross}
use Rattle.certificate_law.specs.declared.Certificate.{Certificate}
use Rattle.certificate_law.specs.declared.Certificate.TheVariants.{Optimal, Infeasible, Unbounded, NotConvex}

-- how many branches there are
abbrev pub branches : List Node → ℕ
branches [] = 0
branches (Branch j k ∷ ns) = suc (branches ns)
branches (Bound w y ∷ ns) = branches ns
branches (Farkas y ∷ ns) = branches ns
branches (Cross j ∷ ns) = branches ns

-- how many branches a certificate's tree has; 0 where it has no tree
abbrev pub branches_of : Certificate → ℕ
branches_of (Optimal x v squares tree) = branches tree
branches_of (Infeasible tree) = branches tree
branches_of (Unbounded x d squares) = 0
branches_of (NotConvex v) = 0

-- a walk begins: the program's bounds, no cuts, and room for so many
pub record IsStart (p : Program) (count : ℕ) (walk : Descended (Option ℚ)) : Type 0 where
  pub region : walk.region ≡ bounds p
  pub before : walk.before ≡ []
  pub room : count ≤ walk.room
