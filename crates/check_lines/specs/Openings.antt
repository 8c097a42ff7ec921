-- What is open of a certificate, as it is kept.
use Rattle.std.specs.Prelude.{◌≢◌, ◌<◌, ◌^◌, neg_ℤ, pos, List, length}
use Rattle.rational.specs.Rational.{ℚ}
use Rattle.program_law.specs.Program.{Program}
use Rattle.certificate_law.specs.declared.Node.TheVariants as nodes
use Rattle.certificate_law.specs.Fits.{IsColumnVector, IsRowVector}
use Rattle.check_progress.specs.Progress.{Stage, Head, At, Closed}
use Rattle.check_lines.specs.declared.openings.Kind.{Kind}
use Rattle.check_lines.specs.declared.openings.Kind.TheVariants as kinds
use Rattle.check_lines.specs.declared.openings.Opened.{Opened}

-- a leaf's numbers are those that are kept beside it
abbrev pub stage_with : Kind → List ℚ → List ℚ → Stage
stage_with kinds.Head w y = Head
stage_with (kinds.Branch j k) w y = At (nodes.Branch j k)
stage_with kinds.Bound w y = At (nodes.Bound w y)
stage_with kinds.Farkas w y = At (nodes.Farkas y)
stage_with (kinds.Cross j) w y = At (nodes.Cross j)
stage_with kinds.Closed w y = Closed

abbrev pub stage_of : Opened → Stage
stage_of o = stage_with o.kind o.w o.y

-- its column is one of the program's, and a branch's number isn't -2^127
abbrev pub IsKindOf : Program → Kind → Type 0
IsKindOf p kinds.Head = Unit {0}
IsKindOf p (kinds.Branch j k) = (j < length p.columns) × (k ≢ neg_ℤ (pos (2 ^ 127)))
IsKindOf p kinds.Bound = Unit {0}
IsKindOf p kinds.Farkas = Unit {0}
IsKindOf p (kinds.Cross j) = j < length p.columns
IsKindOf p kinds.Closed = Unit {0}

-- a leaf's vectors have the program's lengths
pub record IsOpenedOf (p : Program) (o : Opened) : Type 0 where
  pub kind_fits : IsKindOf p o.kind
  pub point : IsColumnVector p o.w
  pub multipliers : IsRowVector p o.y
