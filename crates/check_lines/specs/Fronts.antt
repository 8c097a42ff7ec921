-- What stands before a certificate's tree, as far as it is told.
use Rattle.std.specs.Prelude.{◌≡◌, [], All, length}
use Rattle.program_law.specs.Program.{Program}
use Rattle.program_law.specs.Changes.{zeros}
use Rattle.certificate_law.specs.Fits.{IsColumnVector}
use Rattle.cert_text_law.specs.Told.{Told}
use Rattle.check_lines.specs.declared.fronts.Front.{Front}

-- what it tells; no node is kept
abbrev pub told : Front → Told
told f = record { point = f.point; ray = f.ray; direction = f.direction; value = f.value; squares = f.squares.items; nodes = [] }

-- its vectors have an entry for each column
pub record IsFrontOf (p : Program) (f : Front) : Type 0 where
  pub point : IsColumnVector p f.point
  pub ray : IsColumnVector p f.ray
  pub direction : IsColumnVector p f.direction
  pub squares : All (λ s. IsColumnVector p s.coef) f.squares.items
  pub spare : All (λ v. v ≡ zeros (length p.columns)) f.spare.items
