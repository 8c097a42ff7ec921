-- What a form, its solutions and its rays are.
use Rattle.std.specs.Prelude.{◌≡◌, ℕ, List, [], ◌∷◌, length, IsSome}
use Rattle.std.specs.List.{All}
use Rattle.rational.specs.Rational.{ℚ, zero_ℚ, one_ℚ, neg_ℚ}
use Rattle.rational.specs.Order.{◌≤ℚ◌}
use Rattle.rational.specs.Vectors.{dot, rows_dot, zeros, HasColumns}
use Rattle.program_law.specs.Region.{Region}
use Rattle.program_law.specs.Program.{Program, sides}
use Rattle.certificate_law.specs.Ray.{AllKeepSides, AreZero}
use Rattle.equational_law.specs.Form.{Form}

abbrev pub IsNotNegative : ℚ → Type 0
IsNotNegative x = zero_ℚ ≤ℚ x

-- a form of n columns: its parts fit, and no right side is below 0
pub record IsForm (n : ℕ) (f : Form) : Type 0 where
  pub columns : HasColumns n f.matrix
  pub right : length f.right ≡ length f.matrix
  pub not_negative : All IsNotNegative f.right
  pub pairs_height : length f.quadratic ≡ n
  pub pairs_width : HasColumns n f.quadratic
  pub cost : length f.cost ≡ n

-- M z = r and z is not below 0
pub record IsSolution (f : Form) (z : List ℚ) : Type 0 where
  pub width : length z ≡ length f.cost
  pub equal : rows_dot f.matrix z ≡ f.right
  pub not_negative : All IsNotNegative z

-- M d = 0, Q d = 0, c · d = -1, and d is not below 0
pub record IsFormRay (f : Form) (d : List ℚ) : Type 0 where
  pub width : length d ≡ length f.cost
  pub equal : rows_dot f.matrix d ≡ zeros (length f.matrix)
  pub flat : rows_dot f.quadratic d ≡ zeros (length f.quadratic)
  pub falls : dot f.cost d ≡ neg_ℚ one_ℚ
  pub not_negative : All IsNotNegative d

-- a direction that leads out of no side of a row and no bound of a region, with Q d = 0 and c · d = -1
pub record IsRegionRay (p : Program) (region : Region) (d : List ℚ) : Type 0 where
  pub rows : AllKeepSides (sides p) (rows_dot p.entries d)
  pub columns : AllKeepSides region d
  pub flat : AreZero (rows_dot p.pairs d)
  pub falls : dot p.costs d ≡ neg_ℚ one_ℚ

-- as many columns, and each bound that the first region has, the second has too, whatever its number
abbrev pub HasItsBounds : Region → Region → Type 0
HasItsBounds [] [] = Unit {0}
HasItsBounds [] (b ∷ bs) = ⊥
HasItsBounds (a ∷ more) [] = ⊥
HasItsBounds (a ∷ more) (b ∷ bs) = (IsSome a.low → IsSome b.low) × (IsSome a.high → IsSome b.high) × HasItsBounds more bs
