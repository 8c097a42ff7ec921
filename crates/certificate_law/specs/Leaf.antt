-- Leaves: multipliers, residual, sides, and the bound that they give.
use Rattle.std.specs.Prelude.{◌≡◌, ℕ, suc, List, [], ◌∷◌, Option, IsSome, unwrap_or, true, if◌then◌else◌}
use Rattle.rational.specs.Rational.{ℚ, zero_ℚ, ◌+ℚ◌, ◌-ℚ◌, ◌*ℚ◌}
use Rattle.rational.specs.Order.{◌≤ℚ◌, ◌<ℚ◌}
use Rattle.rational.specs.Tests.{is_positive, is_negative}
use Rattle.program_law.specs.declared.Row.{Row}
use Rattle.rational.specs.Vectors.{dot, form, row_at, column}
use Rattle.rational.specs.Sums.{entry}
use Rattle.program_law.specs.Region.{Region}
use Rattle.program_law.specs.Program.{Program, sides}
use Rattle.program_law.specs.Value.{half}

-- the gradient at w, Qw + c, at column j
abbrev pub gradient : Program → List ℚ → ℕ → ℚ
gradient p w j = dot (row_at p.pairs j) w +ℚ entry p.costs j

-- at a FARKAS leaf there is none
abbrev pub no_gradient : ℕ → ℚ
no_gradient j = zero_ℚ

-- the residual g - A^T y, for the columns of a region from column j on
abbrev pub residual_from : (ℕ → ℚ) → List (List ℚ) → List ℚ → ℕ → Region → List ℚ
residual_from g rows y j [] = []
residual_from g rows y j (b ∷ bs) = (g j -ℚ dot (column j rows) y) ∷ residual_from g rows y (suc j) bs

abbrev pub residual : Program → (ℕ → ℚ) → Region → List ℚ → List ℚ
residual p g region y = residual_from g p.entries y 0 region

-- the side that a multiplier takes: the low one above 0, else the high one
abbrev pub side_for : ℚ → Row → Option ℚ
side_for y s = if is_positive y then s.low else s.high

-- the side that the multiplier's sign needs exists
pub record HasSide (y : ℚ) (s : Row) : Type 0 where
  pub low : is_positive y ≡ true → IsSome s.low
  pub high : is_negative y ≡ true → IsSome s.high

-- each multiplier has its side
abbrev pub HaveSides : List ℚ → List Row → Type 0
HaveSides [] ss = Unit {0}
HaveSides (y ∷ ys) [] = ⊥
HaveSides (y ∷ ys) (s ∷ ss) = HasSide y s × HaveSides ys ss

-- the sum of each multiplier times its side; a side that isn't there counts as 0
abbrev pub sides_sum : List ℚ → List Row → ℚ
sides_sum [] ss = zero_ℚ
sides_sum (y ∷ ys) [] = zero_ℚ
sides_sum (y ∷ ys) (s ∷ ss) = y *ℚ unwrap_or (side_for y s) zero_ℚ +ℚ sides_sum ys ss

-- all sides that a leaf's row multipliers and residual need exist
pub record HasAllSides (p : Program) (g : ℕ → ℚ) (region : Region) (y : List ℚ) : Type 0 where
  pub rows : HaveSides y (sides p)
  pub columns : HaveSides (residual p g region y) region

-- S: each row multiplier times its side, and each residual times its bound
abbrev pub total : Program → (ℕ → ℚ) → Region → List ℚ → ℚ
total p g region y = sides_sum y (sides p) +ℚ sides_sum (residual p g region y) region

-- Low: what a BOUND leaf says that no value goes below, c0 - ½ w^T Q w + S
abbrev pub lower_bound : Program → Region → List ℚ → List ℚ → ℚ
lower_bound p region w y = p.constant -ℚ half *ℚ form p.pairs w w +ℚ total p (gradient p w) region y

-- a good BOUND leaf for v
pub record IsGoodBound (p : Program) (v : ℚ) (region : Region) (w y : List ℚ) : Type 0 where
  pub has_sides : HasAllSides p (gradient p w) region y
  pub enough : v ≤ℚ lower_bound p region w y

-- a good FARKAS leaf
pub record IsGoodFarkas (p : Program) (region : Region) (y : List ℚ) : Type 0 where
  pub has_sides : HasAllSides p no_gradient region y
  pub above : zero_ℚ <ℚ total p no_gradient region y
