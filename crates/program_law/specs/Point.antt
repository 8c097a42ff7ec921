-- Points, and when they are feasible.
use Rattle.std.specs.Prelude.{◌≡◌, List, [], ◌∷◌, IfSome, Bool, true, ℤ, unsigned_abs}
use Rattle.std.specs.Int.{◌∣◌}
use Rattle.rational.specs.Rational.{ℚ, Positive, ratio, zero_ℚ, ◌+ℚ◌, ◌*ℚ◌}
use Rattle.rational.specs.Order.{◌≤ℚ◌}
use Rattle.program_law.specs.declared.Row.{Row}
use Rattle.program_law.specs.Program.{Program, sides, bounds, marks}
use Rattle.program_law.specs.Region.{Region}

-- a list of whole numbers p with one denominator q > 0; column j of the point is p_j / q
pub record Point : Type 0 where
  pub p : List ℤ
  pub q : Positive

-- the sum of a_j p_j / q
abbrev pub sum_over : Positive → List ℚ → List ℤ → ℚ
sum_over q [] ps = zero_ℚ
sum_over q (a ∷ row) [] = zero_ℚ
sum_over q (a ∷ row) (p ∷ ps) = a *ℚ ratio p q +ℚ sum_over q row ps

-- a number lies within a low and a high side, each where it is there
pub record IsWithin (s : Row) (x : ℚ) : Type 0 where
  pub low : IfSome s.low (λ l. l ≤ℚ x)
  pub high : IfSome s.high (λ h. x ≤ℚ h)

-- each row's sum lies within its sides; as many sums as rows
abbrev pub RowsWithin : List Row → List (List ℚ) → Point → Type 0
RowsWithin [] [] point = Unit {0}
RowsWithin [] (row ∷ rows) point = ⊥
RowsWithin (s ∷ ss) [] point = ⊥
RowsWithin (s ∷ ss) (row ∷ rows) point = IsWithin s (sum_over point.q row point.p) × RowsWithin ss rows point

-- each p_j / q lies within its bounds; as many whole numbers as bounds
abbrev pub ColumnsWithin : Region → Positive → List ℤ → Type 0
ColumnsWithin [] q [] = Unit {0}
ColumnsWithin [] q (p ∷ ps) = ⊥
ColumnsWithin (b ∷ bs) q [] = ⊥
ColumnsWithin (b ∷ bs) q (p ∷ ps) = IsWithin b (ratio p q) × ColumnsWithin bs q ps

-- q divides p_j where column j is marked
abbrev pub MarksDivide : List Bool → Positive → List ℤ → Type 0
MarksDivide [] q ps = Unit {0}
MarksDivide (m ∷ ms) q [] = Unit {0}
MarksDivide (m ∷ ms) q (p ∷ ps) = (m ≡ true → q.size ∣ unsigned_abs p) × MarksDivide ms q ps

-- feasible in a region, the marks left out
pub record IsRelaxedIn (program : Program) (region : Region) (point : Point) : Type 0 where
  pub rows : RowsWithin (sides program) program.entries point
  pub columns : ColumnsWithin region point.q point.p

-- feasible in a region
pub record IsFeasibleIn (program : Program) (region : Region) (point : Point) : Type 0 where
  pub relaxed : IsRelaxedIn program region point
  pub whole : MarksDivide (marks program) point.q point.p

-- feasible: on the program's own bounds
abbrev pub IsFeasible : Program → Point → Type 0
IsFeasible program point = IsFeasibleIn program (bounds program) point
