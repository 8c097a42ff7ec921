-- The value of a point: ½ sum Q_jk p_j p_k / q^2 + sum c_j p_j / q + c0.
use Rattle.std.specs.Prelude.{List, [], ◌∷◌, ℤ, pos, ◌*ℤ◌}
use Rattle.rational.specs.Rational.{ℚ, Positive, ratio, fraction, zero_ℚ, ◌+ℚ◌, ◌*ℚ◌, ◌*⁺◌}
use Rattle.program_law.specs.Program.{Program}
use Rattle.program_law.specs.Point.{Point, sum_over}

abbrev pub half : ℚ
half = fraction (pos 1) 2

-- the sum of a_k p r_k / q^2 over the places k
abbrev pub pairs_in_row : Positive → ℤ → List ℚ → List ℤ → ℚ
pairs_in_row q p [] rs = zero_ℚ
pairs_in_row q p (a ∷ row) [] = zero_ℚ
pairs_in_row q p (a ∷ row) (r ∷ rs) = a *ℚ ratio (p *ℤ r) (q *⁺ q) +ℚ pairs_in_row q p row rs

-- the sum of Q_jk p_j r_k / q^2 over all pairs of places j, k
abbrev pub pairs_over : Positive → List (List ℚ) → List ℤ → List ℤ → ℚ
pairs_over q [] ps rs = zero_ℚ
pairs_over q (row ∷ rows) [] rs = zero_ℚ
pairs_over q (row ∷ rows) (p ∷ ps) rs = pairs_in_row q p row rs +ℚ pairs_over q rows ps rs

abbrev pub value_of : Program → Point → ℚ
value_of program point =
    half *ℚ pairs_over point.q program.pairs point.p point.p +ℚ sum_over point.q program.costs point.p +ℚ program.constant
