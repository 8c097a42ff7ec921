-- A worked form.
use Rattle.std.specs.Prelude.{ℕ, pos, neg_ℤ, [], ◌∷◌}
use Rattle.rational.specs.Rational.{ℚ, whole}
use Rattle.equational_law.specs.Form.{Form}

abbrev pub n : ℕ → ℚ
n k = whole (pos k)

-- (x + y - 2)^2, where x and y are not below 0: 2 x x / 2 + 2 x y + 2 y y / 2 - 4 x - 4 y + 4
abbrev pub valley_form : Form
valley_form = record {
  matrix = [];
  right = [];
  quadratic = (n 2 ∷ n 2 ∷ []) ∷ (n 2 ∷ n 2 ∷ []) ∷ [];
  cost = whole (neg_ℤ (pos 4)) ∷ whole (neg_ℤ (pos 4)) ∷ [];
  constant = n 4;
}
