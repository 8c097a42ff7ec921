-- A worked basis, by computing: the one row (1, 1) with the right side 2.
use Rattle.std.specs.Prelude.{◌≡◌, ℕ, ℤ, pos, List, [], ◌∷◌, map}
use Rattle.std.proofs.Common.{refl}
use Rattle.rational.specs.Divisors.{gcd_of}
use Rattle.rational.specs.Rational.{ℚ, whole, ratio, neg_ℚ, reciprocal, ◌+ℚ◌, ◌*ℚ◌}
use Rattle.frac_core.specs.declared.fractions.Op.{Op}
use Rattle.frac_core.specs.declared.fractions.Op.TheVariants.{Add, Sub, Mul, Div}
use Rattle.frac_core.specs.declared.fractions.Refused.{Refused}
use Rattle.frac_core.specs.Operations.{operation}
use Rattle.frac_core.specs.Dot.{place_ops, dot_ops_from}
use Rattle.elimination_law.specs.Elimination.{pivot_row, with_pivot, freed, step, eliminated_from}
use Rattle.elimination_law.specs.Operations.{division_ops, less_ops, freed_ops, each_freed_ops, step_ops, ops_from}
use Rattle.linear_basis_law.specs.Problem.{Problem}
use Rattle.linear_basis_law.specs.Basis.{Tableau, point, multipliers, price, level, unit_basis, farkas_of}
use Rattle.linear_basis_law.specs.Exchange.{exchanged}
use Rattle.linear_basis_law.specs.Operations.{basis_ops}

abbrev n : ℕ → ℚ
n k = whole (pos k)

abbrev worked : Problem
worked = record { given = 2; rows = (n 1 ∷ n 1 ∷ []) ∷ []; right = n 2 ∷ [] }

-- the parts of the lowest terms tell numbers apart
abbrev parts : List ℚ → List (ℤ × ℕ)
parts row = map (λ q. (q.num, q.den)) row

-- the unit basis is column 2 alone, with the value 2; column 0 has the price -1, and takes its place
start : (unit_basis worked).columns ≡ 2 ∷ []
start = refl

start_level : parts (level worked (unit_basis worked)) ≡ parts (n 2 ∷ n 1 ∷ [])
unfolding ◌+ℚ◌ ◌*ℚ◌ neg_ℚ ratio gcd_of whole reciprocal
start_level = refl

start_price : parts (price worked (unit_basis worked) 0 ∷ []) ≡ parts (neg_ℚ (n 1) ∷ [])
unfolding ◌+ℚ◌ ◌*ℚ◌ neg_ℚ ratio gcd_of whole reciprocal
start_price = refl

abbrev after : Tableau
after = exchanged worked (unit_basis worked) 0 0

columns : after.columns ≡ 0 ∷ []
columns = refl

inverse : map parts after.inverse ≡ parts (n 1 ∷ []) ∷ []
unfolding ◌+ℚ◌ ◌*ℚ◌ neg_ℚ ratio gcd_of whole reciprocal
inverse = refl

values : parts (point worked after) ≡ parts (n 2 ∷ [])
unfolding ◌+ℚ◌ ◌*ℚ◌ neg_ℚ ratio gcd_of whole reciprocal
values = refl

costs : parts (multipliers worked after) ≡ parts (n 0 ∷ [])
unfolding ◌+ℚ◌ ◌*ℚ◌ neg_ℚ ratio gcd_of whole reciprocal
costs = refl

-- the rows (1) and (1) with the right sides 1 and 2: one exchange leads to a final basis, and its negated multipliers are (1, -1)
abbrev refuted : Problem
refuted = record { given = 1; rows = (n 1 ∷ []) ∷ (n 1 ∷ []) ∷ []; right = n 1 ∷ n 2 ∷ [] }

abbrev final : Tableau
final = exchanged refuted (unit_basis refuted) 0 0

final_columns : final.columns ≡ 0 ∷ 2 ∷ []
final_columns = refl

final_values : parts (point refuted final) ≡ parts (n 1 ∷ n 1 ∷ [])
unfolding ◌+ℚ◌ ◌*ℚ◌ neg_ℚ ratio gcd_of whole reciprocal
final_values = refl

final_price : parts (price refuted final 0 ∷ []) ≡ parts (n 0 ∷ [])
unfolding ◌+ℚ◌ ◌*ℚ◌ neg_ℚ ratio gcd_of whole reciprocal
final_price = refl

final_farkas : parts (farkas_of refuted final) ≡ parts (n 1 ∷ neg_ℚ (n 1) ∷ [])
unfolding ◌+ℚ◌ ◌*ℚ◌ neg_ℚ ratio gcd_of whole reciprocal
final_farkas = refl

-- the operations of the first calculation: the elimination of 1 with 2 and the unit vector; 1 by 2; 1 by 1; for each column its
-- product with the multipliers and its price; for each its coordinate; for each the two quotients
abbrev op_parts : Refused → Op × (ℤ × ℕ) × (ℤ × ℕ)
op_parts r = (r.op, (r.left.num, r.left.den), (r.right.num, r.right.den))

operations : map op_parts (basis_ops worked (unit_basis worked))
    ≡ map op_parts (operation Div (n 1) (n 1) ∷ operation Div (n 2) (n 1) ∷ operation Div (n 1) (n 1)
    ∷ operation Mul (n 1) (n 2) ∷ operation Add (n 0) (n 2)
    ∷ operation Mul (n 1) (n 1) ∷ operation Add (n 0) (n 1)
    ∷ operation Mul (n 1) (n 1) ∷ operation Add (n 0) (n 1) ∷ operation Sub (n 0) (n 1)
    ∷ operation Mul (n 1) (n 1) ∷ operation Add (n 0) (n 1) ∷ operation Sub (n 0) (n 1)
    ∷ operation Mul (n 1) (n 1) ∷ operation Add (n 0) (n 1)
    ∷ operation Mul (n 1) (n 1) ∷ operation Add (n 0) (n 1)
    ∷ operation Div (n 2) (n 1) ∷ operation Div (n 1) (n 1)
    ∷ operation Div (n 2) (n 1) ∷ operation Div (n 1) (n 1) ∷ [])
unfolding ◌+ℚ◌ ◌*ℚ◌ neg_ℚ ratio gcd_of whole reciprocal pivot_row with_pivot freed step eliminated_from division_ops less_ops freed_ops each_freed_ops step_ops ops_from place_ops dot_ops_from
operations = refl
