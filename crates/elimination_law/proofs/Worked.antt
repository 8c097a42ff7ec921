-- Worked eliminations, by computing.
use Rattle.std.specs.Prelude.{◌≡◌, ℕ, ℤ, pos, neg_ℤ, List, [], ◌∷◌, map, option_map, Some, None, Result, Ok, Err}
use Rattle.std.proofs.Common.{refl}
use Rattle.rational.specs.Divisors.{gcd_of}
use Rattle.rational.specs.Rational.{ℚ, whole, fraction, ratio, neg_ℚ, reciprocal, ◌+ℚ◌, ◌*ℚ◌}
use Rattle.elimination_law.specs.Elimination.{Line, pivot_row, with_pivot, freed, step, eliminated_from}
use Rattle.elimination_law.specs.Answers.{row_of_pivot, Answer, Solution, Refutation, solved, inverse, lines_of, solve_rows}
use Rattle.elimination_law.specs.Calculation.{divide_step, divided_in, freed_in, each_freed_in, step_in, eliminated_from_in, eliminated_in}
use Rattle.frac_core.specs.Operations.{operation}
use Rattle.elimination_law.specs.Operations.{division_ops, less_ops, freed_ops, each_freed_ops, step_ops, ops_from, elimination_ops}
use Rattle.frac_core.specs.declared.fractions.Op.{Op}
use Rattle.frac_core.specs.declared.fractions.Op.TheVariants.{Sub, Mul, Div}
use Rattle.frac_core.specs.declared.fractions.Refused.{Refused}
use Rattle.frac_core.specs.Row.{less_step, row_less}

abbrev n : ℕ → ℚ
n k = whole (pos k)

abbrev minus : ℕ → ℚ
minus k = whole (neg_ℤ (pos k))

-- the second row is twice the first
abbrev dependent : List (List ℚ)
dependent = (n 1 ∷ n 2 ∷ []) ∷ (n 2 ∷ n 4 ∷ []) ∷ []

abbrev independent : List (List ℚ)
independent = (n 1 ∷ n 2 ∷ []) ∷ (n 3 ∷ n 4 ∷ []) ∷ []

-- the parts of the lowest terms tell numbers apart
abbrev parts : List ℚ → List (ℤ × ℕ)
parts row = map (λ q. (q.num, q.den)) row

abbrev answer_parts : Answer → Answer → Type 0
answer_parts (Solution z) (Solution u) = parts z ≡ parts u
answer_parts (Refutation w v) (Refutation u x) = (parts w ≡ parts u) × (v.num ≡ x.num) × (v.den ≡ x.den)
answer_parts (Solution z) (Refutation u x) = ⊥
answer_parts (Refutation w v) (Solution u) = ⊥

refuted : answer_parts (solved 2 dependent (n 1 ∷ n 3 ∷ [])) (Refutation (minus 2 ∷ n 1 ∷ []) (n 1))
unfolding ◌+ℚ◌ ◌*ℚ◌ neg_ℚ ratio gcd_of whole reciprocal pivot_row with_pivot freed step eliminated_from row_of_pivot
refuted = (refl, refl, refl)

solution : answer_parts (solved 2 independent (n 1 ∷ n 3 ∷ [])) (Solution (n 1 ∷ n 0 ∷ []))
unfolding ◌+ℚ◌ ◌*ℚ◌ neg_ℚ ratio gcd_of whole reciprocal pivot_row with_pivot freed step eliminated_from row_of_pivot
solution = refl

inverted : option_map (map parts) (inverse 2 independent) ≡ Some (parts (minus 2 ∷ n 1 ∷ []) ∷ parts (fraction (pos 3) 2 ∷ fraction (neg_ℤ (pos 1)) 2 ∷ []) ∷ [])
unfolding ◌+ℚ◌ ◌*ℚ◌ neg_ℚ ratio gcd_of whole reciprocal pivot_row with_pivot freed step eliminated_from row_of_pivot
inverted = refl

not_inverted : inverse 2 dependent ≡ None
unfolding ◌+ℚ◌ ◌*ℚ◌ neg_ℚ ratio gcd_of whole reciprocal pivot_row with_pivot freed step eliminated_from row_of_pivot
not_inverted = refl

-- the operations of the same refutation are in order
abbrev op_parts : Refused → Op × (ℤ × ℕ) × (ℤ × ℕ)
op_parts r = (r.op, (r.left.num, r.left.den), (r.right.num, r.right.den))

operations : map op_parts (elimination_ops 2 (lines_of (solve_rows dependent (n 1 ∷ n 3 ∷ []))))
    ≡ map op_parts (operation Div (n 1) (n 1) ∷ operation Div (n 2) (n 1) ∷ operation Div (n 1) (n 1) ∷ operation Div (n 1) (n 1)
    ∷ operation Mul (n 2) (n 1) ∷ operation Sub (n 2) (n 2) ∷ operation Mul (n 2) (n 2) ∷ operation Sub (n 4) (n 4)
    ∷ operation Mul (n 2) (n 1) ∷ operation Sub (n 3) (n 2) ∷ operation Mul (n 2) (n 1) ∷ operation Sub (n 0) (n 2) ∷ [])
unfolding ◌+ℚ◌ ◌*ℚ◌ neg_ℚ ratio gcd_of whole reciprocal pivot_row with_pivot freed step eliminated_from division_ops less_ops freed_ops each_freed_ops step_ops ops_from
operations = refl

abbrev is_stop : Result (List Line) Refused → Refused → Type 0
is_stop (Ok ls) r = ⊥
is_stop (Err s) r = op_parts s ≡ op_parts r

-- 2 times 2 is the first of them with a part above 3
past : is_stop (eliminated_in 3 2 (lines_of (solve_rows dependent (n 1 ∷ n 3 ∷ [])))) (operation Mul (n 2) (n 2))
unfolding ◌+ℚ◌ ◌*ℚ◌ neg_ℚ ratio gcd_of whole reciprocal pivot_row with_pivot freed step eliminated_from row_of_pivot divide_step divided_in freed_in each_freed_in step_in eliminated_from_in less_step row_less
past = refl
