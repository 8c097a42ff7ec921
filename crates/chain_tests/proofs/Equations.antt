-- Two equations with right sides that are whole numbers.
use Rattle.std.specs.Prelude.{◌≡◌, ℕ, ◌*◌, List, [], ◌∷◌, length, take, drop, replicate, slice_set, pos}
use Rattle.std.proofs.Common.{arith, sym, ap, ◌∙◌, subst, refl}
use Rattle.std.proofs.lemmas.List.{length-take-le, length-drop}
use Rattle.std.proofs.lemmas.List.Elements.{All-nil, All-cons}
use Rattle.rational.specs.Rational.{ℚ, zero_ℚ, whole}
use Rattle.rational.specs.Order.{◌≤ℚ◌}
use Rattle.rational.proofs.Order.{whole_nonneg}
use Rattle.exact_matrix.specs.Grid.{Grid, rows_of}
use Rattle.linear_basis_law.specs.Problem.{IsProblem}
use Rattle.linear_basis.specs.Kept.{problem}

pub two_equations : (m : Grid ℚ) (c : ℕ) (xs r s : List ℚ) (x y : ℕ) → length xs ≡ 2 * c → m ≡ record { columns = c; rows = rows_of c 2 xs } →
    s ≡ replicate 2 (whole (pos x)) → r ≡ slice_set s 1 (whole (pos y)) → IsProblem (problem m r)
two_equations m c xs r s x y e f g h =
    let right : r ≡ whole (pos x) ∷ whole (pos y) ∷ [] = h ∙ ap (λ s. slice_set s 1 (whole (pos y))) g in
    subst (λ r. IsProblem (problem m r)) (sym right) (subst (λ m. IsProblem (problem m (whole (pos x) ∷ whole (pos y) ∷ []))) (sym f) (record {
      rows = refl;
      columns = All-cons (λ row. length row ≡ c) (take c xs) (take c (drop c xs) ∷ []) (length-take-le c xs (omega (arith, e)))
          (All-cons (λ row. length row ≡ c) (take c (drop c xs)) [] (length-take-le c (drop c xs) (omega (arith, e, length-drop c xs))) (All-nil (λ row. length row ≡ c)));
      nonneg = All-cons (λ q. zero_ℚ ≤ℚ q) (whole (pos x)) (whole (pos y) ∷ []) (whole_nonneg x)
          (All-cons (λ q. zero_ℚ ≤ℚ q) (whole (pos y)) [] (whole_nonneg y) (All-nil (λ q. zero_ℚ ≤ℚ q)));
    }))
