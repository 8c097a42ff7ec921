-- Row multipliers and the residual together come to the gradient.
use Rattle.std.specs.Prelude.{◌≡◌, ℕ, suc, ◌+◌, List, [], ◌∷◌}
use Rattle.std.proofs.Common.{arith, ◌∙◌, ap, refl}
use Rattle.rational.specs.Rational.{ℚ, ◌+ℚ◌, ◌-ℚ◌, ◌*ℚ◌}
use Rattle.program_law.proofs.Ring.{ring_by, x0, x1}
use Rattle.program_law.proofs.Sums.{along, along_equal, along_less, exchange}
use Rattle.algebra.proofs.Polynomial.{◌⊕◌, ◌⊝◌}
use Rattle.rational.specs.Vectors.{dot, rows_dot, column}
use Rattle.program_law.specs.Region.{Region}
use Rattle.program_law.specs.Columns.{AllWithin}
use Rattle.certificate_law.specs.Leaf.{residual_from}

residual_along : (g : ℕ → ℚ) (rows : List (List ℚ)) (ys : List ℚ) (j : ℕ) (bs : Region) (xs : List ℚ) → AllWithin bs xs → dot (residual_from g rows ys j bs) xs ≡ along (λ i. g (j + i) -ℚ dot (column (j + i) rows) ys) xs
unfolding along
residual_along g rows ys j [] [] w = refl
residual_along g rows ys j [] (x ∷ xs) w = absurd w
residual_along g rows ys j (b ∷ bs) [] w = absurd w
residual_along g rows ys j (b ∷ bs) (x ∷ xs) w =
    let h = λ (i : ℕ). g i -ℚ dot (column i rows) ys in
    ap (λ z. h j *ℚ x +ℚ z) (residual_along g rows ys (suc j) bs xs w.1 ∙ along_equal (λ i. h (suc j + i)) (λ i. h (j + suc i)) xs (λ i. ap h (omega arith)))
    ∙ ap (λ (k : ℕ). h k *ℚ x +ℚ along (λ i. h (j + suc i)) xs) (omega arith)

-- at a point, the row multipliers and the residual together come to the gradient
pub multipliers : (g : ℕ → ℚ) (rows : List (List ℚ)) (ys : List ℚ) (bs : Region) (xs : List ℚ) → AllWithin bs xs → dot ys (rows_dot rows xs) +ℚ dot (residual_from g rows ys 0 bs) xs ≡ along g xs
multipliers g rows ys bs xs w =
    let a = dot ys (rows_dot rows xs) in let b = along g xs in
    ap (λ z. a +ℚ z)
    (residual_along g rows ys 0 bs xs w
    ∙ along_equal (λ i. g (0 + i) -ℚ dot (column (0 + i) rows) ys) (λ i. g i -ℚ dot (column i rows) ys) xs (λ i. ap (λ (k : ℕ). g k -ℚ dot (column k rows) ys) (omega arith))
    ∙ along_less g (λ j. dot (column j rows) ys) xs
    ∙ ap (λ z. b -ℚ z) (exchange rows ys xs))
    ∙ ring_by (a ∷ b ∷ []) (x0 ⊕ (x1 ⊝ x0)) x1 refl
