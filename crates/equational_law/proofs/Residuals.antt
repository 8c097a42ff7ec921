-- Residuals of a leaf: with the row multipliers they come to the gradient.
use Rattle.std.specs.Prelude.{◌≡◌, ℕ, suc, ◌+◌, List, [], ◌∷◌, length}
use Rattle.std.proofs.Common.{arith, sym, ◌∙◌, ap, refl}
use Rattle.algebra.proofs.Polynomial.{◌⊕◌, ◌⊝◌, ◌≐◌}
use Rattle.algebra.proofs.Solver.{ring}
use Rattle.rational.specs.Rational.{ℚ, ◌+ℚ◌, ◌-ℚ◌, ◌*ℚ◌}
use Rattle.rational.specs.Vectors as vectors
use Rattle.rational.proofs.Field.{rationals}
use Rattle.rational.proofs.Vectors.{dot-zeros_left, dot-add_left, length-rows_dot}
use Rattle.rational.specs.Vectors.{dot, rows_dot, form, row_at, column}
use Rattle.rational.specs.Sums.{entry}
use Rattle.program_law.specs.Program.{Program}
use Rattle.program_law.specs.Region.{Region}
use Rattle.certificate_law.specs.Leaf.{gradient, no_gradient, residual, residual_from}
use Rattle.program_law.proofs.Sums.{along, along_zero, along_equal, along_less, along_sum, dot_along, form_along, exchange}

length-residual_from : (g : ℕ → ℚ) (rows : List (List ℚ)) (y : List ℚ) (j : ℕ) (bs : Region) → length (residual_from g rows y j bs) ≡ length bs
length-residual_from g rows y j [] = refl
length-residual_from g rows y j (b ∷ bs) = ap suc (length-residual_from g rows y (suc j) bs)

pub length-residual : (p : Program) (g : ℕ → ℚ) (region : Region) (y : List ℚ) → length (residual p g region y) ≡ length region
length-residual p g region y = length-residual_from g p.entries y 0 region

residual_along : (g : ℕ → ℚ) (rows : List (List ℚ)) (y : List ℚ) (j : ℕ) (bs : Region) (x : List ℚ) → length x ≡ length bs
    → dot (residual_from g rows y j bs) x ≡ along (λ i. g (j + i) -ℚ dot (column (j + i) rows) y) x
unfolding along
residual_along g rows y j [] [] h = refl
residual_along g rows y j [] (a ∷ x) h = absurd (omega arith)
residual_along g rows y j (b ∷ bs) [] h = absurd (omega arith)
residual_along g rows y j (b ∷ bs) (a ∷ x) h =
    let f = λ (i : ℕ). g i -ℚ dot (column i rows) y in
    ap (λ t. f j *ℚ a +ℚ t) (residual_along g rows y (suc j) bs x (omega arith) ∙ along_equal (λ i. f (suc j + i)) (λ i. f (j + suc i)) x (λ i. ap f (omega arith)))
    ∙ ap (λ (k : ℕ). f k *ℚ a +ℚ along (λ i. f (j + suc i)) x) (omega arith)

-- for each vector, the row multipliers and the residual together come to the gradient
pub with_residual : (p : Program) (g : ℕ → ℚ) (region : Region) (y x : List ℚ) → length x ≡ length region → dot y (rows_dot p.entries x) +ℚ dot (residual p g region y) x ≡ along g x
with_residual p g region y x h =
    let a = dot y (rows_dot p.entries x) in
    ap (λ t. a +ℚ t)
    (residual_along g p.entries y 0 region x h
    ∙ along_equal (λ i. g (0 + i) -ℚ dot (column (0 + i) p.entries) y) (λ i. g i -ℚ dot (column i p.entries) y) x (λ i. ap (λ (k : ℕ). g k -ℚ dot (column k p.entries) y) (omega arith))
    ∙ along_less g (λ j. dot (column j p.entries) y) x
    ∙ ap (λ t. along g x -ℚ t) (exchange p.entries y x))
    ∙ ring rationals (a ∷ along g x ∷ []) (λ a b. a ⊕ (b ⊝ a) ≐ b) refl

pub with_no_gradient : (p : Program) (region : Region) (y x : List ℚ) → length x ≡ length region
    → dot y (rows_dot p.entries x) +ℚ dot (residual p no_gradient region y) x ≡ dot (vectors.zeros (length region)) x
with_no_gradient p region y x h = with_residual p no_gradient region y x h ∙ along_zero x ∙ sym (dot-zeros_left (length region) x)

-- the gradient at w as a list
pub with_gradient : (p : Program) (w : List ℚ) (region : Region) (y x : List ℚ) → length x ≡ length region → length p.pairs ≡ length p.costs
    → dot y (rows_dot p.entries x) +ℚ dot (residual p (gradient p w) region y) x ≡ dot (vectors.add_each (rows_dot p.pairs w) p.costs) x
with_gradient p w region y x h e =
    with_residual p (gradient p w) region y x h
    ∙ along_sum (λ j. dot (row_at p.pairs j) w) (entry p.costs) x
    ∙ ap (λ t. t +ℚ along (entry p.costs) x) (sym (form_along p.pairs w x))
    ∙ ap (λ t. form p.pairs w x +ℚ t) (sym (dot_along p.costs x))
    ∙ sym (dot-add_left (rows_dot p.pairs w) p.costs x (length-rows_dot p.pairs w ∙ e))
