-- Forms without negative values, and what squares have to do with them.
use Rattle.std.specs.Prelude.{◌≡◌, ℕ, zero, suc, pos, List, [], ◌∷◌, length}
use Rattle.std.proofs.Common.{arith, sym, subst, ◌∙◌, ap, refl}
use Rattle.rational.specs.Rational.{ℚ, zero_ℚ, one_ℚ, neg_ℚ, ◌+ℚ◌, ◌-ℚ◌, ◌*ℚ◌}
use Rattle.rational.specs.Order.{◌≤ℚ◌}
use Rattle.program_law.proofs.Ring.{ring_by, x0, x1, x2, x3}
use Rattle.algebra.proofs.Polynomial.{◌⊕◌, ◌⊝◌, ◌⊗◌, minus, num}
use Rattle.rational.proofs.Order.{le_refl, lt_le, square_nonneg, mul_nonneg}
use Rattle.rational.proofs.OrderLaws.{le_of_eq, add-le-add, le_trans}
use Rattle.program_law.specs.declared.Square.{Square}
use Rattle.rational.specs.Vectors.{dot, rows_dot, form, row_at, column}
use Rattle.rational.specs.Sums.{entry}
use Rattle.program_law.specs.Region.{Region}
use Rattle.program_law.specs.Program.{Program}
use Rattle.program_law.specs.Point.{Point, IsRelaxedIn}
use Rattle.program_law.specs.Value.{half, value_of}
use Rattle.program_law.specs.Verdict.{columns_of}
use Rattle.program_law.specs.Columns.{AllWithin}
use Rattle.program_law.proofs.Bridge.{relaxed_to, value_is}
use Rattle.certificate_law.specs.Leaf.{IsGoodBound}
use Rattle.program_law.specs.Squares.{squares_sum, ArePositive, AreSquaresOf, IsSemidefinite}
use Rattle.program_law.proofs.Sums.{along_equal, dot_along, form_along, exchange, dot_comm}
use Rattle.certificate_law.proofs.Convex.{bounded_where}
use Rattle.program_law.proofs.Squared.{weighed, form_is, halves, half_not_negative}
use Rattle.certificate_law.proofs.Rays.{moved, AsLong, dot_moved}

-- ---- a symmetric form may be turned
column_at : (q : List (List ℚ)) (j k : ℕ) → entry (column j q) k ≡ entry (row_at q k) j
column_at [] j k = refl
column_at (row ∷ q) j zero = refl
column_at (row ∷ q) j (suc k) = column_at q j k

turned : (q : List (List ℚ)) (w x : List ℚ) → ((j k : ℕ) → entry (row_at q j) k ≡ entry (row_at q k) j) → form q w x ≡ form q x w
turned q w x h =
    form_along q w x
    ∙ along_equal (λ j. dot (row_at q j) w) (λ j. dot (column j q) w) x
    (λ j. dot_along (row_at q j) w ∙ along_equal (entry (row_at q j)) (entry (column j q)) w (λ k. h j k ∙ sym (column_at q j k)) ∙ sym (dot_along (column j q) w))
    ∙ exchange q w x ∙ dot_comm w (rows_dot q x)

-- ---- and is convex
abbrev less_one : ℚ
less_one = neg_ℚ one_ℚ

apart : (q : List (List ℚ)) (w x : List ℚ) → IsSemidefinite q → AsLong x w → form q (moved less_one x w) (moved less_one x w) ≡ form q x x -ℚ (form q w x +ℚ form q w x) +ℚ form q w w
apart q w x s l =
    let b = moved less_one x w in
    let at_x : form q b x ≡ form q x x +ℚ less_one *ℚ form q w x =
    turned q b x s.symmetric ∙ dot_moved less_one (rows_dot q x) x w l ∙ ap (λ z. form q x x +ℚ less_one *ℚ z) (turned q x w s.symmetric) in
    let at_w : form q b w ≡ form q w x +ℚ less_one *ℚ form q w w =
    turned q b w s.symmetric ∙ dot_moved less_one (rows_dot q w) x w l in
    dot_moved less_one (rows_dot q b) x w l
    ∙ ap (λ z. z +ℚ less_one *ℚ form q b w) at_x ∙ ap (λ z. (form q x x +ℚ less_one *ℚ form q w x) +ℚ less_one *ℚ z) at_w
    ∙ ring_by (form q x x ∷ form q w x ∷ form q w w ∷ [])
    ((x0 ⊕ minus (num (pos 1)) ⊗ x1) ⊕ minus (num (pos 1)) ⊗ (x1 ⊕ minus (num (pos 1)) ⊗ x2)) (x0 ⊝ (x1 ⊕ x1) ⊕ x2) refl

between : (q : List (List ℚ)) (w x : List ℚ) → IsSemidefinite q → AsLong x w → form q w x ≤ℚ (half *ℚ form q x x +ℚ half *ℚ form q w w)
between q w x s l =
    let a = form q x x in let b = form q w x in let c = form q w w in
    let h : zero_ℚ ≤ℚ (half *ℚ (a -ℚ (b +ℚ b) +ℚ c)) = mul_nonneg _ _ half_not_negative (subst (λ z. zero_ℚ ≤ℚ z) (apart q w x s l) (s.not_negative (moved less_one x w))) in
    le_trans (le_of_eq (ring_by (b ∷ []) x0 (num (pos 0) ⊕ num (pos 1) ⊗ x0) refl))
    (le_trans (add-le-add h (le_of_eq (ap (λ z. z *ℚ b) (sym halves))))
    (le_of_eq (ring_by (half ∷ a ∷ b ∷ c ∷ []) (x0 ⊗ (x1 ⊝ (x2 ⊕ x2) ⊕ x3) ⊕ (x0 ⊕ x0) ⊗ x2) (x0 ⊗ x1 ⊕ x0 ⊗ x3) refl)))

as_long : (bs : Region) (x w : List ℚ) → AllWithin bs x → length w ≡ length bs → AsLong x w
unfolding AsLong
as_long [] [] [] h n = tt
as_long [] [] (v ∷ w) h n = absurd (omega (arith, n))
as_long [] (u ∷ x) w h n = absurd h
as_long (b ∷ bs) [] w h n = absurd h
as_long (b ∷ bs) (u ∷ x) [] h n = absurd (omega (arith, n))
as_long (b ∷ bs) (u ∷ x) (v ∷ w) h n = as_long bs x w h.1 (omega (arith, n))

-- a good bound leaf bounds the values on its region, for a semidefinite form
pub semidefinite_point : (p : Program) (v : ℚ) (region : Region) (w y : List ℚ) (point : Point) → IsSemidefinite p.pairs → length w ≡ length region → IsGoodBound p v region w y → IsRelaxedIn p region point → v ≤ℚ value_of p point
semidefinite_point p v region w y point s n good h =
    let x = columns_of point in let relaxed = relaxed_to p region point h in
    subst (λ z. v ≤ℚ z) (sym (value_is p point))
    (bounded_where p v region w y good x (between p.pairs w x s (as_long region x w relaxed.columns n)) relaxed)
