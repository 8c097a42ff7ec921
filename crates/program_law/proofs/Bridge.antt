-- Points and lists of exact numbers say the same.
use Rattle.std.specs.Prelude.{◌≡◌, ℕ, List, [], ◌∷◌, map, Bool, ℤ, pos, ◌*ℤ◌, ◌*◌, unsigned_abs, int_div}
use Rattle.std.specs.Int.{◌∣◌}
use Rattle.std.proofs.Common.{lit<, arith, sym, subst, ◌∙◌, ap, refl}
use Rattle.std.proofs.lemmas.Int.{ints}
use Rattle.rational.specs.Whole.{as_diff, diffs, same_diff}
use Rattle.rational.specs.Rational.{ℚ, Positive, ratio, bottom, whole, ◌+ℚ◌, ◌*ℚ◌, ◌*⁺◌, ratio_cross, ratio_same, ratio_parts}
use Rattle.rational.proofs.Ratios.{ratio_mul}
use Rattle.rational.proofs.Products.{div_exact}
use Rattle.rational.proofs.Additions.{abs_multiple}
use Rattle.program_law.proofs.Ring.{ring_by, x0, x1, x2, x3}
use Rattle.algebra.proofs.Polynomial.{◌⊕◌, ◌⊗◌, num}
use Rattle.rational.proofs.Wholes.{den-whole}
use Rattle.program_law.specs.declared.Row.{Row}
use Rattle.rational.specs.Vectors.{dot, rows_dot, form}
use Rattle.program_law.specs.Region.{Region}
use Rattle.program_law.specs.Program.{Program, sides, marks}
use Rattle.program_law.specs.Point.{Point, sum_over, IsWithin, RowsWithin, ColumnsWithin, MarksDivide, IsRelaxedIn, IsFeasibleIn}
use Rattle.program_law.specs.Value.{half, pairs_in_row, pairs_over, value_of}
use Rattle.program_law.specs.Verdict.{columns_of}
use Rattle.program_law.specs.Columns.{AllWithin, IsWhole, AreWholeOn, IsRelaxedPoint, IsPoint, value}

abbrev columns : Positive → List ℤ → List ℚ
columns q ps = map (λ p. ratio p q) ps

-- ---- sums
pub sum_is : (q : Positive) (row : List ℚ) (ps : List ℤ) → sum_over q row ps ≡ dot row (columns q ps)
sum_is q [] ps = refl
sum_is q (a ∷ row) [] = refl
sum_is q (a ∷ row) (p ∷ ps) = ap (λ z. a *ℚ ratio p q +ℚ z) (sum_is q row ps)

pairs_row_is : (q : Positive) (p : ℤ) (row : List ℚ) (rs : List ℤ) → pairs_in_row q p row rs ≡ dot row (columns q rs) *ℚ ratio p q
pairs_row_is q p [] rs = ring_by (ratio p q ∷ []) (num (pos 0)) (num (pos 0) ⊗ x0) refl
pairs_row_is q p (a ∷ row) [] = ring_by (ratio p q ∷ []) (num (pos 0)) (num (pos 0) ⊗ x0) refl
pairs_row_is q p (a ∷ row) (r ∷ rs) =
    ap (λ z. a *ℚ z +ℚ pairs_in_row q p row rs) (sym (ratio_mul p q r q))
    ∙ ap (λ z. a *ℚ (ratio p q *ℚ ratio r q) +ℚ z) (pairs_row_is q p row rs)
    ∙ ring_by (a ∷ ratio p q ∷ ratio r q ∷ dot row (columns q rs) ∷ []) (x0 ⊗ (x1 ⊗ x2) ⊕ x3 ⊗ x1) ((x0 ⊗ x2 ⊕ x3) ⊗ x1) refl

pub pairs_are : (q : Positive) (rows : List (List ℚ)) (ps rs : List ℤ) → pairs_over q rows ps rs ≡ dot (rows_dot rows (columns q rs)) (columns q ps)
pairs_are q [] ps rs = refl
pairs_are q (row ∷ rows) [] rs = refl
pairs_are q (row ∷ rows) (p ∷ ps) rs =
    ap (λ z. z +ℚ pairs_over q rows ps rs) (pairs_row_is q p row rs) ∙ ap (λ z. dot row (columns q rs) *ℚ ratio p q +ℚ z) (pairs_are q rows ps rs)

pub value_is : (program : Program) (point : Point) → value_of program point ≡ value program (columns_of point)
value_is program point =
    ap (λ z. half *ℚ z +ℚ sum_over point.q program.costs point.p +ℚ program.constant) (pairs_are point.q program.pairs point.p point.p)
    ∙ ap (λ z. half *ℚ form program.pairs (columns_of point) (columns_of point) +ℚ z +ℚ program.constant) (sum_is point.q program.costs point.p)

-- ---- whole columns
times_one : (z : ℤ) → z *ℤ pos 1 ≡ z
times_one z = omega (arith, ints)

whole_ratio : (p : ℤ) (q : Positive) → q.size ∣ unsigned_abs p → ratio p q ≡ whole (int_div p (pos q.size))
unfolding whole
whole_ratio p q h = ratio_same p q (int_div p (pos q.size)) _ (times_one p ∙ sym (div_exact p q.size h))

divides_whole : (p : ℤ) (q : Positive) → q.size ∣ unsigned_abs p → IsWhole (ratio p q)
divides_whole p q h = ap (λ (z : ℚ). z.den) (whole_ratio p q h) ∙ den-whole (int_div p (pos q.size))

whole_divides : (p : ℤ) (q : Positive) → IsWhole (ratio p q) → q.size ∣ unsigned_abs p
whole_divides p q h =
    abs_multiple p (ratio p q).num q.size (sym (times_one p) ∙ ap (λ (d : ℕ). p *ℤ pos d) (sym h) ∙ sym (ratio_cross p q))

-- ---- feasible points
rows_to : (ss : List Row) (rows : List (List ℚ)) (point : Point) → RowsWithin ss rows point → AllWithin ss (rows_dot rows (columns_of point))
rows_to [] [] point w = tt
rows_to [] (row ∷ rows) point w = w
rows_to (s ∷ ss) [] point w = w
rows_to (s ∷ ss) (row ∷ rows) point w = (subst (IsWithin s) (sum_is point.q row point.p) w.0, rows_to ss rows point w.1)

rows_back : (ss : List Row) (rows : List (List ℚ)) (point : Point) → AllWithin ss (rows_dot rows (columns_of point)) → RowsWithin ss rows point
rows_back [] [] point w = tt
rows_back [] (row ∷ rows) point w = w
rows_back (s ∷ ss) [] point w = w
rows_back (s ∷ ss) (row ∷ rows) point w = (subst (IsWithin s) (sym (sum_is point.q row point.p)) w.0, rows_back ss rows point w.1)

columns_to : (bs : Region) (q : Positive) (ps : List ℤ) → ColumnsWithin bs q ps → AllWithin bs (columns q ps)
columns_to [] q [] w = tt
columns_to [] q (p ∷ ps) w = w
columns_to (b ∷ bs) q [] w = w
columns_to (b ∷ bs) q (p ∷ ps) w = (w.0, columns_to bs q ps w.1)

columns_back : (bs : Region) (q : Positive) (ps : List ℤ) → AllWithin bs (columns q ps) → ColumnsWithin bs q ps
columns_back [] q [] w = tt
columns_back [] q (p ∷ ps) w = w
columns_back (b ∷ bs) q [] w = w
columns_back (b ∷ bs) q (p ∷ ps) w = (w.0, columns_back bs q ps w.1)

marks_to : (ms : List Bool) (q : Positive) (ps : List ℤ) → MarksDivide ms q ps → AreWholeOn ms (columns q ps)
marks_to [] q ps w = tt
marks_to (m ∷ ms) q [] w = tt
marks_to (m ∷ ms) q (p ∷ ps) w = (λ e. divides_whole p q (w.0 e), marks_to ms q ps w.1)

marks_back : (ms : List Bool) (q : Positive) (ps : List ℤ) → AreWholeOn ms (columns q ps) → MarksDivide ms q ps
marks_back [] q ps w = tt
marks_back (m ∷ ms) q [] w = tt
marks_back (m ∷ ms) q (p ∷ ps) w = (λ e. whole_divides p q (w.0 e), marks_back ms q ps w.1)

pub relaxed_to : (program : Program) (region : Region) (point : Point) → IsRelaxedIn program region point → IsRelaxedPoint program region (columns_of point)
relaxed_to program region point h =
    record { rows = rows_to (sides program) program.entries point h.rows; columns = columns_to region point.q point.p h.columns }

pub relaxed_back : (program : Program) (region : Region) (point : Point) → IsRelaxedPoint program region (columns_of point) → IsRelaxedIn program region point
relaxed_back program region point h =
    record { rows = rows_back (sides program) program.entries point h.rows; columns = columns_back region point.q point.p h.columns }

pub feasible_to : (program : Program) (region : Region) (point : Point) → IsFeasibleIn program region point → IsPoint program region (columns_of point)
feasible_to program region point h =
    record { relaxed = relaxed_to program region point h.relaxed; whole = marks_to (marks program) point.q point.p h.whole }

pub feasible_back : (program : Program) (region : Region) (point : Point) → IsPoint program region (columns_of point) → IsFeasibleIn program region point
feasible_back program region point h =
    record { relaxed = relaxed_back program region point h.relaxed; whole = marks_back (marks program) point.q point.p h.whole }

-- ---- each list of exact numbers is the columns of a point
spread : ℕ → List ℤ → List ℤ
spread d ps = map (λ p. p *ℤ pos d) ps

-- the denominators multiplied, and the numerators over that
pub point_of : List ℚ → Point
point_of [] = record { p = []; q = record { size = 1; some = lit< tt } }
point_of (x ∷ xs) =
    let rest = point_of xs in
    record { p = (x.num *ℤ pos rest.q.size) ∷ spread x.den rest.p; q = bottom x *⁺ rest.q }

spread_is : (d q : Positive) (ps : List ℤ) → columns (d *⁺ q) (spread d.size ps) ≡ columns q ps
unfolding spread
spread_is d q [] = refl
spread_is d q (p ∷ ps) =
    ap (λ z. z ∷ columns (d *⁺ q) (spread d.size ps)) (ratio_same (p *ℤ pos d.size) (d *⁺ q) p q (moved p d.size q.size))
    ∙ ap (λ z. ratio p q ∷ z) (spread_is d q ps)
  where
    moved : (p : ℤ) (d q : ℕ) → (p *ℤ pos d) *ℤ pos q ≡ p *ℤ pos (d * q)
    moved p d q = rw (as_diff p) (simp diffs (same_diff _ _ _ _ (omega arith)))

pub columns_point : (xs : List ℚ) → columns_of (point_of xs) ≡ xs
unfolding point_of
columns_point [] = refl
columns_point (x ∷ xs) =
    let rest = point_of xs in
    ap (λ z. z ∷ columns (bottom x *⁺ rest.q) (spread x.den rest.p)) (ratio_same (x.num *ℤ pos rest.q.size) (bottom x *⁺ rest.q) x.num (bottom x) (moved x.num rest.q.size x.den) ∙ ratio_parts x)
    ∙ ap (λ z. x ∷ z) (spread_is (bottom x) rest.q rest.p ∙ columns_point xs)
  where
    moved : (n : ℤ) (q d : ℕ) → (n *ℤ pos q) *ℤ pos d ≡ n *ℤ pos (d * q)
    moved n q d = rw (as_diff n) (simp diffs (same_diff _ _ _ _ (omega arith)))
