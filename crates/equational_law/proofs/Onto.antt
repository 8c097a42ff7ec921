-- Multipliers of the form's equations go back to leaves.
use Rattle.std.specs.Prelude.{◌≡◌, ℕ, zero, suc, ◌+◌, ◌≤◌, List, [], ◌∷◌, ◌++◌, length, take, drop, All}
use Rattle.std.proofs.Common.{arith, sym, subst, ◌∙◌, ap, refl, length-append}
use Rattle.std.proofs.lemmas.List.{take-append-drop, length-map}
use Rattle.std.proofs.lemmas.List.Elements.{All-append}
use Rattle.algebra.proofs.Polynomial.{◌⊕◌, ◌⊝◌, ◌⊗◌, ◌≐◌, ◌≼◌, lit, minus}
use Rattle.algebra.proofs.Solver.{ring}
use Rattle.algebra.proofs.Certificate.{prove, given, scaled, ◌⊞◌, ◌⇐◌}
use Rattle.rational.specs.Rational.{ℚ, one_ℚ, neg_ℚ, ◌+ℚ◌, ◌-ℚ◌, ◌*ℚ◌}
use Rattle.rational.specs.Order.{◌≤ℚ◌}
use Rattle.rational.specs.Sums.{entry}
use Rattle.rational.specs.Vectors.{dot, zeros, scale, add_each, rows_dot, combine, HasColumns}
use Rattle.rational.proofs.Field.{rationals}
use Rattle.rational.proofs.Order.{ordered_rationals}
use Rattle.rational.proofs.Vectors.{transpose, same_by_dot, dot_comm, dot-append, dot-add_left, dot-scale_left, length-combine, length-add_each, length-scale, entry-zeros}
use Rattle.program_law.specs.declared.Row.{Row}
use Rattle.program_law.specs.Program.{Program, IsProgram, sides}
use Rattle.program_law.specs.Region.{Region, IsCrossedRegion}
use Rattle.certificate_law.specs.Leaf.{HaveSides, sides_sum}
use Rattle.equational_law.specs.Standing.{spread, change, shift, parts}
use Rattle.equational_law.specs.Equations.{count_by, slacks_at, bound_slacks_by, row_slacks, bound_slacks, row_equations, bound_equations}
use Rattle.equational_law.specs.Form.{equations, slacks, width, form_of, unsigned, multipliers_of}
use Rattle.equational_law.proofs.Adjoint.{adjoint, length-spread, length-change, length-shift, dot-append_left}
use Rattle.equational_law.proofs.Between.{AllAtMost, NonePositive, at_most_left, at_most_right, none_left, none_right}
use Rattle.equational_law.proofs.Taken.{signs_by, bound_signs_by}
use Rattle.equational_law.proofs.Takes.{row_signs, row_sides, rows_take, bound_parts, bound_signs, bound_sides, shares, columns_take}
use Rattle.equational_law.proofs.Carried.{after, rows_left, length-signs_by, length-bound_signs_by, rows_right, bounds_left, bounds_right}
use Rattle.equational_law.proofs.Matrix.{FitsIn, matrix_at, rights_at, matrix_columns, rows_fit, bounds_fit}

length-row_signs : (ss : List Row) (y : List ℚ) → length (row_signs ss y) ≡ row_slacks ss
length-row_signs [] y = refl
length-row_signs (s ∷ ss) y =
    let rest = drop (count_by s.low s.high).0 y in
    length-append (signs_by s.low s.high (entry y 0) (entry y 1)) (row_signs ss rest)
    ∙ ap (λ (n : ℕ). n + length (row_signs ss rest)) (length-signs_by s.low s.high (entry y 0) (entry y 1))
    ∙ ap (λ (n : ℕ). slacks_at s + n) (length-row_signs ss rest)

length-bound_signs : (bs : Region) (y : List ℚ) → length (bound_signs bs y) ≡ bound_slacks bs
length-bound_signs [] y = refl
length-bound_signs (b ∷ bs) y =
    let rest = drop (bound_slacks_by b.low b.high) y in
    length-append (bound_signs_by b.low b.high (entry y 0)) (bound_signs bs rest)
    ∙ ap (λ (n : ℕ). n + length (bound_signs bs rest)) (length-bound_signs_by b.low b.high (entry y 0))
    ∙ ap (λ (n : ℕ). bound_slacks_by b.low b.high + n) (length-bound_signs bs rest)

length-bound_parts : (bs : Region) (y : List ℚ) → length (bound_parts bs y) ≡ length bs
length-bound_parts [] y = refl
length-bound_parts (b ∷ bs) y = ap suc (length-bound_parts bs (drop (bound_slacks_by b.low b.high) y))

-- a program, a region, and multipliers y of the form's equations
module _ (p : Program) (region : Region) (y : List ℚ) (good : IsProgram p) (full : length y ≡ length (equations p region)) where
  -- the multipliers un-negated, and those of them that belong to columns
  abbrev pub own : List ℚ
  own = unsigned (equations p region) y

  abbrev pub of_columns : List ℚ
  of_columns = after (sides p) own

  height : length p.entries ≡ length (sides p)
  height = good.height ∙ sym (length-map p.rows (λ r. r.1))

  pub all_fit : All (FitsIn (parts region) (slacks p region)) (equations p region)
  all_fit =
      All-append (FitsIn (parts region) (slacks p region)) (row_equations region (shift region) 0 (sides p) p.entries) (bound_equations region (row_slacks (sides p)) 0 region)
      (rows_fit region (shift region) 0 (sides p) p.entries (slacks p region) (first (row_slacks (sides p)) (bound_slacks region)))
      (bounds_fit region (row_slacks (sides p)) 0 region (slacks p region) (second (row_slacks (sides p)) (bound_slacks region)))
    where
      first : (a b : ℕ) → 0 + a ≤ a + b
      first a b = omega arith

      second : (a b : ℕ) → a + b ≤ a + b
      second a b = omega arith

  pub has_columns : HasColumns (width p region) (form_of p region).matrix
  has_columns = matrix_columns (parts region) (slacks p region) (equations p region) all_fit

  -- the multipliers times the left sides, and times the right sides
  left_sum : (x z : List ℚ) → length x ≡ parts region
      → dot y (rows_dot (form_of p region).matrix (x ++ z))
      ≡ dot (multipliers_of p region y) (rows_dot p.entries (change region x)) +ℚ dot (row_signs (sides p) own) z
      +ℚ (dot (bound_parts region of_columns) (change region x) +ℚ dot (bound_signs region of_columns) (drop (row_slacks (sides p)) z))
  left_sum x z h =
      matrix_at (parts region) (slacks p region) (equations p region) y x z all_fit h full
      ∙ rows_left region (shift region) 0 (sides p) p.entries own x z (bound_equations region (row_slacks (sides p)) 0 region) height good.good_rows
      ∙ ap (λ t. dot (multipliers_of p region y) (rows_dot p.entries (change region x)) +ℚ dot (row_signs (sides p) own) z +ℚ t)
      (bounds_left region (row_slacks (sides p)) 0 region of_columns x z)

  right_sum : dot y (form_of p region).right ≡ row_sides (sides p) own -ℚ dot (multipliers_of p region y) (rows_dot p.entries (shift region)) +ℚ bound_sides region of_columns
  right_sum =
      rights_at (equations p region) y full
      ∙ rows_right region (shift region) 0 (sides p) p.entries own (bound_equations region (row_slacks (sides p)) 0 region) height good.good_rows
      ∙ ap (λ t. row_sides (sides p) own -ℚ dot (multipliers_of p region y) (rows_dot p.entries (shift region)) +ℚ t) (bounds_right region (row_slacks (sides p)) 0 region of_columns)

  -- with a gradient g, and a residual s of what the rows' multipliers leave of it
  module _ (g s : List ℚ) (length_g : length g ≡ length region) (length_s : length s ≡ length region)
      (residual : (x : List ℚ) → length x ≡ length region → dot (multipliers_of p region y) (rows_dot p.entries x) +ℚ dot s x ≡ dot g x) where
    abbrev pub on_columns : List ℚ
    on_columns = spread region (shares region g s of_columns)

    abbrev pub on_slacks : List ℚ
    on_slacks = row_signs (sides p) own ++ bound_signs region of_columns

    columns_at : (x : List ℚ) → dot on_columns x ≡ (dot g (change region x) +ℚ neg_ℚ one_ℚ *ℚ dot s (change region x)) +ℚ dot (bound_parts region of_columns) (change region x)
    columns_at x =
        let c = change region x in
        let n = neg_ℚ one_ℚ in
        let b = bound_parts region of_columns in
        let e : length g ≡ length (scale n s) = length_g ∙ sym length_s ∙ sym (length-scale n s) in
        adjoint region (shares region g s of_columns) x
        ∙ dot-add_left (add_each g (scale n s)) b c (length-add_each g (scale n s) e ∙ length_g ∙ sym (length-bound_parts region of_columns))
        ∙ ap (λ t. t +ℚ dot b c) (dot-add_left g (scale n s) c e ∙ ap (λ t. dot g c +ℚ t) (dot-scale_left n s c))

    slacks_at_point : (z : List ℚ) → dot on_slacks z ≡ dot (row_signs (sides p) own) z +ℚ dot (bound_signs region of_columns) (drop (row_slacks (sides p)) z)
    slacks_at_point z =
        dot-append_left (row_signs (sides p) own) (bound_signs region of_columns) z
        ∙ ap (λ (n : ℕ). dot (row_signs (sides p) own) z +ℚ dot (bound_signs region of_columns) (drop n z)) (length-row_signs (sides p) own)

    same_product : (x z : List ℚ) → length x ≡ parts region → dot y (rows_dot (form_of p region).matrix (x ++ z)) ≡ dot (on_columns ++ on_slacks) (x ++ z)
    same_product x z h =
        let c = change region x in
        left_sum x z h
        ∙ ring rationals
        (dot (multipliers_of p region y) (rows_dot p.entries c) ∷ dot s c ∷ dot (row_signs (sides p) own) z ∷ dot (bound_parts region of_columns) c
        ∷ dot (bound_signs region of_columns) (drop (row_slacks (sides p)) z) ∷ [])
        (λ a s r b t. a ⊕ r ⊕ (b ⊕ t) ≐ (((a ⊕ s) ⊕ minus (lit 1) ⊗ s) ⊕ b) ⊕ (r ⊕ t)) refl
        ∙ ap (λ t. ((t +ℚ neg_ℚ one_ℚ *ℚ dot s c) +ℚ dot (bound_parts region of_columns) c)
        +ℚ (dot (row_signs (sides p) own) z +ℚ dot (bound_signs region of_columns) (drop (row_slacks (sides p)) z))) (residual c (length-change region x))
        ∙ ap (λ t. t +ℚ (dot (row_signs (sides p) own) z +ℚ dot (bound_signs region of_columns) (drop (row_slacks (sides p)) z))) (sym (columns_at x))
        ∙ ap (λ t. dot on_columns x +ℚ t) (sym (slacks_at_point z))
        ∙ sym (dot-append on_columns on_slacks x z (length-spread region (shares region g s of_columns) ∙ sym h))

    length_all : length (on_columns ++ on_slacks) ≡ width p region
    length_all =
        length-append on_columns on_slacks
        ∙ rw (
          length-spread region (shares region g s of_columns),
          length-append (row_signs (sides p) own) (bound_signs region of_columns),
          length-row_signs (sides p) own,
          length-bound_signs region of_columns,
        ) refl

    -- what the multipliers make of the matrix
    pub combined : combine (width p region) y (form_of p region).matrix ≡ on_columns ++ on_slacks
    combined =
        let M = (form_of p region).matrix in
        let u = combine (width p region) y M in
        let long : length u ≡ width p region = length-combine (width p region) y M has_columns in
        same_by_dot u (on_columns ++ on_slacks) (long ∙ sym length_all)
        (λ w l.
        let x = take (parts region) w in let z = drop (parts region) w in
        let enough : length x ≡ parts region = length-take_of_le (parts region) (slacks p region) w (l ∙ long) in
        dot_comm w u ∙ sym (transpose (width p region) y M w has_columns)
        ∙ ap (λ v. dot y (rows_dot M v)) (sym (take-append-drop (parts region) w))
        ∙ same_product x z enough
        ∙ ap (λ v. dot (on_columns ++ on_slacks) v) (take-append-drop (parts region) w)
        ∙ dot_comm (on_columns ++ on_slacks) w)
      where
        length-take_of_le : (n m : ℕ) (w : List ℚ) → length w ≡ n + m → length (take n w) ≡ n
        length-take_of_le zero m w h = refl
        length-take_of_le (suc n) m [] h = absurd (omega arith)
        length-take_of_le (suc n) m (x ∷ w) h = ap suc (length-take_of_le n m w (omega arith))

    -- where they are at most the gradient, each multiplier has its side, and the sides come to at least the right sides and the gradient at the shift
    pub onto : (IsCrossedRegion region → ⊥) → AllAtMost (combine (width p region) y (form_of p region).matrix) (spread region g ++ zeros (slacks p region))
        → HaveSides (multipliers_of p region y) (sides p) × HaveSides s region
        × ((dot y (form_of p region).right +ℚ dot g (shift region)) ≤ℚ (sides_sum (multipliers_of p region y) (sides p) +ℚ sides_sum s region))
    onto uncrossed below =
        let h = shift region in
        let le : AllAtMost (on_columns ++ on_slacks) (spread region g ++ zeros (slacks p region)) =
        subst (λ (u : List ℚ). AllAtMost u (spread region g ++ zeros (slacks p region))) combined below in
        let e : length on_columns ≡ length (spread region g) = length-spread region (shares region g s of_columns) ∙ sym (length-spread region g) in
        let none : NonePositive on_slacks =
        λ j. subst (λ (t : ℚ). entry on_slacks j ≤ℚ t) (entry-zeros (slacks p region) j) (at_most_right on_columns on_slacks (spread region g) (zeros (slacks p region)) e le j) in
        let rows = rows_take (sides p) own good.good_rows (none_left (row_signs (sides p) own) (bound_signs region of_columns) none) in
        let columns = columns_take region g s of_columns length_g length_s (λ j k. uncrossed (record { column = j; crossed = k }))
        (at_most_left on_columns on_slacks (spread region g) (zeros (slacks p region)) e le) (none_right (row_signs (sides p) own) (bound_signs region of_columns) none) in (
          rows.sides,
          columns.sides,
          prove ordered_rationals
              (dot y (form_of p region).right ∷ dot g h ∷ sides_sum (multipliers_of p region y) (sides p) ∷ sides_sum s region ∷ row_sides (sides p) own
              ∷ dot (multipliers_of p region y) (rows_dot p.entries h) ∷ dot s h ∷ bound_sides region of_columns ∷ [])
              (λ yr gh S T R a sh B. yr ⊕ gh ≼ S ⊕ T ⇐ given (R ≼ S) ⊞ given (sh ⊕ B ≼ T) ⊞ given (yr ≐ R ⊝ a ⊕ B) ⊞ scaled (minus (lit 1)) (a ⊕ sh) gh) refl
              rows.least columns.least right_sum (residual h (length-shift region)),
        )
