-- How large the form of a region is at most.
use Rattle.std.specs.Prelude.{◌≡◌, ℕ, suc, ◌+◌, ◌*◌, ◌≤◌, ◌^◌, List, [], ◌∷◌, length, Option, Some, None, Bool, true, false}
use Rattle.std.proofs.Common.{cond, arith, length-append}
use Rattle.std.proofs.lemmas.List.{length-map}
use Rattle.std.proofs.Math.Nat.{pow-le-pow_right}
use Rattle.rational.specs.Rational.{ℚ}
use Rattle.rational.specs.Order.{same_fields}
use Rattle.rational.specs.Vectors.{dot, unit_vector}
use Rattle.program_law.specs.declared.Row.{Row}
use Rattle.program_law.specs.Region.{Region}
use Rattle.program_law.specs.Program.{Program, sides}
use Rattle.equational_law.specs.Standing.{standing_by, parts_at, parts, shift, spread}
use Rattle.equational_law.specs.Equations.{count_by, row_equations_by, slacks_at, row_equations, bound_equation_by, bound_slacks_by, bound_equations, row_slacks, bound_slacks, matrix_row}
use Rattle.equational_law.specs.Form.{equations, slacks, width, form_of}
use Rattle.branching_law.specs.declared.Turn.{Turn}
use Rattle.branching_law.specs.Paths.{region_of}
use Rattle.branching_law.proofs.Trees.{wide}

-- ---- columns

two_at_most : (l u : Option ℚ) → parts_at (standing_by l u) + bound_slacks_by l u ≤ 2
two_at_most (Some l) (Some u) = omega arith
two_at_most (Some l) None = omega arith
two_at_most None (Some u) = omega arith
two_at_most None None = omega arith

columns_few : (bs : Region) → parts bs + bound_slacks bs ≤ length bs + length bs
columns_few [] = omega arith
columns_few (b ∷ bs) = let a = two_at_most b.low b.high in let c = columns_few bs in omega (arith, a, c)

either_pair : (b : Bool) (x y : ℕ × ℕ) → x.1 ≤ 2 → y.1 ≤ 2 → (cond b x y).1 ≤ 2
either_pair true x y h k = h
either_pair false x y h k = k

either_list : {A : Type 0} (b : Bool) (xs ys : List A) → length xs ≤ 2 → length ys ≤ 2 → length (cond b xs ys) ≤ 2
either_list true xs ys h k = h
either_list false xs ys h k = k

two_slacks : (l u : Option ℚ) → (count_by l u).1 ≤ 2
two_slacks (Some l) (Some u) = either_pair (same_fields l u) (1, 0) (2, 2) (omega arith) (omega arith)
two_slacks (Some l) None = omega arith
two_slacks None (Some u) = omega arith
two_slacks None None = omega arith

slacks_few : (ss : List Row) → row_slacks ss ≤ length ss + length ss
slacks_few [] = omega arith
slacks_few (s ∷ ss) = let a = two_slacks s.low s.high in let c = slacks_few ss in omega (arith, a, c)

-- ---- equations

two_equations : (l u : Option ℚ) (k : ℕ) (row : List ℚ) (a : ℚ) → length (row_equations_by l u k row a) ≤ 2
two_equations (Some l) (Some u) k row a = either_list (same_fields l u) _ _ (omega arith) (omega arith)
two_equations (Some l) None k row a = omega arith
two_equations None (Some u) k row a = omega arith
two_equations None None k row a = omega arith

rows_few : (region : Region) (h : List ℚ) (k : ℕ) (ss : List Row) (rows : List (List ℚ)) → length (row_equations region h k ss rows) ≤ length ss + length ss
rows_few region h k [] rows = omega arith
rows_few region h k (s ∷ ss) [] = omega arith
rows_few region h k (s ∷ ss) (row ∷ rows) =
    let a = two_equations s.low s.high k (spread region row) (dot row h) in
    let c = rows_few region h (k + slacks_at s) ss rows in
    let e = length-append (row_equations_by s.low s.high k (spread region row) (dot row h)) (row_equations region h (k + slacks_at s) ss rows) in
    omega (arith, a, c, e)

one_equation : (l u : Option ℚ) (k : ℕ) (unit : List ℚ) → length (bound_equation_by l u k unit) ≤ 1
one_equation (Some l) (Some u) k unit = omega arith
one_equation (Some l) None k unit = omega arith
one_equation None (Some u) k unit = omega arith
one_equation None None k unit = omega arith

bounds_few : (region : Region) (k j : ℕ) (bs : Region) → length (bound_equations region k j bs) ≤ length bs
bounds_few region k j [] = omega arith
bounds_few region k j (b ∷ bs) =
    let a = one_equation b.low b.high k (spread region (unit_vector (length region) j)) in
    let c = bounds_few region (k + bound_slacks_by b.low b.high) (suc j) bs in
    let e = length-append (bound_equation_by b.low b.high k (spread region (unit_vector (length region) j))) (bound_equations region (k + bound_slacks_by b.low b.high) (suc j) bs) in
    omega (arith, a, c, e)

pub width_small : (p : Program) (region : Region) → length region ≡ length p.columns → width p region ≤ length p.columns + length p.columns + (length p.rows + length p.rows)
width_small p region e =
    let a = columns_few region in
    let b = slacks_few (sides p) in
    let c : length (sides p) ≡ length p.rows = length-map p.rows _ in
    omega (arith, a, b, c, e)

pub height_small : (p : Program) (region : Region) → length region ≡ length p.columns → length (form_of p region).matrix ≤ length p.columns + (length p.rows + length p.rows)
height_small p region e =
    let a = rows_few region (shift region) 0 (sides p) p.entries in
    let b = bounds_few region (row_slacks (sides p)) 0 region in
    let c : length (sides p) ≡ length p.rows = length-map p.rows _ in
    let d = length-append (row_equations region (shift region) 0 (sides p) p.entries) (bound_equations region (row_slacks (sides p)) 0 region) in
    let f : length (form_of p region).matrix ≡ length (equations p region) = length-map (equations p region) (matrix_row (slacks p region)) in
    omega (arith, a, b, c, d, e, f)

pub size_small : (p : Program) (path : List Turn)
    → 2 ^ (width p (region_of p path) + width p (region_of p path) + length (form_of p (region_of p path)).matrix + 1) ≤ 2 ^ (5 * length p.columns + 6 * length p.rows + 1)
size_small p path =
    let a = width_small p (region_of p path) (wide p path) in
    let b = height_small p (region_of p path) (wide p path) in
    pow-le-pow_right {n = 2} (omega arith) (omega (arith, a, b))
