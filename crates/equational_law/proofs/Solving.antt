-- Each relaxed point of the region comes from a solution of the form.
use Rattle.std.specs.Prelude.{◌≡◌, suc, ◌+◌, List, [], ◌∷◌, length, drop}
use Rattle.std.specs.List.{All}
use Rattle.std.proofs.Common.{arith, sym, ◌∙◌, ap, refl, length-append}
use Rattle.std.proofs.lemmas.List.Elements.{All-append, All-weaker}
use Rattle.rational.specs.Rational.{ℚ, one_ℚ, ◌-ℚ◌, ◌*ℚ◌}
use Rattle.rational.specs.Sums.{entry}
use Rattle.rational.specs.Vectors.{dot, add_each, zeros, rows_dot}
use Rattle.rational.proofs.Vectors.{length-zeros, length-rows_dot}
use Rattle.program_law.specs.declared.Row.{Row}
use Rattle.program_law.specs.Region.{Region}
use Rattle.program_law.specs.Program.{Program, IsProgram, sides}
use Rattle.program_law.specs.Columns.{AllWithin, IsRelaxedPoint}
use Rattle.equational_law.specs.Standing.{shift, parts, change, spread}
use Rattle.equational_law.specs.Equations.{row_equations, bound_equations, row_slacks}
use Rattle.equational_law.specs.Form.{equations, slacks, width, form_of, point_of}
use Rattle.equational_law.specs.Solutions.{IsNotNegative, IsSolution}
use Rattle.equational_law.proofs.Adjoint.{length-spread}
use Rattle.equational_law.proofs.Equations.{IsKept, kept_all}
use Rattle.equational_law.proofs.Points.{long_rows}
use Rattle.equational_law.proofs.Scaled.{IsScaled, AllScaledWithin, one_times, scaled_within}
use Rattle.equational_law.proofs.Gaps.{parts_of, row_gaps, bound_gaps, less, change-parts_of, drop-parts_of, length-parts_of, dot-less, less_one, rows_met, columns_met, length-row_gaps, length-bound_gaps, parts_nonneg, row_gaps_nonneg, bound_gaps_nonneg}

-- what stands in the form for x, c times the sides
abbrev pub solution_by : ℚ → Program → Region → List ℚ → List ℚ
solution_by c p region x = parts_of c region x (row_gaps c (sides p) (rows_dot p.entries x) (bound_gaps c region x))

pub length-cost : (p : Program) (region : Region) → length (form_of p region).cost ≡ width p region
length-cost p region =
    length-append (spread region _) (zeros (slacks p region)) ∙ ap (λ k. k + length (zeros (slacks p region))) (length-spread region _)
    ∙ ap (λ k. parts region + k) (length-zeros (slacks p region))

pub length-solution : (c : ℚ) (p : Program) (region : Region) (x : List ℚ) → IsProgram p → length x ≡ length region → length (solution_by c p region x) ≡ width p region
length-solution c p region x is e =
    let a = length-parts_of c region x (row_gaps c (sides p) (rows_dot p.entries x) (bound_gaps c region x)) e in
    let b = length-row_gaps c (sides p) (rows_dot p.entries x) (bound_gaps c region x) (length-rows_dot p.entries x ∙ long_rows p is) in
    let d = length-bound_gaps c region x e in
    omega arith

pub nonneg_solution : (c : ℚ) (p : Program) (region : Region) (x : List ℚ) → AllScaledWithin c (sides p) (rows_dot p.entries x) → AllScaledWithin c region x
    → All IsNotNegative (solution_by c p region x)
nonneg_solution c p region x v w =
    parts_nonneg c region x (row_gaps c (sides p) (rows_dot p.entries x) (bound_gaps c region x)) w
    (row_gaps_nonneg c (sides p) (rows_dot p.entries x) (bound_gaps c region x) v (bound_gaps_nonneg c region x w))

pub scaled_solution : (c : ℚ) (p : Program) (region : Region) (x : List ℚ) → IsProgram p → length x ≡ length region
    → AllScaledWithin c (sides p) (rows_dot p.entries x) → All (IsScaled c (solution_by c p region x)) (equations p region)
scaled_solution c p region x is e v =
    let z = solution_by c p region x in
    let lasts = bound_gaps c region x in
    let rest = row_gaps c (sides p) (rows_dot p.entries x) lasts in
    let changed : change region z ≡ less c region x = change-parts_of c region x rest e in
    let same : (row : List ℚ) → dot row (change region z) ≡ dot row x -ℚ c *ℚ dot row (shift region) =
    λ row. ap (dot row) changed ∙ dot-less c region row x e in
    let rows = rows_met c region x z 0 (sides p) p.entries lasts (long_rows p is) same (drop-parts_of c region x rest e) v in
    All-append (IsScaled c z) (row_equations region (shift region) 0 (sides p) p.entries) (bound_equations region (row_slacks (sides p)) 0 region) rows.0
    (columns_met c region z (row_slacks (sides p)) 0 region x e
    (λ i. ap (entry (change region z)) (omega arith) ∙ ap (λ d. entry d i) changed)
    (ap (λ m. drop m (drop (parts region) z)) (omega arith) ∙ rows.1))

pub within_length : (ss : List Row) (vs : List ℚ) → AllWithin ss vs → length vs ≡ length ss
within_length [] [] w = refl
within_length [] (v ∷ vs) w = absurd w
within_length (s ∷ ss) [] w = absurd w
within_length (s ∷ ss) (v ∷ vs) w = ap suc (within_length ss vs w.1)

pub solution_of : Program → Region → List ℚ → List ℚ
solution_of p region x = solution_by one_ℚ p region x

pub solved : (p : Program) (region : Region) (x : List ℚ) → IsProgram p → IsRelaxedPoint p region x
    → IsSolution (form_of p region) (solution_of p region x) × (point_of region (solution_of p region x) ≡ x)
unfolding solution_of
solved p region x is w =
    let e = within_length region x w.columns in
    let z = solution_by one_ℚ p region x in
    let v = scaled_within (sides p) (rows_dot p.entries x) w.rows in
    let kept : All (IsKept z) (equations p region) =
    All-weaker (IsScaled one_ℚ z) (IsKept z) (λ e h. h ∙ one_times e.right) (equations p region) (scaled_solution one_ℚ p region x is e v) in (
      record {
        width = length-solution one_ℚ p region x is e ∙ sym (length-cost p region);
        equal = kept_all (slacks p region) (equations p region) z kept;
        not_negative = nonneg_solution one_ℚ p region x v (scaled_within region x w.columns);
      },
      ap (add_each (shift region)) (change-parts_of one_ℚ region x (row_gaps one_ℚ (sides p) (rows_dot p.entries x) (bound_gaps one_ℚ region x)) e) ∙ less_one region x e,
    )
