-- Each solution of the form goes back to a point of the region.
use Rattle.std.specs.Prelude.{◌≡◌, ℕ, List, length}
use Rattle.std.specs.List.{All}
use Rattle.std.proofs.Common.{arith, sym, subst, ◌∙◌, ap}
use Rattle.std.proofs.lemmas.List.{length-map}
use Rattle.std.proofs.lemmas.List.Elements.{All-weaker}
use Rattle.rational.specs.Rational.{ℚ, one_ℚ, ◌+ℚ◌, ◌*ℚ◌}
use Rattle.rational.specs.Sums.{entry}
use Rattle.rational.specs.Vectors.{dot, rows_dot}
use Rattle.rational.proofs.Vectors.{dot-add_right}
use Rattle.program_law.specs.declared.Row.{Row}
use Rattle.program_law.specs.Region.{Region}
use Rattle.program_law.specs.Program.{Program, IsProgram, sides}
use Rattle.program_law.specs.Columns.{AllWithin, IsRelaxedPoint}
use Rattle.equational_law.specs.Standing.{shift, change}
use Rattle.equational_law.specs.Equations.{row_equations, bound_equations, row_slacks}
use Rattle.equational_law.specs.Form.{equations, slacks, form_of, point_of}
use Rattle.equational_law.specs.Solutions.{IsSolution}
use Rattle.equational_law.proofs.Adjoint.{length-change, length-shift}
use Rattle.equational_law.proofs.Equations.{All-front, All-back, IsKept, all_kept}
use Rattle.equational_law.proofs.Scaled.{IsScaled, one_times, within_scaled, rows_back, placed_one, columns_back}

pub long_rows : (p : Program) → IsProgram p → length p.entries ≡ length (sides p)
long_rows p is = is.height ∙ sym (length-map p.rows (λ (r : List ℕ × Row). r.1))

pub point_back : (p : Program) (region : Region) (z : List ℚ) → IsProgram p → length region ≡ length p.columns → IsSolution (form_of p region) z → IsRelaxedPoint p region (point_of region z)
point_back p region z is e s =
    let h = shift region in
    let d = change region z in
    let x = point_of region z in
    let m = row_slacks (sides p) in
    let ours = row_equations region h 0 (sides p) p.entries in
    let others = bound_equations region m 0 region in
    let sum : (row : List ℚ) → one_ℚ *ℚ dot row h +ℚ dot row d ≡ dot row x =
    λ row. ap (λ y. y +ℚ dot row d) (one_times (dot row h)) ∙ sym (dot-add_right row h d (length-shift region ∙ sym (length-change region z))) in
    let kept : All (IsScaled one_ℚ z) (equations p region) =
    All-weaker (IsKept z) (IsScaled one_ℚ z) (λ e h. h ∙ sym (one_times e.right)) (equations p region) (all_kept (slacks p region) (equations p region) z s.equal) in
    record {
      rows = within_scaled (sides p) (rows_dot p.entries x) (rows_back one_ℚ region x z 0 (sides p) p.entries (long_rows p is) sum s.not_negative (All-front (IsScaled one_ℚ z) ours others kept));
      columns = subst (AllWithin region) (placed_one region z) (within_scaled region _
          (columns_back one_ℚ region z m 0 region z (λ i. ap (entry d) (omega arith)) s.not_negative s.not_negative (All-back (IsScaled one_ℚ z) ours others kept)));
    }
