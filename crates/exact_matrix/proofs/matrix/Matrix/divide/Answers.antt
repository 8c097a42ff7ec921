use Rattle.std.proofs.Common.{◌≡◌, ◌≤◌, ◌+◌, ◌-◌, ◌*◌, List, length, map, sym, subst, arith}
use Rattle.std.specs.Prelude.{unsigned_abs}
use Rattle.std.proofs.Math.Nat.{mul-le-mul_right}
use Rattle.frac_core.specs.Row.{IsRow}
use Rattle.elimination_law.specs.Calculation.{divided_in}
use Rattle.std.specs.Vec.{with_items}
use borrow.Rule.Slice.PartMut.{put_mid}
use Rattle.exact_matrix.specs.Grid.{with_row, row_at, rows_of}
use Rattle.exact_matrix.proofs.Grids.{row_within, vec_length, vec_written, row_now, rest_now, row_read}
use Rattle.exact_matrix.proofs.matrix.Matrix.divide.Given.{Over}
use Rattle.exact_matrix.proofs.matrix.Matrix.divide.Goals as goal
use Rattle.exact_matrix.proofs.matrix.Matrix.divide.Goals.{After-self, After-self-1}

within : (g : Over) (c : After-self g) → c.args.i * c.self.inside.columns + c.self.inside.columns ≤ length c.self.inside.entries.items
within g c = row_within c.self.inside.columns c.self.inside.rows c.self.inside.entries.items c.args.self.now c.args.i c.self.view_is c.self.invariant c.requires.row

pub overflow_mul-start : goal.overflow_mul-start
overflow_mul-start g c = omega (arith, within g c, c.self.inside.entries.small, c.self.inside.entries.ok)

pub overflow_add-end : goal.overflow_add-end
overflow_add-end g c = omega (arith, within g c, c.self.inside.entries.small, c.self.inside.entries.ok)

pub offset_bounds-deref_mut-start : goal.offset_bounds-deref_mut-start
offset_bounds-deref_mut-start g c =
    let h : c.args.i * c.self.inside.columns ≤ length c.deref_mut.result.now = omega (arith, within g (goal.at.offset_bounds-deref_mut-start g c).After-self, c.deref_mut.ensures.len, c.self.inside.entries.ok) in
    omega (arith, mul-le-mul_right (prog.Memory.size (denote.Param.layout g.row.F)) h, c.deref_mut.type_inv.1)

pub slice_bounds-divide-end : goal.slice_bounds-divide-end
slice_bounds-divide-end g c = omega (arith, within g (goal.at.slice_bounds-divide-end g c).After-self, c.deref_mut.ensures.len, c.self.inside.entries.ok)

pub invariant_of-self : goal.invariant_of-self
invariant_of-self g c =
    vec_length c.self.inside.entries c.self.inside.columns c.self.inside.rows c.deref_mut.result.now c.divide.new.row c.args.self.now c.args.i c.self.view_is c.self.invariant c.requires.row c.deref_mut.ensures.value c.self.inside.entries.ok.0 c.divide.auto.row

written : (g : Over) (c : After-self-1 g) →
    record {
      columns = c.self.inside.columns;
      rows = rows_of c.self.inside.columns c.self.inside.rows
          (with_items c.self.inside.entries (put_mid (c.args.i * c.self.inside.columns) ((c.args.i * c.self.inside.columns + c.self.inside.columns) - c.args.i * c.self.inside.columns) c.deref_mut.result.now c.divide.new.row)).items;
    } ≡ with_row c.args.self.now c.args.i c.divide.new.row
written g c =
    vec_written c.self.inside.entries c.self.inside.columns c.self.inside.rows c.deref_mut.result.now c.divide.new.row c.args.self.now c.args.i c.self.view_is c.self.invariant c.requires.row c.deref_mut.ensures.value c.self.inside.entries.ok.0 c.divide.auto.row

pub returns-clause-row : goal.returns-clause-row
returns-clause-row g c =
    let v = g.F.ExactField.value in let top = unsigned_abs g.F.ExactField.TOP in
    let now = row_now c.args.self.now _ c.args.i c.divide.new.row c.requires.row (written g c) in
    let was = row_read c.self.inside.columns c.self.inside.rows c.self.inside.entries.items c.deref_mut.result.now c.args.self.now c.args.i c.self.view_is c.requires.row c.deref_mut.ensures.value in
    subst (λ (new : List g.row.F.Denot). IsRow v c.divide.result new (divided_in top (v c.args.q) (map v (row_at c.args.self.now c.args.i)))) (sym now)
    (subst (λ (old : List g.row.F.Denot). IsRow v c.divide.result c.divide.new.row (divided_in top (v c.args.q) (map v old))) was c.divide.ensures)

pub returns-clause-rest : goal.returns-clause-rest
returns-clause-rest g c = rest_now c.args.self.now _ c.args.i c.divide.new.row c.requires.row (written g c)
