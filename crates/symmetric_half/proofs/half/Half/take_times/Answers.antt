use Rattle.std.specs.Prelude.{List, ◌≡◌, ◌-◌, slice_set}
use Rattle.std.proofs.Common.{sym, subst, arith}
use Rattle.rational.specs.Rational.{ℚ}
use Rattle.rational.specs.Vectors.{row_at}
use Rattle.std.specs.Vec.{with_items}
use borrow.Rule.Slice.PartMut.{put_mid}
use Rattle.frac_core.specs.Calculated.{Leaves}
use Rattle.frac_core.specs.Parts.{max_part}
use Rattle.frac_core.specs.Row.{row_less}
use Rattle.symmetric_half.specs.Chain.{row_answered}
use Rattle.symmetric_half.proofs.Left.{row_left}
use Rattle.symmetric_half.specs.Triangle.{rows_of}
use Rattle.symmetric_half.proofs.Triangles.{size_is, place_is, row_read, row_width, vec_rows, row_now, rest_now}
use Rattle.symmetric_half.proofs.half.Half.take_times.Goals as goal
use Rattle.symmetric_half.proofs.half.Half.take_times.Goals.{After-self-1}

pub part_of-start-requires-clause-place : goal.part_of-start-requires-clause-place
part_of-start-requires-clause-place c = place_is c.self.inside.size c.self.inside.entries.items c.args.self.now c.args.k c.self.view_is c.requires.row

pub take_times-requires : goal.take_times-requires
take_times-requires c =
    omega (
      arith,
      c.requires.width,
      row_width c.self.inside.size c.self.inside.entries.items c.deref_mut.result.now c.args.self.now c.args.k c.part_of-start.result.0 c.part_of-start.result.1
          c.self.view_is c.self.invariant.1 c.requires.row c.deref_mut.ensures.value c.part_of-start.ensures.start c.part_of-start.ensures.end,
    )

written : (c : After-self-1) →
    rows_of c.self.inside.size (with_items c.self.inside.entries (put_mid c.part_of-start.result.0 (c.part_of-start.result.1 - c.part_of-start.result.0) c.deref_mut.result.now c.take_times.new.row)).items
    ≡ slice_set c.args.self.now c.args.k c.take_times.new.row
written c =
    vec_rows c.self.inside.entries c.self.inside.size c.args.k c.part_of-start.result.0 c.part_of-start.result.1 c.deref_mut.result.now c.take_times.new.row
    c.args.self.now c.self.view_is c.self.invariant.1 c.self.inside.entries.ok.0
    (place_is c.self.inside.size c.self.inside.entries.items c.args.self.now c.args.k c.self.view_is c.requires.row) c.deref_mut.ensures.value
    c.part_of-start.ensures.start c.part_of-start.ensures.end
    (omega (
      arith,
      c.take_times.auto.row,
      size_is c.self.inside.size c.self.inside.entries.items c.args.self.now c.self.view_is,
      row_width c.self.inside.size c.self.inside.entries.items c.deref_mut.result.now c.args.self.now c.args.k c.part_of-start.result.0 c.part_of-start.result.1
          c.self.view_is c.self.invariant.1 c.requires.row c.deref_mut.ensures.value c.part_of-start.ensures.start c.part_of-start.ensures.end,
    ))

pub returns-clause-row : goal.returns-clause-row
returns-clause-row c =
    let now = row_now c.args.self.now _ c.args.k c.take_times.new.row c.requires.row (written c) in
    let was = row_read c.self.inside.size c.self.inside.entries.items c.deref_mut.result.now c.args.self.now c.args.k c.part_of-start.result.0 c.part_of-start.result.1
    c.self.view_is c.requires.row c.deref_mut.ensures.value c.part_of-start.ensures.start c.part_of-start.ensures.end in
    subst (λ (new : List ℚ). Leaves new c.take_times.result (row_answered (row_less max_part c.args.f (row_at c.args.self.now c.args.k) c.args.v.now))) (sym now)
    (subst (λ (old : List ℚ). Leaves c.take_times.new.row c.take_times.result (row_answered (row_less max_part c.args.f old c.args.v.now))) was (row_left c.take_times.result c.take_times.new.row c.args.f _ c.args.v.now c.take_times.ensures.calculation))

pub returns-clause-rest : goal.returns-clause-rest
returns-clause-rest c = rest_now c.args.self.now _ c.args.k c.take_times.new.row c.requires.row (written c)
