use Rattle.std.specs.Prelude.{List}
use Rattle.std.proofs.Common.{ap, ◌∙◌, arith, length}
use Rattle.std.proofs.Math.ListN.{set}
use Rattle.rational.specs.Rational.{ℚ}
use Rattle.symmetric_half.proofs.Triangles.{size_is, place_is, row_width, vec_rows}
use Rattle.symmetric_half.proofs.half.Half.put.Goals as goal

pub part_of-start-requires-clause-place : goal.part_of-start-requires-clause-place
part_of-start-requires-clause-place c = place_is c.self.inside.size c.self.inside.entries.items c.args.self.now c.args.j c.self.view_is c.requires.row

pub copy_from_slice-requires : goal.copy_from_slice-requires
copy_from_slice-requires c =
    omega (
      arith,
      c.requires.width,
      row_width c.self.inside.size c.self.inside.entries.items c.deref_mut.result.now c.args.self.now c.args.j c.part_of-start.result.0 c.part_of-start.result.1
          c.self.view_is c.self.invariant.1 c.requires.row c.deref_mut.ensures.value c.part_of-start.ensures.start c.part_of-start.ensures.end,
    )

pub returns : goal.returns
returns c =
    vec_rows c.self.inside.entries c.self.inside.size c.args.j c.part_of-start.result.0 c.part_of-start.result.1 c.deref_mut.result.now c.copy_from_slice.new.self
    c.args.self.now c.self.view_is c.self.invariant.1 c.self.inside.entries.ok.0
    (place_is c.self.inside.size c.self.inside.entries.items c.args.self.now c.args.j c.self.view_is c.requires.row) c.deref_mut.ensures.value
    c.part_of-start.ensures.start c.part_of-start.ensures.end
    (omega (arith, c.requires.width, ap (λ (r : List ℚ). length r) c.copy_from_slice.ensures.after, size_is c.self.inside.size c.self.inside.entries.items c.args.self.now c.self.view_is))
    ∙ ap (set c.args.self.now c.args.j) c.copy_from_slice.ensures.after
