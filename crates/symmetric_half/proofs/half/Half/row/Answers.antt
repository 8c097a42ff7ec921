use Rattle.symmetric_half.proofs.Triangles.{place_is, row_read, row_width}
use Rattle.symmetric_half.proofs.half.Half.row.Goals as goal

pub part_of-start-requires-clause-place : goal.part_of-start-requires-clause-place
part_of-start-requires-clause-place c = place_is c.self.inside.size c.self.inside.entries.items c.args.self.now c.args.j c.self.view_is c.requires

pub returns-clause-row : goal.returns-clause-row
returns-clause-row c =
    row_read c.self.inside.size c.self.inside.entries.items c.deref.result.now c.args.self.now c.args.j c.part_of-start.result.0 c.part_of-start.result.1
    c.self.view_is c.requires c.deref.ensures.value c.part_of-start.ensures.start c.part_of-start.ensures.end

pub returns-clause-width : goal.returns-clause-width
returns-clause-width c =
    row_width c.self.inside.size c.self.inside.entries.items c.deref.result.now c.args.self.now c.args.j c.part_of-start.result.0 c.part_of-start.result.1
    c.self.view_is c.self.invariant.1 c.requires c.deref.ensures.value c.part_of-start.ensures.start c.part_of-start.ensures.end
