use Rattle.std.proofs.Common.{refl}
use Rattle.mps_notes.specs.Notes.{told_in}
use Rattle.mps_sections.proofs.SideLines.{right_sides, range_sides}
use Rattle.mps_sections.proofs.data.take_sides_of.Goals as goal

pub returns-then-ranges : goal.returns-then-ranges
returns-then-ranges c = rw c.if-ranges.true (range_sides c.args.notes.now c.take_sides.new.sides c.args.fields.now c.take_sides.result c.requires.sound (c.take_sides.ensures (told_in c.args.notes.now) refl))

pub returns-else-ranges : goal.returns-else-ranges
returns-else-ranges c = rw c.if-ranges.false (right_sides c.args.notes.now c.take_sides-else-ranges.new.sides c.args.fields.now c.take_sides-else-ranges.result c.requires.sound (c.take_sides-else-ranges.ensures (told_in c.args.notes.now) refl))
