-- the fields so far are there
use Rattle.std.proofs.Common.{◌≡◌, ◌++◌, map}
use Rattle.std.specs.Prelude.{take}
use Rattle.mps_writer_law.specs.Lines.{data_line}
use Rattle.mps_line_writer.specs.Fields.{field_text}
use Rattle.mps_line_writer.proofs.lines.push_line.Given as goal

abbrev pub invariant-loop-field : goal.invariant-loop-field
invariant-loop-field l = l.out.items ≡ l.initial.out.items ++ data_line (map field_text (take l.field-index l.fields))
