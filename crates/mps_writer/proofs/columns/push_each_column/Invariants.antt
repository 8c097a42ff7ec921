-- the columns so far are there
use Rattle.std.proofs.Common.{◌≡◌, ◌++◌}
use Rattle.mps_writer_law.specs.Lines.{lines_text, each}
use Rattle.mps_writer_law.specs.Canonical.{column_lines}
use Rattle.mps_writer.proofs.columns.push_each_column.Given as goal

abbrev pub invariant-loop-j : goal.invariant-loop-j
invariant-loop-j l = l.out.items ≡ l.initial.out.items ++ lines_text (each l.j (column_lines l.p))
