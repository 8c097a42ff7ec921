-- the entries so far are there
use Rattle.std.proofs.Common.{◌≡◌, ◌++◌}
use Rattle.mps_writer_law.specs.Lines.{lines_text, each}
use Rattle.mps_writer_law.specs.Canonical.{entry_lines}
use Rattle.mps_writer.proofs.columns.push_column.Given as goal

abbrev pub invariant-loop-i : goal.invariant-loop-i
invariant-loop-i l = l.out.items ≡ l.initial.out.items ++ lines_text (each l.i (entry_lines l.p l.j))
