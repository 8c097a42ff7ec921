-- the rows so far are there
use Rattle.std.proofs.Common.{◌≡◌, ◌++◌}
use Rattle.std.specs.Prelude.{codes}
use Rattle.mps_writer_law.specs.Lines.{lines_text, section, has_lines, each}
use Rattle.mps_writer_law.specs.Canonical.{row_pair_lines}
use Rattle.mps_writer.proofs.pairs.push_pairs.Given as goal

abbrev pub invariant-loop-j : goal.invariant-loop-j
invariant-loop-j l =
    (l.out.items ≡ l.fn.out.items ++ lines_text (section (codes "QUADOBJ") (each l.j (row_pair_lines l.p))))
    × (l.begun ≡ has_lines (each l.j (row_pair_lines l.p)))
