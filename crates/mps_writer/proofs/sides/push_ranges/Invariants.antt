-- the ranges so far are there
use Rattle.std.proofs.Common.{◌≡◌, ◌++◌}
use Rattle.std.specs.Prelude.{codes}
use Rattle.mps_writer_law.specs.Lines.{lines_text, section, has_lines, each}
use Rattle.mps_writer_law.specs.Canonical.{row_name, sides_at, width, range_lines}
use Rattle.mps_writer.proofs.sides.push_ranges.Given as goal

abbrev pub invariant-loop-i : goal.invariant-loop-i
invariant-loop-i l =
    (l.out.items ≡ l.fn.out.items ++ lines_text (section (codes "RANGES") (each l.i (λ i. range_lines (row_name l.p i) (width (sides_at l.p i).low (sides_at l.p i).high)))))
    × (l.begun ≡ has_lines (each l.i (λ i. range_lines (row_name l.p i) (width (sides_at l.p i).low (sides_at l.p i).high))))
