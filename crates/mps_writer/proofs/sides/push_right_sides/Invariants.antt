-- the right sides so far are there
use Rattle.std.proofs.Common.{◌≡◌, ◌++◌}
use Rattle.std.specs.Prelude.{codes}
use Rattle.mps_writer_law.specs.Lines.{lines_text, section, has_lines, each}
use Rattle.mps_writer_law.specs.Canonical.{constant_lines, side_lines}
use Rattle.mps_writer.proofs.sides.push_right_sides.Given as goal

abbrev pub invariant-loop-i : goal.invariant-loop-i
invariant-loop-i l =
    (l.out.items ≡ l.fn.out.items ++ lines_text (section (codes "RHS") (constant_lines l.p ++ each l.i (side_lines l.p))))
    × (l.begun ≡ has_lines (constant_lines l.p ++ each l.i (side_lines l.p)))
