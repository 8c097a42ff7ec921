-- the bounds so far are there
use Rattle.std.proofs.Common.{◌≡◌, ◌++◌}
use Rattle.std.specs.Prelude.{codes}
use Rattle.mps_writer_law.specs.Lines.{lines_text, section, has_lines, each}
use Rattle.mps_writer_law.specs.Canonical.{column_name, bounds_at, bound_lines}
use Rattle.mps_writer.proofs.bounds.push_bounds.Given as goal

abbrev pub invariant-loop-j : goal.invariant-loop-j
invariant-loop-j l =
    (l.out.items ≡ l.fn.out.items ++ lines_text (section (codes "BOUNDS") (each l.j (λ j. bound_lines (column_name l.p j) (bounds_at l.p j).low (bounds_at l.p j).high))))
    × (l.begun ≡ has_lines (each l.j (λ j. bound_lines (column_name l.p j) (bounds_at l.p j).low (bounds_at l.p j).high)))
