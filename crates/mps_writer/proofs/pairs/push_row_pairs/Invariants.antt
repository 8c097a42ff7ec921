-- the entries so far are there
use Rattle.std.proofs.Common.{◌≡◌, ◌+◌, ◌++◌}
use Rattle.std.specs.Prelude.{codes, ◌||◌}
use Rattle.mps_writer_law.specs.Lines.{lines_text, behind, has_lines, each}
use Rattle.mps_writer_law.specs.Canonical.{pair_lines}
use Rattle.mps_writer.proofs.pairs.push_row_pairs.Given as goal

abbrev pub invariant-loop-d : goal.invariant-loop-d
invariant-loop-d l =
    (l.out.items ≡ l.fn.out.items ++ lines_text (behind l.fn.begun (codes "QUADOBJ") (each l.d (λ d. pair_lines l.p l.j (l.j + d)))))
    × (l.begun ≡ (l.fn.begun || has_lines (each l.d (λ d. pair_lines l.p l.j (l.j + d)))))
