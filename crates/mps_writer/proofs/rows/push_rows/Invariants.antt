-- the rows so far are there
use Rattle.std.proofs.Common.{◌≡◌, ◌++◌, [], ◌∷◌}
use Rattle.mps_writer_law.specs.Lines.{lines_text, each}
use Rattle.mps_writer_law.specs.Canonical.{row_line}
use Rattle.mps_writer.proofs.rows.push_rows.Given as goal

abbrev pub invariant-loop-i : goal.invariant-loop-i
invariant-loop-i l = l.out.items ≡ l.initial.out.items ++ lines_text (each l.i (λ i. row_line l.p i ∷ []))
