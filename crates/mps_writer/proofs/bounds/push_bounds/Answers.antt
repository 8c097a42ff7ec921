use Rattle.std.specs.Prelude.{codes, []}
use Rattle.mps_writer_law.specs.Canonical.{column_name, bounds_at, bound_lines}
use Rattle.mps_writer_law.proofs.LineLemmas.{section_more}
use Rattle.mps_writer.proofs.bounds.push_bounds.Goals as goal

pub loop-j-preserved : goal.loop-j-preserved
loop-j-preserved c =
    section_more (codes "BOUNDS") [] c.loop-j.j (λ j. bound_lines (column_name c.args.p.now j) (bounds_at c.args.p.now j).low (bounds_at c.args.p.now j).high) _ _ _ _ _ c.loop-j.invariant
    (rw (c.column_name.ensures, c.bounds.ensures) at c.in_ok-begun.ensures.ok)
    (rw (c.column_name.ensures, c.bounds.ensures) at c.in_ok-begun.ensures.begun)
