use Rattle.std.specs.Prelude.{codes, []}
use Rattle.mps_writer_law.specs.Canonical.{row_name, sides_at, width, range_lines}
use Rattle.mps_writer_law.proofs.LineLemmas.{section_more}
use Rattle.mps_writer.proofs.sides.push_ranges.Goals as goal

pub loop-i-preserved : goal.loop-i-preserved
loop-i-preserved c =
    section_more (codes "RANGES") [] c.loop-i.i (λ i. range_lines (row_name c.args.p.now i) (width (sides_at c.args.p.now i).low (sides_at c.args.p.now i).high)) _ _ _ _ _ c.loop-i.invariant
    (rw (c.row_name.ensures, c.width.ensures, c.row.ensures.bounds) at c.in_ok-begun.ensures.ok)
    (rw (c.row_name.ensures, c.width.ensures, c.row.ensures.bounds) at c.in_ok-begun.ensures.begun)
