use Rattle.std.specs.Prelude.{codes}
use Rattle.mps_writer_law.specs.Canonical.{constant_lines, side_lines}
use Rattle.mps_writer_law.proofs.LineLemmas.{section_more}
use Rattle.mps_writer.proofs.sides.push_right_sides.Goals as goal

pub loop-i-preserved : goal.loop-i-preserved
loop-i-preserved c =
    section_more (codes "RHS") (constant_lines c.args.p.now) c.loop-i.i (side_lines c.args.p.now) _ _ _ _ _ c.loop-i.invariant
    (rw (c.row_name.ensures, c.right_side.ensures, c.row.ensures.bounds) at c.in_ok-begun-2.ensures.ok)
    (rw (c.row_name.ensures, c.right_side.ensures, c.row.ensures.bounds) at c.in_ok-begun-2.ensures.begun)
