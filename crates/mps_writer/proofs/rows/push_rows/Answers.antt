use Rattle.mps_writer_law.specs.Canonical.{row_line}
use Rattle.mps_writer_law.proofs.LineLemmas.{line_more}
use Rattle.mps_writer.proofs.rows.push_rows.Goals as goal

pub loop-i-preserved : goal.loop-i-preserved
loop-i-preserved c = line_more c.loop-i.i (row_line c.args.p.now) _ _ _ c.loop-i.invariant c.in_ok-push_row.ensures
