use Rattle.mps_writer_law.specs.Canonical.{column_lines}
use Rattle.mps_writer_law.proofs.LineLemmas.{lines_more}
use Rattle.mps_writer.proofs.columns.push_each_column.Goals as goal

pub loop-j-preserved : goal.loop-j-preserved
loop-j-preserved c = lines_more c.loop-j.j (column_lines c.args.p.now) _ _ _ c.loop-j.invariant c.in_ok-push_column.ensures
