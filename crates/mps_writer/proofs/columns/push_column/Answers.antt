use Rattle.mps_writer_law.specs.Canonical.{entry_lines}
use Rattle.mps_writer_law.proofs.LineLemmas.{lines_more}
use Rattle.mps_writer.proofs.columns.push_column.Goals as goal

pub loop-i-preserved : goal.loop-i-preserved
loop-i-preserved c = lines_more c.loop-i.i (entry_lines c.args.p.now c.args.j) _ _ _ c.loop-i.invariant c.in_ok-push_entry.ensures
