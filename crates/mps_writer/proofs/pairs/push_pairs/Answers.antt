use Rattle.std.specs.Prelude.{codes, []}
use Rattle.mps_writer_law.specs.Canonical.{row_pair_lines}
use Rattle.mps_writer_law.proofs.LineLemmas.{section_more}
use Rattle.mps_writer.proofs.pairs.push_pairs.Goals as goal

pub loop-j-preserved : goal.loop-j-preserved
loop-j-preserved c = section_more (codes "QUADOBJ") [] c.loop-j.j (row_pair_lines c.args.p.now) _ _ _ _ _ c.loop-j.invariant c.in_ok-begun.ensures.ok c.in_ok-begun.ensures.begun
