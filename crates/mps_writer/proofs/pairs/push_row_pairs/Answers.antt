use Rattle.std.proofs.Common.{arith, ◌≡◌, ◌+◌, ◌-◌}
use Rattle.std.specs.Prelude.{codes, length}
use Rattle.mps_writer_law.specs.Canonical.{pair_lines}
use Rattle.mps_writer_law.proofs.LineLemmas.{behind_more, all_behind}
use Rattle.mps_writer.proofs.pairs.push_row_pairs.Goals as goal

pub loop-d-preserved : goal.loop-d-preserved
loop-d-preserved c =
    behind_more (codes "QUADOBJ") c.args.begun c.loop-d.d (λ d. pair_lines c.args.p.now c.args.j (c.args.j + d)) _ _ _ _ _ c.loop-d.invariant c.in_ok-begun.ensures.ok c.in_ok-begun.ensures.begun

pub returns-clause-ok : goal.returns-clause-ok
returns-clause-ok c =
    let all : c.loop-d.d ≡ length c.args.p.now.columns - c.args.j = omega arith in
    all_behind (codes "QUADOBJ") c.args.begun c.loop-d.d _ (λ d. pair_lines c.args.p.now c.args.j (c.args.j + d)) _ _ all c.loop-d.invariant.0
