use Rattle.certificate_law.specs.Fits.{FitsNode}
use Rattle.cert_grammar.specs.Text.{node_lines}
use Rattle.cert_writer.proofs.Appended.{extends_then, extends_by, stopped, one_more, lines_step, all_at}
use Rattle.cert_writer.proofs.writing.write_tree.Goals as goal

pub returns-in_err-write_node : goal.returns-in_err-write_node
returns-in_err-write_node c = stopped _ c.loop-k.out.items _ _ _ c.from_residual.ensures.0 c.loop-k.invariant.extends c.in_err-write_node.ensures

pub loop-k-preserved : goal.loop-k-preserved
loop-k-preserved c =
    let step = lines_step (node_lines c.args.p.now) c.args.tree.now c.loop-k.k _ c.node.ensures in
    record {
      extends = extends_then _ _ _ c.loop-k.invariant.extends (extends_by _ _ _ c.in_ok-write_node.ensures);
      whole = one_more _ _ _ _ _ _ c.loop-k.invariant.whole step c.in_ok-write_node.ensures;
    }

pub write_node-requires : goal.write_node-requires
write_node-requires c = all_at (FitsNode c.args.p.now) c.args.tree.now c.loop-k.k _ c.requires c.node.ensures
