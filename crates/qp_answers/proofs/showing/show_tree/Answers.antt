use Rattle.cert_grammar.specs.Writable.{NodeFits}
use Rattle.qp_answers.proofs.SmallNumbers.{one_shown}
use Rattle.qp_answers.proofs.showing.show_tree.Goals as goal

pub loop-k-preserved : goal.loop-k-preserved
loop-k-preserved c = one_shown NodeFits c.args.tree.now c.loop-k.k c.node.result.now c.node.ensures c.show_node.ensures c.loop-k.invariant
