use Rattle.search_steps.specs.Trees.{nodes_before}
use Rattle.search_steps.proofs.Around.{before_less}
use Rattle.search_steps.proofs.trees.opened.Goals as goal

pub loop-i-preserved : goal.loop-i-preserved
loop-i-preserved c = before_less c.args.turns.now c.loop-i.i c.at.result c.loop-i.nodes c.put_before.new.nodes (nodes_before c.args.turns.now) c.at.ensures c.in_ok-put_before.ensures c.loop-i.invariant
