use Rattle.std.proofs.Common.{◌++◌}
use Rattle.search_steps.specs.Trees.{nodes_behind}
use Rattle.search_steps.proofs.Around.{behind_less}
use Rattle.search_steps.proofs.trees.closed.Goals as goal

pub loop-i-preserved : goal.loop-i-preserved
loop-i-preserved c =
    behind_less c.args.turns.now c.loop-i.i c.at.result c.loop-i.nodes c.put_behind.new.nodes (c.args.nodes ++ nodes_behind c.args.turns.now) c.loop-i-test.true c.at.ensures c.in_ok-put_behind.ensures
    c.loop-i.invariant
