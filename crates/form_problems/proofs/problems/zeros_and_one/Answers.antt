use Rattle.form_problems.proofs.Lists.{zeros_then}
use Rattle.form_problems.proofs.problems.zeros_and_one.Goals as goal

pub returns : goal.returns
returns c = zeros_then c.args.count c.whole.result c.whole-2.result c.in_ok-right.right c.push.new.self c.whole.ensures c.whole-2.ensures c.in_ok-right.ensures c.in_ok-push.ensures.ok
