use Rattle.std.proofs.Common.{arith}
use Rattle.program_regions.specs.Descents.{cuts_of}
use Rattle.search_steps.proofs.Ways.{path_more, path_all}
use Rattle.search_steps.proofs.trails.Trail.path.Goals as goal

pub loop-i-preserved : goal.loop-i-preserved
loop-i-preserved c =
    path_more c.args.self.now.turns c.loop-i.path c.push.new.self (cuts_of c.args.self.now.walk.before) c.loop-i.i c.cut.result c.cut.ensures c.loop-i.invariant c.in_ok-push.ensures.ok

pub returns : goal.returns
returns c =
    path_all c.args.self.now.turns c.loop-i.path c.args.self.now.walk.before c.loop-i.i (omega (arith, c.loop-i-test.false, c.len-i-end.ensures)) c.loop-i.invariant
