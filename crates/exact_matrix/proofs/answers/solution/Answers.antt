use Rattle.std.proofs.Common.{arith}
use Rattle.exact_matrix.specs.State.{state}
use Rattle.exact_matrix.proofs.Assembled.{solution_start, solution_more, solution_all}
use Rattle.exact_matrix.proofs.answers.solution.Goals as goal

pub loop-j-init : goal.loop-j-init
loop-j-init g c =
    let v = g.F.ExactField.value in
    solution_start v c.args.n (state v c.args.pivots.now c.args.rows.now) c.new-z.result c.new-z.ensures

pub loop-j-preserved : goal.loop-j-preserved
loop-j-preserved g c =
    let v = g.F.ExactField.value in
    solution_more v c.args.n c.loop-j.j (state v c.args.pivots.now c.args.rows.now) c.loop-j.z c.push.new.self c.value_of.result (omega arith) c.in_ok-push.ensures.ok c.value_of.ensures c.loop-j.invariant

pub returns : goal.returns
returns g c =
    let v = g.F.ExactField.value in
    solution_all v c.args.n c.loop-j.j (state v c.args.pivots.now c.args.rows.now) c.loop-j.z (omega arith) c.loop-j.invariant
