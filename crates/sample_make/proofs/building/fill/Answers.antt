use Rattle.std.proofs.Common.{◌≡◌, ◌∙◌, ap, arith}
use Rattle.program_law.specs.Changes.{with_constant}
use Rattle.sample_make.specs.Plan.{Plan}
use Rattle.sample_make.specs.Begun.{begun}
use Rattle.sample_make.specs.Samples.{plan_of}
use Rattle.sample_make.proofs.Growing.{constant_last}
use Rattle.sample_make.proofs.building.fill.Goals as goal

pub returns : goal.returns
returns c =
    let plan : Plan = plan_of c.args.kind c.args.draws.now in
    let all : c.loop-j.j ≡ plan.columns = omega (arith, c.loop-j.auto.j-end, c.loop-j-test.false, c.column_count-j-end.ensures.count c.args.draws.now) in
    let whole = c.loop-j.invariant ∙ ap (λ n. begun plan plan.rows n) all in
    c.set_constant.ensures ∙ (ap (λ p. with_constant p c.constant.result) whole
    ∙ constant_last plan c.constant.result c.constant.ensures)
