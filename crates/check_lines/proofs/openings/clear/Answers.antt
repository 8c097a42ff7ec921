use Rattle.std.proofs.Common.{◌∙◌, ap, arith}
use Rattle.check_lines.proofs.Zeroed.{zeroed, all_zeroed}
use Rattle.check_lines.proofs.openings.clear.Goals as goal

pub returns : goal.returns
returns c =
    c.loop-i.invariant
    ∙ ap (λ n. zeroed n c.args.entries.now) (omega (arith, c.loop-i.auto.i-end, c.loop-i-test.false, c.len-i-end.ensures))
    ∙ all_zeroed c.args.entries.now
