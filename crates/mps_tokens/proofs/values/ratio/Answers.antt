use Rattle.std.proofs.Common.{Ok, ap}
use Rattle.mps_tokens.proofs.PowerValues.{made, same_ok}
use Rattle.mps_tokens.proofs.values.ratio.Goals as goal

pub returns-in-Ok : goal.returns-in-Ok
returns-in-Ok c =
    let is = made c.of_parts.result c.args.negative c.args.top c.args.bottom c.with_sign.result c.with_sign.ensures c.requires.top c.requires.bottom.0 c.requires.bottom.1 c.of_parts.ensures.value in
    ap Ok (same_ok c.in-Ok.number _ c.of_parts.result c.in-Ok.is is)

pub returns-in-Err : goal.returns-in-Err
returns-in-Err c =
    let is = made c.of_parts.result c.args.negative c.args.top c.args.bottom c.with_sign.result c.with_sign.ensures c.requires.top c.requires.bottom.0 c.requires.bottom.1 c.of_parts.ensures.value in
    absurd (cc (is, c.in-Err.is))
