use Rattle.cert_fields.proofs.NumberLemmas.{lowest_fails, lowest_passes, lowest_differs}
use Rattle.cert_fields.proofs.numbers.lowest.Goals as goal

pub returns-in-Err : goal.returns-in-Err
returns-in-Err c = lowest_fails c.args.negative c.args.top c.args.bottom c.with_sign.result c.of_parts.result _ c.with_sign.ensures c.requires.top c.requires.bottom c.of_parts.ensures.value c.in-Err.is

pub returns-then-den-bottom : goal.returns-then-den-bottom
returns-then-den-bottom c =
    lowest_passes c.args.negative c.args.top c.args.bottom c.with_sign.result c.den.result c.of_parts.result c.in-Ok.value c.with_sign.ensures c.requires.top c.requires.bottom c.of_parts.ensures.value c.in-Ok.is c.den.ensures.value c.den.ensures.fits c.if-den-bottom.true

pub returns-else-den-bottom : goal.returns-else-den-bottom
returns-else-den-bottom c =
    lowest_differs c.args.negative c.args.top c.args.bottom c.with_sign.result c.den.result c.of_parts.result c.in-Ok.value c.with_sign.ensures c.requires.top c.requires.bottom c.of_parts.ensures.value c.in-Ok.is c.den.ensures.value c.den.ensures.fits c.if-den-bottom.false
