use Rattle.std.proofs.Common.{sym}
use Rattle.cert_text_law.proofs.Nexts.{begins, unclaimed_first}
use Rattle.cert_lines.proofs.steps.first_step.Goals as goal

pub returns-in_default-claim_in-clause-read : goal.returns-in_default-claim_in-clause-read
returns-in_default-claim_in-clause-read c = λ p line. unclaimed_first p line c.in-Some.first.now c.args.text.now c.in-Some.rest.now c.in-Some.ensures.pieces (sym c.in_default-claim_in.ensures)

pub returns-clause-read : goal.returns-clause-read
returns-clause-read c = λ p line.
    let next = begins p line c.in-Some.first.now c.args.text.now c.in-Some.rest.now c.in-Some-claim_in.claim c.of_claim-item.result c.start-place.result c.in-Some.ensures.pieces (sym c.in-Some-claim_in.ensures) c.of_claim-item.ensures c.start-place.ensures in
    (next.there, next.within, next.behind_it)
