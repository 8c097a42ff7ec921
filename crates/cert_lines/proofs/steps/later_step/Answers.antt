use Rattle.cert_text_law.proofs.Nexts.{at_end, goes_past, cut_off, leaves, goes_on}
use Rattle.cert_lines.proofs.steps.later_step.Goals as goal

pub returns-then-not-is_empty-clause-read : goal.returns-then-not-is_empty-clause-read
returns-then-not-is_empty-clause-read c = λ whole line given h. goes_past c.args.p.now whole line given c.args.text.now c.args.place h c.if-is_ended.ensures c.if-not-is_empty.ensures

pub returns-then-is_ended-clause-read : goal.returns-then-is_ended-clause-read
returns-then-is_ended-clause-read c = λ whole line given h. at_end c.args.p.now whole line given c.args.text.now c.args.place h c.if-is_ended.ensures c.if-not-is_empty.ensures

pub returns-in_default-clause-read : goal.returns-in_default-clause-read
returns-in_default-clause-read c = λ whole line given h. cut_off c.args.p.now whole line given c.args.text.now c.args.place h c.if-is_ended.ensures c.in_default.ensures.whole

pub returns-in-Err-clause-read : goal.returns-in-Err-clause-read
returns-in-Err-clause-read c = λ whole line given h. leaves c.args.p.now whole line given c.in-Some.first.now c.args.text.now c.in-Some.rest.now c.args.place c.in-Err.kind h c.if-is_ended.ensures c.in-Some.ensures.pieces c.in-Err.ensures

pub returns-clause-read : goal.returns-clause-read
returns-clause-read c = λ whole line given h.
    let next = goes_on c.args.p.now whole line given c.in-Some.first.now c.args.text.now c.in-Some.rest.now c.args.place c.after-place.result c.in-Ok.item h c.if-is_ended.ensures c.in-Some.ensures.pieces c.in-Ok.ensures.0 c.in-Ok.ensures.1 c.after-place.ensures in
    (next.there, next.within, next.behind_it)
