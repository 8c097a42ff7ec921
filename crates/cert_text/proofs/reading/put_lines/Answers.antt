use Rattle.std.proofs.Common.{◌≡◌, length, Ok, ap, subst, arith}
use Rattle.cert_text_law.specs.Told.{blank}
use Rattle.cert_text_law.specs.Items.{text_items}
use Rattle.cert_lines.specs.Lines.{Lines, Gives}
use Rattle.cert_text.specs.Drafts.{told}
use Rattle.cert_text_law.proofs.Collected.{told_next, claim_next}
use Rattle.cert_text.proofs.Putting.{next_of, put_all}
use Rattle.cert_text.proofs.reading.put_lines.Goals as goal

pub lines-preserved : goal.lines-preserved
lines-preserved c =
    let p = c.args.p.now in
    let text = c.args.text.now in
    let old = c.lines.lines in
    let new = c.next.new.self in
    let w = c.lines.invariant in
    let next = next_of p text c.args.line old new c.in-Some.item w.0 (subst (λ item. Gives old new (Ok item)) c.in-Some.is c.in_ok-item.ensures.gives) in
    let size : length new.text ≡ length text = ap (λ (l : Lines). length l.text) next.lines in
    let told_more = told_next p (blank (length p.columns)) (told c.lines.draft) (told c.put.new.self) old.given (text_items p text) c.in-Some.item next.there w.2 (rw (← c.columns-columns.ensures.count, ← c.rows-rows.ensures.count) c.in_ok-put.ensures.told) in
    let claim_more = claim_next c.args.draft.now.claim c.lines.draft.claim c.put.new.self.claim old.given (text_items p text) c.in-Some.item next.there w.3 c.in_ok-put.ensures.claim in
    (next.lines, omega (arith, size, c.in_ok-item.ensures.room), rw next.one told_more, rw next.one claim_more)

pub returns : goal.returns
returns c =
    let w = c.lines.invariant in
    put_all c.args.p.now c.args.text.now c.args.line c.lines.lines c.next.new.self c.args.draft.now.claim c.lines.draft.claim (told c.lines.draft) w.0
    (subst (λ item. Gives c.lines.lines c.next.new.self (Ok item)) c.in_default.is c.in_ok-item.ensures.gives) w.2 w.3
