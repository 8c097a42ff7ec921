use Rattle.std.proofs.Common.{◌≤◌, length, subst, ap, ◌∙◌}
use Rattle.cert_lines.specs.Lines.{Lines}
use Rattle.cert_check_law.specs.Check.{answer}
use Rattle.check_lines.specs.Checks.{progress}
use Rattle.check_lines.proofs.TextFound.{goes_on, ends}
use Rattle.check_lines.proofs.texts.text_checked.Goals as goal

pub lines-preserved : goal.lines-preserved
lines-preserved c =
    let w = c.lines.invariant in
    let gives = rw c.in-Some.is at c.in_ok-item.ensures.gives in
    let more = goes_on c.args.p.now c.args.line c.args.text.now c.lines.lines c.next.new.self c.in-Some.item (progress c.lines.checking) (progress c.put.new.self) w.lines gives.0 gives.1 w.few w.progress c.in_ok-put.ensures.progress in
    record {
      lines = more.lines;
      given = subst (λ (l : Lines). c.next.new.self.given ≤ length l.text) more.lines c.in_ok-item.ensures.room;
      check = c.in_ok-put.ensures.check;
      few = more.few;
      progress = more.progress;
    }

pub returns : goal.returns
returns c =
    let w = c.lines.invariant in
    let gives = rw c.in_default.is at c.in_ok-item.ensures.gives in
    ends c.args.p.now c.args.line c.args.text.now c.lines.lines gives.2 (progress c.lines.checking) c.answer.result w.lines gives.1 gives.3 w.progress (c.answer.ensures ∙ ap answer c.found.ensures)
