use Rattle.std.proofs.Common.{◌+◌, Err, subst, arith}
use Rattle.mps_sections.specs.declared.stop.LineStop.{LineStop}
use Rattle.mps_fields.specs.Lines.{raw_at}
use Rattle.mps_lines.specs.Steps.{TakesLine}
use Rattle.mps_lines.proofs.Histories.{begins, fails, line_fails, now, now_lines, goes, stops}
use Rattle.mps_lines.proofs.reading.take_lines.Goals as goal

pub loop-at-init : goal.loop-at-init
loop-at-init c = begins c.args.text.now c.args.lines.now c.requires.told c.requires.sound

pub loop-at-preserved : goal.loop-at-preserved
loop-at-preserved c =
    let w = c.whole_line-whole.ensures in
    let raw = raw_at c.args.text.now c.loop-at.at in
    let t = c.in-Ok.ensures c.loop-at.at raw w.bytes (c.is_beyond.ensures raw w.end) in
    goes c.args.text.now c.loop-at.at c.loop-at.lines c.loop-at.invariant c.whole_line-whole.result c.loop-at-test.true w c.take.new.self c.in-Ok.ended t c.if-ended.false

pub returns-in-Err-clause-tells : goal.returns-in-Err-clause-tells
returns-in-Err-clause-tells c =
    let w = c.whole_line-whole.ensures in
    let raw = raw_at c.args.text.now c.loop-at.at in
    let t = c.in-Err.ensures c.loop-at.at raw w.bytes (c.is_beyond.ensures raw w.end) in
    let P : LineStop → Type 0 = λ stop. TakesLine c.loop-at.lines c.loop-at.at raw c.take.new.self (Err stop) in
    rw c.stop_at.ensures (fails c.args.text.now c.take.new.self (c.count-number.result + 1) c.in-Err.stop (λ kind e. rw c.count-number.ensures (line_fails c.args.text.now c.loop-at.at c.loop-at.lines c.loop-at.invariant c.whole_line-whole.result c.loop-at-test.true w c.take.new.self kind (subst P e t))))

pub overflow_add-result : goal.overflow_add-result
overflow_add-result c =
    let w = c.whole_line-whole.ensures in
    let raw = raw_at c.args.text.now c.loop-at.at in
    let t = c.in-Ok.ensures c.loop-at.at raw w.bytes (c.is_beyond.ensures raw w.end) in
    let count = now_lines c.args.text.now c.loop-at.at c.loop-at.lines c.loop-at.invariant c.whole_line-whole.result c.loop-at-test.true w c.take.new.self c.in-Ok.ended t in
    omega (arith, count, c.loop-at.invariant.few, c.loop-at-test.true, c.requires)

pub returns-then-ended-clause-tells : goal.returns-then-ended-clause-tells
returns-then-ended-clause-tells c =
    let w = c.whole_line-whole.ensures in
    let raw = raw_at c.args.text.now c.loop-at.at in
    let t = c.in-Ok.ensures c.loop-at.at raw w.bytes (c.is_beyond.ensures raw w.end) in (
      _,
      rw c.count.ensures (stops c.args.text.now c.loop-at.at c.loop-at.lines c.loop-at.invariant c.whole_line-whole.result c.loop-at-test.true w c.take.new.self c.in-Ok.ended t c.if-ended.true),
      now c.args.text.now c.loop-at.at c.loop-at.lines c.loop-at.invariant c.whole_line-whole.result c.loop-at-test.true w c.take.new.self c.in-Ok.ended t,
    )

pub returns-then-ended-clause-place : goal.returns-then-ended-clause-place
returns-then-ended-clause-place c =
    let w = c.whole_line-whole.ensures in
    let raw = raw_at c.args.text.now c.loop-at.at in
    let t = c.in-Ok.ensures c.loop-at.at raw w.bytes (c.is_beyond.ensures raw w.end) in
    let count = now_lines c.args.text.now c.loop-at.at c.loop-at.lines c.loop-at.invariant c.whole_line-whole.result c.loop-at-test.true w c.take.new.self c.in-Ok.ended t in
    record { within = w.moves.1; counted = omega arith; early = omega (arith, count, c.loop-at.invariant.few, w.moves) }
