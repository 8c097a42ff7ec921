use Rattle.std.proofs.Common.{arith}
use Rattle.mps_fields.proofs.WholeLines.{raw_length, ends_at_feed, ends_at_end}
use Rattle.mps_fields.proofs.lines.whole_line.Goals as goal

pub returns-then-text-line-eq10 : goal.returns-then-text-line-eq10
returns-then-text-line-eq10 c =
    let e = c.next_line-line.ensures in
    let raw = raw_length c.args.text.now c.args.from c.next_line-line.result.next c.requires e.next in
    let last = ends_at_feed c.args.text.now c.args.from c.next_line-line.result.next c.requires e.next c.if-text-line-eq10.true in
    record {
      begin = e.begin;
      end = last;
      next = omega (arith, e.next, raw);
      order = (e.order.0, omega (arith, e.order, e.moves));
      moves = e.moves;
      bytes = e.bytes;
    }

pub returns-else-text-line-eq10 : goal.returns-else-text-line-eq10
returns-else-text-line-eq10 c =
    let e = c.next_line-line.ensures in
    let raw = raw_length c.args.text.now c.args.from c.next_line-line.result.next c.requires e.next in
    let last = ends_at_end c.args.text.now c.args.from c.next_line-line.result.next c.requires e.next c.if-text-line-eq10.false in
    record {
      begin = e.begin;
      end = last;
      next = omega (arith, e.next, raw);
      order = (e.order.0, omega (arith, e.order, e.moves));
      moves = e.moves;
      bytes = e.bytes;
    }
