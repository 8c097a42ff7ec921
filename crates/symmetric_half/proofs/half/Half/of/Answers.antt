use Rattle.std.proofs.Common.{sym, ◌∙◌, arith}
use Rattle.symmetric_half.proofs.Halves.{program_symmetric}
use Rattle.symmetric_half.proofs.Triangles.{upper_more, all_joined}
use Rattle.symmetric_half.proofs.half.Half.of.Goals as goal

pub loop-j-preserved : goal.loop-j-preserved
loop-j-preserved c =
    upper_more c.args.p.now.pairs c.loop-j.j c.pairs_of.result.now c.loop-j.entries.items c.extend_from_slice.new.self.items
    (omega (arith, c.columns-size.ensures.count, c.columns-size.ensures.program.pairs_height)) c.pairs_of.ensures.pairs c.loop-j.invariant
    c.in_ok-extend_from_slice.ensures.items

pub invariant_of-result : goal.invariant_of-result
invariant_of-result c = (
  c.columns-size.ensures.few,
  (all_joined c.args.p.now.pairs c.columns-size.result c.loop-j.j c.loop-j.entries.items (program_symmetric c.args.p.now c.columns-size.ensures.program)
      (c.columns-size.ensures.count ∙ sym c.columns-size.ensures.program.pairs_height) c.loop-j-test.false c.loop-j.invariant).0,
)

pub returns : goal.returns
returns c =
    (all_joined c.args.p.now.pairs c.columns-size.result c.loop-j.j c.loop-j.entries.items (program_symmetric c.args.p.now c.columns-size.ensures.program)
    (c.columns-size.ensures.count ∙ sym c.columns-size.ensures.program.pairs_height) c.loop-j-test.false c.loop-j.invariant).1
