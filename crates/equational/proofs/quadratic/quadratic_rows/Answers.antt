use Rattle.std.proofs.Common.{◌<◌, length, arith}
use Rattle.equational_rows.specs.Built.{all_slacks}
use Rattle.equational.proofs.Pairs.{pairs_more, pairs_end}
use Rattle.equational_rows.proofs.Places.{place_in}
use Rattle.equational.proofs.quadratic.quadratic_rows.Goals as goal

pub loop-j-preserved : goal.loop-j-preserved
loop-j-preserved c =
    let region = c.args.layout.now.region in
    let p = c.args.p.now in
    let within : c.loop-j.j < length p.columns = omega (arith, c.columns-j-end.ensures.count, c.loop-j-test.true) in
    pairs_more (all_slacks c.args.layout.now) region p.pairs c.loop-j.j c.index-bounds-j.result c.pairs_of.result.now c.loop-j.entries.items c.push_pairs.new.entries.items _
    (omega (arith, within, c.requires)) (place_in _ region c.loop-j.j c.index-bounds-j.result c.bounds-bounds.ensures.bounds c.index-bounds-j.is)
    (omega (arith, within, c.columns-j-end.ensures.program.pairs_height)) c.pairs_of.ensures.pairs c.in_ok-push_pairs.ensures c.loop-j.invariant

pub returns : goal.returns
returns c =
    pairs_end c.args.layout.now c.args.p.now.pairs c.loop-j.j c.slacks.result c.width.result c.loop-j.entries.items c.push_zeros.new.entries.items
    (omega (arith, c.requires, c.columns-j-end.ensures.count, c.loop-j-test.false)) c.slacks.ensures.slacks c.width.ensures.width c.loop-j.invariant c.in_ok-push_zeros.ensures
