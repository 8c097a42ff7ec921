use Rattle.std.proofs.Common.{◌<◌, length, arith}
use Rattle.std.proofs.lemmas.List.{length-map}
use Rattle.program_law.specs.Program.{sides}
use Rattle.equational_rows.proofs.Places.{row_slacks_next}
use Rattle.equational_rows.proofs.layout.all_row_slacks.Goals as goal

pub loop-i-preserved : goal.loop-i-preserved
loop-i-preserved c =
    let p = c.args.p.now in
    let within : c.loop-i.i < length (sides p) = omega (arith, length-map p.rows (λ r. r.1), c.rows-i-end.ensures.count, c.loop-i-test.true) in
    let next = row_slacks_next (sides p) c.loop-i.i c.row.result within c.row.ensures.row in
    (omega (arith, next, c.slacks_of-count.ensures.slacks, c.loop-i.invariant.0), omega (arith, c.loop-i.invariant.1, c.slacks_of-count.ensures.few))
