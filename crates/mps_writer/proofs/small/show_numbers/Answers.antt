use Rattle.std.proofs.Common.{arith}
use Rattle.mps_writer_law.proofs.SmallNumbers.{all_small}
use Rattle.mps_writer.proofs.small.show_numbers.Goals as goal

pub returns-clause-numbers : goal.returns-clause-numbers
returns-clause-numbers c = all_small c.args.p.now c.rows-rows.ensures.program c.show_entries.ensures (λ j within. rw (← c.costs.ensures.costs) (c.show_each.ensures j (omega (arith, within, c.costs.ensures.width)))) (rw (← c.constant.ensures) c.show_number.ensures) c.show_pairs.ensures c.show_rows.ensures c.show_columns.ensures
