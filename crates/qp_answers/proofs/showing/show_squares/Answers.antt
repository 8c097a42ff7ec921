use Rattle.cert_grammar.specs.Writable.{SquareFits}
use Rattle.qp_answers.proofs.SmallNumbers.{one_shown}
use Rattle.qp_answers.proofs.showing.show_squares.Goals as goal

pub loop-k-preserved : goal.loop-k-preserved
loop-k-preserved c = one_shown SquareFits c.args.squares.now c.loop-k.k c.get-square.result.now c.get-square.ensures (c.show_number.ensures, c.show_list.ensures) c.loop-k.invariant
