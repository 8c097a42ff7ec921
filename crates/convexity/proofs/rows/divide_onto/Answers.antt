use Rattle.convexity.proofs.Onto.{divided_start}
use Rattle.convexity.proofs.rows.divide_onto.Goals as goal

pub loop-k-init : goal.loop-k-init
loop-k-init c = divided_start c.args.row.now c.args.v.now c.index-row-0.result c.requires.some c.requires.room c.index-row-0.is
