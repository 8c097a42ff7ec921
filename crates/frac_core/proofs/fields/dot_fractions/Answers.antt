use Rattle.frac_core.proofs.Dots.{fractions_dot}
use Rattle.frac_core.proofs.fields.dot_fractions.Goals as goal

pub returns : goal.returns
returns c = fractions_dot c.dot_slices.result c.args.a.now c.args.b.now c.dot_slices.ensures.calculation
