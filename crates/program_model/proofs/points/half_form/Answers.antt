use Rattle.program_law.proofs.Numbers.{two_differs}
use Rattle.program_model.proofs.points.half_form.Goals as goal

pub quotient-requires : goal.quotient-requires
quotient-requires c = two_differs c.whole.result c.whole.ensures
