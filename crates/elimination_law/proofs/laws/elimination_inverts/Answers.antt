use Rattle.elimination_law.proofs.Inverted.{inverse_or_depends, inverse_or_dependent}
use Rattle.elimination_law.proofs.laws.elimination_inverts.Goals as goal

pub returns : goal.returns
returns c = record { right = inverse_or_depends; exactly = inverse_or_dependent }
