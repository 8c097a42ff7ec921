use Rattle.equational_law.proofs.Calculated.{form_gives, point_gives, ray_gives}
use Rattle.equational_law.proofs.laws.calculations_answer.Goals as goal

pub returns : goal.returns
returns c = record { form = form_gives; point = point_gives; ray = ray_gives }
