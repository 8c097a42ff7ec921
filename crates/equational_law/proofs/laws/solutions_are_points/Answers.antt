use Rattle.equational_law.proofs.Forms.{value_back}
use Rattle.equational_law.proofs.Points.{point_back}
use Rattle.equational_law.proofs.Solving.{solution_of, solved}
use Rattle.equational_law.proofs.laws.solutions_are_points.Goals as goal

pub returns : goal.returns
returns c = record {
  point = point_back;
  value = value_back;
  every = λ p region x is w. let s = solved p region x is w in (solution_of p region x, s.0, s.1);
}
