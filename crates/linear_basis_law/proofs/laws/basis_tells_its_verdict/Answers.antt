use Rattle.linear_basis_law.specs.Basis.{solution_of, farkas_of}
use Rattle.linear_basis_law.proofs.Verdicts.{gives_solution, gives_farkas, not_both}
use Rattle.linear_basis_law.proofs.laws.basis_tells_its_verdict.Goals as goal

pub returns : goal.returns
returns c = record {
  solution = λ p b problem h s z. gives_solution p b h s problem z;
  farkas = λ p b problem h s f. gives_farkas p b h s problem f;
  not_both = not_both;
  one = λ p b c problem h s z k t f. not_both p (solution_of p b) (farkas_of p c) problem (gives_solution p b h s problem z) (gives_farkas p c k t problem f);
}
