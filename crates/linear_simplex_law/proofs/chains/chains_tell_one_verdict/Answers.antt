use Rattle.linear_basis_law.specs.Basis.{solution_of, farkas_of}
use Rattle.linear_basis_law.proofs.Verdicts.{gives_solution, gives_farkas, not_both}
use Rattle.linear_simplex_law.proofs.Steps.{last_basis, last_standing}
use Rattle.linear_simplex_law.proofs.chains.chains_tell_one_verdict.Goals as goal

pub returns : goal.returns
returns c =
    record {
      solution = λ p budget b problem h z. gives_solution p b (last_basis p b h.earlier h.chain) (last_standing p problem b h.earlier h.chain) problem z;
      farkas = λ p budget b problem h f. gives_farkas p b (last_basis p b h.earlier h.chain) (last_standing p problem b h.earlier h.chain) problem f;
      one = λ p first second b c problem h z k f. not_both p (solution_of p b) (farkas_of p c) problem
          (gives_solution p b (last_basis p b h.earlier h.chain) (last_standing p problem b h.earlier h.chain) problem z)
          (gives_farkas p c (last_basis p c k.earlier k.chain) (last_standing p problem c k.earlier k.chain) problem f);
    }
