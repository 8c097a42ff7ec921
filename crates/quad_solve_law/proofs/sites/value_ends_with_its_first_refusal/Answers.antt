use Rattle.quad_solve_law.proofs.ValueOps.{all_within, first_refusal}
use Rattle.quad_solve_law.proofs.sites.value_ends_with_its_first_refusal.Goals as goal

pub returns : goal.returns
returns c = record { value = all_within; refusal = first_refusal }
