use Rattle.elimination_law.proofs.Calculated.{eliminated_in-is, eliminated_in-exact, eliminated_in-refused, first_past-found, first_past-missing}
use Rattle.elimination_law.proofs.laws.elimination_ends_with_its_first_refusal.Goals as goal

pub returns : goal.returns
returns c = record { calculation = eliminated_in-is; exact = eliminated_in-exact; refused = eliminated_in-refused; found = first_past-found; missing = first_past-missing }
