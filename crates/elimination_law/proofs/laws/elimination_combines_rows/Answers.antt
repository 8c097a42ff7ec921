use Rattle.elimination_law.proofs.Facts.{all_combined, same_products, same_solutions}
use Rattle.elimination_law.proofs.laws.elimination_combines_rows.Goals as goal

pub returns : goal.returns
returns c = record { combined = all_combined; kernel = same_products; solutions = same_solutions }
