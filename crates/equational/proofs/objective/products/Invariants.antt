use Rattle.std.proofs.Common.{◌≡◌, ◌++◌, drop, length}
use Rattle.std.specs.Prelude.{Ok}
use Rattle.frac_core.specs.Parts.{max_part}
use Rattle.frac_core.specs.Calculated.{◌>>=◌}
use Rattle.equational_law.specs.Calculation.{products_in}
use Rattle.equational.proofs.objective.products.Given as goal

-- what is done and what is left give the whole
abbrev pub invariant-loop-j : goal.invariant-loop-j
invariant-loop-j l = ((products_in max_part (drop l.j l.p.pairs) l.h >>= λ qs. Ok (l.products ++ qs)) ≡ products_in max_part l.p.pairs l.h) × (length l.products ≡ l.j)
