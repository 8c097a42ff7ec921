use Rattle.std.proofs.Common.{◌≡◌, ◌++◌, drop, length}
use Rattle.std.specs.Prelude.{Ok}
use Rattle.frac_core.specs.Parts.{max_part}
use Rattle.frac_core.specs.Calculated.{◌>>=◌}
use Rattle.equational_law.specs.Calculation.{sums_in}
use Rattle.equational.proofs.objective.sums.Given as goal

-- what is done and what is left give the whole
abbrev pub invariant-loop-j : goal.invariant-loop-j
invariant-loop-j l = ((sums_in max_part (drop l.j l.costs) (drop l.j l.products) >>= λ qs. Ok (l.sums ++ qs)) ≡ sums_in max_part l.costs l.products) × (length l.sums ≡ l.j)
