use Rattle.std.specs.Prelude.{ℕ, option_map}
use Rattle.std.proofs.Common.{◌≡◌, ◌+◌, drop}
use Rattle.convexity.specs.Reduction.{first_place}
use Rattle.convexity.proofs.reduction.first_place.Given as goal

-- it is the first from here on
abbrev pub invariant-loop-k : goal.invariant-loop-k
invariant-loop-k l = option_map (λ (i : ℕ). l.k + i) (first_place (drop l.k l.row)) ≡ first_place l.row
