use Rattle.std.proofs.Common.{◌≡◌, ◌<◌, ◌≤◌, ℕ, ◌*ℤ◌, pos}
use Rattle.row_arithmetic.specs.Rows.{number}
use Rattle.row_arithmetic.proofs.row.divide.Given as goal

-- those so far are divided, and the others stand
abbrev pub invariant-loop-k : goal.invariant-loop-k
invariant-loop-k l = ((i : ℕ) → i < l.k → number l.numbers i *ℤ pos l.g ≡ number l.initial.numbers i) × ((i : ℕ) → l.k ≤ i → number l.numbers i ≡ number l.initial.numbers i)
