use Rattle.std.proofs.Common.{◌≡◌, ◌<◌, ℕ, ◌*ℤ◌, ◌-ℤ◌, length}
use Rattle.row_arithmetic.specs.Rows.{number}
use Rattle.row_arithmetic.proofs.row.combine.Given as goal

-- the numbers so far
abbrev pub invariant-loop-k : goal.invariant-loop-k
invariant-loop-k l = (length l.new ≡ length l.row) × ((i : ℕ) → i < l.k → number l.new i ≡ l.p *ℤ number l.row i -ℤ l.f *ℤ number l.other i)
