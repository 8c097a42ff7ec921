use Rattle.std.proofs.Common.{◌<◌, ℕ}
use Rattle.std.specs.Prelude.{unsigned_abs}
use Rattle.std.specs.Int.{◌∣◌}
use Rattle.row_arithmetic.specs.Rows.{number}
use Rattle.row_arithmetic.proofs.row.divisor.Given as goal

-- a divisor of all so far, the greatest
abbrev pub invariant-loop-k : goal.invariant-loop-k
invariant-loop-k l =
    (0 < l.common) × (l.common ∣ unsigned_abs l.bottom) × ((i : ℕ) → i < l.k → l.common ∣ unsigned_abs (number l.numbers i))
    × ((d : ℕ) → d ∣ unsigned_abs l.bottom → ((i : ℕ) → i < l.k → d ∣ unsigned_abs (number l.numbers i)) → d ∣ l.common)
