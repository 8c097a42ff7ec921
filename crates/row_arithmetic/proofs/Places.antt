-- The places before one, and that one.
use Rattle.std.proofs.Common.{◌≡◌, ℕ, ◌+◌, ◌<◌, arith}
use Rattle.std.specs.Prelude.{◌⊎◌}

pub last_or_before : (i k : ℕ) → i < k + 1 → (i < k) ⊎ (i ≡ k)
last_or_before i k h = grind arith
