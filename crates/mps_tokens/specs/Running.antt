-- A number that is read digit by digit, as far as it is small enough.
use Rattle.std.specs.Prelude.{◌≡◌, ℕ, ◌*◌, ◌%◌, ◌^◌, ◌<◌, ◌≤◌}
use Rattle.frac_core.specs.Parts.{max_part}
use Rattle.mps_tokens.specs.declared.natural.Natural.{Natural}
use Rattle.mps_tokens.specs.declared.natural.Natural.TheVariants.{Fits, Past}
use Rattle.mps_tokens.specs.declared.digits.Digits.{Digits}

-- the number, unless it is past the largest part
abbrev pub IsCapped : ℕ → Natural → Type 0
IsCapped v (Fits n) = (n ≡ v) × (n ≤ max_part)
IsCapped v Past = max_part < v

-- v is m with so many zeros behind it, which are all that it ends in
pub record IsShort (v m zeros : ℕ) : Type 0 where
  pub whole : v ≡ m * 10 ^ zeros
  pub ends : 0 < v → 0 < m % 10

-- the digits that were read are those of v
abbrev pub AreDigitsOf : ℕ → Digits → Type 0
AreDigitsOf v d = (m : ℕ) × IsShort v m d.zeros × IsCapped m d.size
