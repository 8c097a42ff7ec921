-- What reading a numeral answers.
use Rattle.std.specs.Prelude.{◌≡◌, ℕ, ◌<◌, ◌≤◌, true, false, List, Option, MatchOption, Result, Ok, Err}
use Rattle.std.specs.Str.Parse.{digits_value}
use Rattle.frac_core.specs.Parts.{max_part}
use Rattle.mps_tokens.specs.declared.fault.NumberFault.{NumberFault}
use Rattle.mps_tokens.specs.declared.fault.NumberFault.TheVariants.{NotNumber, Past}
use Rattle.cert_fields.specs.Numbers.{is_numeral}

-- a running value that stops past the greatest part
abbrev pub IsCapped : ℕ → Option ℕ → Type 0
IsCapped value o = MatchOption o (max_part < value) (λ n. (n ≡ value) × (n ≤ max_part))

-- what a numeral stands for
abbrev pub ReadsNumeral : List ℕ → Result ℕ NumberFault → Type 0
ReadsNumeral bytes (Ok n) = (is_numeral bytes ≡ true) × (n ≡ digits_value 10 bytes) × (n ≤ max_part)
ReadsNumeral bytes (Err Past) = (is_numeral bytes ≡ true) × (max_part < digits_value 10 bytes)
ReadsNumeral bytes (Err NotNumber) = is_numeral bytes ≡ false
