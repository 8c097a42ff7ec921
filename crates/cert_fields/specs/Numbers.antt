-- How a number of a certificate is spelt: 0, or an optional minus sign and digits without a leading zero, and perhaps a slash
-- and a denominator of at least 2 without a leading zero, in lowest terms.
use Rattle.std.specs.Prelude.{ℕ, ◌==◌, ◌&&◌, ◌||◌, not, nat_lt, Bool, List, length, drop, Result, Ok, Err, slice_index, codes, if◌then◌else◌}
use Rattle.std.specs.List.{list_all, list_any, before_first, after_first}
use Rattle.std.specs.Str.{bytes_eq}
use Rattle.std.specs.Char.{is_ascii_digit}
use Rattle.std.specs.Str.Parse.{digits_value}
use Rattle.rational.specs.Rational.{ℚ, fraction}
use Rattle.frac_core.specs.Parts.{max_part}
use Rattle.word_arithmetic.specs.Signed.{signed}
use Rattle.mps_tokens.specs.declared.fault.NumberFault.{NumberFault}
use Rattle.mps_tokens.specs.declared.fault.NumberFault.TheVariants.{NotNumber, Past}
use Rattle.cert_fields.specs.Parts.{is_byte}

-- digits, at least one, that don't begin with 0
abbrev pub is_numeral : List ℕ → Bool
is_numeral bytes = not (length bytes == 0) && list_all is_ascii_digit bytes && not (slice_index bytes 0 == 48)

abbrev pub is_negative : List ℕ → Bool
is_negative bytes = slice_index bytes 0 == 45

abbrev pub without_minus : List ℕ → List ℕ
without_minus bytes = if is_negative bytes then drop 1 bytes else bytes

-- what stands before the slash, behind the sign
abbrev pub top_of : List ℕ → List ℕ
top_of bytes = before_first (is_byte 47) (without_minus bytes)

-- what stands behind the slash
abbrev pub bottom_of : List ℕ → List ℕ
bottom_of bytes = after_first (is_byte 47) (without_minus bytes)

abbrev pub has_slash : List ℕ → Bool
has_slash bytes = list_any (is_byte 47) (without_minus bytes)

-- a denominator of at least 2
abbrev pub is_denominator : List ℕ → Bool
is_denominator bytes = is_numeral bytes && not (bytes_eq bytes (codes "1"))

-- the shape of a number, its lowest terms not looked at
abbrev pub has_shape : List ℕ → Bool
has_shape bytes = bytes_eq bytes (codes "0") || (is_numeral (top_of bytes) && (not (has_slash bytes) || is_denominator (bottom_of bytes)))

-- the two numerals
abbrev pub top_value : List ℕ → ℕ
top_value bytes = digits_value 10 (top_of bytes)

abbrev pub bottom_value : List ℕ → ℕ
bottom_value bytes = if has_slash bytes then digits_value 10 (bottom_of bytes) else 1

-- the number, where the fraction is in lowest terms
unfoldable pub lowest_number : Bool → ℕ → ℕ → Result ℚ NumberFault
lowest_number negative p q = if (fraction (signed negative p) q).den == q then Ok (fraction (signed negative p) q) else Err NotNumber

-- past where a numeral is above 2^127 - 1
abbrev pub number_from : Bool → ℕ → ℕ → Result ℚ NumberFault
number_from negative p q = if nat_lt max_part p || nat_lt max_part q then Err Past else lowest_number negative p q

-- the number that the bytes spell
unfoldable pub number_of : List ℕ → Result ℚ NumberFault
number_of bytes = if has_shape bytes then number_from (is_negative bytes) (top_value bytes) (bottom_value bytes) else Err NotNumber
