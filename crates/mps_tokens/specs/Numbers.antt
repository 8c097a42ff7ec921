-- What a spelling stands for.
use Rattle.std.specs.Prelude.{ℕ, zero, suc, ◌+◌, ◌*◌, ◌/◌, ◌%◌, ◌^◌, ◌==◌, ◌||◌, nat_lt, Bool, List, Result, Ok, Err, if◌then◌else◌}
use Rattle.std.specs.List.{list_any, before_first, after_first}
use Rattle.std.specs.Str.Parse.{digits_value}
use Rattle.rational.specs.Rational.{ℚ, zero_ℚ, fraction, fits}
use Rattle.frac_core.specs.Parts.{max_part}
use Rattle.word_arithmetic.specs.Signed.{signed}
use Rattle.mps_tokens.specs.declared.fault.NumberFault.{NumberFault}
use Rattle.mps_tokens.specs.declared.fault.NumberFault.TheVariants.{NotNumber, Past}
use Rattle.mps_tokens.specs.Spelling.{is_negative, without_sign, is_slash, mantissa_of, exponent_of, without_point, places_of, is_decimal, is_fraction}

-- the number, where both parts of its lowest terms are small enough
abbrev pub fitted : ℚ → Result ℚ NumberFault
fitted q = if fits max_part q then Ok q else Err Past

-- while a number ends in the digit 0, that digit goes, at most so often
abbrev pub shortened_within : ℕ → ℕ → ℕ
shortened_within zero m = m
shortened_within (suc k) m = if m % 10 == 0 then shortened_within k (m / 10) else m

-- a number without the zeros at its end, of which there are fewer than it is large
unfoldable pub shortened : ℕ → ℕ
shortened m = shortened_within m m

-- m times 10 to the power up - down
unfoldable pub decimal_value : Bool → ℕ → ℕ → ℕ → Result ℚ NumberFault
decimal_value negative m up down =
    if m == 0 then Ok zero_ℚ
    else (if nat_lt max_part (shortened m) then Err Past
    else fitted (fraction (signed negative (m * 10 ^ up)) (10 ^ down)))

-- an exponent where it is written without -, and else 0
abbrev pub up_of : Bool → ℕ → ℕ
up_of negative size = if negative then 0 else size

-- the size of an exponent where it is written with -, and else 0
abbrev pub down_of : Bool → ℕ → ℕ
down_of negative size = if negative then size else 0

-- the digits without the point, times 10 to the exponent less the digits behind the point
abbrev pub decimal_from : Bool → List ℕ → List ℕ → Result ℚ NumberFault
decimal_from negative mantissa exponent =
    decimal_value negative (digits_value 10 (without_point mantissa))
    (up_of (is_negative exponent) (digits_value 10 (without_sign exponent)))
    (places_of mantissa + down_of (is_negative exponent) (digits_value 10 (without_sign exponent)))

abbrev pub decimal_of : Bool → List ℕ → Result ℚ NumberFault
decimal_of negative body = if is_decimal body then decimal_from negative (mantissa_of body) (exponent_of body) else Err NotNumber

-- one numeral over another, each of which is small enough
unfoldable pub fraction_value : Bool → ℕ → ℕ → Result ℚ NumberFault
fraction_value negative p q = if nat_lt max_part p || nat_lt max_part q then Err Past else Ok (fraction (signed negative p) q)

abbrev pub fraction_of : Bool → List ℕ → List ℕ → Result ℚ NumberFault
fraction_of negative top bottom = if is_fraction top bottom then fraction_value negative (digits_value 10 top) (digits_value 10 bottom) else Err NotNumber

-- what bytes stand for
abbrev pub number_of : List ℕ → Result ℚ NumberFault
number_of bytes =
    if list_any is_slash (without_sign bytes)
    then fraction_of (is_negative bytes) (before_first is_slash (without_sign bytes)) (after_first is_slash (without_sign bytes))
    else decimal_of (is_negative bytes) (without_sign bytes)
