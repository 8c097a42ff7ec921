-- What spells a number.
use Rattle.std.specs.Prelude.{ℕ, ◌==◌, ◌&&◌, ◌||◌, not, Bool, true, List, ◌++◌, length, drop, slice_index, if◌then◌else◌}
use Rattle.std.specs.List.{list_all, list_any, before_first, after_first}
use Rattle.std.specs.Char.{is_ascii_digit}
use Rattle.std.specs.Str.Parse.{digits_value}

-- digits, at least one
abbrev pub is_numeral : List ℕ → Bool
is_numeral bytes = not (length bytes == 0) && list_all is_ascii_digit bytes

-- + or -
abbrev pub is_sign : ℕ → Bool
is_sign b = (b == 43) || (b == 45)

-- it begins with -
abbrev pub is_negative : List ℕ → Bool
is_negative bytes = slice_index bytes 0 == 45

-- what stands behind the sign, if there is one
abbrev pub without_sign : List ℕ → List ℕ
without_sign bytes = if is_sign (slice_index bytes 0) then drop 1 bytes else bytes

abbrev pub is_slash : ℕ → Bool
is_slash b = b == 47

abbrev pub is_point : ℕ → Bool
is_point b = b == 46

-- e, E, d or D
abbrev pub is_mark : ℕ → Bool
is_mark b = (b == 101) || (b == 69) || (b == 100) || (b == 68)

-- ---- a decimal, without its sign

-- what stands before the mark of the exponent
abbrev pub mantissa_of : List ℕ → List ℕ
mantissa_of body = before_first is_mark body

abbrev pub exponent_of : List ℕ → List ℕ
exponent_of body = after_first is_mark body

-- what is left of it without its first point
abbrev pub without_point : List ℕ → List ℕ
without_point mantissa = before_first is_point mantissa ++ after_first is_point mantissa

-- how many digits stand behind the point
abbrev pub places_of : List ℕ → ℕ
places_of mantissa = length (after_first is_point mantissa)

-- a numeral behind an optional sign
abbrev pub is_exponent : List ℕ → Bool
is_exponent bytes = is_numeral (without_sign bytes)

-- digits with at most one point, and then perhaps a mark and an exponent
abbrev pub is_decimal : List ℕ → Bool
is_decimal body = is_numeral (without_point (mantissa_of body)) && (if list_any is_mark body then is_exponent (exponent_of body) else true)

-- ---- a fraction, without its sign

-- two numerals, of which the second isn't 0
abbrev pub is_fraction : List ℕ → List ℕ → Bool
is_fraction top bottom = is_numeral top && (is_numeral bottom && not (digits_value 10 bottom == 0))
