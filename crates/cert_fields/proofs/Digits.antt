-- One more digit.
use Rattle.std.proofs.Common.{◌≡◌, ℕ, ◌+◌, ◌-◌, ◌*◌, ◌<◌, true, List, take, length, get_or, Option, arith}
use Rattle.std.specs.Char.{is_ascii_digit, digit_value}
use Rattle.std.specs.Str.Parse.{digits_value}
use Rattle.std.proofs.lemmas.Bool.{and_parts, leb-true}
use Rattle.std.proofs.lemmas.Bool.Decides.{nat_tests}
use Rattle.std.proofs.lemmas.Int.Digits.{digits_value_more}
use Rattle.cert_fields.specs.Numerals.{IsCapped}

digit_is : (b : ℕ) → is_ascii_digit b ≡ true → digit_value b ≡ b - 48
digit_is b e = grind (arith, nat_tests, and_parts, leb-true)

pub capped_more : (bs : List ℕ) (i : ℕ) (old new : Option ℕ) → i < length bs → is_ascii_digit (get_or bs i 0) ≡ true → IsCapped (digits_value 10 (take i bs)) old
    → ((v : ℕ) → IsCapped v old → IsCapped (v * 10 + (get_or bs i 0 - 48)) new) → IsCapped (digits_value 10 (take (i + 1) bs)) new
capped_more bs i old new lt digit so_far step = rw (digits_value_more 10 bs i lt, digit_is (get_or bs i 0) digit) (step (digits_value 10 (take i bs)) so_far)
