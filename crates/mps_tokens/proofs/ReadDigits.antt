-- Digits, one by one.
use Rattle.std.proofs.Common.{◌≡◌, ℕ, ◌+◌, ◌-◌, ◌*◌, ◌<◌, ◌≤◌, true, List, [], ◌∷◌, ◌++◌, take, length, get_or, refl, ap, ◌∙◌, subst, sym, arith}
use Rattle.std.specs.Char.{is_ascii_digit, digit_value}
use Rattle.std.specs.Str.Parse.{digits_value_after}
use Rattle.std.proofs.lemmas.Bool.{and_parts, leb-true}
use Rattle.std.proofs.lemmas.Bool.Decides.{nat_tests}
use Rattle.std.proofs.lemmas.List.{take_more, take_all}
use Rattle.mps_tokens.specs.declared.digits.Digits.{Digits}
use Rattle.mps_tokens.specs.Running.{AreDigitsOf}

pub after_append : (v : ℕ) (xs ys : List ℕ) → digits_value_after 10 v (xs ++ ys) ≡ digits_value_after 10 (digits_value_after 10 v xs) ys
after_append v [] ys = refl
after_append v (x ∷ xs) ys = after_append (v * 10 + digit_value x) xs ys

digit_is : (b : ℕ) → is_ascii_digit b ≡ true → digit_value b ≡ b - 48
digit_is b e = grind (arith, nat_tests, and_parts, leb-true)

after_more : (v i : ℕ) (bs : List ℕ) → i < length bs → is_ascii_digit (get_or bs i 0) ≡ true
    → digits_value_after 10 v (take (i + 1) bs) ≡ digits_value_after 10 v (take i bs) * 10 + (get_or bs i 0 - 48)
after_more v i bs lt digit =
    ap (digits_value_after 10 v) (take_more bs i 0 lt) ∙ after_append v (take i bs) (get_or bs i 0 ∷ [])
    ∙ ap (λ d. digits_value_after 10 v (take i bs) * 10 + d) (digit_is (get_or bs i 0) digit)

-- one more digit of the bytes was read
pub read_more : (v i : ℕ) (bs : List ℕ) (old new : Digits) → i < length bs → is_ascii_digit (get_or bs i 0) ≡ true
    → AreDigitsOf (digits_value_after 10 v (take i bs)) old
    → ((w : ℕ) → AreDigitsOf w old → AreDigitsOf (w * 10 + (get_or bs i 0 - 48)) new)
    → AreDigitsOf (digits_value_after 10 v (take (i + 1) bs)) new
read_more v i bs old new lt digit so_far step =
    subst (λ (n : ℕ). AreDigitsOf n new) (sym (after_more v i bs lt digit)) (step (digits_value_after 10 v (take i bs)) so_far)

pub read_all : (v i : ℕ) (bs : List ℕ) (d : Digits) → length bs ≤ i → AreDigitsOf (digits_value_after 10 v (take i bs)) d → AreDigitsOf (digits_value_after 10 v bs) d
read_all v i bs d le h = subst (λ (xs : List ℕ). AreDigitsOf (digits_value_after 10 v xs) d) (take_all i bs le) h
