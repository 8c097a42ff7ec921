-- A number's text is what spells it, and the other way round.
use Rattle.std.proofs.Common.{◌≡◌, ◌≢◌, ℕ, suc, ◌+◌, ◌-◌, ◌*◌, ◌/◌, ◌%◌, ◌^◌, ◌<◌, ◌≤◌, Bool, true, false, cond, List, [], ◌∷◌, ◌++◌, length, take, drop, get_or, refl, sym, ap, ◌∙◌, subst, arith, append_assoc, append-nil}
use Rattle.std.specs.Prelude.{◌&&◌, ◌||◌, ◌==◌, not}
use Rattle.std.specs.List.{list_all, list_any, position_or_len, before_first, after_first}
use Rattle.std.specs.Char.{is_ascii_digit, digit_value}
use Rattle.std.specs.Str.Parse.{digits_value, digits_value_after}
use Rattle.std.specs.Fmt.{decimal}
use Rattle.std.proofs.lemmas.Bool.{and_parts, leb-true, ne_eqb}
use Rattle.std.proofs.lemmas.Bool.Decides.{nat_tests}
use Rattle.std.proofs.lemmas.List.{take_at, take_all}
use Rattle.std.proofs.lemmas.List.Folds.{list_all-append}
use Rattle.std.proofs.lemmas.Fmt.{decimal_digit, decimal_step_wide, decimal_by_steps_wide, decimal_is_IsNumeral_wide}
use Rattle.std.proofs.lemmas.Nat.{mod-mul-add}
use Rattle.std.proofs.Math.Nat.{lt_of_le_of_lt, le_trans, le_refl}
use Rattle.cert_fields.specs.Parts.{is_byte}
use Rattle.cert_fields.specs.Numbers.{is_numeral}

-- ---- one digit

digit_is : (b : ℕ) → is_ascii_digit b ≡ true → digit_value b ≡ b - 48
digit_is b e = grind (arith, nat_tests, and_parts, leb-true)

digit_low : (b : ℕ) → is_ascii_digit b ≡ true → 48 ≤ b
digit_low b e = grind (arith, nat_tests, and_parts, leb-true)

digit_high : (b : ℕ) → is_ascii_digit b ≡ true → b ≤ 57
digit_high b e = grind (arith, nat_tests, and_parts, leb-true)

glyph : (d : ℕ) → d < 10 → is_ascii_digit (48 + d) ≡ true
glyph d h = grind (arith, nat_tests)

pub no_slash_digit : (b : ℕ) → is_ascii_digit b ≡ true → is_byte 47 b ≡ false
no_slash_digit b e = ne_eqb b 47 (λ n. absurd (omega (arith, digit_low b e, n)))

first_true : (a b : Bool) → (a && b) ≡ true → a ≡ true
first_true true b e = refl
first_true false b e = absurd cc

second_true : (a b : Bool) → (a && b) ≡ true → b ≡ true
second_true true b e = e
second_true false b e = absurd cc

-- ---- the decimal of digits without a leading zero

after_le : (v : ℕ) (bs : List ℕ) → v ≤ digits_value_after 10 v bs
after_le v [] = le_refl v
after_le v (b ∷ bs) = le_trans (omega arith) (after_le (v * 10 + digit_value b) bs)

one_digit_more : (v d : ℕ) → 0 < v → d < 10 → v * 10 + d < 10 ^ 64 → decimal (v * 10 + d) ≡ decimal v ++ (48 + d) ∷ []
one_digit_more v d p h small =
    let front : (v * 10 + d) / 10 ≡ v = omega arith in
    let last : (v * 10 + d) % 10 ≡ d = mod-mul-add v 10 d h in
    decimal_step_wide (v * 10 + d) (omega arith) small ∙ ap (λ n. decimal n ++ (48 + (v * 10 + d) % 10) ∷ []) front ∙ ap (λ n. decimal v ++ (48 + n) ∷ []) last

decimal_after : (v : ℕ) (bs : List ℕ) → 0 < v → list_all is_ascii_digit bs ≡ true → digits_value_after 10 v bs < 10 ^ 64 → decimal (digits_value_after 10 v bs) ≡ decimal v ++ bs
decimal_after v [] p d small = sym (append-nil (decimal v))
decimal_after v (b ∷ bs) p d small =
    let here = first_true (is_ascii_digit b) (list_all is_ascii_digit bs) d in
    let rest = second_true (is_ascii_digit b) (list_all is_ascii_digit bs) d in
    let low = digit_low b here in
    let high = digit_high b here in
    let value = digit_is b here in
    let lt : digit_value b < 10 = omega (arith, low, high, value) in
    let back : 48 + digit_value b ≡ b = omega (arith, low, high, value) in
    let below : v * 10 + digit_value b < 10 ^ 64 = lt_of_le_of_lt (after_le (v * 10 + digit_value b) bs) small in
    decimal_after (v * 10 + digit_value b) bs (omega (arith, p)) rest small
    ∙ ap (λ (t : List ℕ). t ++ bs) (one_digit_more v (digit_value b) p lt below)
    ∙ append_assoc (decimal v) ((48 + digit_value b) ∷ []) bs
    ∙ ap (λ (n : ℕ). decimal v ++ (n ∷ bs)) back

-- digits that don't begin with 0
pub record IsPlain (bs : List ℕ) : Type 0 where
  pub some : 0 < length bs
  pub digits : list_all is_ascii_digit bs ≡ true
  pub first : get_or bs 0 0 ≢ 48

pub plain : (bs : List ℕ) → is_numeral bs ≡ true → IsPlain bs
plain [] e = absurd cc
plain (b ∷ bs) e =
    let fst = first_true (not (length (b ∷ bs) == 0) && list_all is_ascii_digit (b ∷ bs)) (not (b == 48)) e in
    let last = second_true (not (length (b ∷ bs) == 0) && list_all is_ascii_digit (b ∷ bs)) (not (b == 48)) e in
    record { some = omega arith; digits = second_true (not (length (b ∷ bs) == 0)) (list_all is_ascii_digit (b ∷ bs)) fst; first = differs b last }
  where
    differs : (b : ℕ) → not (b == 48) ≡ true → b ≢ 48
    differs b e n = absurd (let f : not (b == 48) ≡ false = rw n refl in clash (not (b == 48)) e f)
      where
        clash : (t : Bool) → t ≡ true → t ≡ false → ⊥
        clash t e f = cc

pub plain_numeral : (bs : List ℕ) → IsPlain bs → is_numeral bs ≡ true
plain_numeral [] h = absurd (omega (arith, h.some))
plain_numeral (b ∷ bs) h =
    let len : (length (b ∷ bs) == 0) ≡ false = ne_eqb (length (b ∷ bs)) 0 (λ e. omega arith) in
    rw (len, h.digits, ne_eqb b 48 h.first) refl

begun_with : (b : ℕ) → is_ascii_digit b ≡ true → b ≢ 48 → (0 < 0 * 10 + digit_value b) × (decimal (0 * 10 + digit_value b) ≡ b ∷ [])
begun_with b e n =
    let low = digit_low b e in
    let high = digit_high b e in
    let value = digit_is b e in
    let small : 0 * 10 + digit_value b < 10 = omega (arith, low, high, value) in
    let back : 48 + (0 * 10 + digit_value b) ≡ b = omega (arith, low, high, value) in
    (omega (arith, low, high, value, n), decimal_digit (0 * 10 + digit_value b) small ∙ ap (λ (n : ℕ). n ∷ []) back)

pub decimal_back : (bs : List ℕ) → IsPlain bs → digits_value 10 bs < 10 ^ 64 → decimal (digits_value 10 bs) ≡ bs
decimal_back [] h small = absurd (omega (arith, h.some))
decimal_back (b ∷ bs) h small =
    let here = first_true (is_ascii_digit b) (list_all is_ascii_digit bs) h.digits in
    let begin = begun_with b here h.first in
    decimal_after (0 * 10 + digit_value b) bs begin.0 (second_true (is_ascii_digit b) (list_all is_ascii_digit bs) h.digits) small ∙ ap (λ (t : List ℕ). t ++ bs) begin.1

pub plain_pos : (bs : List ℕ) → IsPlain bs → 0 < digits_value 10 bs
plain_pos [] h = absurd (omega (arith, h.some))
plain_pos (b ∷ bs) h =
    let here = first_true (is_ascii_digit b) (list_all is_ascii_digit bs) h.digits in
    let begin = begun_with b here h.first in
    let le = after_le (0 * 10 + digit_value b) bs in
    omega (arith, begin.0, le)

-- ---- the digits of a decimal

record IsShown (n : ℕ) (ds : List ℕ) : Type 0 where
  pub some : 0 < length ds
  pub digits : list_all is_ascii_digit ds ≡ true
  pub first : 0 < n → get_or ds 0 0 ≢ 48

shown_one : (n : ℕ) → n < 10 → IsShown n ((48 + n) ∷ [])
shown_one n h = record { some = omega arith; digits = rw (glyph n h) refl; first = λ p e. absurd (omega (arith, p, e)) }

first_stays : (ds : List ℕ) (x : ℕ) → 0 < length ds → get_or (ds ++ x ∷ []) 0 0 ≡ get_or ds 0 0
first_stays [] x h = absurd (omega (arith, h))
first_stays (d ∷ ds) x h = refl

shown_more : (n : ℕ) (ds : List ℕ) → 10 ≤ n → IsShown (n / 10) ds → IsShown n (ds ++ (48 + n % 10) ∷ [])
shown_more n ds ten h =
    let last : is_ascii_digit (48 + n % 10) ≡ true = glyph (n % 10) (omega arith) in
    let part : 0 < n / 10 = omega arith in
    record {
      some = omega (arith, h.some, length_more ds (48 + n % 10));
      digits = list_all-append is_ascii_digit ds ((48 + n % 10) ∷ []) ∙ rw (h.digits, last) refl;
      first = λ p e. h.first part (sym (first_stays ds (48 + n % 10) h.some) ∙ e);
    }
  where
    length_more : (ds : List ℕ) (x : ℕ) → length (ds ++ x ∷ []) ≡ suc (length ds)
    length_more [] x = refl
    length_more (d ∷ ds) x = ap (λ (n : ℕ). suc n) (length_more ds x)

pub decimal_plain : (n : ℕ) → 0 < n → n < 10 ^ 64 → IsPlain (decimal n)
decimal_plain n p small =
    let h : IsShown n (decimal n) = decimal_by_steps_wide IsShown shown_one shown_more n small in
    record { some = h.some; digits = h.digits; first = h.first p }

pub decimal_value : (n : ℕ) → n < 10 ^ 64 → digits_value 10 (decimal n) ≡ n
decimal_value n small = (decimal_is_IsNumeral_wide n small).1

-- ---- the slash

pub digits_no_slash : (ds : List ℕ) → list_all is_ascii_digit ds ≡ true → list_any (is_byte 47) ds ≡ false
digits_no_slash [] e = refl
digits_no_slash (d ∷ ds) e =
    let here = no_slash_digit d (first_true (is_ascii_digit d) (list_all is_ascii_digit ds) e) in
    rw here (digits_no_slash ds (second_true (is_ascii_digit d) (list_all is_ascii_digit ds) e))

all_before : (ds : List ℕ) → list_any (is_byte 47) ds ≡ false → position_or_len (is_byte 47) ds ≡ length ds
all_before [] e = refl
all_before (d ∷ ds) e =
    let one : 1 + length ds ≡ suc (length ds) = omega arith in
    rw (neither (is_byte 47 d) (list_any (is_byte 47) ds) e).0 (ap (λ n. 1 + n) (all_before ds (neither (is_byte 47 d) (list_any (is_byte 47) ds) e).1) ∙ one)
  where
    neither : (t u : Bool) → (t || u) ≡ false → (t ≡ false) × (u ≡ false)
    neither true u e = absurd cc
    neither false u e = (refl, e)

pub alone_without : (ds : List ℕ) → list_any (is_byte 47) ds ≡ false → before_first (is_byte 47) ds ≡ ds
alone_without ds e = take_all (position_or_len (is_byte 47) ds) ds (subst (λ (n : ℕ). length ds ≤ n) (sym (all_before ds e)) (le_refl (length ds)))

-- a byte that is there stands within
pub position_below : (p : ℕ → Bool) (xs : List ℕ) → list_any p xs ≡ true → position_or_len p xs < length xs
position_below p [] e = absurd cc
position_below p (x ∷ xs) e = go (p x) e (λ f. position_below p xs f)
  where
    go : (t : Bool) → (t || list_any p xs) ≡ true → (list_any p xs ≡ true → position_or_len p xs < length xs) → cond (not t) (1 + position_or_len p xs) 0 < suc (length xs)
    go true e h = omega arith
    go false e h = let inside = h e in omega (arith, inside)

slash_place : (ds rest : List ℕ) → list_all is_ascii_digit ds ≡ true → position_or_len (is_byte 47) (ds ++ 47 ∷ rest) ≡ length ds
slash_place [] rest e = refl
slash_place (d ∷ ds) rest e =
    let here = no_slash_digit d (first_true (is_ascii_digit d) (list_all is_ascii_digit ds) e) in
    let more = slash_place ds rest (second_true (is_ascii_digit d) (list_all is_ascii_digit ds) e) in
    let one : 1 + length ds ≡ suc (length ds) = omega arith in
    rw here (ap (λ n. 1 + n) more ∙ one)

pub slash_before : (ds rest : List ℕ) → list_all is_ascii_digit ds ≡ true → before_first (is_byte 47) (ds ++ 47 ∷ rest) ≡ ds
slash_before ds rest e = ap (λ n. take n (ds ++ 47 ∷ rest)) (slash_place ds rest e) ∙ take_at ds (47 ∷ rest) (length ds) refl

drop_past : (ds rest : List ℕ) → drop (suc (length ds)) (ds ++ 47 ∷ rest) ≡ rest
drop_past [] rest = refl
drop_past (d ∷ ds) rest = drop_past ds rest

pub slash_behind : (ds rest : List ℕ) → list_all is_ascii_digit ds ≡ true → after_first (is_byte 47) (ds ++ 47 ∷ rest) ≡ rest
slash_behind ds rest e =
    let one : length ds + 1 ≡ suc (length ds) = omega arith in
    ap (λ n. drop (n + 1) (ds ++ 47 ∷ rest)) (slash_place ds rest e) ∙ ap (λ n. drop n (ds ++ 47 ∷ rest)) one ∙ drop_past ds rest

pub slash_there : (ds rest : List ℕ) → list_any (is_byte 47) (ds ++ 47 ∷ rest) ≡ true
slash_there [] rest = refl
slash_there (d ∷ ds) rest = either (is_byte 47 d) (slash_there ds rest)
  where
    either : (t : Bool) {u : Bool} → u ≡ true → (t || u) ≡ true
    either true e = refl
    either false e = e
