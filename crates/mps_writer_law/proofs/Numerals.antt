-- What is written of a number is read back: digits, by themselves or beside a slash, behind a sign or not.
use Rattle.std.specs.Prelude.{◌≡◌, ◌≢◌, ◌==◌, nat_lt, ℕ, zero, suc, ℤ, pos, negsuc, unsigned_abs, ◌+◌, ◌*◌, ◌/◌, ◌%◌, ◌^◌, ◌<◌, ◌≤◌, Bool, true, false, List, [], ◌∷◌, ◌++◌, length, take, drop, Ok, slice_index, if◌then◌else◌}
use Rattle.std.proofs.Common.{arith, refl, sym, ap, subst, ◌∙◌, get_or}
use Rattle.std.specs.List.{list_all, position_or_len}
use Rattle.std.specs.Char.{is_ascii_digit}
use Rattle.std.specs.Fmt.{decimal, signed_decimal}
use Rattle.std.specs.Str.Parse.{AllDigits, digits_value}
use Rattle.std.specs.Int.{IsInRange}
use Rattle.std.proofs.lemmas.Fmt.{decimal_is_IsNumeral_wide}
use Rattle.std.proofs.lemmas.Str.Parse.{digit_at, digit_from_value}
use Rattle.std.proofs.lemmas.List.{append-nil, length-append, drop_all, get_or_append_left}
use Rattle.std.proofs.Math.Seq.{get_or-append_seam, take-append_seam, drop-append-add, take-length}
use Rattle.rational.proofs.Reciprocals.{fraction_one}
use Rattle.std.proofs.lemmas.List.Sums.{position_or_len_is}
use Rattle.std.proofs.lemmas.Bool.{ne_eqb}
use Rattle.std.proofs.lemmas.Bool.Decides.{nat_tests}
use Rattle.frac_core.specs.Text.{text_of}
use Rattle.rational.specs.Rational.{ℚ, Fits, fraction, fraction_parts, zero_ℚ}
use Rattle.frac_core.specs.Parts.{max_part}
use Rattle.word_arithmetic.specs.Signed.{signed}
use Rattle.mps_tokens.specs.Spelling.{is_numeral, is_sign, is_negative, without_sign, is_slash, is_point, is_mark, without_point, places_of, is_fraction}
use Rattle.mps_tokens.specs.Numbers.{fitted, decimal_of, decimal_value, fraction_value, number_of}
use Rattle.mps_tokens.specs.Running.{IsShort}
use Rattle.mps_tokens.proofs.Tens.{zero_more}
use Rattle.mps_tokens.proofs.NumberParts.{numeral_yes, unmarked, slashed, unslashed}
use Rattle.mps_tokens.proofs.DecimalValues.{short_value, zero_value}
use Rattle.mps_tokens.proofs.PowerValues.{whole_fits}

-- digits, at least one
pub record IsDigits (ds : List ℕ) : Type 0 where
  pub some : 0 < length ds
  pub digits : AllDigits 10 ds

digit : (c : ℕ) → IsInRange 48 57 c → is_ascii_digit c ≡ true
digit c h = grind (arith, nat_tests)

no_slash : (c : ℕ) → IsInRange 48 57 c → is_slash c ≡ false
no_slash c h = grind (arith, nat_tests)

no_point : (c : ℕ) → IsInRange 48 57 c → is_point c ≡ false
no_point c h = grind (arith, nat_tests)

no_mark : (c : ℕ) → IsInRange 48 57 c → is_mark c ≡ false
no_mark c h = grind (arith, nat_tests)

no_sign : (c : ℕ) → IsInRange 48 57 c → is_sign c ≡ false
no_sign c h = grind (arith, nat_tests)

no_minus : (c : ℕ) → IsInRange 48 57 c → (c == 45) ≡ false
no_minus c h = grind (arith, nat_tests)

all_digits : (ds : List ℕ) → AllDigits 10 ds → list_all is_ascii_digit ds ≡ true
all_digits [] h = refl
all_digits (d ∷ ds) h = rw (digit d (digit_from_value d h.0)) (all_digits ds h.1)

-- a test that no digit passes finds nothing
none_of : (p : ℕ → Bool) → ((c : ℕ) → IsInRange 48 57 c → p c ≡ false) → (ds : List ℕ) → AllDigits 10 ds → position_or_len p ds ≡ length ds
none_of p none ds h =
    position_or_len_is p ds (length ds) 0 (omega arith) (λ k lt. none (get_or ds k 0) (digit_at ds k h lt)) (λ lt. absurd (omega (arith, lt)))

-- ---- the sign

first_digit : (ds rest : List ℕ) → IsDigits ds → IsInRange 48 57 (slice_index (ds ++ rest) 0)
first_digit [] rest h = absurd (let some : 0 < 0 = h.some in omega arith)
first_digit (d ∷ ds) rest h = digit_from_value d h.digits.0

unsigned : (ds rest : List ℕ) → IsDigits ds → (is_negative (ds ++ rest) ≡ false) × (without_sign (ds ++ rest) ≡ ds ++ rest)
unsigned ds rest h =
    let first = first_digit ds rest h in
    (no_minus (slice_index (ds ++ rest) 0) first, rw (no_sign (slice_index (ds ++ rest) 0) first) refl)

-- ---- the zeros at a number's end

record Shortened (v : ℕ) : Type 0 where
  left : ℕ
  run : ℕ
  short : IsShort v left run
  some : left ≢ 0
  less : left ≤ v

itself_short : (v : ℕ) → 0 < v → (v % 10 == 0) ≡ false → Shortened v
itself_short v some e =
    let ends : 0 < v % 10 = grind (arith, nat_tests) in
    let whole : v ≡ v * 10 ^ 0 = omega arith in
    record { left = v; run = 0; short = record { whole = whole; ends = λ p. ends }; some = λ z. omega arith; less = omega arith }

tenth_short : (v : ℕ) → 0 < v → (v % 10 == 0) ≡ true → Shortened (v / 10) → Shortened v
tenth_short v some e s =
    let ends : v % 10 ≡ 0 = grind (arith, nat_tests) in
    let whole : v / 10 * 10 + 0 ≡ v = omega arith in
    record {
      left = s.left;
      run = s.run + 1;
      short = subst (λ (n : ℕ). IsShort n s.left (s.run + 1)) whole (zero_more (v / 10) s.left s.run 0 refl s.short);
      some = s.some;
      less = omega (arith, s.less);
    }

either_short : (v : ℕ) (b : Bool) → (v % 10 == 0) ≡ b → 0 < v → (v % 10 ≡ 0 → Shortened (v / 10)) → Shortened v
either_short v false e some tenth = itself_short v some e
either_short v true e some tenth = tenth_short v some e (tenth (grind (arith, nat_tests)))

shortened_by : (fuel v : ℕ) → v ≤ fuel → 0 < v → Shortened v
shortened_by zero v h some = absurd (omega arith)
shortened_by (suc fuel) v h some = either_short v (v % 10 == 0) refl some (λ e. shortened_by fuel (v / 10) (omega arith) (omega arith))

-- ---- digits by themselves

zero_fraction : (negative : Bool) → zero_ℚ ≡ fraction (signed negative 0) 1
zero_fraction false = sym (fraction_one (pos 0))
zero_fraction true = sym (fraction_one (pos 0))

plain_value : (negative : Bool) (m : ℕ) → m ≤ max_part → decimal_value negative m 0 0 ≡ Ok (fraction (signed negative m) 1)
plain_value negative zero h = zero_value negative 0 0 0 0 0 refl (record { whole = refl; ends = λ p. absurd (omega (arith, p)) }) ∙ ap Ok (zero_fraction negative)
plain_value negative (suc m) h =
    let s = shortened_by (suc m) (suc m) (omega arith) (omega arith) in
    let run_is : s.run + 0 ≡ s.run = omega arith in
    let back : s.left * 10 ^ (s.run + 0) ≡ suc m = ap (λ (k : ℕ). s.left * 10 ^ k) run_is ∙ sym s.short.whole in
    short_value negative (suc m) s.left s.run 0 0 s.some (omega (arith, s.less)) s.short
    ∙ ap (λ (n : ℕ). fitted (fraction (signed negative n) 1)) back
    ∙ whole_fits negative (suc m) h

-- without a point and a mark
plain_body : (negative : Bool) (ds : List ℕ) (m : ℕ) → IsDigits ds → digits_value 10 ds ≡ m → m ≤ max_part → decimal_of negative ds ≡ Ok (fraction (signed negative m) 1)
plain_body negative ds m h value small =
    let end : position_or_len is_point ds ≡ length ds = none_of is_point no_point ds h.digits in
    let rest : drop (position_or_len is_point ds + 1) ds ≡ [] = drop_all (position_or_len is_point ds + 1) ds (omega arith) in
    let front : take (position_or_len is_point ds) ds ≡ ds = ap (λ (k : ℕ). take k ds) end ∙ take-length ds in
    let joined : without_point ds ≡ ds = rw (rest, front) (append-nil ds) in
    let none : places_of ds ≡ 0 = ap length rest in
    let numeral : is_numeral (without_point ds) ≡ true = ap is_numeral joined ∙ numeral_yes ds h.some (all_digits ds h.digits) in
    sym (unmarked negative ds ds (length ds) 0 (sym none) (sym (none_of is_mark no_mark ds h.digits)) refl (sym (take-length ds)) numeral)
    ∙ ap (λ (n : ℕ). decimal_value negative n 0 0) (ap (digits_value 10) joined ∙ value)
    ∙ plain_value negative m small

plain_number : (bytes ds : List ℕ) (negative : Bool) (m : ℕ) → is_negative bytes ≡ negative → without_sign bytes ≡ ds → IsDigits ds → digits_value 10 ds ≡ m → m ≤ max_part
    → number_of bytes ≡ Ok (fraction (signed negative m) 1)
plain_number bytes ds negative m n r h value small =
    sym (unslashed bytes ds negative (length ds) (sym n) (sym r) (sym (none_of is_slash no_slash ds h.digits)) refl) ∙ plain_body negative ds m h value small

-- ---- digits beside a slash

slash_place : (top bottom : List ℕ) → IsDigits top → position_or_len is_slash (top ++ 47 ∷ bottom) ≡ length top
slash_place top bottom h =
    position_or_len_is is_slash (top ++ 47 ∷ bottom) (length top) 0 (omega (arith, length-append top (47 ∷ bottom)))
    (λ k lt. ap is_slash (get_or_append_left top (47 ∷ bottom) 0 k lt) ∙ no_slash (get_or top k 0) (digit_at top k h.digits lt))
    (λ lt. ap is_slash (get_or-append_seam top 47 bottom 0))

small_value : (negative : Bool) (p q : ℕ) → p ≤ max_part → q ≤ max_part → fraction_value negative p q ≡ Ok (fraction (signed negative p) q)
unfolding fraction_value
small_value negative p q h k = rw (below p h, below q k) refl
  where
    below : (n : ℕ) → n ≤ max_part → nat_lt max_part n ≡ false
    below n h = grind (arith, nat_tests)

both_numerals : (top bottom : List ℕ) → IsDigits top → IsDigits bottom → digits_value 10 bottom ≢ 0 → is_fraction top bottom ≡ true
both_numerals top bottom t b some =
    rw (numeral_yes top t.some (all_digits top t.digits), numeral_yes bottom b.some (all_digits bottom b.digits), ne_eqb (digits_value 10 bottom) 0 some) refl

slashed_number : (bytes top bottom : List ℕ) (negative : Bool) (p q : ℕ) → is_negative bytes ≡ negative → without_sign bytes ≡ top ++ 47 ∷ bottom → IsDigits top → IsDigits bottom
    → digits_value 10 top ≡ p → digits_value 10 bottom ≡ q → p ≤ max_part → q ≤ max_part → 0 < q
    → number_of bytes ≡ Ok (fraction (signed negative p) q)
slashed_number bytes top bottom negative p q n r t b tv bv ps qs some =
    let long : length (top ++ 47 ∷ bottom) ≡ length top + length (47 ∷ bottom) = length-append top (47 ∷ bottom) in
    let known : is_fraction top bottom ≡ true = both_numerals top bottom t b (λ e. omega arith) in
    sym (slashed bytes (top ++ 47 ∷ bottom) top bottom negative (length top) (sym n) (sym r) (sym (slash_place top bottom t)) (λ e. omega arith) (omega arith)
    (sym (take-append_seam top (47 ∷ bottom))) (sym (drop-append-add top (47 ∷ bottom) 1)))
    ∙ rw (known, tv, bv) (small_value negative p q ps qs)

-- ---- what is written

wide : (n : ℕ) → n ≤ max_part → n < 10 ^ 64
wide n h = omega arith

pub written : (n : ℕ) → n ≤ max_part → IsDigits (decimal n) × (digits_value 10 (decimal n) ≡ n)
written n h = let d = decimal_is_IsNumeral_wide n (wide n h) in (record { some = d.0.0; digits = d.0.1 }, d.1)

-- a whole number, and a fraction with a denominator
whole_back : (n : ℤ) → unsigned_abs n ≤ max_part → number_of (signed_decimal n) ≡ Ok (fraction n 1)
whole_back (pos n) h =
    let w = written n h in
    let u = unsigned (decimal n) [] w.0 in
    let all : decimal n ++ [] ≡ decimal n = append-nil (decimal n) in
    plain_number (decimal n) (decimal n) false n (ap is_negative (sym all) ∙ u.0) (ap without_sign (sym all) ∙ u.1 ∙ all) w.0 w.1 h
whole_back (negsuc n) h =
    let w = written (suc n) h in
    plain_number (45 ∷ decimal (suc n)) (decimal (suc n)) true (suc n) refl refl w.0 w.1 h

ratio_back : (n : ℤ) (d : ℕ) → unsigned_abs n ≤ max_part → d ≤ max_part → 0 < d → number_of (signed_decimal n ++ 47 ∷ decimal d) ≡ Ok (fraction n d)
ratio_back (pos n) d h k some =
    let w = written n h in
    let v = written d k in
    let u = unsigned (decimal n) (47 ∷ decimal d) w.0 in
    slashed_number (decimal n ++ 47 ∷ decimal d) (decimal n) (decimal d) false n d u.0 u.1 w.0 v.0 w.1 v.1 h k some
ratio_back (negsuc n) d h k some =
    let w = written (suc n) h in
    let v = written d k in
    slashed_number (45 ∷ (decimal (suc n) ++ 47 ∷ decimal d)) (decimal (suc n)) (decimal d) true (suc n) d refl refl w.0 v.0 w.1 v.1 h k some

by_denominator : (n : ℤ) (d : ℕ) (b : Bool) → (d == 1) ≡ b → unsigned_abs n ≤ max_part → d ≤ max_part → 0 < d
    → number_of (if b then signed_decimal n else signed_decimal n ++ 47 ∷ decimal d) ≡ Ok (fraction n d)
by_denominator n d true e h k some = let one : 1 ≡ d = grind (arith, nat_tests) in whole_back n h ∙ ap (λ (m : ℕ). Ok (fraction n m)) one
by_denominator n d false e h k some = ratio_back n d h k some

-- each number that fits
pub number_back : (q : ℚ) → Fits max_part q → number_of (text_of q) ≡ Ok q
number_back q h = by_denominator q.num q.den (q.den == 1) refl h.0 h.1 q.lowest.positive ∙ ap Ok (fraction_parts q)
