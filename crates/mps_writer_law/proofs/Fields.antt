-- Fields of printable bytes, and the lines that they make.
use Rattle.std.specs.Prelude.{◌≡◌, ◌==◌, ◌&&◌, nat_le, not, ℕ, ℤ, pos, negsuc, unsigned_abs, zero, suc, ◌-◌, ◌<◌, ◌≤◌, Bool, true, false, List, [], ◌∷◌, ◌++◌, length, slice_index, All, if◌then◌else◌}
use Rattle.std.proofs.Common.{arith, refl, ◌∙◌, get_or}
use Rattle.std.specs.List.{list_all, AllByRecursion}
use Rattle.std.specs.Fmt.{decimal, signed_decimal}
use Rattle.std.specs.Str.Parse.{AllDigits}
use Rattle.std.specs.Int.{IsInRange}
use Rattle.std.proofs.lemmas.Str.Parse.{digit_from_value}
use Rattle.std.proofs.lemmas.List.{length-append}
use Rattle.std.proofs.lemmas.List.Folds.{list_all-append}
use Rattle.std.proofs.lemmas.Bool.Decides.{nat_tests}
use Rattle.rational.specs.Rational.{ℚ, Fits}
use Rattle.frac_core.specs.Parts.{max_part}
use Rattle.frac_core.specs.Text.{text_of}
use Rattle.program_law.specs.Program.{IsName}
use Rattle.mps_tokens.specs.Lines.{is_line_feed}
use Rattle.mps_tokens.specs.FieldsOf.{is_blank, fields_of}
use Rattle.mps_tokens.specs.Written.{IsLine, IsField}
use Rattle.mps_tokens.proofs.Joined.{fields_joined}
use Rattle.mps_grammar.specs.Faults.{is_plain_byte, is_plain}
use Rattle.mps_writer_law.specs.Lines.{data_line}
use Rattle.mps_writer_law.proofs.Numerals.{written}

-- a byte that is neither a blank nor a control
abbrev is_dark : ℕ → Bool
is_dark b = nat_le 33 b && nat_le b 126

abbrev pub is_word : List ℕ → Bool
is_word field = not (length field == 0) && list_all is_dark field

-- a field may stand in a line
pub record IsWord (field : List ℕ) : Type 0 where
  pub word : is_word field ≡ true

abbrev pub AreWords : List (List ℕ) → Type 0
AreWords [] = Unit {0}
AreWords (f ∷ fs) = IsWord f × AreWords fs

dark_plain : (b : ℕ) → is_dark b ≡ true → is_plain_byte b ≡ true
dark_plain b h = grind (arith, nat_tests)

dark_whole : (b : ℕ) → is_dark b ≡ true → is_blank b ≡ false
dark_whole b h = grind (arith, nat_tests)

in_dark : (b : ℕ) → 33 ≤ b → b ≤ 126 → is_dark b ≡ true
in_dark b h k = grind (arith, nat_tests)

both : (a b : Bool) → (a && b) ≡ true → (a ≡ true) × (b ≡ true)
both true true h = (refl, refl)
both true false h = absurd cc
both false b h = absurd cc

all_plain : (field : List ℕ) → list_all is_dark field ≡ true → list_all is_plain_byte field ≡ true
all_plain [] h = refl
all_plain (b ∷ bs) h = let p = both (is_dark b) (list_all is_dark bs) h in rw (dark_plain b p.0) (all_plain bs p.1)

all_whole : (field : List ℕ) → list_all is_dark field ≡ true → AllByRecursion (λ b. is_blank b ≡ false) field
all_whole [] h = tt
all_whole (b ∷ bs) h = let p = both (is_dark b) (list_all is_dark bs) h in (dark_whole b p.0, all_whole bs p.1)

is_field : (field : List ℕ) → IsWord field → IsField field
is_field field h = let p = both (not (length field == 0)) (list_all is_dark field) h.word in record { filled = p.0; unbroken = all_whole field p.1 }

are_fields : (fields : List (List ℕ)) → AreWords fields → AllByRecursion IsField fields
are_fields [] h = tt
are_fields (f ∷ fs) h = (is_field f h.0, are_fields fs h.1)

-- a line's fields are found again
pub fields_back : (fields : List (List ℕ)) → AreWords fields → fields_of (data_line fields) ≡ fields
fields_back fields h = fields_joined fields (are_fields fields h)

-- a line of words is plain
pub plain_back : (fields : List (List ℕ)) → AreWords fields → is_plain (data_line fields) ≡ true
plain_back [] h = refl
plain_back (f ∷ fs) h =
    let p = both (not (length f == 0)) (list_all is_dark f) h.0.word in
    list_all-append is_plain_byte (32 ∷ f) (data_line fs) ∙ rw (all_plain f p.1) (plain_back fs h.1)

plain_no_feed : (b : ℕ) → is_plain_byte b ≡ true → is_line_feed b ≡ false
plain_no_feed b h = grind (arith, nat_tests)

plain_no_return : (b : ℕ) → is_plain_byte b ≡ true → (b == 13) ≡ false
plain_no_return b h = grind (arith, nat_tests)

line_bytes : (line : List ℕ) → is_plain line ≡ true → (k d : ℕ) → k < length line → is_plain_byte (get_or line k d) ≡ true
line_bytes [] h k d lt = absurd (omega (arith, lt))
line_bytes (b ∷ bs) h zero d lt = (both (is_plain_byte b) (is_plain bs) h).0
line_bytes (b ∷ bs) h (suc k) d lt = line_bytes bs (both (is_plain_byte b) (is_plain bs) h).1 k d (omega (arith, lt))

last_byte : (line : List ℕ) (k : ℕ) → is_plain line ≡ true → (slice_index line k == 13) ≡ false
last_byte [] k h = refl
last_byte (b ∷ bs) zero h = plain_no_return b (both (is_plain_byte b) (is_plain bs) h).0
last_byte (b ∷ bs) (suc k) h = last_byte bs k (both (is_plain_byte b) (is_plain bs) h).1

-- a plain line is one line
pub plain_line : (line : List ℕ) → is_plain line ≡ true → IsLine line
plain_line line h = record {
  one_line = λ k d lt. plain_no_feed (get_or line k d) (line_bytes line h k d lt);
  no_return = last_byte line (length line - 1) h;
}

-- ---- names and numbers are words

all_dark : (bytes : List ℕ) → All (λ b. (33 ≤ b) × (b ≤ 126)) bytes → list_all is_dark bytes ≡ true
all_dark [] h = refl
all_dark (b ∷ bs) h = rw (in_dark b (h 0 0 (omega arith)).0 (h 0 0 (omega arith)).1) (all_dark bs (λ k d lt. h (suc k) d (omega (arith, lt))))

filled : (n : ℕ) → 0 < n → not (n == 0) ≡ true
filled zero h = absurd (omega arith)
filled (suc n) h = grind (arith, nat_tests)

a_word : (bytes : List ℕ) → 0 < length bytes → list_all is_dark bytes ≡ true → IsWord bytes
a_word bytes some dark = record { word = rw (filled (length bytes) some, dark) refl }

pub name_word : (name : List ℕ) → IsName name → IsWord name
name_word name h = a_word name h.some (all_dark name h.printable)

digit_dark : (b : ℕ) → IsInRange 48 57 b → is_dark b ≡ true
digit_dark b h = grind (arith, nat_tests)

digits_dark : (ds : List ℕ) → AllDigits 10 ds → list_all is_dark ds ≡ true
digits_dark [] h = refl
digits_dark (d ∷ ds) h = rw (digit_dark d (digit_from_value d h.0)) (digits_dark ds h.1)

decimal_word : (n : ℕ) → n ≤ max_part → (0 < length (decimal n)) × (list_all is_dark (decimal n) ≡ true)
decimal_word n h = let w = written n h in (w.0.some, digits_dark (decimal n) w.0.digits)

signed_word : (n : ℤ) → unsigned_abs n ≤ max_part → (0 < length (signed_decimal n)) × (list_all is_dark (signed_decimal n) ≡ true)
signed_word (pos n) h = decimal_word n h
signed_word (negsuc n) h = (omega arith, (decimal_word (suc n) h).1)

by_denominator : (n : ℤ) (d : ℕ) (b : Bool) → unsigned_abs n ≤ max_part → d ≤ max_part → IsWord (if b then signed_decimal n else signed_decimal n ++ 47 ∷ decimal d)
by_denominator n d true h k = a_word (signed_decimal n) (signed_word n h).0 (signed_word n h).1
by_denominator n d false h k =
    let s = signed_word n h in
    a_word (signed_decimal n ++ 47 ∷ decimal d) (omega (arith, s.0, length-append (signed_decimal n) (47 ∷ decimal d)))
    (list_all-append is_dark (signed_decimal n) (47 ∷ decimal d) ∙ rw (s.1, (decimal_word d k).1) refl)

pub number_word : (q : ℚ) → Fits max_part q → IsWord (text_of q)
number_word q h = by_denominator q.num q.den (q.den == 1) h.0 h.1
