-- Lines that are taken one after another.
use Rattle.std.specs.Prelude.{◌≡◌, ℕ, zero, suc, ◌+◌, ◌<◌, ◌≤◌, ◌==◌, ◌&&◌, ◌||◌, not, nat_lt, Bool, true, false, List, [], ◌∷◌, ◌++◌, length, Option, Some, None, if◌then◌else◌}
use Rattle.std.proofs.Common.{arith, refl, sym, ap, subst, ◌∙◌}
use Rattle.std.specs.List.{AllByRecursion}
use Rattle.std.proofs.lemmas.Bool.Decides.{nat_tests}
use Rattle.mps_tokens.specs.FieldsOf.{fields_of}
use Rattle.mps_tokens.specs.Cases.{named}
use Rattle.mps_tokens.specs.Words.{section_names}
use Rattle.mps_tokens.specs.Lines.{without_return}
use Rattle.mps_tokens.specs.Written.{IsLine}
use Rattle.mps_tokens.specs.declared.words.Section.{Section}
use Rattle.mps_grammar.specs.declared.kinds.FaultKind.TheVariants as kinds
use Rattle.mps_grammar.specs.Lines.{field, is_comment, is_passed, is_indented, section_in}
use Rattle.mps_grammar.specs.Told.{Told, told_by}
use Rattle.mps_grammar.specs.Faults.{section_tests, Tests, first_of, is_beyond, is_plain, reach, data_tests, header_tests, content_tests, shown_tests, line_fault}
use Rattle.mps_grammar.specs.After.{told_within, told_more, told_header, told_content, told_after}
use Rattle.mps_grammar.proofs.After.{told_line}
use Rattle.mps_grammar.specs.Verdict.{ends, is_end, verdict}
use Rattle.mps_writer_law.specs.Lines.{data_line, each}
use Rattle.mps_writer_law.proofs.Erased.{erase, fault_bare, after_bare}
use Rattle.mps_writer_law.proofs.Fields.{AreWords, fields_back, plain_back, plain_line}

-- what is told after a line, where the numbers of the lines are left out
abbrev pub next : Told → List ℕ → Told
next told line = erase (told_after told line)

-- a line is taken: it has no fault where it lies within reach, and isn't the last
pub record IsTaken (told : Told) (line : List ℕ) : Type 0 where
  pub one : IsLine line
  pub whole : without_return line ≡ line
  pub clean : (at : ℕ) → at + length line ≤ reach → line_fault told at line ≡ None
  pub more : ends line ≡ false

-- lines are taken one after another, and lead from what was told to what is told then
abbrev pub Lead : Told → List (List ℕ) → Told → Type 0
Lead told [] after = told ≡ after
Lead told (line ∷ lines) after = IsTaken told line × Lead (next told line) lines after

pub lead_on : (told middle after : Told) (xs ys : List (List ℕ)) → Lead told xs middle → Lead middle ys after → Lead told (xs ++ ys) after
lead_on told middle after [] ys h k = subst (λ (t : Told). Lead t ys after) (sym h) k
lead_on told middle after (x ∷ xs) ys h k = (h.0, lead_on (next told x) middle after xs ys h.1 k)

pub lead_to : (told after other : Told) (xs : List (List ℕ)) → after ≡ other → Lead told xs after → Lead told xs other
lead_to told after other xs e h = subst (λ (t : Told). Lead told xs t) e h

-- place by place
pub lead_each : (n : ℕ) (f : ℕ → List (List ℕ)) (stage : ℕ → Told) → ((i : ℕ) → i < n → Lead (stage i) (f i) (stage (suc i))) → Lead (stage 0) (each n f) (stage n)
lead_each zero f stage h = refl
lead_each (suc n) f stage h = lead_on (stage 0) (stage n) (stage (suc n)) (each n f) (f n) (lead_each n f stage (λ i lt. h i (omega (arith, lt)))) (h n (omega arith))

-- how many bytes lines have with their line feeds
abbrev pub bytes_of : List (List ℕ) → ℕ
bytes_of [] = 0
bytes_of (line ∷ lines) = length line + 1 + bytes_of lines

-- the lines in front of others, the last one first
abbrev pub onto : List (List ℕ) → List (List ℕ) → List (List ℕ)
onto [] earlier = earlier
onto (line ∷ lines) earlier = onto lines (line ∷ earlier)

-- what the verdict makes of them
pub record IsLed (at : ℕ) (earlier lines rest : List (List ℕ)) (after : Told) : Type 0 where
  pub goes_on : verdict at earlier (lines ++ rest) ≡ verdict (at + bytes_of lines) (onto lines earlier) rest
  pub told : erase (told_by (onto lines earlier)) ≡ after

one_line : (at : ℕ) (earlier : List (List ℕ)) (line : List ℕ) (rest : List (List ℕ)) → line_fault (told_by earlier) at line ≡ None → without_return line ≡ line → ends line ≡ false
    → verdict at earlier (line ∷ rest) ≡ verdict (at + length line + 1) (line ∷ earlier) rest
one_line at earlier line rest none whole more = rw (none, whole, more) refl

pub led : (at : ℕ) (earlier lines rest : List (List ℕ)) (told after : Told) → erase (told_by earlier) ≡ told → Lead told lines after → at + bytes_of lines ≤ reach → IsLed at earlier lines rest after
led at earlier [] rest told after e h within =
    let same : at ≡ at + 0 = omega arith in
    record { goes_on = ap (λ (k : ℕ). verdict k earlier rest) same; told = e ∙ h }
led at earlier (line ∷ lines) rest told after e h within =
    let none : line_fault (told_by earlier) at line ≡ None = sym (fault_bare (told_by earlier) at line) ∙ ap (λ (t : Told). line_fault t at line) e ∙ h.0.clean at (omega arith) in
    let step : erase (told_by (line ∷ earlier)) ≡ next told line = ap erase (told_line earlier line) ∙ sym (after_bare (told_by earlier) line) ∙ ap (λ (t : Told). next t line) e in
    let tail = led (at + length line + 1) (line ∷ earlier) lines rest (next told line) after step h.1 (omega arith) in
    let sum : at + length line + 1 + bytes_of lines ≡ at + (length line + 1 + bytes_of lines) = omega arith in
    record {
      goes_on = one_line at earlier line (lines ++ rest) none h.0.whole h.0.more ∙ tail.goes_on ∙ ap (λ (k : ℕ). verdict k (onto lines (line ∷ earlier)) rest) sum;
      told = tail.told;
    }

-- ---- a data line and a header

-- what a line is
record IsShown (line : List ℕ) (fields : List (List ℕ)) (indented : Bool) : Type 0 where
  whole : without_return line ≡ line
  plain : is_plain line ≡ true
  comment : is_comment line ≡ false
  passed : is_passed line ≡ false
  front : is_indented line ≡ indented
  fields_are : fields_of line ≡ fields

not_beyond : (at : ℕ) (line : List ℕ) → at + length line ≤ reach → is_beyond at line ≡ false
not_beyond at line h = rw (small (at + length line) h) (never (not (length line == 0)))
  where
    small : (n : ℕ) → n ≤ reach → nat_lt reach n ≡ false
    small n h = grind (arith, nat_tests)

    never : (b : Bool) → (b && false) ≡ false
    never true = refl
    never false = refl

tests_none : (b c p : Bool) (ts : Tests) → b ≡ false → c ≡ false → p ≡ false → first_of ts ≡ None → first_of ((b, kinds.TextLong) ∷ (c, kinds.NotAscii) ∷ (if p then [] else ts)) ≡ None
tests_none b c p ts e f g h = rw (e, f, g) h

content_fault : (told : Told) (at : ℕ) (line : List ℕ) (fields : List (List ℕ)) (b : Bool) → IsShown line fields b → at + length line ≤ reach → first_of (content_tests told line) ≡ None → line_fault told at line ≡ None
content_fault told at line fields b h within none =
    let ascii : (not (is_comment line) && not (is_plain line)) ≡ false = rw (h.comment, h.plain) refl in
    subst (λ (w : List ℕ). first_of ((is_beyond at line, kinds.TextLong) ∷ (not (is_comment w) && not (is_plain w), kinds.NotAscii) ∷ shown_tests told w) ≡ None) (sym h.whole)
    (tests_none (is_beyond at line) (not (is_comment line) && not (is_plain line)) (is_passed line) (content_tests told line) (not_beyond at line within) ascii h.passed none)

filled : (line : List ℕ) (fields : List (List ℕ)) (b : Bool) → b ≡ false → (length fields == 0) ≡ false → (b || (length fields == 0)) ≡ false
filled line fields b e f = rw (e, f) refl

shown_by : (line : List ℕ) (fields : List (List ℕ)) (b : Bool) → without_return line ≡ line → is_plain line ≡ true → is_comment line ≡ false → is_indented line ≡ b → fields_of line ≡ fields → (length fields == 0) ≡ false → IsShown line fields b
shown_by line fields b whole plain comment front are some =
    record {
      whole = whole;
      plain = plain;
      comment = comment;
      passed = filled line (fields_of line) (is_comment line) comment (ap (λ (fs : List (List ℕ)). length fs == 0) are ∙ some);
      front = front;
      fields_are = are;
    }

some_fields : (n : ℕ) → (suc n == 0) ≡ false
some_fields n = grind (arith, nat_tests)

data_content : (told : Told) (b : Bool) (begun : List Section) (found fields : List (List ℕ)) (s : Section) (ss : List Section) (h : Option Section) → b ≡ true → begun ≡ s ∷ ss → found ≡ fields
    → ((if b then section_tests told begun found else header_tests told h) ≡ data_tests told s fields) × ((if b then told_within told begun found else told_header told h) ≡ told_more told s fields)
data_content told b begun found fields s ss h e f g = (rw (e, f, g) refl, rw (e, f, g) refl)

header_content : (told : Told) (b : Bool) (begun : List Section) (found : List (List ℕ)) (h : Option Section) (s : Section) → b ≡ false → h ≡ Some s
    → ((if b then section_tests told begun found else header_tests told h) ≡ header_tests told (Some s)) × ((if b then told_within told begun found else told_header told h) ≡ record told { sections = s ∷ told.sections })
header_content told b begun found h s e f = (rw (e, f) refl, rw (e, f) refl)

told_when : (told more : Told) (p : Bool) → p ≡ false → erase (if p then told else more) ≡ erase more
told_when told more p e = rw e refl

not_ended : (p b : Bool) (h : Option Section) → b ≡ true → is_end (if (not p && not b) then h else None) ≡ false
not_ended true b h e = refl
not_ended false b h e = rw e refl

-- a data line is taken
pub takes_data : (told : Told) (s : Section) (ss : List Section) (f : List ℕ) (fs : List (List ℕ)) → told.sections ≡ s ∷ ss → AreWords (f ∷ fs) → first_of (data_tests told s (f ∷ fs)) ≡ None
    → IsTaken told (data_line (f ∷ fs)) × (next told (data_line (f ∷ fs)) ≡ erase (told_more told s (f ∷ fs)))
takes_data told s ss f fs section words none =
    let fields : fields_of (data_line (f ∷ fs)) ≡ f ∷ fs = fields_back (f ∷ fs) words in
    let plain : is_plain (data_line (f ∷ fs)) ≡ true = plain_back (f ∷ fs) words in
    let one : IsLine (data_line (f ∷ fs)) = plain_line (data_line (f ∷ fs)) plain in
    let whole : without_return (data_line (f ∷ fs)) ≡ data_line (f ∷ fs) = rw one.no_return refl in
    let shown = shown_by (data_line (f ∷ fs)) (f ∷ fs) true whole plain refl refl fields (some_fields (length fs)) in
    let content = data_content told (is_indented (data_line (f ∷ fs))) told.sections (fields_of (data_line (f ∷ fs))) (f ∷ fs) s ss (named section_names (field (fields_of (data_line (f ∷ fs))) 0)) refl section fields in (
      record {
        one = one;
        whole = whole;
        clean = λ at within. content_fault told at (data_line (f ∷ fs)) (f ∷ fs) true shown within (ap first_of content.0 ∙ none);
        more = not_ended (is_passed (data_line (f ∷ fs))) (is_indented (data_line (f ∷ fs))) (named section_names (field (fields_of (data_line (f ∷ fs))) 0)) refl;
      },
      told_when told (told_content told (data_line (f ∷ fs))) (is_passed (data_line (f ∷ fs))) shown.passed ∙ ap erase content.1,
    )

-- a header has no fault
pub header_told : (told : Told) (word : List ℕ) (s : Section) → without_return word ≡ word → is_plain word ≡ true → is_comment word ≡ false → is_indented word ≡ false → fields_of word ≡ word ∷ []
    → named section_names word ≡ Some s → first_of (header_tests told (Some s)) ≡ None
    → ((at : ℕ) → at + length word ≤ reach → line_fault told at word ≡ None) × (next told word ≡ erase (record told { sections = s ∷ told.sections })) × (section_in word ≡ Some s)
header_told told word s whole plain comment front fields section none =
    let shown = shown_by word (word ∷ []) false whole plain comment front fields (some_fields 0) in
    let name : named section_names (field (fields_of word) 0) ≡ Some s = ap (λ (fs : List (List ℕ)). named section_names (field fs 0)) fields ∙ section in
    let content = header_content told (is_indented word) told.sections (fields_of word) (named section_names (field (fields_of word) 0)) s front name in (
      λ at within. content_fault told at word (word ∷ []) false shown within (ap first_of content.0 ∙ none),
      told_when told (told_content told word) (is_passed word) shown.passed ∙ ap erase content.1,
      header_found (is_passed word) (is_indented word) (named section_names (field (fields_of word) 0)) shown.passed front ∙ name,
    )
  where
    header_found : (p b : Bool) (h : Option Section) → p ≡ false → b ≡ false → (if (not p && not b) then h else None) ≡ h
    header_found p b h e f = rw (e, f) refl

-- a header is taken
pub takes_header : (told : Told) (word : List ℕ) (s : Section) → without_return word ≡ word → is_plain word ≡ true → is_comment word ≡ false → is_indented word ≡ false → fields_of word ≡ word ∷ []
    → named section_names word ≡ Some s → first_of (header_tests told (Some s)) ≡ None → is_end (Some s) ≡ false
    → IsTaken told word × (next told word ≡ erase (record told { sections = s ∷ told.sections }))
takes_header told word s whole plain comment front fields section none more =
    let t = header_told told word s whole plain comment front fields section none in
    (record { one = plain_line word plain; whole = whole; clean = t.0; more = ap is_end t.2 ∙ more }, t.1)

-- lines that are taken are lines
pub are_lines : (told after : Told) (lines : List (List ℕ)) → Lead told lines after → AllByRecursion IsLine lines
are_lines told after [] h = tt
are_lines told after (line ∷ lines) h = (h.0.one, are_lines (next told line) after lines h.1)
