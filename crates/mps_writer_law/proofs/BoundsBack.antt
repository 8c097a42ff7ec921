-- The bounds of a program's text are read back.
use Rattle.std.specs.Prelude.{◌≡◌, ◌≢◌, ◌<◌, ◌&&◌, ◌||◌, not, ℕ, zero, suc, Bool, true, false, List, [], ◌∷◌, ◌++◌, map, length, Option, Some, None, IfSome, is_some, codes, if◌then◌else◌}
use Rattle.std.proofs.Common.{arith, refl, sym, ap, ◌∙◌, inl, inr}
use Rattle.std.specs.Str.{bytes_eq}
use Rattle.std.proofs.lemmas.List.{append-nil}
use Rattle.std.proofs.lemmas.Bool.{cases_lt}
use Rattle.rational.specs.Rational.{ℚ, Fits, zero_ℚ}
use Rattle.rational.specs.Order.{same_fields, same_fields_lem}
use Rattle.frac_core.specs.Parts.{max_part}
use Rattle.frac_core.specs.Text.{text_of}
use Rattle.rational.specs.Tests.{is_zero, is_negative}
use Rattle.program_law.proofs.Numbers.{zero_is}
use Rattle.program_law.specs.Program.{Program, IsProgram}
use Rattle.program_law.specs.Places.{place_of}
use Rattle.mps_tokens.specs.Numbers.{number_of}
use Rattle.mps_tokens.specs.declared.words.Section.{Section}
use Rattle.mps_tokens.specs.declared.words.Section.TheVariants as sections
use Rattle.mps_tokens.specs.declared.words.BoundKind.{BoundKind}
use Rattle.mps_tokens.specs.declared.words.BoundKind.TheVariants as bound_kinds
use Rattle.mps_grammar.specs.declared.kinds.FaultKind.TheVariants as kinds
use Rattle.mps_grammar.specs.Fields.{Bounded, bound_in, bound_kind_in}
use Rattle.named_things.specs.Named.{names_of}
use Rattle.mps_grammar.specs.Told.{Told, Telling, BoundTelling, is_used, first_named, bound_value, bound_set_of, with_bound, value_or_zero}
use Rattle.mps_grammar.specs.Faults.{first_of, is_long, is_no_number, is_past, of_number, bounded_tests, bound_tests, header_tests, data_tests}
use Rattle.mps_grammar.specs.Programs.{bounds_for, bounded}
use Rattle.mps_writer_law.specs.Lines.{each, data_line, number_line, has_lines}
use Rattle.mps_writer_law.specs.Small.{HasSmallNumbers}
use Rattle.mps_writer_law.specs.Canonical.{column_name, bounds_at, bound_line, low_lines, bound_lines, bounds_lines}
use Rattle.mps_writer_law.proofs.Numerals.{number_back}
use Rattle.mps_writer_law.proofs.Erased.{bare}
use Rattle.mps_writer_law.proofs.Fields.{AreWords, number_word}
use Rattle.mps_writer_law.proofs.Lookups.{each_back, other_bytes, same_bytes, or_false, or_true}
use Rattle.mps_writer_law.proofs.Names.{column_word, column_short, columns_differ}
use Rattle.mps_writer_law.proofs.LineLemmas.{has_append}
use Rattle.mps_writer_law.proofs.Runs.{Lead, lead_on, lead_to, lead_each, takes_data, takes_header}
use Rattle.mps_writer_law.proofs.ColumnsBack.{no_text, no_past, is_known, known_column}
use Rattle.mps_writer_law.proofs.EntriesBack.{entries_bare}
use Rattle.mps_writer_law.proofs.SectionsBack.{section_read, nothing_each}
use Rattle.mps_writer_law.proofs.SidesBack.{named_set, used_set}
use Rattle.mps_writer_law.proofs.Stages.{told_columns, entries_told, with_section, set_if, bound_telling, low_told, bound_told, bounds_told, behind_columns, first_sections}

-- ---- what a column's bounds make

nothing : Option ℚ
nothing = None

left_none : (b : Bool) → (if b then nothing else nothing) ≡ nothing
left_none true = refl
left_none false = refl

kept_low : (negative : Bool) (low : Option ℚ) → (if (negative && false) then None else low) ≡ low
kept_low true low = refl
kept_low false low = refl

one_bound : (name : List ℕ) (low : ℚ) (mark b : Bool) → is_zero low ≡ b → bounded mark (if b then [] else bound_telling bound_kinds.Lower name low ∷ []) ≡ record { low = Some low; high = None; whole = mark }
one_bound name low mark true e = ap (λ (q : ℚ). record { low = Some q; high = None; whole = mark }) (sym (zero_is low e))
one_bound name low mark false e = refl

bare_high : (low : ℚ) (zero negative b : Bool) → (zero && not negative) ≡ b → b ≡ true → (zero ≡ true) × (negative ≡ false)
bare_high low true true b e f = absurd cc
bare_high low true false b e f = (refl, refl)
bare_high low false negative b e f = absurd cc

two_bounds : (name : List ℕ) (low high : ℚ) (mark b : Bool) → (is_zero low && not (is_negative high)) ≡ b
    → bounded mark (bound_telling bound_kinds.Upper name high ∷ (if b then [] else bound_telling bound_kinds.Lower name low ∷ [])) ≡ record { low = Some low; high = Some high; whole = mark }
two_bounds name low high mark true e =
    let p = bare_high low (is_zero low) (is_negative high) true e refl in
    rw p.1 (ap (λ (q : ℚ). record { low = Some q; high = Some high; whole = mark }) (sym (zero_is low p.0)))
two_bounds name low high mark false e = ap (λ (l : Option ℚ). record { low = l; high = Some high; whole = mark }) (kept_low (is_negative high) (Some low))

both_bounds : (name : List ℕ) (low high : ℚ) (mark b : Bool) → same_fields low high ≡ b
    → bounded mark (if b then bound_telling bound_kinds.Fixed name low ∷ [] else (bound_telling bound_kinds.Upper name high ∷ low_told name low high)) ≡ record { low = Some low; high = Some high; whole = mark }
both_bounds name low high mark true e = ap (λ (q : ℚ). record { low = Some low; high = Some q; whole = mark }) (same_fields_lem low high e)
both_bounds name low high mark false e = two_bounds name low high mark (is_zero low && not (is_negative high)) refl

-- the bounds that are told are those of the column
pub bounds_made : (name : List ℕ) (low high : Option ℚ) (mark : Bool) → bounded mark (bound_told name low high) ≡ record { low = low; high = high; whole = mark }
unfolding nothing
bounds_made name None None mark = refl
bounds_made name None (Some high) mark = ap (λ (l : Option ℚ). record { low = l; high = Some high; whole = mark }) (left_none (is_negative high && false))
bounds_made name (Some low) None mark = one_bound name low mark (is_zero low) refl
bounds_made name (Some low) (Some high) mark = both_bounds name low high mark (same_fields low high) refl

-- ---- which bounds are a column's

for-append : (ts us : List BoundTelling) (name : List ℕ) → bounds_for (ts ++ us) name ≡ bounds_for ts name ++ bounds_for us name
for-append [] us name = refl
for-append (t ∷ ts) us name = ap (λ (rest : List BoundTelling). if bytes_eq name t.column then t ∷ rest else rest) (for-append ts us name) ∙ by (bytes_eq name t.column)
  where
    by : (b : Bool) → (if b then t ∷ (bounds_for ts name ++ bounds_for us name) else (bounds_for ts name ++ bounds_for us name)) ≡ (if b then t ∷ bounds_for ts name else bounds_for ts name) ++ bounds_for us name
    by true = refl
    by false = refl

-- all are of the one column
AllOf : List ℕ → List BoundTelling → Type 0
AllOf name [] = Unit {0}
AllOf name (t ∷ ts) = (t.column ≡ name) × AllOf name ts

all_of : (name : List ℕ) (low high : Option ℚ) → AllOf name (bound_told name low high)
unfolding AllOf
all_of name None None = (refl, tt)
all_of name None (Some high) = (refl, (refl, tt))
all_of name (Some low) None = by (is_zero low)
  where
    by : (b : Bool) → AllOf name (if b then [] else bound_telling bound_kinds.Lower name low ∷ [])
    by true = tt
    by false = (refl, tt)
all_of name (Some low) (Some high) = by (same_fields low high) (is_zero low && not (is_negative high))
  where
    by : (b c : Bool) → AllOf name (if b then bound_telling bound_kinds.Fixed name low ∷ [] else (bound_telling bound_kinds.Upper name high ∷ (if c then [] else bound_telling bound_kinds.Lower name low ∷ [])))
    by true c = (refl, tt)
    by false true = (refl, tt)
    by false false = (refl, (refl, tt))

for_own : (name : List ℕ) (ts : List BoundTelling) → AllOf name ts → bounds_for ts name ≡ ts
unfolding AllOf
for_own name [] h = refl
for_own name (t ∷ ts) h =
    let same : bytes_eq name t.column ≡ true = ap (bytes_eq name) h.0 ∙ same_bytes name in
    rw same (ap (λ (rest : List BoundTelling). t ∷ rest) (for_own name ts h.1))

for_other : (name other : List ℕ) (ts : List BoundTelling) → other ≢ name → AllOf name ts → bounds_for ts other ≡ []
unfolding AllOf
for_other name other [] differs h = refl
for_other name other (t ∷ ts) differs h =
    let unlike : bytes_eq other t.column ≡ false = ap (bytes_eq other) h.0 ∙ other_bytes other name differs in
    rw unlike (for_other name other ts differs h.1)

for_nowhere : (n : ℕ) (f : ℕ → List BoundTelling) (name : List ℕ) → ((i : ℕ) → i < n → bounds_for (f i) name ≡ []) → bounds_for (each_back n f) name ≡ []
for_nowhere zero f name h = refl
for_nowhere (suc n) f name h = for-append (f n) (each_back n f) name ∙ rw (h n (omega arith), for_nowhere n f name (λ i lt. h i (omega (arith, lt)))) refl

for_somewhere : (n : ℕ) (f : ℕ → List BoundTelling) (name : List ℕ) (j : ℕ) → j < n → ((i : ℕ) → i < n → i ≢ j → bounds_for (f i) name ≡ []) → bounds_for (each_back n f) name ≡ bounds_for (f j) name
for_somewhere zero f name j lt h = absurd (omega (arith, lt))
for_somewhere (suc n) f name j lt h =
    for-append (f n) (each_back n f) name
    ∙ elim (cases_lt j n) [
      | inl below ↦ rw (h n (omega arith) (λ e. omega arith)) (for_somewhere n f name j below (λ i less other. h i (omega (arith, less)) other))
      | inr above ↦
          let last : j ≡ n = omega arith in
          rw (for_nowhere n f name (λ i less. h i (omega (arith, less)) (λ e. omega arith)), last) (append-nil (bounds_for (f n) name))
    ]

pub found_bounds : (p : Program) → IsProgram p → (j : ℕ) → j < length p.columns → bounds_for (bounds_told p (length p.columns)) (column_name p j) ≡ bound_told (column_name p j) (bounds_at p j).low (bounds_at p j).high
found_bounds p good j lt =
    for_somewhere (length p.columns) (λ k. bound_told (column_name p k) (bounds_at p k).low (bounds_at p k).high) (column_name p j) j lt
    (λ k less differs. for_other (column_name p k) (column_name p j) _ (columns_differ p good j k lt less (λ e. differs (sym e))) (all_of (column_name p k) (bounds_at p k).low (bounds_at p k).high))
    ∙ for_own (column_name p j) _ (all_of (column_name p j) (bounds_at p j).low (bounds_at p j).high)

-- ---- the lines

four_none : (a b c d : Bool) → a ≡ false → b ≡ false → c ≡ false → d ≡ false → first_of ((a, kinds.NameLong) ∷ (b, kinds.NameUnknown) ∷ (c, kinds.NumberText) ∷ (d, kinds.NumberPast) ∷ []) ≡ None
four_none a b c d e f g h = rw (e, f, g, h) refl

-- a bound of the set BND
abbrev of_set : List ℕ → Option (List ℕ) → Bounded
of_set name number = record { set = codes "BND"; column = name; number = number }

-- fields that are a bound of a column that is known, with its value
record IsBound (told : Told) (word : List ℕ) (fields : List (List ℕ)) (kind : BoundKind) (name : List ℕ) (number : Option (List ℕ)) (value : ℚ) : Type 0 where
  words : AreWords (word ∷ fields)
  found : bound_in (word ∷ fields) ≡ Some (kind, of_set name number)
  tests : bound_tests told (bound_kind_in (word ∷ fields)) (word ∷ fields) ≡ bounded_tests told (Some (of_set name number))
  short : is_long name ≡ false
  known : is_some (place_of (names_of told.columns) name) ≡ true
  text : of_number is_no_number number ≡ false
  past : of_number is_past number ≡ false
  value_is : bound_value number ≡ value

used_bound : (u : Bool) (b : BoundTelling) (ts : List BoundTelling) → u ≡ true → (if u then b ∷ ts else ts) ≡ b ∷ ts
used_bound u b ts e = rw e refl

module _ (p : Program) (good : IsProgram p) (small : HasSmallNumbers p) (a : Bool) (sides : List Telling) (plain_sides : map bare sides ≡ sides) (b : Bool) (ranges : List Telling) (plain_ranges : map bare ranges ≡ ranges) where
  earlier : List Section
  earlier = with_section b sections.Ranges (with_section a sections.Rhs first_sections)

  stage : Bool → List BoundTelling → Told
  stage c ts = behind_columns p (sections.Bounds ∷ with_section b sections.Ranges (with_section a sections.Rhs first_sections)) a sides b ranges c ts []

  plain_stage : (s : Option (List ℕ)) (ts : List BoundTelling)
      → record (stage false ts) { bound_set = s; entries = map bare (entries_told p (length p.columns)); sides = map bare sides; ranges = map bare ranges } ≡ record (stage false ts) { bound_set = s }
  unfolding stage
  plain_stage s ts =
      ap (λ (es : List Telling). record (stage false ts) { bound_set = s; entries = es; sides = map bare sides; ranges = map bare ranges }) (entries_bare p (length p.columns))
      ∙ ap (λ (us : List Telling). record (stage false ts) { bound_set = s; sides = us; ranges = map bare ranges }) plain_sides
      ∙ ap (λ (us : List Telling). record (stage false ts) { bound_set = s; ranges = us }) plain_ranges

  bound_read : (c : Bool) (ts : List BoundTelling) (word : List ℕ) (fields : List (List ℕ)) (kind : BoundKind) (name : List ℕ) (number : Option (List ℕ)) (value : ℚ) → IsBound (stage c ts) word fields kind name number value
      → Lead (stage c ts) (data_line (word ∷ fields) ∷ []) (stage true (bound_telling kind name value ∷ ts))
  unfolding stage
  bound_read c ts word fields kind name number value h =
      let none : first_of (data_tests (stage c ts) sections.Bounds (word ∷ fields)) ≡ None = ap first_of h.tests ∙ four_none _ _ _ _ h.short (is_known _ h.known) h.text h.past in
      let t = takes_data (stage c ts) sections.Bounds (with_section b sections.Ranges (with_section a sections.Rhs first_sections)) word fields refl h.words none in (
        t.0,
        t.1
            ∙ ap (λ (o : Option (BoundKind × Bounded)). record (stage false (with_bound (set_if c (codes "BND")) o ts)) { bound_set = first_named (set_if c (codes "BND")) (bound_set_of o); entries = map bare (entries_told p (length p.columns)); sides = map bare sides; ranges = map bare ranges }) h.found
            ∙ plain_stage (first_named (set_if c (codes "BND")) (Some (codes "BND"))) (with_bound (set_if c (codes "BND")) (Some (kind, of_set name number)) ts)
            ∙ ap (λ (s : Option (List ℕ)). record (stage false (with_bound (set_if c (codes "BND")) (Some (kind, of_set name number)) ts)) { bound_set = s }) (named_set c (codes "BND"))
            ∙ ap (λ (us : List BoundTelling). stage true us) (used_bound (is_used (set_if c (codes "BND")) (codes "BND")) (bound_telling kind name (bound_value number)) ts (used_set c (codes "BND")))
            ∙ ap (λ (v : ℚ). stage true (bound_telling kind name v ∷ ts)) h.value_is,
      )

  module _ (j : ℕ) (lt : j < length p.columns) where
    known : is_some (place_of (names_of (told_columns p (length p.columns))) (column_name p j)) ≡ true
    known = known_column p good small (length p.columns) j lt

    text_none : (q : ℚ) → Fits max_part q → (of_number is_no_number (Some (text_of q)) ≡ false) × (of_number is_past (Some (text_of q)) ≡ false) × (bound_value (Some (text_of q)) ≡ q)
    text_none q h = (no_text (number_of (text_of q)) q (number_back q h), no_past (number_of (text_of q)) q (number_back q h), ap value_or_zero (number_back q h))

    low_read : (c : Bool) (ts : List BoundTelling) (q : ℚ) → Fits max_part q → Lead (stage c ts) (bound_line (codes "LO") (column_name p j) q ∷ []) (stage true (bound_telling bound_kinds.Lower (column_name p j) q ∷ ts))
    unfolding stage
    low_read c ts q h =
        let n = text_none q h in
        bound_read c ts (codes "LO") (codes "BND" ∷ column_name p j ∷ text_of q ∷ []) bound_kinds.Lower (column_name p j) (Some (text_of q)) q
        (record { words = (record { word = refl }, (record { word = refl }, (column_word p good j lt, (number_word q h, tt)))); found = refl; tests = refl; short = column_short p good j lt; known = known; text = n.0; past = n.1; value_is = n.2 })

    high_read : (c : Bool) (ts : List BoundTelling) (q : ℚ) → Fits max_part q → Lead (stage c ts) (bound_line (codes "UP") (column_name p j) q ∷ []) (stage true (bound_telling bound_kinds.Upper (column_name p j) q ∷ ts))
    unfolding stage
    high_read c ts q h =
        let n = text_none q h in
        bound_read c ts (codes "UP") (codes "BND" ∷ column_name p j ∷ text_of q ∷ []) bound_kinds.Upper (column_name p j) (Some (text_of q)) q
        (record { words = (record { word = refl }, (record { word = refl }, (column_word p good j lt, (number_word q h, tt)))); found = refl; tests = refl; short = column_short p good j lt; known = known; text = n.0; past = n.1; value_is = n.2 })

    fixed_read : (c : Bool) (ts : List BoundTelling) (q : ℚ) → Fits max_part q → Lead (stage c ts) (bound_line (codes "FX") (column_name p j) q ∷ []) (stage true (bound_telling bound_kinds.Fixed (column_name p j) q ∷ ts))
    unfolding stage
    fixed_read c ts q h =
        let n = text_none q h in
        bound_read c ts (codes "FX") (codes "BND" ∷ column_name p j ∷ text_of q ∷ []) bound_kinds.Fixed (column_name p j) (Some (text_of q)) q
        (record { words = (record { word = refl }, (record { word = refl }, (column_word p good j lt, (number_word q h, tt)))); found = refl; tests = refl; short = column_short p good j lt; known = known; text = n.0; past = n.1; value_is = n.2 })

    free_read : (c : Bool) (ts : List BoundTelling) → Lead (stage c ts) (data_line (codes "FR" ∷ codes "BND" ∷ column_name p j ∷ []) ∷ []) (stage true (bound_telling bound_kinds.Free (column_name p j) zero_ℚ ∷ ts))
    unfolding stage
    free_read c ts =
        bound_read c ts (codes "FR") (codes "BND" ∷ column_name p j ∷ []) bound_kinds.Free (column_name p j) None zero_ℚ
        (record { words = (record { word = refl }, (record { word = refl }, (column_word p good j lt, tt))); found = refl; tests = refl; short = column_short p good j lt; known = known; text = refl; past = refl; value_is = refl })

    minus_read : (c : Bool) (ts : List BoundTelling) → Lead (stage c ts) (data_line (codes "MI" ∷ codes "BND" ∷ column_name p j ∷ []) ∷ []) (stage true (bound_telling bound_kinds.MinusInfinity (column_name p j) zero_ℚ ∷ ts))
    unfolding stage
    minus_read c ts =
        bound_read c ts (codes "MI") (codes "BND" ∷ column_name p j ∷ []) bound_kinds.MinusInfinity (column_name p j) None zero_ℚ
        (record { words = (record { word = refl }, (record { word = refl }, (column_word p good j lt, tt))); found = refl; tests = refl; short = column_short p good j lt; known = known; text = refl; past = refl; value_is = refl })

    -- the section is begun, whether it was or not
    begun_now : (c : Bool) (ts us : List BoundTelling) (lines : List (List ℕ)) → has_lines lines ≡ true → Lead (stage c ts) lines (stage true us) → Lead (stage c ts) lines (stage (c || has_lines lines) us)
    begun_now c ts us lines e h = lead_to (stage c ts) (stage true us) (stage (c || has_lines lines) us) lines (ap (λ (d : Bool). stage d us) (sym (or_true c) ∙ ap (λ (d : Bool). c || d) (sym e))) h

    one_read : (c d : Bool) (ts : List BoundTelling) (low : ℚ) → Fits max_part low
        → Lead (stage c ts) (if d then [] else number_line (codes "LO" ∷ codes "BND" ∷ column_name p j ∷ []) low ∷ []) (stage (c || has_lines (if d then [] else number_line (codes "LO" ∷ codes "BND" ∷ column_name p j ∷ []) low ∷ [])) ((if d then [] else bound_telling bound_kinds.Lower (column_name p j) low ∷ []) ++ ts))
    one_read c true ts low h = ap (λ (d : Bool). stage d ts) (sym (or_false c))
    one_read c false ts low h = begun_now c ts (bound_telling bound_kinds.Lower (column_name p j) low ∷ ts) (number_line (codes "LO" ∷ codes "BND" ∷ column_name p j ∷ []) low ∷ []) refl (low_read c ts low h)

    two_read : (c d : Bool) (ts : List BoundTelling) (low high : ℚ) → Fits max_part low → Fits max_part high
        → Lead (stage c ts) ((if d then [] else bound_line (codes "LO") (column_name p j) low ∷ []) ++ bound_line (codes "UP") (column_name p j) high ∷ [])
        (stage true ((bound_telling bound_kinds.Upper (column_name p j) high ∷ (if d then [] else bound_telling bound_kinds.Lower (column_name p j) low ∷ [])) ++ ts))
    two_read c true ts low high h k = high_read c ts high k
    two_read c false ts low high h k =
        lead_on _ _ _ (bound_line (codes "LO") (column_name p j) low ∷ []) (bound_line (codes "UP") (column_name p j) high ∷ []) (low_read c ts low h) (high_read true (bound_telling bound_kinds.Lower (column_name p j) low ∷ ts) high k)

    some_lines : (d : Bool) (line last : List ℕ) → has_lines ((if d then [] else line ∷ []) ++ last ∷ []) ≡ true
    some_lines true line last = refl
    some_lines false line last = refl

    both_read : (c d : Bool) (ts : List BoundTelling) (low high : ℚ) → Fits max_part low → Fits max_part high
        → Lead (stage c ts) (if d then bound_line (codes "FX") (column_name p j) low ∷ [] else (low_lines (column_name p j) low high ++ bound_line (codes "UP") (column_name p j) high ∷ []))
        (stage (c || has_lines (if d then bound_line (codes "FX") (column_name p j) low ∷ [] else (low_lines (column_name p j) low high ++ bound_line (codes "UP") (column_name p j) high ∷ [])))
        ((if d then bound_telling bound_kinds.Fixed (column_name p j) low ∷ [] else (bound_telling bound_kinds.Upper (column_name p j) high ∷ low_told (column_name p j) low high)) ++ ts))
    both_read c true ts low high h k = begun_now c ts (bound_telling bound_kinds.Fixed (column_name p j) low ∷ ts) (bound_line (codes "FX") (column_name p j) low ∷ []) refl (fixed_read c ts low h)
    both_read c false ts low high h k =
        begun_now c ts ((bound_telling bound_kinds.Upper (column_name p j) high ∷ low_told (column_name p j) low high) ++ ts) (low_lines (column_name p j) low high ++ bound_line (codes "UP") (column_name p j) high ∷ [])
        (some_lines (is_zero low && not (is_negative high)) (bound_line (codes "LO") (column_name p j) low) (bound_line (codes "UP") (column_name p j) high))
        (two_read c (is_zero low && not (is_negative high)) ts low high h k)

    bounds_read_by : (c : Bool) (ts : List BoundTelling) (low high : Option ℚ) → IfSome low (λ q. Fits max_part q) → IfSome high (λ q. Fits max_part q)
        → Lead (stage c ts) (bound_lines (column_name p j) low high) (stage (c || has_lines (bound_lines (column_name p j) low high)) (bound_told (column_name p j) low high ++ ts))
    bounds_read_by c ts None None h k = begun_now c ts _ (bound_lines (column_name p j) None None) refl (free_read c ts)
    bounds_read_by c ts None (Some high) h k =
        begun_now c ts _ (bound_lines (column_name p j) None (Some high)) refl
        (lead_on _ _ _ (data_line (codes "MI" ∷ codes "BND" ∷ column_name p j ∷ []) ∷ []) (bound_line (codes "UP") (column_name p j) high ∷ []) (minus_read c ts) (high_read true (bound_telling bound_kinds.MinusInfinity (column_name p j) zero_ℚ ∷ ts) high k))
    bounds_read_by c ts (Some low) None h k = one_read c (is_zero low) ts low h
    bounds_read_by c ts (Some low) (Some high) h k = both_read c (same_fields low high) ts low high h k

  bound_lines_to : ℕ → List (List ℕ)
  bound_lines_to n = each n (λ j. bound_lines (column_name p j) (bounds_at p j).low (bounds_at p j).high)

  column_bounds_read : (j : ℕ) → j < length p.columns → Lead (stage (has_lines (bound_lines_to j)) (bounds_told p j)) (bound_lines (column_name p j) (bounds_at p j).low (bounds_at p j).high) (stage (has_lines (bound_lines_to (suc j))) (bounds_told p (suc j)))
  unfolding bound_lines_to
  column_bounds_read j lt =
      lead_to _ _ _ (bound_lines (column_name p j) (bounds_at p j).low (bounds_at p j).high)
      (ap (λ (c : Bool). stage c (bounds_told p (suc j))) (sym (has_append (bound_lines_to j) (bound_lines (column_name p j) (bounds_at p j).low (bounds_at p j).high))))
      (bounds_read_by j lt (has_lines (bound_lines_to j)) (bounds_told p j) (bounds_at p j).low (bounds_at p j).high (small.bounds j).low (small.bounds j).high)

  abbrev pub bounds_done : Bool → List BoundTelling → Told
  bounds_done c ts = behind_columns p (with_section c sections.Bounds (with_section b sections.Ranges (with_section a sections.Rhs first_sections))) a sides b ranges c ts []

  closed_bounds : (c : Bool) (ts : List BoundTelling) → c ≡ true → stage c ts ≡ bounds_done c ts
  unfolding stage
  closed_bounds true ts e = refl
  closed_bounds false ts e = absurd cc

  nothing_of_bound : (name : List ℕ) (low high : Option ℚ) → bound_lines name low high ≡ [] → bound_told name low high ≡ []
  nothing_of_bound name None None e = absurd cc
  nothing_of_bound name None (Some high) e = absurd cc
  nothing_of_bound name (Some low) None e = by (is_zero low) e
    where
      by : (d : Bool) → (if d then [] else number_line (codes "LO" ∷ codes "BND" ∷ name ∷ []) low ∷ []) ≡ [] → (if d then [] else bound_telling bound_kinds.Lower name low ∷ []) ≡ []
      by true e = refl
      by false e = absurd cc
  nothing_of_bound name (Some low) (Some high) e = by (same_fields low high) (is_zero low && not (is_negative high)) e
    where
      by : (d f : Bool) → (if d then bound_line (codes "FX") name low ∷ [] else ((if f then [] else bound_line (codes "LO") name low ∷ []) ++ bound_line (codes "UP") name high ∷ [])) ≡ []
          → (if d then bound_telling bound_kinds.Fixed name low ∷ [] else (bound_telling bound_kinds.Upper name high ∷ (if f then [] else bound_telling bound_kinds.Lower name low ∷ []))) ≡ []
      by true f e = absurd cc
      by false true e = absurd cc
      by false false e = absurd cc

  no_bounds_told : bound_lines_to (length p.columns) ≡ [] → bounds_told p (length p.columns) ≡ []
  unfolding bound_lines_to
  no_bounds_told e =
      nothing_each (length p.columns) (λ j. bound_lines (column_name p j) (bounds_at p j).low (bounds_at p j).high) (λ j. bound_told (column_name p j) (bounds_at p j).low (bounds_at p j).high)
      (λ j none. nothing_of_bound (column_name p j) (bounds_at p j).low (bounds_at p j).high none) e

  header_clean : (d e : Bool) → first_of (header_tests (behind_columns p (with_section e sections.Ranges (with_section d sections.Rhs first_sections)) a sides b ranges false [] []) (Some sections.Bounds)) ≡ None
  header_clean true true = refl
  header_clean true false = refl
  header_clean false true = refl
  header_clean false false = refl

  bounds_header : Lead (behind_columns p (with_section b sections.Ranges (with_section a sections.Rhs first_sections)) a sides b ranges false [] []) (codes "BOUNDS" ∷ []) (stage false [])
  unfolding stage
  bounds_header =
      let t = takes_header (behind_columns p (with_section b sections.Ranges (with_section a sections.Rhs first_sections)) a sides b ranges false [] []) (codes "BOUNDS") sections.Bounds refl refl refl refl refl refl (header_clean a b) refl in
      (t.0, t.1 ∙ plain_stage None [])

  -- the section
  pub bounds_read : Lead (behind_columns p (with_section b sections.Ranges (with_section a sections.Rhs first_sections)) a sides b ranges false [] []) (bounds_lines p)
      (bounds_done (has_lines (each (length p.columns) (λ j. bound_lines (column_name p j) (bounds_at p j).low (bounds_at p j).high))) (bounds_told p (length p.columns)))
  unfolding stage bound_lines_to
  bounds_read =
      section_read (codes "BOUNDS") (bound_lines_to (length p.columns)) _ (stage false []) (stage (has_lines (bound_lines_to (length p.columns))) (bounds_told p (length p.columns))) _
      bounds_header
      (lead_each (length p.columns) (λ j. bound_lines (column_name p j) (bounds_at p j).low (bounds_at p j).high) (λ j. stage (has_lines (bound_lines_to j)) (bounds_told p j)) column_bounds_read)
      (λ none. ap (λ (c : Bool). bounds_done c []) (sym (ap has_lines none)) ∙ ap (λ (ts : List BoundTelling). bounds_done (has_lines (bound_lines_to (length p.columns))) ts) (sym (no_bounds_told none)))
      (λ some. closed_bounds (has_lines (bound_lines_to (length p.columns))) (bounds_told p (length p.columns)) some)
