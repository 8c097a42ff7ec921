-- The quadratic part of a program's text is read back.
use Rattle.std.specs.Prelude.{◌≡◌, ◌<◌, ◌≤◌, ◌+◌, ◌-◌, ◌&&◌, ◌||◌, ℕ, suc, Bool, true, false, List, [], ◌∷◌, ◌++◌, map, length, Option, Some, None, is_some, unwrap_or, codes, if◌then◌else◌}
use Rattle.std.proofs.Common.{arith, refl, sym, ap, subst, append_assoc, ◌∙◌, inl, inr}
use Rattle.std.proofs.lemmas.Bool.{cases_lt}
use Rattle.rational.specs.Rational.{ℚ, Fits, zero_ℚ}
use Rattle.frac_core.specs.Parts.{max_part}
use Rattle.frac_core.specs.Text.{text_of}
use Rattle.rational.specs.Tests.{is_zero}
use Rattle.program_law.specs.Program.{Program, IsProgram}
use Rattle.rational.specs.Sums.{entry}
use Rattle.rational.specs.Vectors.{row_at}
use Rattle.program_law.specs.Places.{place_of}
use Rattle.mps_tokens.specs.Numbers.{number_of}
use Rattle.mps_tokens.specs.declared.words.Section.TheVariants as sections
use Rattle.named_things.specs.Named.{names_of}
use Rattle.mps_grammar.specs.Told.{Told, Telling, BoundTelling, value_or_zero}
use Rattle.mps_grammar.specs.Faults.{first_of, is_long, header_tests, data_tests}
use Rattle.mps_grammar.specs.Programs.{value_at, or_other}
use Rattle.mps_writer_law.specs.Lines.{each, number_line, has_lines}
use Rattle.mps_writer_law.specs.Small.{HasSmallNumbers}
use Rattle.mps_writer_law.specs.Canonical.{column_name, pair_lines, row_pair_lines, pairs_lines}
use Rattle.mps_writer_law.proofs.Numerals.{number_back}
use Rattle.mps_writer_law.proofs.Erased.{bare}
use Rattle.mps_writer_law.proofs.Fields.{IsWord, number_word}
use Rattle.mps_writer_law.proofs.Lookups.{telling, none_told, value-append, value_nowhere, value_somewhere, value_elsewhere, value_here, column_differs, row_differs, or_none}
use Rattle.mps_writer_law.proofs.Names.{column_word, column_short, columns_differ}
use Rattle.mps_writer_law.proofs.Runs.{Lead, lead_to, lead_each, takes_data, takes_header}
use Rattle.mps_writer_law.proofs.ColumnsBack.{no_text, no_past, is_known, long_none, one_none, known_column}
use Rattle.mps_writer_law.proofs.EntriesBack.{entries_bare, append_bare, each_bare, unless_zero_bare}
use Rattle.mps_writer_law.proofs.SectionsBack.{section_read, nothing_each, nothing_of_zero}
use Rattle.mps_writer_law.proofs.SidesBack.{five_none}
use Rattle.mps_writer_law.proofs.Stages.{told_columns, entries_told, with_section, pair_told, row_pairs_told, pairs_told, behind_columns, first_sections}

-- ---- what is found

module _ (p : Program) (good : IsProgram p) where
  -- nothing under a column that comes later
  later_column : (n k : ℕ) (r : List ℕ) → n ≤ k → k < length p.columns → value_at (pairs_told p n) (column_name p k) r ≡ None
  later_column n k r above lt =
      value_nowhere n (λ j. row_pairs_told p j (length p.columns - j)) (column_name p k) r
      (λ j less. value_nowhere (length p.columns - j) (λ d. pair_told p j (j + d)) (column_name p k) r
      (λ d within. value_elsewhere (column_name p j) (column_name p (j + d)) (column_name p k) r (entry (row_at p.pairs j) (j + d))
      (column_differs (column_name p k) (column_name p j) r (column_name p (j + d)) (columns_differ p good k j lt (omega (arith, less)) (λ e. omega (arith, less))))))

  earlier_pairs : (j d : ℕ) → j + d < length p.columns → value_at (row_pairs_told p j d) (column_name p j) (column_name p (j + d)) ≡ None
  earlier_pairs j d lt =
      value_nowhere d (λ e. pair_told p j (j + e)) (column_name p j) (column_name p (j + d))
      (λ e less. value_elsewhere (column_name p j) (column_name p (j + e)) (column_name p j) (column_name p (j + d)) (entry (row_at p.pairs j) (j + e))
      (row_differs (column_name p j) (column_name p j) (column_name p (j + d)) (column_name p (j + e)) (columns_differ p good (j + d) (j + e) lt (omega (arith, less)) (λ same. omega (arith, less)))))

  earlier_turned : (j d : ℕ) → j + d < length p.columns → value_at (row_pairs_told p j d) (column_name p (j + d)) (column_name p j) ≡ None
  earlier_turned j d lt =
      value_nowhere d (λ e. pair_told p j (j + e)) (column_name p (j + d)) (column_name p j)
      (λ e less. value_elsewhere (column_name p j) (column_name p (j + e)) (column_name p (j + d)) (column_name p j) (entry (row_at p.pairs j) (j + e))
      (column_differs (column_name p (j + d)) (column_name p j) (column_name p j) (column_name p (j + e)) (columns_differ p good (j + d) j lt (omega (arith, less)) (λ same. omega (arith, less)))))

  before_pair : (j d : ℕ) → j + d < length p.columns → value_at (row_pairs_told p j d ++ pairs_told p j) (column_name p j) (column_name p (j + d)) ≡ None
  before_pair j d lt = value-append (row_pairs_told p j d) (pairs_told p j) (column_name p j) (column_name p (j + d)) ∙ rw (earlier_pairs j d lt, later_column j j (column_name p (j + d)) (omega arith) (omega (arith, lt))) refl

  before_turned : (j d : ℕ) → j + d < length p.columns → value_at (row_pairs_told p j d ++ pairs_told p j) (column_name p (j + d)) (column_name p j) ≡ None
  before_turned j d lt = value-append (row_pairs_told p j d) (pairs_told p j) (column_name p (j + d)) (column_name p j) ∙ rw (earlier_turned j d lt, later_column j (j + d) (column_name p j) (omega arith) lt) refl

  own_row : (j : ℕ) (r : List ℕ) → j < length p.columns → value_at (pairs_told p (length p.columns)) (column_name p j) r ≡ value_at (row_pairs_told p j (length p.columns - j)) (column_name p j) r
  own_row j r lt =
      value_somewhere (length p.columns) (λ k. row_pairs_told p k (length p.columns - k)) (column_name p j) r j lt
      (λ k less differs. value_nowhere (length p.columns - k) (λ d. pair_told p k (k + d)) (column_name p j) r
      (λ d within. value_elsewhere (column_name p k) (column_name p (k + d)) (column_name p j) r (entry (row_at p.pairs k) (k + d))
      (column_differs (column_name p j) (column_name p k) r (column_name p (k + d)) (columns_differ p good j k lt less (λ e. differs (sym e))))))

  -- an entry from the diagonal on
  upper_found : (j d : ℕ) → j + d < length p.columns → value_at (pairs_told p (length p.columns)) (column_name p j) (column_name p (j + d)) ≡ value_at (pair_told p j (j + d)) (column_name p j) (column_name p (j + d))
  upper_found j d lt =
      own_row j (column_name p (j + d)) (omega (arith, lt))
      ∙ value_somewhere (length p.columns - j) (λ e. pair_told p j (j + e)) (column_name p j) (column_name p (j + d)) d (omega (arith, lt))
      (λ e less differs. value_elsewhere (column_name p j) (column_name p (j + e)) (column_name p j) (column_name p (j + d)) (entry (row_at p.pairs j) (j + e))
      (row_differs (column_name p j) (column_name p j) (column_name p (j + d)) (column_name p (j + e)) (columns_differ p good (j + d) (j + e) lt (omega (arith, less)) (λ same. differs (omega (arith, same))))))

  -- an entry below it isn't told
  lower_missing : (j k : ℕ) → j < k → k < length p.columns → value_at (pairs_told p (length p.columns)) (column_name p k) (column_name p j) ≡ None
  lower_missing j k less lt =
      own_row k (column_name p j) lt
      ∙ value_nowhere (length p.columns - k) (λ d. pair_told p k (k + d)) (column_name p k) (column_name p j)
      (λ d within. value_elsewhere (column_name p k) (column_name p (k + d)) (column_name p k) (column_name p j) (entry (row_at p.pairs k) (k + d))
      (row_differs (column_name p k) (column_name p k) (column_name p j) (column_name p (k + d)) (columns_differ p good j (k + d) (omega (arith, less, lt)) (omega (arith, within)) (λ same. omega (arith, less, same)))))

  either_way : List ℕ → List ℕ → ℚ
  either_way one other = unwrap_or (or_other (value_at (pairs_told p (length p.columns)) one other) (value_at (pairs_told p (length p.columns)) other one)) zero_ℚ

  or_same : {A : Type 0} (o : Option A) → or_other o o ≡ o
  or_same None = refl
  or_same (Some x) = refl

  upper_pair : (j k : ℕ) → j ≤ k → k < length p.columns → unwrap_or (value_at (pairs_told p (length p.columns)) (column_name p j) (column_name p k)) zero_ℚ ≡ entry (row_at p.pairs j) k
  upper_pair j k le lt =
      let split : k ≡ j + (k - j) = omega arith in
      subst (λ (m : ℕ). unwrap_or (value_at (pairs_told p (length p.columns)) (column_name p j) (column_name p m)) zero_ℚ ≡ entry (row_at p.pairs j) m) (sym split)
      (ap (λ (o : Option ℚ). unwrap_or o zero_ℚ) (upper_found j (k - j) (omega arith)) ∙ value_here (column_name p j) (column_name p (j + (k - j))) (entry (row_at p.pairs j) (j + (k - j))))

  -- each entry of Q, in either order
  pub found_pair : (j k : ℕ) → j < length p.columns → k < length p.columns
      → unwrap_or (or_other (value_at (pairs_told p (length p.columns)) (column_name p j) (column_name p k)) (value_at (pairs_told p (length p.columns)) (column_name p k) (column_name p j))) zero_ℚ ≡ entry (row_at p.pairs j) k
  found_pair j k jt kt =
      elim (cases_lt j k) [
        | inl less ↦
            ap (λ (o : Option ℚ). unwrap_or (or_other (value_at (pairs_told p (length p.columns)) (column_name p j) (column_name p k)) o) zero_ℚ) (lower_missing j k less kt)
            ∙ ap (λ (o : Option ℚ). unwrap_or o zero_ℚ) (or_none (value_at (pairs_told p (length p.columns)) (column_name p j) (column_name p k)))
            ∙ upper_pair j k (omega (arith, less)) kt
        | inr above ↦ elim (cases_lt k j) [
          | inl more ↦
              ap (λ (o : Option ℚ). unwrap_or (or_other o (value_at (pairs_told p (length p.columns)) (column_name p k) (column_name p j))) zero_ℚ) (lower_missing k j more jt)
              ∙ upper_pair k j above jt ∙ sym (good.symmetric j k)
          | inr below ↦
              let same : k ≡ j = omega (arith, above, below) in
              subst (λ (m : ℕ). unwrap_or (or_other (value_at (pairs_told p (length p.columns)) (column_name p j) (column_name p m)) (value_at (pairs_told p (length p.columns)) (column_name p m) (column_name p j))) zero_ℚ ≡ entry (row_at p.pairs j) m) (sym same)
              (ap (λ (o : Option ℚ). unwrap_or o zero_ℚ) (or_same (value_at (pairs_told p (length p.columns)) (column_name p j) (column_name p j))) ∙ upper_pair j j (omega arith) jt)
        ]
      ]

-- no lines, no entries
pub no_pairs_told : (p : Program) → each (length p.columns) (row_pair_lines p) ≡ [] → pairs_told p (length p.columns) ≡ []
no_pairs_told p e =
    nothing_each (length p.columns) (row_pair_lines p) (λ j. row_pairs_told p j (length p.columns - j))
    (λ j none. nothing_each (length p.columns - j) (λ d. pair_lines p j (j + d)) (λ d. pair_told p j (j + d)) (λ d none. nothing_of_zero (column_name p j ∷ column_name p (j + d) ∷ []) (column_name p j) (column_name p (j + d)) (entry (row_at p.pairs j) (j + d)) none) none)
    e

-- ---- the lines

pub all_pairs_bare : (p : Program) (n : ℕ) → map bare (pairs_told p n) ≡ pairs_told p n
all_pairs_bare p n = each_bare n (λ j. row_pairs_told p j (length p.columns - j)) (λ j. each_bare (length p.columns - j) (λ d. pair_told p j (j + d)) (λ d. unless_zero_bare (column_name p j) (column_name p (j + d)) (entry (row_at p.pairs j) (j + d))))

-- an entry that is new in either order, with columns that are known
record IsNextPair (p : Program) (ts : List Telling) (head name : List ℕ) (q : ℚ) : Type 0 where
  head_word : IsWord head
  name_word : IsWord name
  short_head : is_long head ≡ false
  short_name : is_long name ≡ false
  known_head : is_some (place_of (names_of (told_columns p (length p.columns))) head) ≡ true
  known_name : is_some (place_of (names_of (told_columns p (length p.columns))) name) ≡ true
  small : Fits max_part q
  new : value_at ts head name ≡ None
  new_turned : value_at ts name head ≡ None

either_none : (a b : Bool) → a ≡ false → b ≡ false → (a || (b || false)) ≡ false
either_none a b e f = rw (e, f) refl

neither_twice : (a b : Bool) → a ≡ false → b ≡ false → ((true && ((a || b) || false)) || false) ≡ false
neither_twice a b e f = rw (e, f) refl

module _ (p : Program) (good : IsProgram p) (small : HasSmallNumbers p) (a : Bool) (sides : List Telling) (plain_sides : map bare sides ≡ sides) (b : Bool) (ranges : List Telling) (plain_ranges : map bare ranges ≡ ranges) (c : Bool) (bounds : List BoundTelling) where
  stage : List Telling → Told
  stage ts = behind_columns p (sections.QuadObj ∷ with_section c sections.Bounds (with_section b sections.Ranges (with_section a sections.Rhs first_sections))) a sides b ranges c bounds ts

  plain_stage : (ts : List Telling) → record (stage ts) { entries = map bare (entries_told p (length p.columns)); sides = map bare sides; ranges = map bare ranges } ≡ stage ts
  unfolding stage
  plain_stage ts =
      ap (λ (es : List Telling). record (stage ts) { entries = es; sides = map bare sides; ranges = map bare ranges }) (entries_bare p (length p.columns))
      ∙ ap (λ (us : List Telling). record (stage ts) { sides = us; ranges = map bare ranges }) plain_sides
      ∙ ap (λ (us : List Telling). record (stage ts) { ranges = us }) plain_ranges

  -- what is told before a pair's line
  told_before : ℕ → ℕ → List Telling
  told_before j d = row_pairs_told p j d ++ pairs_told p j

  before_bare : (j d : ℕ) → map bare (told_before j d) ≡ told_before j d
  unfolding told_before
  before_bare j d = append_bare (row_pairs_told p j d) (pairs_told p j) (each_bare d (λ e. pair_told p j (j + e)) (λ e. unless_zero_bare (column_name p j) (column_name p (j + e)) (entry (row_at p.pairs j) (j + e)))) (all_pairs_bare p j)

  -- one line with an entry of Q
  pair_line_read : (ts : List Telling) → map bare ts ≡ ts → (head name : List ℕ) (q : ℚ) → IsNextPair p ts head name q
      → Lead (stage ts) (number_line (head ∷ name ∷ []) q ∷ []) (stage (telling head name q ∷ ts))
  unfolding stage
  pair_line_read ts plain head name q h =
      let read = number_back q h.small in
      let none : first_of (data_tests (stage ts) sections.QuadObj (head ∷ name ∷ text_of q ∷ [])) ≡ None =
      five_none _ _ _ _ _ (long_none _ _ h.short_head h.short_name) (either_none _ _ (is_known _ h.known_head) (is_known _ h.known_name)) (one_none _ (no_text _ q read)) (one_none _ (no_past _ q read))
      (neither_twice _ _ (none_told ts head name h.new) (none_told ts name head h.new_turned)) in
      let t = takes_data (stage ts) sections.QuadObj (with_section c sections.Bounds (with_section b sections.Ranges (with_section a sections.Rhs first_sections))) head (name ∷ text_of q ∷ []) refl (h.head_word, (h.name_word, (number_word q h.small, tt))) none in (
        t.0,
        t.1
            ∙ plain_stage (telling head name (value_or_zero (number_of (text_of q))) ∷ map bare ts)
            ∙ ap (λ (v : ℚ). stage (telling head name v ∷ map bare ts)) (ap value_or_zero read)
            ∙ ap (λ (us : List Telling). stage (telling head name q ∷ us)) plain,
      )

  pair_read : (j d : ℕ) → j + d < length p.columns → (zero_or_not : Bool)
      → Lead (stage (told_before j d)) (if zero_or_not then [] else number_line (column_name p j ∷ column_name p (j + d) ∷ []) (entry (row_at p.pairs j) (j + d)) ∷ [])
      (stage ((if zero_or_not then [] else telling (column_name p j) (column_name p (j + d)) (entry (row_at p.pairs j) (j + d)) ∷ []) ++ told_before j d))
  unfolding told_before
  pair_read j d lt true = refl
  pair_read j d lt false =
      let jt : j < length p.columns = omega (arith, lt) in
      pair_line_read (told_before j d) (before_bare j d) (column_name p j) (column_name p (j + d)) (entry (row_at p.pairs j) (j + d))
      (record {
        head_word = column_word p good j jt;
        name_word = column_word p good (j + d) lt;
        short_head = column_short p good j jt;
        short_name = column_short p good (j + d) lt;
        known_head = known_column p good small (length p.columns) j jt;
        known_name = known_column p good small (length p.columns) (j + d) lt;
        small = small.pairs j (j + d);
        new = before_pair p good j d lt;
        new_turned = before_turned p good j d lt;
      })

  row_pairs_read : (j : ℕ) → j < length p.columns → Lead (stage (pairs_told p j)) (row_pair_lines p j) (stage (pairs_told p (suc j)))
  unfolding told_before
  row_pairs_read j jt =
      lead_each (length p.columns - j) (λ d. pair_lines p j (j + d)) (λ d. stage (told_before j d))
      (λ d within. lead_to _ _ _ (pair_lines p j (j + d)) (ap stage (sym (append_assoc (pair_told p j (j + d)) (row_pairs_told p j d) (pairs_told p j))))
      (pair_read j d (omega (arith, within)) (is_zero (entry (row_at p.pairs j) (j + d)))))

  abbrev pub pairs_done : Bool → List Telling → Told
  pairs_done d ts = behind_columns p (with_section d sections.QuadObj (with_section c sections.Bounds (with_section b sections.Ranges (with_section a sections.Rhs first_sections)))) a sides b ranges c bounds ts

  closed_pairs : (d : Bool) (ts : List Telling) → d ≡ true → stage ts ≡ pairs_done d ts
  unfolding stage
  closed_pairs true ts e = refl
  closed_pairs false ts e = absurd cc

  header_clean : (d e f : Bool) → first_of (header_tests (behind_columns p (with_section f sections.Bounds (with_section e sections.Ranges (with_section d sections.Rhs first_sections))) a sides b ranges c bounds []) (Some sections.QuadObj)) ≡ None
  header_clean true true true = refl
  header_clean true true false = refl
  header_clean true false true = refl
  header_clean true false false = refl
  header_clean false true true = refl
  header_clean false true false = refl
  header_clean false false true = refl
  header_clean false false false = refl

  pairs_header : Lead (behind_columns p (with_section c sections.Bounds (with_section b sections.Ranges (with_section a sections.Rhs first_sections))) a sides b ranges c bounds []) (codes "QUADOBJ" ∷ []) (stage [])
  unfolding stage
  pairs_header =
      let t = takes_header (behind_columns p (with_section c sections.Bounds (with_section b sections.Ranges (with_section a sections.Rhs first_sections))) a sides b ranges c bounds []) (codes "QUADOBJ") sections.QuadObj refl refl refl refl refl refl (header_clean a b c) refl in
      (t.0, t.1 ∙ plain_stage [])

  -- the section
  pub pairs_read : Lead (behind_columns p (with_section c sections.Bounds (with_section b sections.Ranges (with_section a sections.Rhs first_sections))) a sides b ranges c bounds []) (pairs_lines p)
      (pairs_done (has_lines (each (length p.columns) (row_pair_lines p))) (pairs_told p (length p.columns)))
  pairs_read =
      section_read (codes "QUADOBJ") (each (length p.columns) (row_pair_lines p)) _ (stage []) (stage (pairs_told p (length p.columns))) _
      pairs_header
      (lead_each (length p.columns) (row_pair_lines p) (λ j. stage (pairs_told p j)) row_pairs_read)
      (λ none. ap (λ (d : Bool). pairs_done d []) (sym (ap has_lines none)) ∙ ap (λ (ts : List Telling). pairs_done (has_lines (each (length p.columns) (row_pair_lines p))) ts) (sym (no_pairs_told p none)))
      (λ some. closed_pairs (has_lines (each (length p.columns) (row_pair_lines p))) (pairs_told p (length p.columns)) some)
