-- A program's text is read back as the program.
use Rattle.std.specs.Prelude.{◌≡◌, ◌≢◌, ◌<◌, ◌≤◌, ◌+◌, ◌||◌, not, min, ℕ, zero, suc, Bool, true, false, List, [], ◌∷◌, ◌++◌, map, length, Option, Some, None, IfSome, Result, Ok, unwrap_or, codes, if◌then◌else◌}
use Rattle.std.proofs.Common.{arith, refl, sym, ap, subst, append_assoc, ◌∙◌, inl, inr}
use Rattle.std.specs.List.{list_any, slice_split, AllByRecursion}
use Rattle.std.specs.Str.{bytes_eq}
use Rattle.std.proofs.lemmas.List.{length-append}
use Rattle.std.proofs.lemmas.Bool.{cases_lt}
use Rattle.std.proofs.lemmas.List.Concat.{flat_map-cons}
use Rattle.std.proofs.lemmas.List.Splits.{slice_split_at}
use Rattle.rational.specs.Rational.{ℚ, Fits, fits, zero_ℚ, ◌-ℚ◌}
use Rattle.rational.specs.Order.{same_fields}
use Rattle.rational.proofs.Fits.{fits_yes}
use Rattle.frac_core.specs.Parts.{max_part}
use Rattle.program_law.specs.Program.{Program, IsProgram, IsRow}
use Rattle.mps_tokens.specs.Lines.{is_line_feed, without_empty_last, raw_lines}
use Rattle.mps_tokens.specs.Written.{ended, IsLine}
use Rattle.mps_tokens.proofs.FirstLine.{keeps_first, split_has_first}
use Rattle.mps_tokens.specs.Cases.{named}
use Rattle.mps_tokens.specs.declared.words.Section.{Section}
use Rattle.mps_tokens.specs.declared.words.Section.TheVariants as sections
use Rattle.mps_tokens.specs.declared.words.RowKind.{RowKind}
use Rattle.mps_tokens.specs.declared.words.RowKind.TheVariants as row_kinds
use Rattle.mps_grammar.specs.Told.{Told, Telling, told_by, is_columns}
use Rattle.mps_grammar.specs.Faults.{first_of, reach, header_tests, line_fault}
use Rattle.mps_grammar.specs.Verdict.{Fault, verdict, verdict_of}
use Rattle.mps_grammar.specs.Programs.{value_at, value_told, or_other, range_side, makes_past, is_quadobj, gives_pairs_once, program_of, end_fault}
use Rattle.mps_grammar.specs.Reading.{Spot, behind, told_verdict, finished, read_told, read_of}
use Rattle.mps_writer_law.specs.Lines.{each, lines_text, has_lines}
use Rattle.mps_writer_law.specs.Small.{HasSmallNumbers}
use Rattle.mps_writer_law.specs.Canonical.{row_name, sides_at, right_side, width, side_lines, constant_lines, range_lines, bound_lines, column_name, bounds_at, row_pair_lines, rows_lines, columns_lines, right_sides_lines, ranges_lines, bounds_lines, pairs_lines, program_lines, text_of_program}
use Rattle.mps_grammar.proofs.After.{told_line}
use Rattle.mps_writer_law.proofs.Fields.{plain_line}
use Rattle.mps_writer_law.proofs.Erased.{bare, erase, fault_bare, after_bare}
use Rattle.mps_writer_law.proofs.Bared.{NonePast, program_bare, no_end_fault}
use Rattle.mps_writer_law.proofs.Lookups.{each_back, other_bytes, same_bytes}
use Rattle.mps_writer_law.proofs.Names.{rows_differ, objective_differs}
use Rattle.mps_writer_law.proofs.Runs.{Lead, lead_on, next, header_told, are_lines, bytes_of, onto, IsLed, led}
use Rattle.mps_writer_law.proofs.RowsBack.{rows_read}
use Rattle.mps_writer_law.proofs.ColumnsBack.{columns_read}
use Rattle.mps_writer_law.proofs.EntriesBack.{entries_bare}
use Rattle.mps_writer_law.proofs.SidesBack.{right_sides_read, sides_bare, found_side}
use Rattle.mps_writer_law.proofs.RangesBack.{ranges_read, ranges_bare, row_is_good}
use Rattle.mps_writer_law.proofs.BoundsBack.{bounds_read}
use Rattle.mps_writer_law.proofs.PairsBack.{pairs_read, all_pairs_bare, no_pairs_told}
use Rattle.mps_writer_law.proofs.ProgramBack.{range_reaches, program_made}
use Rattle.mps_writer_law.proofs.Stages.{nothing_told, kind_of, kind_at, told_rows, with_section, range_told, sides_told, ranges_told, bounds_told, pairs_told, behind_columns, first_sections}

regroup : (a b c d e f g : List (List ℕ)) → a ++ (b ++ (c ++ (d ++ (e ++ (f ++ g))))) ≡ (a ++ (b ++ (c ++ (d ++ (e ++ f))))) ++ g
regroup a b c d e f g = simp append_assoc

-- ---- lines of a text

line_first : (line rest : List ℕ) → IsLine line → raw_lines (ended line ++ rest) ≡ line ∷ raw_lines rest
line_first line rest h =
    let e : ended line ++ rest ≡ line ++ 10 ∷ rest = append_assoc line (10 ∷ []) rest in
    ap raw_lines e ∙ ap without_empty_last (slice_split_at is_line_feed line 10 rest h.one_line refl) ∙ keeps_first line (slice_split is_line_feed rest) (split_has_first is_line_feed rest)

lines_back : (lines : List (List ℕ)) → AllByRecursion IsLine lines → raw_lines (lines_text lines) ≡ lines
lines_back [] h = refl
lines_back (line ∷ lines) h = ap raw_lines (flat_map-cons ended line lines) ∙ line_first line (lines_text lines) h.0 ∙ ap (λ (ls : List (List ℕ)). line ∷ ls) (lines_back lines h.1)

text_length : (lines : List (List ℕ)) → length (lines_text lines) ≡ bytes_of lines
text_length [] = refl
text_length (line ∷ lines) =
    ap length (flat_map-cons ended line lines) ∙ length-append (ended line) (lines_text lines) ∙ ap (λ (n : ℕ). n + length (lines_text lines)) (length-append line (10 ∷ [])) ∙ ap (λ (n : ℕ). length line + 1 + n) (text_length lines)

bytes-append : (xs ys : List (List ℕ)) → bytes_of (xs ++ ys) ≡ bytes_of xs + bytes_of ys
bytes-append [] ys = omega arith
bytes-append (x ∷ xs) ys = ap (λ (n : ℕ). length x + 1 + n) (bytes-append xs ys) ∙ omega arith

length-onto : (lines earlier : List (List ℕ)) → length (onto lines earlier) ≡ length lines + length earlier
length-onto [] earlier = omega arith
length-onto (line ∷ lines) earlier = length-onto lines (line ∷ earlier) ∙ omega arith

same_spot : (a b c d : ℕ) → a ≡ b → c ≡ d → ◌≡◌ {A = Spot} (a, c) (b, d)
same_spot a b c d e f = rw (e, f) refl

-- ---- the kind of a row

named_cond : {A : Type 0} (b : Bool) (v : A) (o r : Option A) → or_other (if b then Some v else o) r ≡ (if b then Some v else or_other o r)
named_cond true v o r = refl
named_cond false v o r = refl

named-append : (xs ys : List (List ℕ × RowKind)) (word : List ℕ) → named (xs ++ ys) word ≡ or_other (named xs word) (named ys word)
named-append [] ys word = refl
named-append (x ∷ xs) ys word = ap (λ (o : Option RowKind). if bytes_eq x.0 word then Some x.1 else o) (named-append xs ys word) ∙ sym (named_cond (bytes_eq x.0 word) x.1 (named xs word) (named ys word))

named_nowhere : (n : ℕ) (f : ℕ → List ℕ) (g : ℕ → RowKind) (word : List ℕ) → ((i : ℕ) → i < n → f i ≢ word) → named (each n (λ i. (f i, g i) ∷ [])) word ≡ None
named_nowhere zero f g word h = refl
named_nowhere (suc n) f g word h =
    named-append (each n (λ i. (f i, g i) ∷ [])) ((f n, g n) ∷ []) word
    ∙ rw (named_nowhere n f g word (λ i lt. h i (omega (arith, lt))), other_bytes (f n) word (h n (omega arith))) refl

named_somewhere : (n : ℕ) (f : ℕ → List ℕ) (g : ℕ → RowKind) (j : ℕ) → j < n → ((i : ℕ) → i < n → i ≢ j → f i ≢ f j) → named (each n (λ i. (f i, g i) ∷ [])) (f j) ≡ Some (g j)
named_somewhere zero f g j lt h = absurd (omega (arith, lt))
named_somewhere (suc n) f g j lt h =
    named-append (each n (λ i. (f i, g i) ∷ [])) ((f n, g n) ∷ []) (f j)
    ∙ elim (cases_lt j n) [
      | inl below ↦ rw (named_somewhere n f g j below (λ i less other. h i (omega (arith, less)) other)) refl
      | inr above ↦
          let last : j ≡ n = omega arith in
          rw (named_nowhere n f g (f j) (λ i less. h i (omega (arith, less)) (λ e. omega arith)), last, same_bytes (f n)) refl
    ]

-- ---- the side that a range makes fits

side_fits : (low high w : ℚ) (b : Bool) → IsRow (record { low = Some low; high = Some high }) → Fits max_part high → (if b then None else Some (high -ℚ low)) ≡ Some w
    → makes_past (Some (if b then row_kinds.Equal else row_kinds.AtLeast)) low w ≡ false
side_fits low high w true h fit e = absurd cc
side_fits low high w false h fit e =
    let same : w ≡ high -ℚ low = cc in
    let reach_high : range_side row_kinds.AtLeast low w ≡ high = ap (range_side row_kinds.AtLeast low) same ∙ range_reaches low high (h.ordered low high refl refl) in
    ap (λ (q : ℚ). not (fits max_part q)) reach_high ∙ ap not (fits_yes max_part high fit)

none_past : (low high : Option ℚ) (w : ℚ) → IsRow (record { low = low; high = high }) → IfSome high (λ q. Fits max_part q) → width low high ≡ Some w → makes_past (Some (kind_of low high)) (right_side low high) w ≡ false
none_past None high w h fit e = absurd cc
none_past (Some low) None w h fit e = absurd cc
none_past (Some low) (Some high) w h fit e = side_fits low high w (same_fields low high) h fit e

past-append : (told : Told) (xs ys : List Telling) → NonePast told xs → NonePast told ys → NonePast told (xs ++ ys)
past-append told [] ys h k = k
past-append told (x ∷ xs) ys h k = (h.0, past-append told xs ys h.1 k)

past_each : (told : Told) (n : ℕ) (f : ℕ → List Telling) → ((i : ℕ) → i < n → NonePast told (f i)) → NonePast told (each_back n f)
past_each told zero f h = tt
past_each told (suc n) f h = past-append told (f n) (each_back n f) (h n (omega arith)) (past_each told n f (λ i lt. h i (omega (arith, lt))))

-- ---- sections

keeps_columns : (d : Bool) (s : Section) (ss : List Section) → list_any is_columns ss ≡ true → list_any is_columns (with_section d s ss) ≡ true
keeps_columns true s ss h = by (is_columns s) (list_any is_columns ss) h
  where
    by : (b c : Bool) → c ≡ true → (b || c) ≡ true
    by true c e = refl
    by false c e = e
keeps_columns false s ss h = h

end_clean : (told : Told) → list_any is_columns told.sections ≡ true → first_of (header_tests told (Some sections.EndData)) ≡ None
end_clean told h = rw h refl

no_quadobj : (d : Bool) (s : Section) (ss : List Section) → is_quadobj s ≡ false → list_any is_quadobj ss ≡ false → list_any is_quadobj (with_section d s ss) ≡ false
no_quadobj true s ss e h = rw (e, h) refl
no_quadobj false s ss e h = h

once_or_not : (d : Bool) (ss : List Section) → list_any is_quadobj ss ≡ false → list_any is_quadobj (sections.EndData ∷ with_section d sections.QuadObj ss) ≡ d
once_or_not true ss h = refl
once_or_not false ss h = h

no_lines : (lines : List (List ℕ)) → has_lines lines ≡ false → lines ≡ []
no_lines [] h = refl
no_lines (line ∷ lines) h = absurd cc

value_either : (g : Bool) (ts : List Telling) (one other : List ℕ) → (g ≡ false → ts ≡ [])
    → (if g then unwrap_or (or_other (value_at ts one other) (value_at ts other one)) zero_ℚ else unwrap_or (value_at ts one other) zero_ℚ) ≡ unwrap_or (or_other (value_at ts one other) (value_at ts other one)) zero_ℚ
value_either true ts one other h = refl
value_either false ts one other h = rw (h refl) refl

-- ---- which sections a program has

module _ (p : Program) where
  abbrev has_sides : Bool
  has_sides = has_lines (constant_lines p ++ each (length p.rows) (side_lines p))

  abbrev has_ranges : Bool
  has_ranges = has_lines (each (length p.rows) (λ i. range_lines (row_name p i) (width (sides_at p i).low (sides_at p i).high)))

  abbrev has_bounds : Bool
  has_bounds = has_lines (each (length p.columns) (λ j. bound_lines (column_name p j) (bounds_at p j).low (bounds_at p j).high))

  abbrev has_pairs : Bool
  has_pairs = has_lines (each (length p.columns) (row_pair_lines p))

  abbrev all_sections : List Section
  all_sections = with_section has_pairs sections.QuadObj (with_section has_bounds sections.Bounds (with_section has_ranges sections.Ranges (with_section has_sides sections.Rhs first_sections)))

  -- what is told by all lines but the last
  abbrev last_told : List Section → Told
  last_told ss = behind_columns p ss has_sides (sides_told p (length p.rows)) has_ranges (ranges_told p (length p.rows)) has_bounds (bounds_told p (length p.columns)) (pairs_told p (length p.columns))

  abbrev body : List (List ℕ)
  body = codes "NAME" ∷ (rows_lines p ++ (columns_lines p ++ (right_sides_lines p ++ (ranges_lines p ++ (bounds_lines p ++ pairs_lines p)))))

  all_lines : program_lines p ≡ body ++ codes "ENDATA" ∷ []
  all_lines = ap (λ (lines : List (List ℕ)). codes "NAME" ∷ lines) (regroup (rows_lines p) (columns_lines p) (right_sides_lines p) (ranges_lines p) (bounds_lines p) (pairs_lines p) (codes "ENDATA" ∷ []))

  module _ (good : IsProgram p) (small : HasSmallNumbers p) where
    body_read : Lead nothing_told body (last_told all_sections)
    body_read =
        lead_on _ _ _ (codes "NAME" ∷ rows_lines p) (columns_lines p ++ (right_sides_lines p ++ (ranges_lines p ++ (bounds_lines p ++ pairs_lines p)))) (rows_read p good)
        (lead_on _ _ _ (columns_lines p) (right_sides_lines p ++ (ranges_lines p ++ (bounds_lines p ++ pairs_lines p))) (columns_read p good small)
        (lead_on _ _ _ (right_sides_lines p) (ranges_lines p ++ (bounds_lines p ++ pairs_lines p)) (right_sides_read p good small)
        (lead_on _ _ _ (ranges_lines p) (bounds_lines p ++ pairs_lines p) (ranges_read p good small has_sides (sides_told p (length p.rows)) (sides_bare p good small (length p.rows)))
        (lead_on _ _ _ (bounds_lines p) (pairs_lines p)
        (bounds_read p good small has_sides (sides_told p (length p.rows)) (sides_bare p good small (length p.rows)) has_ranges (ranges_told p (length p.rows)) (ranges_bare p good small (length p.rows)))
        (pairs_read p good small has_sides (sides_told p (length p.rows)) (sides_bare p good small (length p.rows)) has_ranges (ranges_told p (length p.rows)) (ranges_bare p good small (length p.rows)) has_bounds (bounds_told p (length p.columns)))))))

    -- the last line is taken, too
    other_sections : List Section
    other_sections = with_section (has_bounds) sections.Bounds (with_section has_ranges sections.Ranges (with_section has_sides sections.Rhs first_sections))

    columns_begun : list_any is_columns all_sections ≡ true
    columns_begun =
        keeps_columns has_pairs sections.QuadObj _ (keeps_columns has_bounds sections.Bounds _ (keeps_columns has_ranges sections.Ranges _ (keeps_columns has_sides sections.Rhs first_sections refl)))

    end_told : ((at : ℕ) → at + length (codes "ENDATA") ≤ reach → line_fault (last_told all_sections) at (codes "ENDATA") ≡ None) × (next (last_told all_sections) (codes "ENDATA") ≡ last_told (sections.EndData ∷ all_sections))
    end_told =
        let t = header_told (last_told all_sections) (codes "ENDATA") sections.EndData refl refl refl refl refl refl (end_clean (last_told all_sections) columns_begun) in (
          t.0,
          t.1
              ∙ ap (λ (es : List Telling). record (last_told (sections.EndData ∷ all_sections)) { entries = es; sides = map bare (sides_told p (length p.rows)); ranges = map bare (ranges_told p (length p.rows)); pairs = map bare (pairs_told p (length p.columns)) }) (entries_bare p (length p.columns))
              ∙ ap (λ (ts : List Telling). record (last_told (sections.EndData ∷ all_sections)) { sides = ts; ranges = map bare (ranges_told p (length p.rows)); pairs = map bare (pairs_told p (length p.columns)) }) (sides_bare p good small (length p.rows))
              ∙ ap (λ (ts : List Telling). record (last_told (sections.EndData ∷ all_sections)) { ranges = ts; pairs = map bare (pairs_told p (length p.columns)) }) (ranges_bare p good small (length p.rows))
              ∙ ap (λ (ts : List Telling). record (last_told (sections.EndData ∷ all_sections)) { pairs = ts }) (all_pairs_bare p (length p.columns)),
        )

    once : gives_pairs_once (last_told (sections.EndData ∷ all_sections)) ≡ has_pairs
    once = once_or_not has_pairs _ (no_quadobj has_bounds sections.Bounds _ refl (no_quadobj has_ranges sections.Ranges _ refl (no_quadobj has_sides sections.Rhs first_sections refl refl)))

    without_pairs : has_pairs ≡ false → pairs_told p (length p.columns) ≡ []
    without_pairs e = no_pairs_told p (no_lines (each (length p.columns) (row_pair_lines p)) e)

    program_is : program_of (last_told (sections.EndData ∷ all_sections)) ≡ p
    program_is =
        program_made p good small (sections.EndData ∷ all_sections) has_sides has_ranges has_bounds
        (λ one other. value_either (gives_pairs_once (last_told (sections.EndData ∷ all_sections))) (pairs_told p (length p.columns)) one other (λ e. without_pairs (sym once ∙ e)))

    kind_found : (i : ℕ) → i < length p.rows → named (told_rows p (length p.rows)) (row_name p i) ≡ Some (kind_at p i)
    kind_found i lt =
        let other : bytes_eq p.objective (row_name p i) ≡ false = other_bytes p.objective (row_name p i) (objective_differs p good i lt) in
        rw other (named_somewhere (length p.rows) (row_name p) (kind_at p) i lt (λ k less differs. rows_differ p good k i less lt differs))

    range_fits : (i : ℕ) → i < length p.rows → (w : Option ℚ) → width (sides_at p i).low (sides_at p i).high ≡ w → NonePast (last_told (sections.EndData ∷ all_sections)) (range_told (row_name p i) w)
    range_fits i lt None e = tt
    range_fits i lt (Some w) e = (
      ap (λ (k : Option RowKind). makes_past k (value_told (sides_told p (length p.rows)) [] (row_name p i)) w) (kind_found i lt)
          ∙ ap (λ (v : ℚ). makes_past (Some (kind_at p i)) v w) (found_side p good small i lt)
          ∙ none_past (sides_at p i).low (sides_at p i).high w (row_is_good p good small i lt) (small.sides i).high e,
      tt,
    )

    ranges_fit : NonePast (last_told (sections.EndData ∷ all_sections)) (ranges_told p (length p.rows))
    ranges_fit = past_each (last_told (sections.EndData ∷ all_sections)) (length p.rows) (λ i. range_told (row_name p i) (width (sides_at p i).low (sides_at p i).high)) (λ i lt. range_fits i lt _ refl)

    -- what the whole text tells
    no_fault_at_end : (told : Told) → erase told ≡ last_told (sections.EndData ∷ all_sections) → end_fault told ≡ None
    no_fault_at_end told e =
        no_end_fault told (subst (λ (t : Told). NonePast t t.ranges) (sym e) ranges_fit)
        (λ g. subst (λ (t : Told). t.pairs ≡ []) (sym e) (without_pairs (sym once ∙ ap gives_pairs_once (sym e) ∙ g)))

    program_told : (told : Told) → erase told ≡ last_told (sections.EndData ∷ all_sections) → program_of told ≡ p
    program_told told e = sym (program_bare told) ∙ ap program_of e ∙ program_is

    last_line : IsLine (codes "ENDATA")
    last_line = plain_line (codes "ENDATA") refl

    all_are_lines : (lines : List (List ℕ)) → AllByRecursion IsLine lines → AllByRecursion IsLine (lines ++ codes "ENDATA" ∷ [])
    all_are_lines [] h = (last_line, tt)
    all_are_lines (line ∷ lines) h = (h.0, all_are_lines lines h.1)

    raw_back : raw_lines (text_of_program p) ≡ body ++ codes "ENDATA" ∷ []
    raw_back =
        ap (λ (lines : List (List ℕ)). raw_lines (lines_text lines)) all_lines
        ∙ lines_back (body ++ codes "ENDATA" ∷ []) (all_are_lines body (are_lines nothing_told (last_told all_sections) body body_read))

    text_bytes : length (text_of_program p) ≡ bytes_of body + 7
    text_bytes = text_length (program_lines p) ∙ ap bytes_of all_lines ∙ bytes-append body (codes "ENDATA" ∷ [])

    line_count : length (program_lines p) ≡ length body + 1
    line_count = ap length all_lines ∙ length-append body (codes "ENDATA" ∷ [])

    module _ (within : length (text_of_program p) ≤ reach) where
      body_led : IsLed 0 [] body (codes "ENDATA" ∷ []) (last_told all_sections)
      body_led = led 0 [] body (codes "ENDATA" ∷ []) nothing_told (last_told all_sections) refl body_read (omega (arith, text_bytes))

      -- the lines, the last one first
      abbrev taken : List (List ℕ)
      taken = codes "ENDATA" ∷ onto body []

      last_clean : line_fault (told_by (onto body [])) (0 + bytes_of body) (codes "ENDATA") ≡ None
      last_clean =
          sym (fault_bare (told_by (onto body [])) (0 + bytes_of body) (codes "ENDATA"))
          ∙ ap (λ (t : Told). line_fault t (0 + bytes_of body) (codes "ENDATA")) body_led.told
          ∙ end_told.0 (0 + bytes_of body) (omega (arith, text_bytes))

      all_told : erase (told_by taken) ≡ last_told (sections.EndData ∷ all_sections)
      all_told =
          ap erase (told_line (onto body []) (codes "ENDATA")) ∙ sym (after_bare (told_by (onto body [])) (codes "ENDATA"))
          ∙ ap (λ (t : Told). next t (codes "ENDATA")) body_led.told ∙ end_told.1

      verdict_is : verdict_of (text_of_program p) ≡ Ok (taken, 0 + bytes_of body + 6 + 1)
      verdict_is = ap (λ (lines : List (List ℕ)). verdict 0 [] lines) raw_back ∙ body_led.goes_on ∙ rw last_clean refl

      -- the text's end
      spot_is : behind (text_of_program p) (taken, 0 + bytes_of body + 6 + 1) ≡ (length (text_of_program p), length (program_lines p) + 1)
      spot_is =
          let bytes : min (0 + bytes_of body + 6 + 1) (length (text_of_program p)) ≡ length (text_of_program p) = omega (arith, text_bytes) in
          let count : suc (length (onto body [])) + 1 ≡ length (program_lines p) + 1 = omega (arith, length-onto body [], line_count) in
          same_spot _ _ _ _ bytes count

      finished_is : (told : Told) (spot : Spot) (f : Option Fault) → f ≡ None → finished told spot f ≡ Ok (program_of told, spot)
      finished_is told spot f e = rw e refl

      pub text_back : read_of (text_of_program p) ≡ Ok (p, (length (text_of_program p), length (program_lines p) + 1))
      text_back =
          ap (λ (v : Result (List (List ℕ) × ℕ) Fault). read_told (told_verdict (text_of_program p) v)) verdict_is
          ∙ finished_is (told_by taken) _ (end_fault (told_by taken)) (no_fault_at_end (told_by taken) all_told)
          ∙ ap (λ (q : Program). Ok (q, behind (text_of_program p) (taken, 0 + bytes_of body + 6 + 1))) (program_told (told_by taken) all_told)
          ∙ ap (λ (spot : Spot). Ok (p, spot)) spot_is
