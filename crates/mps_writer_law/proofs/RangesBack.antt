-- The ranges of a program's text are read back.
use Rattle.std.specs.Prelude.{◌≡◌, ◌≢◌, ◌<◌, ◌||◌, ℕ, suc, Bool, true, false, List, [], ◌∷◌, ◌++◌, map, length, Option, Some, None, IfSome, codes, if◌then◌else◌}
use Rattle.std.proofs.Common.{IsTrue, arith, refl, sym, ap, ◌∙◌}
use Rattle.rational.specs.Rational.{ℚ, Fits, fits, ◌-ℚ◌}
use Rattle.rational.specs.Order.{same_fields}
use Rattle.frac_core.specs.Parts.{max_part}
use Rattle.frac_core.specs.Text.{text_of}
use Rattle.program_law.specs.declared.Row.{Row}
use Rattle.program_law.specs.Program.{Program, IsProgram, IsRow}
use Rattle.mps_tokens.specs.declared.words.Section.TheVariants as sections
use Rattle.mps_grammar.specs.Told.{Told, Telling, first_named}
use Rattle.mps_grammar.specs.Faults.{first_of, header_tests}
use Rattle.mps_grammar.specs.Programs.{value_at}
use Rattle.mps_writer_law.specs.Lines.{each, number_line, has_lines}
use Rattle.mps_writer_law.specs.Small.{HasSmallNumbers}
use Rattle.mps_writer_law.specs.Canonical.{row_name, sides_at, no_sides, width, range_lines, ranges_lines}
use Rattle.mps_writer_law.proofs.Erased.{bare}
use Rattle.mps_writer_law.proofs.Fields.{number_word}
use Rattle.mps_writer_law.proofs.Lookups.{telling, none_told, value_nowhere, value_somewhere, row_differs, same_bytes, or_false, or_true}
use Rattle.mps_writer_law.proofs.Names.{length-map, row_word, row_short, rows_differ}
use Rattle.mps_writer_law.proofs.LineLemmas.{has_append}
use Rattle.mps_writer_law.proofs.Runs.{Lead, lead_to, lead_each, takes_data, takes_header}
use Rattle.mps_writer_law.proofs.ColumnsBack.{row_known}
use Rattle.mps_writer_law.proofs.EntriesBack.{entries_bare, each_bare}
use Rattle.mps_writer_law.proofs.SectionsBack.{section_read, nothing_each}
use Rattle.mps_writer_law.proofs.SidesBack.{IsNextSide, side_none, set_told, named_set, fits_back}
use Rattle.mps_writer_law.proofs.Stages.{entries_told, with_section, set_if, range_told, ranges_told, behind_columns, first_sections}

IsTrue-is : (b : Bool) → IsTrue b → b ≡ true
IsTrue-is b h = h

-- a row's range is small, by what is asked of its sides
width_small : (low high : Option ℚ) → ((l h : ℚ) → low ≡ Some l → high ≡ Some h → fits max_part (h -ℚ l) ≡ true) → IfSome (width low high) (λ q. Fits max_part q)
width_small None high h = tt
width_small (Some l) None h = tt
width_small (Some l) (Some u) h = by (same_fields l u)
  where
    by : (b : Bool) → IfSome (if b then None else Some (u -ℚ l)) (λ q. Fits max_part q)
    by true = tt
    by false = fits_back max_part (u -ℚ l) (h l u refl refl)

range_bare : (name : List ℕ) (w : Option ℚ) → map bare (range_told name w) ≡ range_told name w
range_bare name (Some w) = refl
range_bare name None = refl

range_elsewhere : (name other : List ℕ) (w : Option ℚ) → other ≢ name → value_at (range_told name w) [] other ≡ None
range_elsewhere name other None differs = refl
range_elsewhere name other (Some w) differs = rw (row_differs [] [] other name differs) refl

range_here : (name : List ℕ) (w : Option ℚ) → value_at (range_told name w) [] name ≡ w
range_here name None = refl
range_here name (Some w) = rw (same_bytes name) refl

no_range : (name : List ℕ) (w : Option ℚ) → range_lines name w ≡ [] → range_told name w ≡ []
no_range name None e = refl
no_range name (Some w) e = absurd cc

module _ (p : Program) (good : IsProgram p) (small : HasSmallNumbers p) where
  width_at : ℕ → Option ℚ
  width_at i = width (sides_at p i).low (sides_at p i).high

  pub row_is_good : (i : ℕ) → i < length p.rows → IsRow (sides_at p i)
  row_is_good i lt = good.good_rows i no_sides (omega (arith, length-map (λ (r : List ℕ × Row). r.1) p.rows))

  width_is_small : (i : ℕ) → i < length p.rows → IfSome (width (sides_at p i).low (sides_at p i).high) (λ q. Fits max_part q)
  width_is_small i lt = width_small (sides_at p i).low (sides_at p i).high (λ l h e f. IsTrue-is _ ((row_is_good i lt).difference l h e f))

  before_range : (i : ℕ) → i < length p.rows → value_at (ranges_told p i) [] (row_name p i) ≡ None
  before_range i lt =
      value_nowhere i (λ k. range_told (row_name p k) (width (sides_at p k).low (sides_at p k).high)) [] (row_name p i)
      (λ k less. range_elsewhere (row_name p k) (row_name p i) _ (rows_differ p good i k lt (omega (arith, less)) (λ e. omega (arith, less))))

  -- a row's range
  pub found_range : (i : ℕ) → i < length p.rows → value_at (ranges_told p (length p.rows)) [] (row_name p i) ≡ width (sides_at p i).low (sides_at p i).high
  found_range i lt =
      value_somewhere (length p.rows) (λ k. range_told (row_name p k) (width (sides_at p k).low (sides_at p k).high)) [] (row_name p i) i lt
      (λ k less differs. range_elsewhere (row_name p k) (row_name p i) _ (rows_differ p good i k lt less (λ e. differs (sym e))))
      ∙ range_here (row_name p i) (width (sides_at p i).low (sides_at p i).high)

  pub ranges_bare : (n : ℕ) → map bare (ranges_told p n) ≡ ranges_told p n
  ranges_bare n = each_bare n (λ k. range_told (row_name p k) (width (sides_at p k).low (sides_at p k).high)) (λ k. range_bare (row_name p k) _)

  range_lines_to : ℕ → List (List ℕ)
  range_lines_to n = each n (λ i. range_lines (row_name p i) (width (sides_at p i).low (sides_at p i).high))

  -- behind the right sides, which are told or not
  module _ (a : Bool) (sides : List Telling) (plain_sides : map bare sides ≡ sides) where
    stage : Bool → List Telling → Told
    stage b ts = behind_columns p (sections.Ranges ∷ with_section a sections.Rhs first_sections) a sides b ts false [] []

    -- what is erased of a stage is nothing
    plain_stage : (s : Option (List ℕ)) (ts : List Telling)
        → record (stage false ts) { range_set = s; entries = map bare (entries_told p (length p.columns)); sides = map bare sides } ≡ record (stage false ts) { range_set = s }
    unfolding stage
    plain_stage s ts =
        ap (λ (es : List Telling). record (stage false ts) { range_set = s; entries = es; sides = map bare sides }) (entries_bare p (length p.columns))
        ∙ ap (λ (us : List Telling). record (stage false ts) { range_set = s; sides = us }) plain_sides

    range_read : (b : Bool) (ts : List Telling) (name : List ℕ) (q : ℚ) → map bare ts ≡ ts → IsNextSide (stage b ts) ts name q
        → Lead (stage b ts) (number_line (codes "RNG" ∷ name ∷ []) q ∷ []) (stage true (telling [] name q ∷ ts))
    unfolding stage
    range_read b ts name q plain h =
        let t = takes_data (stage b ts) sections.Ranges (with_section a sections.Rhs first_sections) (codes "RNG") (name ∷ text_of q ∷ []) refl (record { word = refl }, (h.name_word, (number_word q h.small, tt))) (side_none (stage b ts) (set_if b (codes "RNG")) ts (codes "RNG") name q refl h) in (
          t.0,
          t.1
              ∙ ap (λ (us : List Telling). record (stage false us) { range_set = first_named (set_if b (codes "RNG")) (Some (codes "RNG")); entries = map bare (entries_told p (length p.columns)); sides = map bare sides }) (set_told b (codes "RNG") name q ts h.small plain)
              ∙ plain_stage (first_named (set_if b (codes "RNG")) (Some (codes "RNG"))) (telling [] name q ∷ ts)
              ∙ ap (λ (s : Option (List ℕ)). record (stage false (telling [] name q ∷ ts)) { range_set = s }) (named_set b (codes "RNG")),
        )

    range_chosen : (b : Bool) (ts : List Telling) (name : List ℕ) (w : Option ℚ) → map bare ts ≡ ts → ((q : ℚ) → w ≡ Some q → IsNextSide (stage b ts) ts name q)
        → Lead (stage b ts) (range_lines name w) (stage (b || has_lines (range_lines name w)) (range_told name w ++ ts))
    range_chosen b ts name None plain h = ap (λ (c : Bool). stage c ts) (sym (or_false b))
    range_chosen b ts name (Some q) plain h =
        lead_to (stage b ts) (stage true (telling [] name q ∷ ts)) (stage (b || true) (telling [] name q ∷ ts)) (number_line (codes "RNG" ∷ name ∷ []) q ∷ [])
        (ap (λ (c : Bool). stage c (telling [] name q ∷ ts)) (sym (or_true b))) (range_read b ts name q plain (h q refl))

    some_width : (w : Option ℚ) (q : ℚ) → w ≡ Some q → IfSome w (λ q. Fits max_part q) → Fits max_part q
    some_width w q e h = rw e at h

    row_range_read : (i : ℕ) → i < length p.rows → Lead (stage (has_lines (range_lines_to i)) (ranges_told p i)) (range_lines (row_name p i) (width (sides_at p i).low (sides_at p i).high)) (stage (has_lines (range_lines_to (suc i))) (ranges_told p (suc i)))
    unfolding range_lines_to stage
    row_range_read i lt =
        lead_to _ _ _ (range_lines (row_name p i) (width (sides_at p i).low (sides_at p i).high))
        (ap (λ (b : Bool). stage b (ranges_told p (suc i))) (sym (has_append (range_lines_to i) (range_lines (row_name p i) (width (sides_at p i).low (sides_at p i).high)))))
        (range_chosen (has_lines (range_lines_to i)) (ranges_told p i) (row_name p i) (width (sides_at p i).low (sides_at p i).high) (ranges_bare i)
        (λ q is. record { name_word = row_word p good i lt; short_name = row_short p good i lt; known = row_known p good small i lt; small = some_width _ q is (width_is_small i lt); new = none_told (ranges_told p i) [] (row_name p i) (before_range i lt) }))

    abbrev pub ranges_done : Bool → List Telling → Told
    ranges_done b ts = behind_columns p (with_section b sections.Ranges (with_section a sections.Rhs first_sections)) a sides b ts false [] []

    closed_ranges : (b : Bool) (ts : List Telling) → b ≡ true → stage b ts ≡ ranges_done b ts
    unfolding stage
    closed_ranges true ts e = refl
    closed_ranges false ts e = absurd cc

    no_ranges_told : range_lines_to (length p.rows) ≡ [] → ranges_told p (length p.rows) ≡ []
    unfolding range_lines_to
    no_ranges_told e = nothing_each (length p.rows) (λ i. range_lines (row_name p i) (width (sides_at p i).low (sides_at p i).high)) (λ k. range_told (row_name p k) (width (sides_at p k).low (sides_at p k).high)) (λ i none. no_range (row_name p i) _ none) e

    header_clean : (c : Bool) → first_of (header_tests (behind_columns p (with_section c sections.Rhs first_sections) a sides false [] false [] []) (Some sections.Ranges)) ≡ None
    header_clean true = refl
    header_clean false = refl

    ranges_header : Lead (behind_columns p (with_section a sections.Rhs first_sections) a sides false [] false [] []) (codes "RANGES" ∷ []) (stage false [])
    unfolding stage
    ranges_header =
        let t = takes_header (behind_columns p (with_section a sections.Rhs first_sections) a sides false [] false [] []) (codes "RANGES") sections.Ranges refl refl refl refl refl refl (header_clean a) refl in
        (t.0, t.1 ∙ plain_stage None [])

    -- the section
    pub ranges_read : Lead (behind_columns p (with_section a sections.Rhs first_sections) a sides false [] false [] []) (ranges_lines p)
        (ranges_done (has_lines (each (length p.rows) (λ i. range_lines (row_name p i) (width (sides_at p i).low (sides_at p i).high)))) (ranges_told p (length p.rows)))
    unfolding stage range_lines_to
    ranges_read =
        section_read (codes "RANGES") (range_lines_to (length p.rows)) _ (stage false []) (stage (has_lines (range_lines_to (length p.rows))) (ranges_told p (length p.rows))) _
        ranges_header
        (lead_each (length p.rows) (λ i. range_lines (row_name p i) (width (sides_at p i).low (sides_at p i).high)) (λ i. stage (has_lines (range_lines_to i)) (ranges_told p i)) row_range_read)
        (λ none. ap (λ (b : Bool). ranges_done b []) (sym (ap has_lines none)) ∙ ap (λ (ts : List Telling). ranges_done (has_lines (range_lines_to (length p.rows))) ts) (sym (no_ranges_told none)))
        (λ some. closed_ranges (has_lines (range_lines_to (length p.rows))) (ranges_told p (length p.rows)) some)
