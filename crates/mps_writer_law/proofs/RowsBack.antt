-- The rows of a program's text are read back.
use Rattle.std.specs.Prelude.{◌≡◌, ◌<◌, ◌&&◌, nat_le, ℕ, zero, suc, Bool, true, false, List, [], ◌∷◌, ◌++◌, length, Option, Some, None, is_some, option_to_list, codes, if◌then◌else◌}
use Rattle.std.proofs.Common.{arith, refl, sym, ap, ◌∙◌}
use Rattle.std.proofs.lemmas.List.Elements.{filter-append}
use Rattle.std.proofs.lemmas.Bool.Decides.{nat_tests}
use Rattle.rational.specs.Rational.{ℚ}
use Rattle.rational.specs.Order.{same_fields}
use Rattle.program_law.specs.Program.{Program, IsProgram}
use Rattle.program_law.specs.Places.{place_of}
use Rattle.mps_tokens.specs.Cases.{named}
use Rattle.mps_tokens.specs.Words.{row_kind_names}
use Rattle.mps_tokens.specs.declared.words.Section.TheVariants as sections
use Rattle.mps_tokens.specs.declared.words.RowKind.{RowKind}
use Rattle.mps_tokens.specs.declared.words.RowKind.TheVariants as row_kinds
use Rattle.mps_grammar.specs.declared.kinds.FaultKind.TheVariants as kinds
use Rattle.named_things.specs.Named.{names_of}
use Rattle.mps_grammar.specs.Told.{row_told as row_of_line, binds, program_rows}
use Rattle.mps_grammar.specs.Faults.{first_of, row_tests, data_tests}
use Rattle.mps_writer_law.specs.Lines.{each, data_line}
use Rattle.mps_writer_law.specs.Canonical.{row_name, sides_at, kind_word, row_line, rows_lines}
use Rattle.mps_writer_law.proofs.Fields.{IsWord}
use Rattle.mps_writer_law.proofs.Lookups.{map-each, length-each, known_cons, unknown_each, other_bytes}
use Rattle.mps_writer_law.proofs.Names.{row_word, objective_word, row_short, objective_short, rows_differ, objective_differs, row_no_marker, objective_no_marker}
use Rattle.mps_writer_law.proofs.Runs.{Lead, lead_on, lead_each, takes_data, takes_header}
use Rattle.mps_writer_law.proofs.Stages.{nothing_told, kind_of, kind_at, told_rows, in_rows}

-- the word of a kind is a word, and names the kind
record IsKindWord (word : List ℕ) (kind : RowKind) : Type 0 where
  word_is : IsWord word
  named_is : named row_kind_names word ≡ Some kind
  binding : binds kind ≡ true

by_test : (b : Bool) → IsKindWord (if b then codes "E" else codes "G") (if b then row_kinds.Equal else row_kinds.AtLeast)
by_test true = record { word_is = record { word = refl }; named_is = refl; binding = refl }
by_test false = record { word_is = record { word = refl }; named_is = refl; binding = refl }

kind_words : (low high : Option ℚ) → IsKindWord (kind_word low high) (kind_of low high)
kind_words (Some low) (Some high) = by_test (same_fields low high)
kind_words (Some low) None = record { word_is = record { word = refl }; named_is = refl; binding = refl }
kind_words None (Some high) = record { word_is = record { word = refl }; named_is = refl; binding = refl }
kind_words None None = record { word_is = record { word = refl }; named_is = refl; binding = refl }

four_none : (a b c d : Bool) → a ≡ false → b ≡ false → c ≡ false → d ≡ false → first_of ((a, kinds.Marker) ∷ (b, kinds.NameLong) ∷ (c, kinds.NameTwice) ∷ (d, kinds.TooMany) ∷ []) ≡ None
four_none a b c d e f g h = rw (e, f, g, h) refl

too_many : (kind : RowKind) (n : ℕ) → n < 128 → (binds kind && nat_le 128 n) ≡ false
too_many kind n lt = by (binds kind) (below n lt)
  where
    below : (n : ℕ) → n < 128 → nat_le 128 n ≡ false
    below n lt = grind (arith, nat_tests)

    by : (b : Bool) → nat_le 128 n ≡ false → (b && nat_le 128 n) ≡ false
    by true e = e
    by false e = refl

module _ (p : Program) (good : IsProgram p) where
  -- all rows but the objective are the program's
  pub binding_rows : (n : ℕ) → program_rows (told_rows p n) ≡ each n (λ i. (row_name p i, kind_at p i) ∷ [])
  binding_rows zero = refl
  binding_rows (suc n) =
      filter-append (λ (r : List ℕ × RowKind). binds r.1) (each n (λ i. (row_name p i, kind_at p i) ∷ [])) ((row_name p n, kind_at p n) ∷ [])
      ∙ rw (binding_rows n, (kind_words (sides_at p n).low (sides_at p n).high).binding) refl

  pub names_told : (n : ℕ) → names_of (told_rows p n) ≡ p.objective ∷ each n (λ i. row_name p i ∷ [])
  names_told n = ap (λ (names : List (List ℕ)). p.objective ∷ names) (map-each (λ (r : List ℕ × RowKind). r.0) n (λ i. (row_name p i, kind_at p i) ∷ []))

  new_name : (i : ℕ) → i < length p.rows → is_some (place_of (names_of (told_rows p i)) (row_name p i)) ≡ false
  new_name i lt =
      ap (λ (names : List (List ℕ)). is_some (place_of names (row_name p i))) (names_told i)
      ∙ known_cons p.objective (each i (λ i. row_name p i ∷ [])) (row_name p i)
      ∙ rw (other_bytes (row_name p i) p.objective (λ e. objective_differs p good i lt (sym e))) (unknown_each i (row_name p) (row_name p i) (λ k less. rows_differ p good i k lt (omega (arith, less)) (λ e. omega (arith, less))))

  few_rows : (i : ℕ) → i < length p.rows → length (program_rows (told_rows p i)) < 128
  few_rows i lt = omega (arith, ap length (binding_rows i), length-each {A = List ℕ × RowKind} i (λ i. (row_name p i, kind_at p i)), good.few_rows)

  row_told : (i : ℕ) → i < length p.rows → first_of (data_tests (in_rows p i) sections.Rows (kind_word (sides_at p i).low (sides_at p i).high ∷ row_name p i ∷ [])) ≡ None
  row_told i lt =
      let w = kind_words (sides_at p i).low (sides_at p i).high in
      ap (λ (kind : Option RowKind). first_of (row_tests (in_rows p i) kind (kind_word (sides_at p i).low (sides_at p i).high ∷ row_name p i ∷ []))) w.named_is
      ∙ four_none _ _ _ _ (row_no_marker p good i lt) (row_short p good i lt) (new_name i lt) (too_many (kind_at p i) _ (few_rows i lt))

  row_read : (i : ℕ) → i < length p.rows → Lead (in_rows p i) (row_line p i ∷ []) (in_rows p (suc i))
  row_read i lt =
      let w = kind_words (sides_at p i).low (sides_at p i).high in
      let t = takes_data (in_rows p i) sections.Rows (sections.Name ∷ []) (kind_word (sides_at p i).low (sides_at p i).high) (row_name p i ∷ []) refl (w.word_is, (row_word p good i lt, tt)) (row_told i lt) in
      (t.0, t.1 ∙ ap (λ (kind : Option RowKind). record nothing_told { sections = sections.Rows ∷ sections.Name ∷ []; rows = told_rows p i ++ option_to_list (row_of_line (Some (row_name p i)) kind) }) w.named_is)

  objective_read : Lead (record nothing_told { sections = sections.Rows ∷ sections.Name ∷ [] }) (data_line (codes "N" ∷ p.objective ∷ []) ∷ []) (in_rows p 0)
  objective_read =
      let t = takes_data (record nothing_told { sections = sections.Rows ∷ sections.Name ∷ [] }) sections.Rows (sections.Name ∷ []) (codes "N") (p.objective ∷ []) refl (record { word = refl }, (objective_word p good, tt))
      (four_none _ _ _ _ (objective_no_marker p good) (objective_short p good) refl refl) in
      t

  name_read : Lead nothing_told (codes "NAME" ∷ []) (record nothing_told { sections = sections.Name ∷ [] })
  name_read = takes_header nothing_told (codes "NAME") sections.Name refl refl refl refl refl refl refl refl

  rows_header : Lead (record nothing_told { sections = sections.Name ∷ [] }) (codes "ROWS" ∷ []) (record nothing_told { sections = sections.Rows ∷ sections.Name ∷ [] })
  rows_header = takes_header (record nothing_told { sections = sections.Name ∷ [] }) (codes "ROWS") sections.Rows refl refl refl refl refl refl refl refl

  -- the first two sections
  pub rows_read : Lead nothing_told (codes "NAME" ∷ rows_lines p) (in_rows p (length p.rows))
  rows_read =
      lead_on nothing_told _ _ (codes "NAME" ∷ []) (rows_lines p) name_read
      (lead_on _ _ _ (codes "ROWS" ∷ []) (data_line (codes "N" ∷ p.objective ∷ []) ∷ each (length p.rows) (λ i. row_line p i ∷ [])) rows_header
      (lead_on _ _ _ (data_line (codes "N" ∷ p.objective ∷ []) ∷ []) (each (length p.rows) (λ i. row_line p i ∷ [])) objective_read
      (lead_each (length p.rows) (λ i. row_line p i ∷ []) (in_rows p) row_read)))
