-- What a program's text tells stands for that program.
use Rattle.std.specs.Prelude.{◌≡◌, ◌<◌, ◌⊎◌, ℕ, zero, suc, pos, Bool, true, false, List, [], ◌∷◌, map, length, slice_index_or, Option, Some, None, IsSome, unwrap_or, if◌then◌else◌}
use Rattle.std.proofs.Common.{arith, refl, sym, ap, ◌∙◌, inl, inr}
use Rattle.std.proofs.lemmas.Bool.{cases_Bool}
use Rattle.rational.specs.Rational.{ℚ, zero_ℚ, neg_ℚ, ◌+ℚ◌, ◌-ℚ◌, whole}
use Rattle.rational.specs.Order.{same_fields, same_fields_lem, ◌≤ℚ◌}
use Rattle.rational.proofs.Field.{rationals, +ℚ_assoc, +ℚ_comm, +ℚ_neg, +ℚ_zero}
use Rattle.rational.proofs.OrderLaws.{sub_nonneg, not-le_of_lt}
use Rattle.algebra.proofs.Ring as laws
use Rattle.program_law.specs.declared.Row.{Row}
use Rattle.program_law.specs.declared.Column.{Column}
use Rattle.rational.specs.Tests.{is_negative}
use Rattle.program_law.proofs.Numbers.{negative_below}
use Rattle.program_law.specs.Program.{Program, IsProgram, IsRow, bounds_of}
use Rattle.rational.specs.Sums.{entry}
use Rattle.rational.specs.Vectors.{row_at}
use Rattle.mps_tokens.specs.declared.words.Section.{Section}
use Rattle.mps_tokens.specs.declared.words.RowKind.{RowKind}
use Rattle.mps_tokens.specs.declared.words.RowKind.TheVariants as row_kinds
use Rattle.named_things.specs.Named.{names_of}
use Rattle.mps_grammar.specs.Told.{Told, BoundTelling, program_rows}
use Rattle.mps_grammar.specs.Programs.{value_at, value_told, or_other, size, sides_of, row_of, bounded, column_of, pair_value, numbers_of, program_of}
use Rattle.mps_writer_law.specs.Lines.{each}
use Rattle.mps_writer_law.specs.Small.{HasSmallNumbers}
use Rattle.mps_writer_law.specs.Canonical.{row_name, column_name, no_sides, sides_at, bounds_at, is_marked, right_side, width}
use Rattle.mps_writer_law.proofs.Lookups.{map-each, list_by_place}
use Rattle.mps_writer_law.proofs.Names.{length-map}
use Rattle.mps_writer_law.proofs.RowsBack.{binding_rows}
use Rattle.mps_writer_law.proofs.ColumnsBack.{columns_named}
use Rattle.mps_writer_law.proofs.EntriesBack.{found_entry, found_cost}
use Rattle.mps_writer_law.proofs.SidesBack.{found_side, found_constant}
use Rattle.mps_writer_law.proofs.RangesBack.{found_range}
use Rattle.mps_writer_law.proofs.BoundsBack.{bounds_made, found_bounds}
use Rattle.mps_writer_law.proofs.PairsBack.{found_pair}
use Rattle.mps_writer_law.proofs.Stages.{kind_of, kind_at, entries_told, sides_told, ranges_told, bounds_told, pairs_told, behind_columns}

-- ---- a row's sides

not_negative : (q : ℚ) → zero_ℚ ≤ℚ q → is_negative q ≡ false
not_negative q h = elim (cases_Bool (is_negative q)) [ inl e ↦ absurd (not-le_of_lt (negative_below q e) h) | inr e ↦ e ]

-- low + (high - low)
back_up : (low high : ℚ) → low +ℚ (high -ℚ low) ≡ high
back_up low high =
    ap (λ (q : ℚ). low +ℚ q) (+ℚ_comm high (neg_ℚ low)) ∙ sym (+ℚ_assoc low (neg_ℚ low) high) ∙ ap (λ (q : ℚ). q +ℚ high) (+ℚ_neg low) ∙ +ℚ_comm (whole (pos 0)) high ∙ +ℚ_zero high

pub range_reaches : (low high : ℚ) → low ≤ℚ high → low +ℚ size (high -ℚ low) ≡ high
range_reaches low high h = rw (not_negative (high -ℚ low) (sub_nonneg h)) (back_up low high)

two_sides : (low high : ℚ) (b : Bool) → low ≤ℚ high → same_fields low high ≡ b
    → sides_of (if b then row_kinds.Equal else row_kinds.AtLeast) low (if b then None else Some (high -ℚ low)) ≡ record { low = Some low; high = Some high }
two_sides low high true h e = ap (λ (q : ℚ). record { low = Some low; high = Some q }) (same_fields_lem low high e)
two_sides low high false h e = ap (λ (q : ℚ). record { low = Some low; high = Some q }) (range_reaches low high h)

no_side : IsSome {T = ℚ} None ⊎ IsSome {T = ℚ} None → ⊥
no_side h = elim h [ inl e ↦ cc | inr e ↦ cc ]

pub sides_made : (low high : Option ℚ) → IsRow (record { low = low; high = high }) → sides_of (kind_of low high) (right_side low high) (width low high) ≡ record { low = low; high = high }
sides_made (Some low) (Some high) h = two_sides low high (same_fields low high) (h.ordered low high refl refl) refl
sides_made (Some low) None h = refl
sides_made None (Some high) h = refl
sides_made None None h = absurd (no_side h.some)

-- ---- lists of things by their places

row_by_place : (rows : List (List ℕ × Row)) (i : ℕ) → slice_index_or rows i ([], no_sides) ≡ (slice_index_or (map (λ r. r.0) rows) i [], slice_index_or (map (λ r. r.1) rows) i no_sides)
row_by_place [] i = refl
row_by_place (r ∷ rs) zero = refl
row_by_place (r ∷ rs) (suc i) = row_by_place rs i

abbrev no_column : List ℕ × Column
no_column = ([], record { low = None; high = None; whole = false })

-- bounds and a mark
abbrev column_with : Row → Bool → Column
column_with bounds mark = record { low = bounds.low; high = bounds.high; whole = mark }

column_by_place : (columns : List (List ℕ × Column)) (j : ℕ)
    → slice_index_or columns j no_column
    ≡ (slice_index_or (map (λ c. c.0) columns) j [], column_with (slice_index_or (map (λ (c : List ℕ × Column). bounds_of c.1) columns) j no_sides) (slice_index_or (map (λ (c : List ℕ × Column). c.1.whole) columns) j false))
column_by_place [] j = refl
column_by_place (c ∷ cs) zero = refl
column_by_place (c ∷ cs) (suc j) = column_by_place cs j

-- ---- the program

abbrev program : List ℕ → List (List ℕ × Row) → List (List ℕ × Column) → List (List ℚ) → List ℚ → ℚ → List (List ℚ) → Program
program o r c e k d q = record { objective = o; rows = r; columns = c; entries = e; costs = k; constant = d; pairs = q }

same_program : (o : List ℕ) (r r' : List (List ℕ × Row)) (c c' : List (List ℕ × Column)) (e e' : List (List ℚ)) (k k' : List ℚ) (d d' : ℚ) (q q' : List (List ℚ))
    → r ≡ r' → c ≡ c' → e ≡ e' → k ≡ k' → d ≡ d' → q ≡ q' → program o r c e k d q ≡ program o r' c' e' k' d' q'
same_program o r r' c c' e e' k k' d d' q q' h1 h2 h3 h4 h5 h6 =
    ap (λ x. program o x c e k d q) h1 ∙ ap (λ x. program o r' x e k d q) h2 ∙ ap (λ x. program o r' c' x k d q) h3
    ∙ ap (λ x. program o r' c' e' x d q) h4 ∙ ap (λ x. program o r' c' e' k' x q) h5 ∙ ap (λ x. program o r' c' e' k' d' x) h6

module _ (p : Program) (good : IsProgram p) (small : HasSmallNumbers p) (ss : List Section) (a b c : Bool) where
  -- what is told at the end
  abbrev told : Told
  told = behind_columns p ss a (sides_told p (length p.rows)) b (ranges_told p (length p.rows)) c (bounds_told p (length p.columns)) (pairs_told p (length p.columns))

  row_is_good : (i : ℕ) → i < length p.rows → IsRow (sides_at p i)
  row_is_good i lt = good.good_rows i no_sides (omega (arith, length-map (λ (r : List ℕ × Row). r.1) p.rows))

  row_made : (i : ℕ) → i < length p.rows → row_of told (row_name p i, kind_at p i) ≡ slice_index_or p.rows i ([], no_sides)
  row_made i lt =
      ap (λ (v : ℚ). (row_name p i, sides_of (kind_at p i) v (value_at (ranges_told p (length p.rows)) [] (row_name p i)))) (found_side p good small i lt)
      ∙ ap (λ (w : Option ℚ). (row_name p i, sides_of (kind_at p i) (right_side (sides_at p i).low (sides_at p i).high) w)) (found_range p good small i lt)
      ∙ ap (λ (s : Row). (row_name p i, s)) (sides_made (sides_at p i).low (sides_at p i).high (row_is_good i lt))
      ∙ sym (row_by_place p.rows i)

  rows_made : map (row_of told) (program_rows told.rows) ≡ p.rows
  rows_made =
      ap (λ (rs : List (List ℕ × RowKind)). map (row_of told) rs) (binding_rows p good (length p.rows))
      ∙ map-each (row_of told) (length p.rows) (λ i. (row_name p i, kind_at p i) ∷ [])
      ∙ list_by_place p.rows (length p.rows) (λ i. row_of told (row_name p i, kind_at p i)) ([], no_sides) refl row_made

  column_made : (j : ℕ) → j < length p.columns → column_of told (column_name p j, is_marked p j) ≡ slice_index_or p.columns j no_column
  column_made j lt =
      ap (λ (bs : List BoundTelling). (column_name p j, bounded (is_marked p j) bs)) (found_bounds p good j lt)
      ∙ ap (λ (x : Column). (column_name p j, x)) (bounds_made (column_name p j) (bounds_at p j).low (bounds_at p j).high (is_marked p j))
      ∙ sym (column_by_place p.columns j)

  columns_made : map (column_of told) told.columns ≡ p.columns
  columns_made =
      map-each (column_of told) (length p.columns) (λ j. (column_name p j, is_marked p j) ∷ [])
      ∙ list_by_place p.columns (length p.columns) (λ j. column_of told (column_name p j, is_marked p j)) no_column refl column_made

  names_made : names_of told.columns ≡ each (length p.columns) (λ j. column_name p j ∷ [])
  names_made = columns_named p good small (length p.columns)

  -- a list by the columns' names
  by_columns : (f : List ℕ → ℚ) (xs : List ℚ) → length p.columns ≡ length xs → ((j : ℕ) → j < length p.columns → f (column_name p j) ≡ entry xs j) → map f (names_of told.columns) ≡ xs
  by_columns f xs e h =
      ap (λ (names : List (List ℕ)). map f names) names_made ∙ map-each f (length p.columns) (λ j. column_name p j ∷ [])
      ∙ list_by_place xs (length p.columns) (λ j. f (column_name p j)) zero_ℚ e h

  entries_made : map (λ r. numbers_of told r.0) (program_rows told.rows) ≡ p.entries
  entries_made =
      ap (λ (rs : List (List ℕ × RowKind)). map (λ (r : List ℕ × RowKind). numbers_of told r.0) rs) (binding_rows p good (length p.rows))
      ∙ map-each (λ (r : List ℕ × RowKind). numbers_of told r.0) (length p.rows) (λ i. (row_name p i, kind_at p i) ∷ [])
      ∙ list_by_place p.entries (length p.rows) (λ i. numbers_of told (row_name p i)) [] (sym good.height)
      (λ i lt. by_columns (λ column. value_told (entries_told p (length p.columns)) column (row_name p i)) (row_at p.entries i) (sym (good.width i [] (omega (arith, good.height))))
      (λ j jt. found_entry p good j i jt lt))

  costs_made : numbers_of told p.objective ≡ p.costs
  costs_made = by_columns (λ column. value_told (entries_told p (length p.columns)) column p.objective) p.costs (sym good.costs_width) (λ j jt. found_cost p good j jt)

  constant_made : neg_ℚ (value_told (sides_told p (length p.rows)) [] p.objective) ≡ p.constant
  constant_made = ap neg_ℚ (found_constant p good small) ∙ sym (laws.neg-neg rationals p.constant)

  pairs_made : ((one other : List ℕ) → pair_value told one other ≡ unwrap_or (or_other (value_at (pairs_told p (length p.columns)) one other) (value_at (pairs_told p (length p.columns)) other one)) zero_ℚ)
      → map (λ one. map (λ other. pair_value told one other) (names_of told.columns)) (names_of told.columns) ≡ p.pairs
  pairs_made once =
      ap (λ (names : List (List ℕ)). map (λ (one : List ℕ). map (λ (other : List ℕ). pair_value told one other) (names_of told.columns)) names) names_made
      ∙ map-each (λ (one : List ℕ). map (λ (other : List ℕ). pair_value told one other) (names_of told.columns)) (length p.columns) (λ j. column_name p j ∷ [])
      ∙ list_by_place p.pairs (length p.columns) (λ j. map (λ (other : List ℕ). pair_value told (column_name p j) other) (names_of told.columns)) [] (sym good.pairs_height)
      (λ j jt. by_columns (λ other. pair_value told (column_name p j) other) (row_at p.pairs j) (sym (good.pairs_width j [] (omega (arith, good.pairs_height))))
      (λ k kt. once (column_name p j) (column_name p k) ∙ found_pair p good j k jt kt))

  -- all parts are the program's
  pub program_made : ((one other : List ℕ) → pair_value told one other ≡ unwrap_or (or_other (value_at (pairs_told p (length p.columns)) one other) (value_at (pairs_told p (length p.columns)) other one)) zero_ℚ)
      → program_of told ≡ p
  program_made once = same_program p.objective _ _ _ _ _ _ _ _ _ _ _ _ rows_made columns_made entries_made costs_made constant_made (pairs_made once)
