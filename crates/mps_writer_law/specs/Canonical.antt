-- The canonical text of a program.
use Rattle.std.specs.Prelude.{ℕ, zero, suc, ◌+◌, ◌-◌, ◌&&◌, not, Bool, true, false, List, [], ◌∷◌, ◌++◌, length, map, slice_index_or, Option, Some, None, codes, if◌then◌else◌}
use Rattle.rational.specs.Rational.{ℚ, ◌-ℚ◌, neg_ℚ, zero_ℚ}
use Rattle.rational.specs.Order.{same_fields}
use Rattle.program_law.specs.declared.Row.{Row}
use Rattle.rational.specs.Tests.{is_zero, is_negative}
use Rattle.rational.specs.Sums.{entry}
use Rattle.rational.specs.Vectors.{row_at}
use Rattle.program_law.specs.Program.{Program, sides, bounds, marks, marker}
use Rattle.mps_writer_law.specs.Lines.{data_line, lines_text, section, each, number_line, unless_zero}

-- ---- a program's parts by their places

abbrev pub row_name : Program → ℕ → List ℕ
row_name p i = slice_index_or (map (λ r. r.0) p.rows) i []

abbrev pub column_name : Program → ℕ → List ℕ
column_name p j = slice_index_or (map (λ c. c.0) p.columns) j []

abbrev pub no_sides : Row
no_sides = record { low = None; high = None }

abbrev pub sides_at : Program → ℕ → Row
sides_at p i = slice_index_or (sides p) i no_sides

abbrev pub bounds_at : Program → ℕ → Row
bounds_at p j = slice_index_or (bounds p) j no_sides

abbrev pub is_marked : Program → ℕ → Bool
is_marked p j = slice_index_or (marks p) j false

-- ---- ROWS: the objective, then each row with its kind

-- E with both sides equal, L with a high side alone, else G
abbrev pub kind_word : Option ℚ → Option ℚ → List ℕ
kind_word (Some low) (Some high) = if same_fields low high then codes "E" else codes "G"
kind_word (Some low) None = codes "G"
kind_word None (Some high) = codes "L"
kind_word None None = codes "G"

abbrev pub row_line : Program → ℕ → List ℕ
row_line p i = data_line (kind_word (sides_at p i).low (sides_at p i).high ∷ row_name p i ∷ [])

abbrev pub rows_lines : Program → List (List ℕ)
rows_lines p = codes "ROWS" ∷ data_line (codes "N" ∷ p.objective ∷ []) ∷ each (length p.rows) (λ i. row_line p i ∷ [])

-- ---- COLUMNS: each column's cost, also 0, then its entries in the order of the rows

abbrev pub marker_line : List ℕ → List ℕ
marker_line word = data_line (codes "MARKER" ∷ marker ∷ word ∷ [])

-- a stretch of marked columns begins where the marks turn true, and ends where they turn false
abbrev pub turn_lines : Bool → Bool → List (List ℕ)
turn_lines false false = []
turn_lines false true = marker_line (codes "'INTORG'") ∷ []
turn_lines true false = marker_line (codes "'INTEND'") ∷ []
turn_lines true true = []

-- the mark of the column before a place; before the first there is none
abbrev pub marked_before : Program → ℕ → Bool
marked_before p zero = false
marked_before p (suc j) = is_marked p j

abbrev pub entry_lines : Program → ℕ → ℕ → List (List ℕ)
entry_lines p j i = unless_zero (column_name p j ∷ row_name p i ∷ []) (entry (row_at p.entries i) j)

abbrev pub cost_line : Program → ℕ → List ℕ
cost_line p j = number_line (column_name p j ∷ p.objective ∷ []) (entry p.costs j)

abbrev pub column_lines : Program → ℕ → List (List ℕ)
column_lines p j =
    turn_lines (marked_before p j) (is_marked p j) ++ (cost_line p j ∷ each (length p.rows) (entry_lines p j))

abbrev pub columns_lines : Program → List (List ℕ)
columns_lines p =
    codes "COLUMNS" ∷ (each (length p.columns) (column_lines p) ++ turn_lines (marked_before p (length p.columns)) false)

-- ---- RHS: minus the constant, then each row's side, unless 0

-- the high side where there is no low one
abbrev pub right_side : Option ℚ → Option ℚ → ℚ
right_side (Some low) high = low
right_side None (Some high) = high
right_side None None = zero_ℚ

abbrev pub side_lines : Program → ℕ → List (List ℕ)
side_lines p i = unless_zero (codes "RHS" ∷ row_name p i ∷ []) (right_side (sides_at p i).low (sides_at p i).high)

abbrev pub constant_lines : Program → List (List ℕ)
constant_lines p = unless_zero (codes "RHS" ∷ p.objective ∷ []) (neg_ℚ p.constant)

abbrev pub right_sides_lines : Program → List (List ℕ)
right_sides_lines p = section (codes "RHS") (constant_lines p ++ each (length p.rows) (side_lines p))

-- ---- RANGES: the difference of two sides that differ

abbrev pub width : Option ℚ → Option ℚ → Option ℚ
width (Some low) (Some high) = if same_fields low high then None else Some (high -ℚ low)
width (Some low) None = None
width None high = None

abbrev pub range_lines : List ℕ → Option ℚ → List (List ℕ)
range_lines name (Some width) = number_line (codes "RNG" ∷ name ∷ []) width ∷ []
range_lines name None = []

abbrev pub ranges_lines : Program → List (List ℕ)
ranges_lines p = section (codes "RANGES") (each (length p.rows) (λ i. range_lines (row_name p i) (width (sides_at p i).low (sides_at p i).high)))

-- ---- BOUNDS

abbrev pub bound_line : List ℕ → List ℕ → ℚ → List ℕ
bound_line kind name value = number_line (kind ∷ codes "BND" ∷ name ∷ []) value

-- A low bound 0 is what a column has without a line, unless its high bound is negative: alone, such a high bound would take
-- the low bound away.
abbrev pub low_lines : List ℕ → ℚ → ℚ → List (List ℕ)
low_lines name low high = if is_zero low && not (is_negative high) then [] else bound_line (codes "LO") name low ∷ []

abbrev pub both_lines : List ℕ → ℚ → ℚ → List (List ℕ)
both_lines name low high =
    if same_fields low high then bound_line (codes "FX") name low ∷ []
    else (low_lines name low high ++ bound_line (codes "UP") name high ∷ [])

abbrev pub bound_lines : List ℕ → Option ℚ → Option ℚ → List (List ℕ)
bound_lines name None None = data_line (codes "FR" ∷ codes "BND" ∷ name ∷ []) ∷ []
bound_lines name None (Some high) =
    data_line (codes "MI" ∷ codes "BND" ∷ name ∷ []) ∷ bound_line (codes "UP") name high ∷ []
bound_lines name (Some low) None = unless_zero (codes "LO" ∷ codes "BND" ∷ name ∷ []) low
bound_lines name (Some low) (Some high) = both_lines name low high

abbrev pub bounds_lines : Program → List (List ℕ)
bounds_lines p =
    section (codes "BOUNDS") (each (length p.columns) (λ j. bound_lines (column_name p j) (bounds_at p j).low (bounds_at p j).high))

-- ---- QUADOBJ: one triangle of Q

abbrev pub pair_lines : Program → ℕ → ℕ → List (List ℕ)
pair_lines p j k = unless_zero (column_name p j ∷ column_name p k ∷ []) (entry (row_at p.pairs j) k)

-- from the diagonal on
abbrev pub row_pair_lines : Program → ℕ → List (List ℕ)
row_pair_lines p j = each (length p.columns - j) (λ d. pair_lines p j (j + d))

abbrev pub pairs_lines : Program → List (List ℕ)
pairs_lines p = section (codes "QUADOBJ") (each (length p.columns) (row_pair_lines p))

-- ---- the whole

abbrev pub program_lines : Program → List (List ℕ)
program_lines p =
    codes "NAME" ∷ (rows_lines p ++ (columns_lines p ++ (right_sides_lines p ++ (ranges_lines p ++ (bounds_lines p ++ (pairs_lines p ++ codes "ENDATA" ∷ []))))))

abbrev pub text_of_program : Program → List ℕ
text_of_program p = lines_text (program_lines p)
