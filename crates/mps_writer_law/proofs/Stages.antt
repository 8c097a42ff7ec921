-- What is told after each part of a program's text, without the numbers of the lines.
use Rattle.std.specs.Prelude.{◌+◌, ◌-◌, ◌&&◌, not, ℕ, Bool, true, false, List, [], ◌∷◌, ◌++◌, length, Option, Some, None, codes, if◌then◌else◌}
use Rattle.rational.specs.Rational.{ℚ, zero_ℚ, neg_ℚ}
use Rattle.rational.specs.Tests.{is_zero, is_negative}
use Rattle.rational.specs.Order.{same_fields}
use Rattle.program_law.specs.Program.{Program}
use Rattle.rational.specs.Sums.{entry}
use Rattle.rational.specs.Vectors.{row_at}
use Rattle.mps_tokens.specs.declared.words.Section.{Section}
use Rattle.mps_tokens.specs.declared.words.Section.TheVariants as sections
use Rattle.mps_tokens.specs.declared.words.RowKind.{RowKind}
use Rattle.mps_tokens.specs.declared.words.RowKind.TheVariants as row_kinds
use Rattle.mps_tokens.specs.declared.words.BoundKind.{BoundKind}
use Rattle.mps_tokens.specs.declared.words.BoundKind.TheVariants as bound_kinds
use Rattle.mps_grammar.specs.Told.{Told, Telling, BoundTelling}
use Rattle.mps_writer_law.specs.Lines.{each}
use Rattle.mps_writer_law.specs.Canonical.{row_name, column_name, sides_at, bounds_at, right_side, width, is_marked}
use Rattle.mps_writer_law.proofs.Lookups.{each_back, telling, telling_unless_zero}

abbrev pub nothing_told : Told
nothing_told =
    record {
      lines = 0;
      sections = [];
      rows = [];
      columns = [];
      begun = false;
      entries = [];
      side_set = None;
      sides = [];
      range_set = None;
      ranges = [];
      bound_set = None;
      bounds = [];
      pairs = [];
    }

-- ---- ROWS

abbrev pub kind_of : Option ℚ → Option ℚ → RowKind
kind_of (Some low) (Some high) = if same_fields low high then row_kinds.Equal else row_kinds.AtLeast
kind_of (Some low) None = row_kinds.AtLeast
kind_of None (Some high) = row_kinds.AtMost
kind_of None None = row_kinds.AtLeast

abbrev pub kind_at : Program → ℕ → RowKind
kind_at p i = kind_of (sides_at p i).low (sides_at p i).high

abbrev pub told_rows : Program → ℕ → List (List ℕ × RowKind)
told_rows p n = (p.objective, row_kinds.Objective) ∷ each n (λ i. (row_name p i, kind_at p i) ∷ [])

abbrev pub in_rows : Program → ℕ → Told
in_rows p n = record nothing_told { sections = sections.Rows ∷ sections.Name ∷ []; rows = told_rows p n }

-- ---- COLUMNS

abbrev pub told_columns : Program → ℕ → List (List ℕ × Bool)
told_columns p n = each n (λ j. (column_name p j, is_marked p j) ∷ [])

abbrev pub entry_told : Program → ℕ → ℕ → List Telling
entry_told p j i = telling_unless_zero (column_name p j) (row_name p i) (entry (row_at p.entries i) j)

abbrev pub column_told : Program → ℕ → ℕ → List Telling
column_told p j n = each_back n (entry_told p j) ++ telling (column_name p j) p.objective (entry p.costs j) ∷ []

abbrev pub entries_told : Program → ℕ → List Telling
entries_told p n = each_back n (λ j. column_told p j (length p.rows))

-- so many columns, a stretch that is begun or not, and some entries
abbrev pub in_columns : Program → ℕ → Bool → List Telling → Told
in_columns p n begun entries =
    record nothing_told {
      sections = sections.Columns ∷ sections.Rows ∷ sections.Name ∷ [];
      rows = told_rows p (length p.rows);
      columns = told_columns p n;
      begun = begun;
      entries = entries;
    }

-- ---- the sections behind COLUMNS, each of which may be left out

abbrev pub with_section : Bool → Section → List Section → List Section
with_section true s ss = s ∷ ss
with_section false s ss = ss

-- the name of a set, where one was named
abbrev pub set_if : Bool → List ℕ → Option (List ℕ)
set_if true name = Some name
set_if false name = None

abbrev pub side_told : Program → ℕ → List Telling
side_told p i = telling_unless_zero [] (row_name p i) (right_side (sides_at p i).low (sides_at p i).high)

abbrev pub constant_told : Program → List Telling
constant_told p = telling_unless_zero [] p.objective (neg_ℚ p.constant)

abbrev pub sides_told : Program → ℕ → List Telling
sides_told p n = each_back n (side_told p) ++ constant_told p

abbrev pub range_told : List ℕ → Option ℚ → List Telling
range_told name (Some width) = telling [] name width ∷ []
range_told name None = []

abbrev pub ranges_told : Program → ℕ → List Telling
ranges_told p n = each_back n (λ i. range_told (row_name p i) (width (sides_at p i).low (sides_at p i).high))

abbrev pub bound_telling : BoundKind → List ℕ → ℚ → BoundTelling
bound_telling kind name value = record { kind = kind; column = name; value = value }

abbrev pub low_told : List ℕ → ℚ → ℚ → List BoundTelling
low_told name low high = if is_zero low && not (is_negative high) then [] else bound_telling bound_kinds.Lower name low ∷ []

abbrev pub bound_told : List ℕ → Option ℚ → Option ℚ → List BoundTelling
bound_told name None None = bound_telling bound_kinds.Free name zero_ℚ ∷ []
bound_told name None (Some high) = bound_telling bound_kinds.Upper name high ∷ bound_telling bound_kinds.MinusInfinity name zero_ℚ ∷ []
bound_told name (Some low) None = if is_zero low then [] else bound_telling bound_kinds.Lower name low ∷ []
bound_told name (Some low) (Some high) =
    if same_fields low high then bound_telling bound_kinds.Fixed name low ∷ [] else (bound_telling bound_kinds.Upper name high ∷ low_told name low high)

abbrev pub bounds_told : Program → ℕ → List BoundTelling
bounds_told p n = each_back n (λ j. bound_told (column_name p j) (bounds_at p j).low (bounds_at p j).high)

abbrev pub pair_told : Program → ℕ → ℕ → List Telling
pair_told p j k = telling_unless_zero (column_name p j) (column_name p k) (entry (row_at p.pairs j) k)

abbrev pub row_pairs_told : Program → ℕ → ℕ → List Telling
row_pairs_told p j n = each_back n (λ d. pair_told p j (j + d))

abbrev pub pairs_told : Program → ℕ → List Telling
pairs_told p n = each_back n (λ j. row_pairs_told p j (length p.columns - j))

-- behind all columns: the sections, and for each of three whether its set was named and what it told
abbrev pub behind_columns : Program → List Section → Bool → List Telling → Bool → List Telling → Bool → List BoundTelling → List Telling → Told
behind_columns p ss a sides b ranges c bounds pairs =
    record (in_columns p (length p.columns) false (entries_told p (length p.columns))) {
      sections = ss;
      side_set = set_if a (codes "RHS");
      sides = sides;
      range_set = set_if b (codes "RNG");
      ranges = ranges;
      bound_set = set_if c (codes "BND");
      bounds = bounds;
      pairs = pairs;
    }

abbrev pub first_sections : List Section
first_sections = sections.Columns ∷ sections.Rows ∷ sections.Name ∷ []
