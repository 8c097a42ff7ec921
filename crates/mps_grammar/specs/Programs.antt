-- The program that a file stands for, by what its lines tell, and the faults that all of them make together.
use Rattle.std.specs.Prelude.{ℕ, ◌&&◌, not, Bool, true, false, List, [], ◌∷◌, map, Option, Some, None, unwrap_or, if◌then◌else◌}
use Rattle.std.specs.List.{list_any}
use Rattle.std.specs.Str.{bytes_eq}
use Rattle.rational.specs.Rational.{ℚ, zero_ℚ, one_ℚ, neg_ℚ, ◌+ℚ◌, ◌-ℚ◌, fits}
use Rattle.rational.specs.Order.{same_fields}
use Rattle.frac_core.specs.Parts.{max_part}
use Rattle.rational.specs.Tests.{is_zero, is_negative}
use Rattle.program_law.specs.Program.{Program}
use Rattle.program_law.specs.declared.Row.{Row}
use Rattle.program_law.specs.declared.Column.{Column}
use Rattle.mps_tokens.specs.Cases.{named}
use Rattle.mps_tokens.specs.declared.words.Section.{Section}
use Rattle.mps_tokens.specs.declared.words.Section.TheVariants as sections
use Rattle.mps_tokens.specs.declared.words.RowKind.{RowKind}
use Rattle.mps_tokens.specs.declared.words.RowKind.TheVariants as row_kinds
use Rattle.mps_tokens.specs.declared.words.BoundKind.{BoundKind}
use Rattle.mps_tokens.specs.declared.words.BoundKind.TheVariants as bound_kinds
use Rattle.mps_grammar.specs.declared.kinds.FaultKind.{FaultKind}
use Rattle.mps_grammar.specs.declared.kinds.FaultKind.TheVariants as kinds
use Rattle.named_things.specs.Named.{names_of}
use Rattle.mps_grammar.specs.Told.{Told, Telling, BoundTelling, is_at, program_rows, objective_in}
use Rattle.mps_grammar.specs.Verdict.{Fault}

-- the first of two, or else the other
abbrev pub or_other : {A : Type 0} → Option A → Option A → Option A
or_other None other = other
or_other (Some one) other = Some one

-- the number that is told for two names
abbrev pub value_at : List Telling → List ℕ → List ℕ → Option ℚ
value_at [] column row = None
value_at (t ∷ told) column row = if is_at column row t then Some t.value else value_at told column row

-- the same, or 0
abbrev pub value_told : List Telling → List ℕ → List ℕ → ℚ
value_told told column row = unwrap_or (value_at told column row) zero_ℚ

-- ---- rows

-- the size of a number
abbrev pub size : ℚ → ℚ
size q = if is_negative q then neg_ℚ q else q

-- the side that a range R makes beside the right side b: b - |R| for L, b + |R| for G, and for E b + |R| where R is at least 0, else b - |R|
abbrev pub range_side : RowKind → ℚ → ℚ → ℚ
range_side row_kinds.Objective b r = b
range_side row_kinds.AtMost b r = b -ℚ size r
range_side row_kinds.AtLeast b r = b +ℚ size r
range_side row_kinds.Equal b r = if is_negative r then b -ℚ size r else b +ℚ size r

-- the sides of a row without a range: at most b for L, at least b for G, b for E. An N row has none.
abbrev pub plain_sides : RowKind → ℚ → Row
plain_sides row_kinds.Objective b = record { low = None; high = None }
plain_sides row_kinds.AtMost b = record { low = None; high = Some b }
plain_sides row_kinds.AtLeast b = record { low = Some b; high = None }
plain_sides row_kinds.Equal b = record { low = Some b; high = Some b }

-- with one, the side that it makes stands beside b
abbrev pub ranged_sides : RowKind → ℚ → ℚ → Row
ranged_sides row_kinds.Objective b r = record { low = None; high = None }
ranged_sides row_kinds.AtMost b r = record { low = Some (range_side row_kinds.AtMost b r); high = Some b }
ranged_sides row_kinds.AtLeast b r = record { low = Some b; high = Some (range_side row_kinds.AtLeast b r) }
ranged_sides row_kinds.Equal b r =
    if is_negative r then record { low = Some (range_side row_kinds.Equal b r); high = Some b } else record { low = Some b; high = Some (range_side row_kinds.Equal b r) }

abbrev pub sides_of : RowKind → ℚ → Option ℚ → Row
sides_of kind b None = plain_sides kind b
sides_of kind b (Some r) = ranged_sides kind b r

-- a right side that isn't told is 0
abbrev pub row_of : Told → List ℕ × RowKind → List ℕ × Row
row_of told r = (r.0, sides_of r.1 (value_told told.sides [] r.0) (value_at told.ranges [] r.0))

-- ---- columns

-- the kinds that set a low bound: LO, FX, FR, MI, BV and LI
abbrev pub sets_low : BoundKind → Bool
sets_low bound_kinds.Upper = false
sets_low bound_kinds.Lower = true
sets_low bound_kinds.Fixed = true
sets_low bound_kinds.Free = true
sets_low bound_kinds.MinusInfinity = true
sets_low bound_kinds.PlusInfinity = false
sets_low bound_kinds.Binary = true
sets_low bound_kinds.LowerInteger = true
sets_low bound_kinds.UpperInteger = false

-- the bounds of a column, the last one first
abbrev pub bounds_for : List BoundTelling → List ℕ → List BoundTelling
bounds_for [] name = []
bounds_for (b ∷ earlier) name = if bytes_eq name b.column then b ∷ bounds_for earlier name else bounds_for earlier name

-- the low bound that a high bound leaves: a negative one takes it away, unless a bound set it before
abbrev pub left_low : List BoundTelling → ℚ → Option ℚ → Option ℚ
left_low earlier high low = if is_negative high && not (list_any (λ b. sets_low b.kind) earlier) then None else low

-- a column with one bound more, after the earlier ones
abbrev pub with_bound : List BoundTelling → BoundKind → ℚ → Column → Column
with_bound earlier bound_kinds.Upper v c = record c { low = left_low earlier v c.low; high = Some v }
with_bound earlier bound_kinds.Lower v c = record c { low = Some v }
with_bound earlier bound_kinds.Fixed v c = record c { low = Some v; high = Some v }
with_bound earlier bound_kinds.Free v c = record c { low = None; high = None }
with_bound earlier bound_kinds.MinusInfinity v c = record c { low = None }
with_bound earlier bound_kinds.PlusInfinity v c = record c { high = None }
with_bound earlier bound_kinds.Binary v c = record { low = Some zero_ℚ; high = Some one_ℚ; whole = true }
with_bound earlier bound_kinds.LowerInteger v c = record { low = Some v; high = c.high; whole = true }
with_bound earlier bound_kinds.UpperInteger v c = record { low = left_low earlier v c.low; high = Some v; whole = true }

-- a column with these bounds: at first it is at least 0
abbrev pub bounded : Bool → List BoundTelling → Column
bounded mark [] = record { low = Some zero_ℚ; high = None; whole = mark }
bounded mark (b ∷ earlier) = with_bound earlier b.kind b.value (bounded mark earlier)

abbrev pub column_of : Told → List ℕ × Bool → List ℕ × Column
column_of told c = (c.0, bounded c.1 (bounds_for told.bounds c.0))

-- ---- the quadratic part

abbrev pub is_quadobj : Section → Bool
is_quadobj sections.QuadObj = true
is_quadobj other = false

-- whether the lines give each unordered pair once, which stands for both triangles of Q
abbrev pub gives_pairs_once : Told → Bool
gives_pairs_once told = list_any is_quadobj told.sections

-- an entry of Q; one that isn't told is 0
abbrev pub pair_value : Told → List ℕ → List ℕ → ℚ
pair_value told one other =
    if gives_pairs_once told then unwrap_or (or_other (value_at told.pairs one other) (value_at told.pairs other one)) zero_ℚ else value_told told.pairs one other

-- ---- the program

-- the name of the objective
abbrev pub objective_of : Told → List ℕ
objective_of told = unwrap_or (objective_in told.rows) []

-- the numbers of a row, told or 0, column by column
abbrev pub numbers_of : Told → List ℕ → List ℚ
numbers_of told row = map (λ column. value_told told.entries column row) (names_of told.columns)

-- The rows are those of kind L, G or E. A right side v of the objective is the constant -v.
abbrev pub program_of : Told → Program
program_of told =
    record {
      objective = objective_of told;
      rows = map (row_of told) (program_rows told.rows);
      columns = map (column_of told) told.columns;
      entries = map (λ r. numbers_of told r.0) (program_rows told.rows);
      costs = numbers_of told (objective_of told);
      constant = neg_ℚ (value_told told.sides [] (objective_of told));
      pairs = map (λ one. map (λ other. pair_value told one other) (names_of told.columns)) (names_of told.columns);
    }

-- ---- end faults

-- whether the side that a range makes doesn't fit; a range on an N row makes none
abbrev pub makes_past : Option RowKind → ℚ → ℚ → Bool
makes_past None b r = false
makes_past (Some row_kinds.Objective) b r = false
makes_past (Some kind) b r = not (fits max_part (range_side kind b r))

abbrev pub is_range_past : Told → Telling → Bool
is_range_past told t = makes_past (named told.rows t.row) (value_told told.sides [] t.row) t.value

-- an entry that isn't 0, and isn't the one across the diagonal
abbrev pub is_lopsided : List Telling → Telling → Bool
is_lopsided pairs t = not (is_zero t.value) && not (same_fields (value_told pairs t.row t.column) t.value)

-- the first line with such a number, among tellings with the last one first
abbrev pub first_line : (Telling → Bool) → List Telling → Option ℕ
first_line test [] = None
first_line test (t ∷ earlier) = or_other (first_line test earlier) (if test t then Some t.line else None)

abbrev pub fault_at : FaultKind → Option ℕ → Option Fault
fault_at kind None = None
fault_at kind (Some line) = Some (line, kind)

abbrev pub range_fault : Told → Option Fault
range_fault told = fault_at kinds.RangePast (first_line (is_range_past told) told.ranges)

abbrev pub pair_fault : Told → Option Fault
pair_fault told = if gives_pairs_once told then None else fault_at kinds.NotSymmetric (first_line (is_lopsided told.pairs) told.pairs)

-- the fault of lines without a fault of their own
abbrev pub end_fault : Told → Option Fault
end_fault told = or_other (range_fault told) (pair_fault told)
