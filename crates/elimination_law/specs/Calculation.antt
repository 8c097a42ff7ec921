-- The elimination as a calculation whose numbers may have parts of at most top: it ends with the lines, or with the first operation
-- whose result has a larger part.
use Rattle.std.specs.Prelude.{ℕ, zero, suc, List, [], ◌∷◌, Option, Some, None, Result, Ok, Err, ◌||◌, if◌then◌else◌}
use Rattle.rational.specs.Rational.{ℚ, zero_ℚ}
use Rattle.rational.specs.Order.{same_fields}
use Rattle.rational.specs.Sums.{entry}
use Rattle.frac_core.specs.declared.fractions.Op.TheVariants.{Div}
use Rattle.frac_core.specs.declared.fractions.Refused.{Refused}
use Rattle.frac_core.specs.declared.fractions.Tried.{Tried}
use Rattle.frac_core.specs.declared.fractions.Tried.TheVariants.{Is}
use Rattle.frac_core.specs.Calculated.{◌>>=◌, tried_in}
use Rattle.frac_core.specs.Row.{Row, Entries, Refusal, entry_then, row_less}
use Rattle.elimination_law.specs.Elimination.{Line, is_pivot, pivot_row, with_pivot}

-- the first refusal, and else this value
abbrev pub ended : {A : Type 0} → Option Refused → A → Result A Refused
ended None x = Ok x
ended (Some r) x = Err r

-- one entry divided by q: nothing where it is 0
unfoldable pub divide_step : ℕ → ℚ → ℚ → Tried
divide_step top q x = if same_fields x zero_ℚ then Is x else tried_in top Div x q

-- a row divided by q, place by place
unfoldable pub divided_in : ℕ → ℚ → List ℚ → Row
divided_in top q [] = Entries []
divided_in top q (x ∷ row) = entry_then (divide_step top q x) (divided_in top q row)

-- a line with other entries
abbrev pub with_entries : Option ℕ → Row → Result Line Refused
with_entries pivot (Entries row) = Ok (record { pivot = pivot; entries = row })
with_entries pivot (Refusal r) = Err r

-- a line freed of its entry at column j: nothing where it has the pivot of column j, or where the entry is 0
unfoldable pub freed_in : ℕ → ℕ → List ℚ → Line → Result Line Refused
freed_in top j p l =
    if is_pivot j l.pivot || same_fields (entry l.entries j) zero_ℚ then Ok l
    else with_entries l.pivot (row_less top (entry l.entries j) l.entries p)

-- a line before further lines
abbrev pub line_then : Result Line Refused → Result (List Line) Refused → Result (List Line) Refused
line_then (Err r) rest = Err r
line_then (Ok l) (Ok ls) = Ok (l ∷ ls)
line_then (Ok l) (Err r) = Err r

-- the lines freed, one after another
unfoldable pub each_freed_in : ℕ → ℕ → List ℚ → List Line → Result (List Line) Refused
each_freed_in top j p [] = Ok []
each_freed_in top j p (l ∷ ls) = line_then (freed_in top j p l) (each_freed_in top j p ls)

-- the lines after the pivot row of column j is divided
abbrev pub cleared_by : ℕ → ℕ → List Line → Row → Result (List Line) Refused
cleared_by top j ls (Refusal r) = Err r
cleared_by top j ls (Entries p) = each_freed_in top j p (with_pivot j p ls)

-- the lines after column j, given its pivot row
abbrev pub step_in_by : ℕ → ℕ → List Line → Option (List ℚ) → Result (List Line) Refused
step_in_by top j ls None = Ok ls
step_in_by top j ls (Some row) = cleared_by top j ls (divided_in top (entry row j) row)

-- the lines after column j
unfoldable pub step_in : ℕ → ℕ → List Line → Result (List Line) Refused
step_in top j ls = step_in_by top j ls (pivot_row j ls)

-- the lines after k columns from column j on
unfoldable pub eliminated_from_in : ℕ → ℕ → ℕ → List Line → Result (List Line) Refused
eliminated_from_in top zero j ls = Ok ls
eliminated_from_in top (suc k) j ls = step_in top j ls >>= λ next. eliminated_from_in top k (suc j) next

-- the lines after the first n columns
abbrev pub eliminated_in : ℕ → ℕ → List Line → Result (List Line) Refused
eliminated_in top n ls = eliminated_from_in top n 0 ls
