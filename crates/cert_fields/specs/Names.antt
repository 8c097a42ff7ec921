-- The names that stand in a certificate: those of the program's columns and rows.
use Rattle.std.specs.Prelude.{ℕ, List, [], length, slice_index_or}
use Rattle.program_law.specs.Program.{Program}
use Rattle.named_things.specs.Named.{names_of}
use Rattle.cert_fields.specs.declared.names.Axis.{Axis}
use Rattle.cert_fields.specs.declared.names.Axis.TheVariants.{Columns, Rows}

-- the names of the columns, or of the rows
abbrev pub names_on : Program → Axis → List (List ℕ)
names_on p Columns = names_of p.columns
names_on p Rows = names_of p.rows

-- how many there are
abbrev pub count_on : Program → Axis → ℕ
count_on p Columns = length p.columns
count_on p Rows = length p.rows

abbrev pub name_at : List (List ℕ) → ℕ → List ℕ
name_at names j = slice_index_or names j []
