-- The text of a certificate: its lines in order, each as fields with one blank between two.
use Rattle.std.specs.Prelude.{ℕ, List, [], ◌∷◌, ◌++◌, codes, if◌then◌else◌}
use Rattle.std.specs.List.{flat_map}
use Rattle.std.specs.Fmt.{signed_decimal}
use Rattle.rational.specs.Rational.{ℚ}
use Rattle.frac_core.specs.Text.{text_of}
use Rattle.program_law.specs.Program.{Program}
use Rattle.rational.specs.Tests.{is_zero}
use Rattle.program_law.specs.declared.Square.{Square}
use Rattle.certificate_law.specs.declared.Node.{Node}
use Rattle.certificate_law.specs.declared.Node.TheVariants.{Branch, Bound, Farkas, Cross}
use Rattle.certificate_law.specs.declared.Certificate.{Certificate}
use Rattle.certificate_law.specs.declared.Certificate.TheVariants.{Optimal, Infeasible, Unbounded, NotConvex}
use Rattle.cert_fields.specs.declared.names.Axis.TheVariants.{Columns, Rows}
pub use Rattle.cert_fields.specs.Names.{names_on, count_on, name_at}
pub use Rattle.cert_fields.specs.Lines.{line_text}

-- a line is its fields
abbrev pub Lines : Type 0
Lines = List (List (List ℕ))

-- the line of an entry, and none where it is 0
abbrev pub entry_line : List ℕ → List ℕ → ℚ → Lines
entry_line word name v = if is_zero v then [] else (word ∷ name ∷ text_of v ∷ []) ∷ []

-- the lines of the entries, each with the name of its column or row
abbrev pub entry_lines : List ℕ → List (List ℕ) → List ℚ → Lines
entry_lines word [] values = []
entry_lines word (name ∷ names) [] = []
entry_lines word (name ∷ names) (v ∷ vs) = entry_line word name v ++ entry_lines word names vs

abbrev pub square_lines : Program → Square → Lines
square_lines p s = (codes "SQUARE" ∷ text_of s.weight ∷ []) ∷ entry_lines (codes "COEF") (names_on p Columns) s.coef

abbrev pub node_lines : Program → Node → Lines
node_lines p (Branch j k) = (codes "BRANCH" ∷ name_at (names_on p Columns) j ∷ signed_decimal k ∷ []) ∷ []
node_lines p (Bound w y) =
    (codes "BOUND" ∷ []) ∷ (entry_lines (codes "W") (names_on p Columns) w ++ entry_lines (codes "Y") (names_on p Rows) y)
node_lines p (Farkas y) = (codes "FARKAS" ∷ []) ∷ entry_lines (codes "Y") (names_on p Rows) y
node_lines p (Cross j) = (codes "CROSS" ∷ name_at (names_on p Columns) j ∷ []) ∷ []

abbrev pub end_line : Lines
end_line = (codes "END" ∷ []) ∷ []

-- a point that is best, with squares and a tree
abbrev pub best_lines : Program → List ℚ → List Square → List Node → Lines
best_lines p x squares tree = entry_lines (codes "POINT") (names_on p Columns) x ++ (flat_map (square_lines p) squares ++ (flat_map (node_lines p) tree ++ end_line))

-- a ray with squares
abbrev pub ray_lines : Program → List ℚ → List Square → Lines
ray_lines p d squares = entry_lines (codes "RAY") (names_on p Columns) d ++ (flat_map (square_lines p) squares ++ end_line)

abbrev pub certificate_lines : Program → Certificate → Lines
certificate_lines p (Optimal x v squares tree) = (codes "OPTIMAL" ∷ []) ∷ (codes "VALUE" ∷ text_of v ∷ []) ∷ best_lines p x squares tree
certificate_lines p (Infeasible tree) = (codes "INFEASIBLE" ∷ []) ∷ (flat_map (node_lines p) tree ++ end_line)
certificate_lines p (Unbounded x d squares) = (codes "UNBOUNDED" ∷ []) ∷ (entry_lines (codes "POINT") (names_on p Columns) x ++ ray_lines p d squares)
certificate_lines p (NotConvex v) = (codes "NOTCONVEX" ∷ []) ∷ (entry_lines (codes "VECTOR") (names_on p Columns) v ++ end_line)

abbrev pub lines_text : Lines → List ℕ
lines_text lines = flat_map line_text lines

unfoldable pub certificate_text : Program → Certificate → List ℕ
certificate_text p c = lines_text (certificate_lines p c)
