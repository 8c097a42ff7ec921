-- The words of the tables by name.
use Rattle.std.specs.Prelude.{ℕ, List, [], ◌∷◌, codes}
use Rattle.mps_tokens.specs.declared.words.Section.{Section}
use Rattle.mps_tokens.specs.declared.words.Section.TheVariants as sections
use Rattle.mps_tokens.specs.declared.words.RowKind.{RowKind}
use Rattle.mps_tokens.specs.declared.words.RowKind.TheVariants as row_kinds
use Rattle.mps_tokens.specs.declared.words.BoundKind.{BoundKind}
use Rattle.mps_tokens.specs.declared.words.BoundKind.TheVariants as bound_kinds
use Rattle.mps_tokens.specs.declared.words.CertificateWord.{CertificateWord}
use Rattle.mps_tokens.specs.declared.words.CertificateWord.TheVariants as certificate_words

abbrev pub section_names : List (List ℕ × Section)
section_names = (codes "NAME", sections.Name) ∷ (codes "ROWS", sections.Rows) ∷ (codes "COLUMNS", sections.Columns) ∷ (codes "RHS", sections.Rhs) ∷ (codes "RANGES", sections.Ranges) ∷ (codes "BOUNDS", sections.Bounds) ∷ (codes "QUADOBJ", sections.QuadObj) ∷ (codes "QMATRIX", sections.QMatrix) ∷ (codes "DMATRIX", sections.DMatrix) ∷ (codes "ENDATA", sections.EndData) ∷ (codes "OBJSENSE", sections.ObjSense) ∷ []

abbrev pub row_kind_names : List (List ℕ × RowKind)
row_kind_names = (codes "N", row_kinds.Objective) ∷ (codes "L", row_kinds.AtMost) ∷ (codes "G", row_kinds.AtLeast) ∷ (codes "E", row_kinds.Equal) ∷ []

abbrev pub bound_kind_names : List (List ℕ × BoundKind)
bound_kind_names = (codes "UP", bound_kinds.Upper) ∷ (codes "LO", bound_kinds.Lower) ∷ (codes "FX", bound_kinds.Fixed) ∷ (codes "FR", bound_kinds.Free) ∷ (codes "MI", bound_kinds.MinusInfinity) ∷ (codes "PL", bound_kinds.PlusInfinity) ∷ (codes "BV", bound_kinds.Binary) ∷ (codes "LI", bound_kinds.LowerInteger) ∷ (codes "UI", bound_kinds.UpperInteger) ∷ []

abbrev pub certificate_word_names : List (List ℕ × CertificateWord)
certificate_word_names = (codes "OPTIMAL", certificate_words.Optimal) ∷ (codes "INFEASIBLE", certificate_words.Infeasible) ∷ (codes "UNBOUNDED", certificate_words.Unbounded) ∷ (codes "NOTCONVEX", certificate_words.NotConvex) ∷ (codes "VALUE", certificate_words.Value) ∷ (codes "POINT", certificate_words.Point) ∷ (codes "RAY", certificate_words.Ray) ∷ (codes "VECTOR", certificate_words.Vector) ∷ (codes "SQUARE", certificate_words.Square) ∷ (codes "COEF", certificate_words.Coef) ∷ (codes "BRANCH", certificate_words.Branch) ∷ (codes "BOUND", certificate_words.Bound) ∷ (codes "FARKAS", certificate_words.Farkas) ∷ (codes "CROSS", certificate_words.Cross) ∷ (codes "W", certificate_words.W) ∷ (codes "Y", certificate_words.Y) ∷ (codes "END", certificate_words.End) ∷ []
