-- The fields of an item, and what is asked of an item at its place.
use Rattle.std.proofs.Common.{◌≡◌, ◌≢◌, ℕ, ◌<◌, ◌≤◌, true, false, List, [], ◌∷◌, length, codes}
use Rattle.std.specs.Prelude.{nat_le, unsigned_abs, AllPairs}
use Rattle.std.specs.Fmt.{signed_decimal}
use Rattle.rational.specs.Rational.{ℚ, Fits}
use Rattle.frac_core.specs.Parts.{max_part}
use Rattle.frac_core.specs.Text.{text_of}
use Rattle.program_law.specs.Program.{Program}
use Rattle.rational.specs.Tests.{is_zero, is_positive}
use Rattle.mps_tokens.specs.declared.words.CertificateWord.{CertificateWord}
use Rattle.mps_tokens.specs.declared.words.CertificateWord.TheVariants as words
use Rattle.cert_fields.specs.declared.names.Axis.{Axis}
use Rattle.cert_fields.specs.declared.names.Axis.TheVariants.{Columns, Rows}
use Rattle.cert_grammar.specs.declared.items.Item.{Item}
use Rattle.cert_grammar.specs.declared.items.Item.TheVariants as items
use Rattle.cert_grammar.specs.declared.places.Place.{Place}
use Rattle.cert_fields.specs.Names.{names_on, count_on, name_at}
use Rattle.cert_grammar.specs.Grammar.{item_word}
use Rattle.cert_grammar.specs.Places.{may_stand, least}
use Rattle.cert_fields.specs.Fields.{is_filled}

abbrev pub column_at : Program → ℕ → List ℕ
column_at p j = name_at (names_on p Columns) j

abbrev pub fields_of : Program → Item → List (List ℕ)
fields_of p items.Optimal = codes "OPTIMAL" ∷ []
fields_of p items.Infeasible = codes "INFEASIBLE" ∷ []
fields_of p items.Unbounded = codes "UNBOUNDED" ∷ []
fields_of p items.NotConvex = codes "NOTCONVEX" ∷ []
fields_of p (items.Value v) = codes "VALUE" ∷ text_of v ∷ []
fields_of p (items.Point j v) = codes "POINT" ∷ column_at p j ∷ text_of v ∷ []
fields_of p (items.Ray j v) = codes "RAY" ∷ column_at p j ∷ text_of v ∷ []
fields_of p (items.Direction j v) = codes "VECTOR" ∷ column_at p j ∷ text_of v ∷ []
fields_of p (items.Square v) = codes "SQUARE" ∷ text_of v ∷ []
fields_of p (items.Coef j v) = codes "COEF" ∷ column_at p j ∷ text_of v ∷ []
fields_of p (items.Branch j k) = codes "BRANCH" ∷ column_at p j ∷ signed_decimal k ∷ []
fields_of p items.Bound = codes "BOUND" ∷ []
fields_of p items.Farkas = codes "FARKAS" ∷ []
fields_of p (items.Cross j) = codes "CROSS" ∷ column_at p j ∷ []
fields_of p (items.W j v) = codes "W" ∷ column_at p j ∷ text_of v ∷ []
fields_of p (items.Y i v) = codes "Y" ∷ name_at (names_on p Rows) i ∷ text_of v ∷ []
fields_of p items.End = codes "END" ∷ []

-- an entry's line at its place
pub record IsEntry (p : Program) (axis : Axis) (s : Place) (word : CertificateWord) (j : ℕ) (v : ℚ) : Type 0 where
  pub stands : may_stand s word ≡ true
  pub inside : j < count_on p axis
  pub fits : Fits max_part v
  pub some : is_zero v ≡ false
  pub late : least s word ≤ j

abbrev pub Accepted : Program → Place → Item → Type 0
Accepted p s items.Optimal = ⊥
Accepted p s items.Infeasible = ⊥
Accepted p s items.Unbounded = ⊥
Accepted p s items.NotConvex = ⊥
Accepted p s (items.Value v) = (may_stand s words.Value ≡ true) × Fits max_part v
Accepted p s (items.Point j v) = IsEntry p Columns s words.Point j v
Accepted p s (items.Ray j v) = IsEntry p Columns s words.Ray j v
Accepted p s (items.Direction j v) = IsEntry p Columns s words.Vector j v
Accepted p s (items.Square v) = (may_stand s words.Square ≡ true) × Fits max_part v × (is_positive v ≡ true) × (nat_le 128 s.squares ≡ false)
Accepted p s (items.Coef j v) = IsEntry p Columns s words.Coef j v
Accepted p s (items.Branch j k) = (may_stand s words.Branch ≡ true) × (j < length p.columns) × (unsigned_abs k ≤ max_part) × (nat_le 20256 s.branches ≡ false)
Accepted p s items.Bound = may_stand s words.Bound ≡ true
Accepted p s items.Farkas = may_stand s words.Farkas ≡ true
Accepted p s (items.Cross j) = (may_stand s words.Cross ≡ true) × (j < length p.columns)
Accepted p s (items.W j v) = IsEntry p Columns s words.W j v
Accepted p s (items.Y i v) = IsEntry p Rows s words.Y i v
Accepted p s items.End = may_stand s words.End ≡ true

-- no two columns and no two rows have one name, and no name is empty
pub record HasNames (p : Program) : Type 0 where
  pub distinct : (axis : Axis) → AllPairs (λ a b. a ≢ b) (names_on p axis)
  pub filled : (axis : Axis) (j : ℕ) → j < count_on p axis → is_filled (name_at (names_on p axis) j) ≡ true

pub accepted_stands : (p : Program) (s : Place) (item : Item) → Accepted p s item → may_stand s (item_word item) ≡ true
accepted_stands p s items.Optimal a = absurd a
accepted_stands p s items.Infeasible a = absurd a
accepted_stands p s items.Unbounded a = absurd a
accepted_stands p s items.NotConvex a = absurd a
accepted_stands p s (items.Value v) a = a.0
accepted_stands p s (items.Square v) a = a.0
accepted_stands p s (items.Branch j k) a = a.0
accepted_stands p s items.Bound a = a
accepted_stands p s items.Farkas a = a
accepted_stands p s (items.Cross j) a = a.0
accepted_stands p s items.End a = a
accepted_stands p s item a = a.stands
