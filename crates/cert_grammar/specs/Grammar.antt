-- The grammar of a certificate's lines, as two tables: which word may follow, and what stands behind a word.
use Rattle.std.specs.Prelude.{ℕ, ◌+◌, ◌==◌, nat_lt, Bool, true, Option, Some, None}
use Rattle.mps_tokens.specs.declared.words.CertificateWord.{CertificateWord}
use Rattle.mps_tokens.specs.declared.words.CertificateWord.TheVariants as words
use Rattle.cert_fields.specs.declared.names.Axis.TheVariants.{Columns, Rows}
use Rattle.cert_grammar.specs.declared.items.Item.{Item}
use Rattle.cert_grammar.specs.declared.items.Item.TheVariants as items
use Rattle.cert_grammar.specs.declared.items.Found.{Found}
use Rattle.cert_grammar.specs.declared.items.Claim.{Claim}
use Rattle.cert_grammar.specs.declared.items.Claim.TheVariants.{Optimal, Infeasible, Unbounded, NotConvex}
use Rattle.cert_grammar.specs.declared.grammar.Part.{Part}
use Rattle.cert_grammar.specs.declared.grammar.Part.TheVariants.{Value, Points, Rays, Directions, Squares, Nodes, LeafPoint, Multipliers, Ended}
use Rattle.cert_grammar.specs.declared.grammar.Allowed.TheVariants.{Any, NotZero, Positive, Whole}
use Rattle.cert_grammar.specs.declared.grammar.Shape.{Shape}
use Rattle.cert_grammar.specs.declared.grammar.Shape.TheVariants.{Bare, Number, Name, Entry}

-- The part behind a line with this word, where such a line may stand in a part. How many subtrees are wanted is asked apart.
abbrev pub follows : Claim → Part → CertificateWord → Option Part
follows claim Value words.Value = Some Points
follows claim Value word = None
follows claim Ended word = None
follows claim Points words.Point = Some Points
follows Unbounded Points words.Ray = Some Rays
follows claim Rays words.Ray = Some Rays
follows claim Directions words.Vector = Some Directions
follows claim Points words.Square = Some Squares
follows claim Rays words.Square = Some Squares
follows claim Squares words.Square = Some Squares
follows claim Squares words.Coef = Some Squares
follows claim part words.Branch = Some Nodes
follows Optimal part words.Bound = Some LeafPoint
follows claim LeafPoint words.W = Some LeafPoint
follows claim part words.Farkas = Some Multipliers
follows claim LeafPoint words.Y = Some Multipliers
follows claim Multipliers words.Y = Some Multipliers
follows claim part words.Cross = Some Nodes
follows claim part words.End = Some Ended
follows claim part word = None

-- a node may stand where a subtree is wanted, and END where none is
abbrev pub is_due : CertificateWord → ℕ → Bool
is_due words.Branch wanted = nat_lt 0 wanted
is_due words.Bound wanted = nat_lt 0 wanted
is_due words.Farkas wanted = nat_lt 0 wanted
is_due words.Cross wanted = nat_lt 0 wanted
is_due words.End wanted = wanted == 0
is_due word wanted = true

-- what stands behind a word
abbrev pub shape_of : CertificateWord → Shape
shape_of words.Value = Number Any
shape_of words.Point = Entry Columns NotZero
shape_of words.Ray = Entry Columns NotZero
shape_of words.Vector = Entry Columns NotZero
shape_of words.Square = Number Positive
shape_of words.Coef = Entry Columns NotZero
shape_of words.Branch = Entry Columns Whole
shape_of words.Cross = Name Columns
shape_of words.W = Entry Columns NotZero
shape_of words.Y = Entry Rows NotZero
shape_of word = Bare

-- ---- the lines

-- the line that claims
abbrev pub item_of_claim : Claim → Item
item_of_claim Optimal = items.Optimal
item_of_claim Infeasible = items.Infeasible
item_of_claim Unbounded = items.Unbounded
item_of_claim NotConvex = items.NotConvex

-- the line with a word and what stands behind it
abbrev pub item_from : CertificateWord → Found → Item
item_from words.Optimal f = items.Optimal
item_from words.Infeasible f = items.Infeasible
item_from words.Unbounded f = items.Unbounded
item_from words.NotConvex f = items.NotConvex
item_from words.Value f = items.Value f.number
item_from words.Point f = items.Point f.place f.number
item_from words.Ray f = items.Ray f.place f.number
item_from words.Vector f = items.Direction f.place f.number
item_from words.Square f = items.Square f.number
item_from words.Coef f = items.Coef f.place f.number
item_from words.Branch f = items.Branch f.place f.number.num
item_from words.Bound f = items.Bound
item_from words.Farkas f = items.Farkas
item_from words.Cross f = items.Cross f.place
item_from words.W f = items.W f.place f.number
item_from words.Y f = items.Y f.place f.number
item_from words.End f = items.End

-- the word of a line
abbrev pub item_word : Item → CertificateWord
item_word items.Optimal = words.Optimal
item_word items.Infeasible = words.Infeasible
item_word items.Unbounded = words.Unbounded
item_word items.NotConvex = words.NotConvex
item_word (items.Value v) = words.Value
item_word (items.Point j v) = words.Point
item_word (items.Ray j v) = words.Ray
item_word (items.Direction j v) = words.Vector
item_word (items.Square v) = words.Square
item_word (items.Coef j v) = words.Coef
item_word (items.Branch j k) = words.Branch
item_word items.Bound = words.Bound
item_word items.Farkas = words.Farkas
item_word (items.Cross j) = words.Cross
item_word (items.W j v) = words.W
item_word (items.Y i v) = words.Y
item_word items.End = words.End

-- the first place that the next entry of a list may have behind a line
abbrev pub next_behind : Item → ℕ
next_behind (items.Point j v) = j + 1
next_behind (items.Ray j v) = j + 1
next_behind (items.Direction j v) = j + 1
next_behind (items.Coef j v) = j + 1
next_behind (items.W j v) = j + 1
next_behind (items.Y i v) = i + 1
next_behind item = 0
