-- What the lines of a certificate tell.
use Rattle.std.specs.Prelude.{ℕ, ◌++◌, List, [], ◌∷◌, length, slice_set}
use Rattle.rational.specs.Rational.{ℚ, zero_ℚ}
use Rattle.program_law.specs.Program.{Program}
use Rattle.program_law.specs.Changes.{zeros}
use Rattle.program_law.specs.declared.Square.{Square}
use Rattle.certificate_law.specs.Nodes.{IsOneTree}
use Rattle.certificate_law.specs.declared.Node.{Node}
use Rattle.certificate_law.specs.declared.Node.TheVariants.{Branch, Bound, Farkas, Cross}
use Rattle.certificate_law.specs.declared.Certificate.{Certificate}
use Rattle.certificate_law.specs.declared.Certificate.TheVariants as certificates
use Rattle.cert_grammar.specs.declared.items.Item.{Item}
use Rattle.cert_grammar.specs.declared.items.Item.TheVariants as items
use Rattle.cert_grammar.specs.declared.items.Claim.{Claim}
use Rattle.cert_grammar.specs.declared.items.Claim.TheVariants.{Optimal, Infeasible, Unbounded, NotConvex}

-- what lines tell of a certificate: its point, ray and vector, its value, its squares, and the nodes of its tree
pub record Told : Type 0 where
  pub point : List ℚ
  pub ray : List ℚ
  pub direction : List ℚ
  pub value : ℚ
  pub squares : List Square
  pub nodes : List Node

-- the last thing changed
abbrev pub on_last : {A : Type 0} → (A → A) → List A → List A
on_last f [] = []
on_last f (x ∷ []) = f x ∷ []
on_last f (x ∷ y ∷ ys) = x ∷ on_last f (y ∷ ys)

abbrev pub with_coef : ℕ → ℚ → Square → Square
with_coef j v s = record s { coef = slice_set s.coef j v }

abbrev pub with_w : ℕ → ℚ → Node → Node
with_w j v (Bound w y) = Bound (slice_set w j v) y
with_w j v node = node

abbrev pub with_y : ℕ → ℚ → Node → Node
with_y i v (Bound w y) = Bound w (slice_set y i v)
with_y i v (Farkas y) = Farkas (slice_set y i v)
with_y i v node = node

-- nothing is told, for so many columns
abbrev pub blank : ℕ → Told
blank columns = record { point = zeros columns; ray = zeros columns; direction = zeros columns; value = zero_ℚ; squares = []; nodes = [] }

-- one item more is told, for so many columns and rows
abbrev pub with_item : ℕ → ℕ → Item → Told → Told
with_item columns rows (items.Value v) d = record d { value = v }
with_item columns rows (items.Point j v) d = record d { point = slice_set d.point j v }
with_item columns rows (items.Ray j v) d = record d { ray = slice_set d.ray j v }
with_item columns rows (items.Direction j v) d = record d { direction = slice_set d.direction j v }
with_item columns rows (items.Square v) d = record d { squares = d.squares ++ (record { weight = v; coef = zeros columns }) ∷ [] }
with_item columns rows (items.Coef j v) d = record d { squares = on_last (with_coef j v) d.squares }
with_item columns rows (items.Branch j k) d = record d { nodes = d.nodes ++ Branch j k ∷ [] }
with_item columns rows items.Bound d = record d { nodes = d.nodes ++ Bound (zeros columns) (zeros rows) ∷ [] }
with_item columns rows items.Farkas d = record d { nodes = d.nodes ++ Farkas (zeros rows) ∷ [] }
with_item columns rows (items.Cross j) d = record d { nodes = d.nodes ++ Cross j ∷ [] }
with_item columns rows (items.W j v) d = record d { nodes = on_last (with_w j v) d.nodes }
with_item columns rows (items.Y i v) d = record d { nodes = on_last (with_y i v) d.nodes }
with_item columns rows item d = d

-- the claim behind one item more
abbrev pub with_claim : Item → Claim → Claim
with_claim items.Optimal claim = Optimal
with_claim items.Infeasible claim = Infeasible
with_claim items.Unbounded claim = Unbounded
with_claim items.NotConvex claim = NotConvex
with_claim item claim = claim

-- what the items tell, the last one first
abbrev pub told_by : Program → List Item → Told
told_by p [] = blank (length p.columns)
told_by p (item ∷ earlier) = with_item (length p.columns) (length p.rows) item (told_by p earlier)

abbrev pub certificate_told : Claim → Told → Certificate
certificate_told Optimal d = certificates.Optimal d.point d.value d.squares d.nodes
certificate_told Infeasible d = certificates.Infeasible d.nodes
certificate_told Unbounded d = certificates.Unbounded d.point d.ray d.squares
certificate_told NotConvex d = certificates.NotConvex d.direction

-- the nodes of a claim with a tree are one whole tree
abbrev pub IsTreeDue : Claim → List Node → Type 0
IsTreeDue Optimal ns = IsOneTree ns
IsTreeDue Infeasible ns = IsOneTree ns
IsTreeDue Unbounded ns = Unit {0}
IsTreeDue NotConvex ns = Unit {0}
