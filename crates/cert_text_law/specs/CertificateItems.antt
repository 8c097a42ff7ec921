-- The lines of a certificate, in their order, as items.
use Rattle.std.specs.Prelude.{ℕ, suc, List, [], ◌∷◌, ◌++◌, if◌then◌else◌}
use Rattle.std.specs.List.{flat_map}
use Rattle.rational.specs.Rational.{ℚ}
use Rattle.rational.specs.Tests.{is_zero}
use Rattle.program_law.specs.declared.Square.{Square}
use Rattle.certificate_law.specs.declared.Node.{Node}
use Rattle.certificate_law.specs.declared.Node.TheVariants as nodes
use Rattle.certificate_law.specs.declared.Certificate.{Certificate}
use Rattle.certificate_law.specs.declared.Certificate.TheVariants as certificates
use Rattle.cert_grammar.specs.declared.items.Item.{Item}
use Rattle.cert_grammar.specs.declared.items.Item.TheVariants as items
use Rattle.cert_grammar.specs.declared.items.Claim.{Claim}
use Rattle.cert_grammar.specs.declared.items.Claim.TheVariants.{Optimal, Infeasible, Unbounded, NotConvex}
use Rattle.cert_grammar.specs.Grammar.{item_of_claim}

-- the item of an entry, and none where it is 0
abbrev pub entry_items : (ℕ → ℚ → Item) → ℕ → ℚ → List Item
entry_items make j v = if is_zero v then [] else make j v ∷ []

-- the items of the entries, the first at a place
abbrev pub entries : (ℕ → ℚ → Item) → ℕ → List ℚ → List Item
entries make j [] = []
entries make j (v ∷ vs) = entry_items make j v ++ entries make (suc j) vs

abbrev pub square_items : Square → List Item
square_items s = items.Square s.weight ∷ entries items.Coef 0 s.coef

abbrev pub node_items : Node → List Item
node_items (nodes.Branch j k) = items.Branch j k ∷ []
node_items (nodes.Bound w y) = items.Bound ∷ (entries items.W 0 w ++ entries items.Y 0 y)
node_items (nodes.Farkas y) = items.Farkas ∷ entries items.Y 0 y
node_items (nodes.Cross j) = items.Cross j ∷ []

abbrev pub claim_of : Certificate → Claim
claim_of (certificates.Optimal x v squares tree) = Optimal
claim_of (certificates.Infeasible tree) = Infeasible
claim_of (certificates.Unbounded x d squares) = Unbounded
claim_of (certificates.NotConvex v) = NotConvex

-- the items behind the claim
abbrev pub items_of : Certificate → List Item
items_of (certificates.Optimal x v squares tree) =
    items.Value v ∷ (entries items.Point 0 x ++ (flat_map square_items squares ++ (flat_map node_items tree ++ items.End ∷ [])))
items_of (certificates.Infeasible tree) = flat_map node_items tree ++ items.End ∷ []
items_of (certificates.Unbounded x d squares) = entries items.Point 0 x ++ (entries items.Ray 0 d ++ (flat_map square_items squares ++ items.End ∷ []))
items_of (certificates.NotConvex v) = entries items.Direction 0 v ++ items.End ∷ []

abbrev pub certificate_items : Certificate → List Item
certificate_items c = item_of_claim (claim_of c) ∷ items_of c
