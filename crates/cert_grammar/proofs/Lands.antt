-- Which lines may stand where, and where they lead, by cases over the table of the grammar.
use Rattle.std.proofs.Common.{◌≡◌, ℕ, ◌<◌, Bool, true, false, refl, ap, subst, arith}
use Rattle.std.specs.Prelude.{◌&&◌, nat_lt, is_some, unwrap_or}
use Rattle.std.proofs.lemmas.Bool.Decides.{nat_tests}
use Rattle.mps_tokens.specs.declared.words.CertificateWord.{CertificateWord}
use Rattle.mps_tokens.specs.declared.words.CertificateWord.TheVariants as words
use Rattle.cert_grammar.specs.declared.items.Item.{Item}
use Rattle.cert_grammar.specs.declared.items.Claim.{Claim}
use Rattle.cert_grammar.specs.declared.items.Claim.TheVariants.{Optimal, Unbounded}
use Rattle.cert_grammar.specs.declared.grammar.Part.{Part}
use Rattle.cert_grammar.specs.declared.grammar.Part.TheVariants as parts
use Rattle.cert_grammar.specs.declared.places.Place.{Place}
use Rattle.cert_grammar.specs.Grammar.{follows, is_due, item_word, next_behind}
use Rattle.cert_grammar.specs.Places.{after, at, counted, is_ended, least_in, may_stand}

pub first_true : (a b : Bool) → (a && b) ≡ true → a ≡ true
first_true true b e = refl
first_true false b e = absurd cc

pub second_true : (a b : Bool) → (a && b) ≡ true → b ≡ true
second_true true b e = e
second_true false b e = absurd cc

abbrev pub is_optimal : Claim → Bool
is_optimal Optimal = true
is_optimal claim = false

abbrev pub is_unbounded : Claim → Bool
is_unbounded Unbounded = true
is_unbounded claim = false

-- a word may follow in a part
abbrev pub can : Claim → Part → CertificateWord → Bool
can claim part word = is_some (follows claim part word)

pub can_stand : (s : Place) (word : CertificateWord) → may_stand s word ≡ true → can s.claim s.part word ≡ true
can_stand s word e = first_true (can s.claim s.part word) (is_due word s.wanted) e

pub is_wanted : (s : Place) (word : CertificateWord) → is_due word s.wanted ≡ nat_lt 0 s.wanted → may_stand s word ≡ true → 0 < s.wanted
is_wanted s word h e = above s.wanted (subst (λ b. b ≡ true) h (second_true (can s.claim s.part word) (is_due word s.wanted) e))
  where
    above : (w : ℕ) → nat_lt 0 w ≡ true → 0 < w
    above w e = grind (arith, nat_tests)

abbrev pub is_claim_word : CertificateWord → Bool
is_claim_word words.Optimal = true
is_claim_word words.Infeasible = true
is_claim_word words.Unbounded = true
is_claim_word words.NotConvex = true
is_claim_word word = false

pub no_claim_word : (claim : Claim) (part : Part) (word : CertificateWord) → is_claim_word word ≡ true → can claim part word ≡ false
no_claim_word claim part word c = grind arith

-- no claim may stand behind the first line
pub never_claims : (s : Place) (word : CertificateWord) → is_claim_word word ≡ true → may_stand s word ≡ true → ⊥
never_claims s word c e = clash (can s.claim s.part word) (can_stand s word e) (no_claim_word s.claim s.part word c)
  where
    clash : (b : Bool) → b ≡ true → b ≡ false → ⊥
    clash b e f = cc

-- ---- where a line leads

abbrev pub part_of : CertificateWord → Part
part_of words.Value = parts.Points
part_of words.Point = parts.Points
part_of words.Ray = parts.Rays
part_of words.Vector = parts.Directions
part_of words.Square = parts.Squares
part_of words.Coef = parts.Squares
part_of words.Branch = parts.Nodes
part_of words.Bound = parts.LeafPoint
part_of words.Farkas = parts.Multipliers
part_of words.Cross = parts.Nodes
part_of words.W = parts.LeafPoint
part_of words.Y = parts.Multipliers
part_of word = parts.Ended

-- the place behind a line that may stand
abbrev pub lands : Place → Item → Place
lands s item = at (part_of (item_word item)) (next_behind item) (counted item s)

behind_is : (claim : Claim) (part : Part) (word : CertificateWord) → can claim part word ≡ true → unwrap_or (follows claim part word) part ≡ part_of word
behind_is claim part word e = grind arith

pub after_is : (s : Place) (item : Item) → may_stand s (item_word item) ≡ true → after s item ≡ lands s item
after_is s item e = ap (λ part. at part (next_behind item) (counted item s)) (behind_is s.claim s.part (item_word item) (can_stand s (item_word item) e))

-- ---- the parts in which a word may stand

pub unended : (claim : Claim) (part : Part) (word : CertificateWord) → can claim part word ≡ true → is_ended part ≡ false
unended claim part word e = grind arith

abbrev pub is_amid : Part → Bool
is_amid parts.Value = false
is_amid parts.Ended = false
is_amid part = true

abbrev pub is_ray_part : Part → Bool
is_ray_part parts.Points = true
is_ray_part parts.Rays = true
is_ray_part part = false

abbrev pub is_square_part : Part → Bool
is_square_part parts.Squares = true
is_square_part part = is_ray_part part

abbrev pub is_leaf_part : Part → Bool
is_leaf_part parts.LeafPoint = true
is_leaf_part parts.Multipliers = true
is_leaf_part part = false

abbrev pub is_value_word : CertificateWord → Bool
is_value_word words.Value = true
is_value_word word = false

abbrev pub is_node_word : CertificateWord → Bool
is_node_word words.Branch = true
is_node_word words.Bound = true
is_node_word words.Farkas = true
is_node_word words.Cross = true
is_node_word word = false

pub amid_part : (claim : Claim) (part : Part) (word : CertificateWord) → is_value_word word ≡ false → can claim part word ≡ true → is_amid part ≡ true
amid_part claim part word w e = grind arith

pub amid_end : (claim : Claim) (part : Part) → is_amid part ≡ true → can claim part words.End ≡ true
amid_end claim part e = grind arith

pub ray_part : (claim : Claim) (part : Part) → can claim part words.Ray ≡ true → is_ray_part part ≡ true
ray_part claim part e = grind arith

pub square_part : (claim : Claim) (part : Part) → can claim part words.Square ≡ true → is_square_part part ≡ true
square_part claim part e = grind arith

pub leaf_part : (claim : Claim) (part : Part) → can claim part words.Y ≡ true → is_leaf_part part ≡ true
leaf_part claim part e = grind arith

pub value_part : (claim : Claim) (part : Part) → can claim part words.Value ≡ true → part ≡ parts.Value
value_part claim part e = grind arith

pub point_part : (claim : Claim) (part : Part) → can claim part words.Point ≡ true → part ≡ parts.Points
point_part claim part e = grind arith

pub vector_part : (claim : Claim) (part : Part) → can claim part words.Vector ≡ true → part ≡ parts.Directions
vector_part claim part e = grind arith

pub coef_part : (claim : Claim) (part : Part) → can claim part words.Coef ≡ true → part ≡ parts.Squares
coef_part claim part e = grind arith

pub w_part : (claim : Claim) (part : Part) → can claim part words.W ≡ true → part ≡ parts.LeafPoint
w_part claim part e = grind arith

pub bound_claim : (claim : Claim) (part : Part) → can claim part words.Bound ≡ true → is_optimal claim ≡ true
bound_claim claim part e = grind arith

-- ---- what may follow a list

pub point_square : (claim : Claim) (part : Part) → can claim part words.Point ≡ true → can claim part words.Square ≡ true
point_square claim part e = grind arith

pub point_ray : (claim : Claim) (part : Part) → is_unbounded claim ≡ true → can claim part words.Point ≡ true → can claim part words.Ray ≡ true
point_ray claim part u e = grind arith

pub ray_square : (claim : Claim) (part : Part) → can claim part words.Ray ≡ true → can claim part words.Square ≡ true
ray_square claim part e = grind arith

pub coef_square : (claim : Claim) (part : Part) → can claim part words.Coef ≡ true → can claim part words.Square ≡ true
coef_square claim part e = grind arith

pub w_y : (claim : Claim) (part : Part) → can claim part words.W ≡ true → can claim part words.Y ≡ true
w_y claim part e = grind arith

-- behind each line but VALUE there may be END, if no subtree is wanted
pub ends_too : (claim : Claim) (part : Part) (word : CertificateWord) → is_value_word word ≡ false → can claim part word ≡ true → can claim part words.End ≡ true
ends_too claim part word v e = grind arith

-- where END may stand, so may nodes
pub end_node : (claim : Claim) (part : Part) → can claim part words.End ≡ true
    → (can claim part words.Branch ≡ true) × (can claim part words.Farkas ≡ true) × (can claim part words.Cross ≡ true)
end_node claim part e = (branch claim part e, farkas claim part e, cross claim part e)
  where
    branch : (claim : Claim) (part : Part) → can claim part words.End ≡ true → can claim part words.Branch ≡ true
    branch claim part e = grind arith

    farkas : (claim : Claim) (part : Part) → can claim part words.End ≡ true → can claim part words.Farkas ≡ true
    farkas claim part e = grind arith

    cross : (claim : Claim) (part : Part) → can claim part words.End ≡ true → can claim part words.Cross ≡ true
    cross claim part e = grind arith

pub end_bound : (claim : Claim) (part : Part) → can claim part words.End ≡ true → is_optimal claim ≡ true → can claim part words.Bound ≡ true
end_bound claim part e o = grind arith

pub nodes_end : (claim : Claim) → can claim parts.Nodes words.End ≡ true
nodes_end claim = grind arith

-- ---- lists begin with any place

pub ray_least : (claim : Claim) (part : Part) (next : ℕ) → can claim part words.Point ≡ true → least_in words.Ray part next ≡ 0
ray_least claim part next e = grind arith

pub y_least : (claim : Claim) (part : Part) (next : ℕ) → can claim part words.W ≡ true → least_in words.Y part next ≡ 0
y_least claim part next e = grind arith
