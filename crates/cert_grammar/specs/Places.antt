-- Where a line stands, and what may stand there.
use Rattle.std.specs.Prelude.{ℕ, ◌+◌, ◌-◌, ◌^◌, ◌≤◌, ◌&&◌, nat_le, Bool, true, false, List, [], ◌∷◌, is_some, unwrap_or}
use Rattle.mps_tokens.specs.declared.words.CertificateWord.{CertificateWord}
use Rattle.mps_tokens.specs.declared.words.CertificateWord.TheVariants as words
use Rattle.certificate_law.specs.Limits.{most_squares, most_branches}
use Rattle.cert_grammar.specs.declared.items.Item.{Item}
use Rattle.cert_grammar.specs.declared.items.Item.TheVariants as items
use Rattle.cert_grammar.specs.declared.items.Claim.{Claim}
use Rattle.cert_grammar.specs.declared.items.Claim.TheVariants.{Optimal, Infeasible, Unbounded, NotConvex}
use Rattle.cert_grammar.specs.declared.grammar.Part.{Part}
use Rattle.cert_grammar.specs.declared.grammar.Part.TheVariants.{Value, Points, Directions, Nodes, LeafPoint, Ended}
use Rattle.cert_grammar.specs.declared.places.Place.{Place}
use Rattle.cert_grammar.specs.Grammar.{follows, is_due, item_word, next_behind}

-- ---- the place of a line

abbrev pub first_part : Claim → Part
first_part Optimal = Value
first_part Infeasible = Nodes
first_part Unbounded = Points
first_part NotConvex = Directions

-- whether a tree is due
abbrev pub first_wanted : Claim → ℕ
first_wanted Optimal = 1
first_wanted Infeasible = 1
first_wanted Unbounded = 0
first_wanted NotConvex = 0

abbrev pub start : Claim → Place
start claim = record { claim = claim; part = first_part claim; wanted = first_wanted claim; next = 0; squares = 0; branches = 0 }

-- ---- what may stand there

abbrev pub is_ended : Part → Bool
is_ended Ended = true
is_ended part = false

-- whether a word may stand at a place, after the first line
abbrev pub may_stand : Place → CertificateWord → Bool
may_stand s word = is_some (follows s.claim s.part word) && is_due word s.wanted

-- the part behind a line that may stand
abbrev pub part_behind : Place → CertificateWord → Part
part_behind s word = unwrap_or (follows s.claim s.part word) s.part

-- the least place that an entry line with this word may have: where it begins a list, any
abbrev pub least_in : CertificateWord → Part → ℕ → ℕ
least_in words.Ray Points next = 0
least_in words.Y LeafPoint next = 0
least_in words.Branch part next = 0
least_in word part next = next

abbrev pub least : Place → CertificateWord → ℕ
least s word = least_in word s.part s.next

-- it would be the 129th SQUARE or the 20,257th BRANCH
abbrev pub is_one_too_many : Place → CertificateWord → Bool
is_one_too_many s words.Square = nat_le most_squares s.squares
is_one_too_many s words.Branch = nat_le most_branches s.branches
is_one_too_many s word = false

-- ---- the place after a line

-- a line is counted: a branch wants one subtree more, a leaf one less
abbrev pub counted : Item → Place → Place
counted (items.Square v) s = record s { squares = s.squares + 1 }
counted (items.Branch j k) s = record s { wanted = s.wanted + 1; branches = s.branches + 1 }
counted items.Bound s = record s { wanted = s.wanted - 1 }
counted items.Farkas s = record s { wanted = s.wanted - 1 }
counted (items.Cross j) s = record s { wanted = s.wanted - 1 }
counted item s = s

-- in a part, where the next entry of its list has at least a place
abbrev pub at : Part → ℕ → Place → Place
at part next s = record s { part = part; next = next }

-- the place after one more line
abbrev pub after : Place → Item → Place
after s item = at (part_behind s (item_word item)) (next_behind item) (counted item s)

-- the place after these lines, the last one first
abbrev pub place_after : Claim → List Item → Place
place_after claim [] = start claim
place_after claim (item ∷ earlier) = after (place_after claim earlier) item

-- the counts are far below what a number of the machine holds
pub record IsCounted (lines : ℕ) (s : Place) : Type 0 where
  pub wanted : s.wanted ≤ lines + 1
  pub squares : s.squares ≤ lines
  pub branches : s.branches ≤ lines

abbrev pub HasRoom : Place → Type 0
HasRoom s = IsCounted (2 ^ 62) s
