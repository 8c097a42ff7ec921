-- What the lines that were read leave for the next one.
use Rattle.std.specs.Prelude.{◌≡◌, true, ℕ, ◌+◌, ◌≤◌, List, length, drop, Option, Some, None}
use Rattle.program_law.specs.Program.{Program}
use Rattle.certificate_law.specs.declared.Node.{Node}
use Rattle.certificate_law.specs.Wanted.{wanted_after}
use Rattle.cert_fields.specs.Parts.{pieces_of}
use Rattle.cert_grammar.specs.declared.items.Item.{Item}
use Rattle.cert_grammar.specs.declared.items.Claim.{Claim}
use Rattle.cert_grammar.specs.declared.items.Claim.TheVariants.{Optimal, Infeasible, Unbounded, NotConvex}
use Rattle.cert_grammar.specs.declared.places.Place.{Place}
use Rattle.cert_grammar.specs.Places.{place_after, is_ended, IsCounted}
use Rattle.cert_text_law.specs.Reading.{read_on, read_of}
use Rattle.cert_text_law.specs.Items.{items_on, text_items}

-- as many subtrees are wanted as the nodes leave open, and none behind END
pub record IsTracked (s : Place) (nodes : List Node) : Type 0 where
  pub wanted : wanted_after (Some 1) nodes ≡ Some s.wanted
  pub done : is_ended s.part ≡ true → s.wanted ≡ 0

-- the same of a claim with a tree
abbrev pub Tracks : Claim → Place → List Node → Type 0
Tracks Optimal s nodes = IsTracked s nodes
Tracks Infeasible s nodes = IsTracked s nodes
Tracks Unbounded s nodes = Unit {0}
Tracks NotConvex s nodes = Unit {0}

-- So many items of a text are given, and the place is the one behind them: what the rest says is what the whole text does.
pub record IsBehind (p : Program) (text : List ℕ) (line given : ℕ) (rest : List ℕ) (s : Place) : Type 0 where
  pub claim : Claim
  -- those behind the claim, the last one first
  pub earlier : List Item
  pub place : s ≡ place_after claim earlier
  pub counted : IsCounted (length earlier) s
  pub count : given ≡ length earlier + 1
  pub answer : read_of p line text ≡ read_on p claim (line + given) earlier (pieces_of rest)
  pub within : given ≤ length (text_items p text)
  pub later : drop given (text_items p text) ≡ items_on p claim earlier (pieces_of rest)

-- the same, where the first line may still be to come
abbrev pub Follows : Program → List ℕ → ℕ → ℕ → List ℕ → Option Place → Type 0
Follows p text line given rest None = (given ≡ 0) × (rest ≡ text)
Follows p text line given rest (Some s) = IsBehind p text line given rest s
