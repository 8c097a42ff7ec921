-- The lines of a text as items, up to the line of its first fault.
use Rattle.std.specs.Prelude.{◌||◌, ℕ, List, [], ◌∷◌, Option, Some, None, if◌then◌else◌}
use Rattle.program_law.specs.Program.{Program}
use Rattle.cert_grammar.specs.declared.items.Item.{Item}
use Rattle.cert_grammar.specs.declared.items.Claim.{Claim}
use Rattle.cert_grammar.specs.declared.kinds.CertKind.{CertKind}
use Rattle.cert_fields.specs.Parts.{pieces_of, parts_of}
use Rattle.cert_grammar.specs.Grammar.{item_of_claim}
use Rattle.cert_grammar.specs.Places.{place_after, is_ended}
use Rattle.cert_grammar.specs.Faults.{line_fault}
use Rattle.cert_grammar.specs.Items.{claim_in, item_of}
use Rattle.cert_text_law.specs.Reading.{is_nil}

-- the items, and none where there is a fault
abbrev pub unless : Option CertKind → List Item → List Item
unless None items = items
unless (Some kind) items = []

-- The items of the pieces from one on, after the earlier ones, the last one first. The last piece is no line, and behind END there
-- is none.
abbrev pub items_on : Program → Claim → List Item → List (List ℕ) → List Item
items_on p claim earlier [] = []
items_on p claim earlier (piece ∷ pieces) =
    if is_ended (place_after claim earlier).part || is_nil pieces then []
    else unless (line_fault p (place_after claim earlier) (parts_of piece)) (item_of p (parts_of piece) ∷ items_on p claim (item_of p (parts_of piece) ∷ earlier) pieces)

abbrev pub items_claimed : Program → Option Claim → List (List ℕ) → List Item
items_claimed p None pieces = []
items_claimed p (Some claim) pieces = item_of_claim claim ∷ items_on p claim [] pieces

abbrev pub items_in : Program → List (List ℕ) → List Item
items_in p [] = []
items_in p (first ∷ pieces) = if is_nil pieces then [] else items_claimed p (claim_in first) pieces

-- the lines of a text as items, up to the line of its first fault
abbrev pub text_items : Program → List ℕ → List Item
text_items p text = items_in p (pieces_of text)
