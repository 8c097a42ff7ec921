-- What a text of a certificate says, or the first line at which it leaves the grammar.
use Rattle.std.specs.Prelude.{◌≡◌, ℕ, ◌+◌, ◌==◌, ◌&&◌, Bool, true, false, List, [], ◌∷◌, length, Option, Some, None, Result, Ok, Err, ⊤, if◌then◌else◌}
use Rattle.program_law.specs.Program.{Program}
use Rattle.certificate_law.specs.declared.Certificate.{Certificate}
use Rattle.cert_grammar.specs.declared.items.Item.{Item}
use Rattle.cert_grammar.specs.declared.items.Claim.{Claim}
use Rattle.cert_grammar.specs.declared.kinds.CertKind.{CertKind}
use Rattle.cert_grammar.specs.declared.kinds.CertKind.TheVariants as kinds
use Rattle.cert_grammar.specs.declared.kinds.CertStop.{CertStop}
use Rattle.cert_grammar.specs.declared.kinds.CertStop.TheVariants as stops
use Rattle.cert_fields.specs.Parts.{pieces_of, parts_of}
use Rattle.cert_grammar.specs.Places.{place_after, is_ended}
use Rattle.cert_grammar.specs.Faults.{line_fault}
use Rattle.cert_grammar.specs.Items.{claim_in, item_of}
use Rattle.cert_text_law.specs.Told.{told_by, certificate_told}

-- a certificate, or a line's number and its fault
abbrev pub Answer : Type 0
Answer = Result Certificate (ℕ × CertKind)

abbrev pub is_nil : List (List ℕ) → Bool
is_nil [] = true
is_nil (piece ∷ pieces) = false

abbrev pub fault_or : Option CertKind → ℕ → Answer → Answer
fault_or None n rest = rest
fault_or (Some kind) n rest = Err (n, kind)

-- What the lines from number n on say, after the earlier ones, the last one first. The last piece is no line.
abbrev pub read_on : Program → Claim → ℕ → List Item → List (List ℕ) → Answer
read_on p claim n earlier [] = Err (n, kinds.CertEnd)
read_on p claim n earlier (piece ∷ pieces) =
    if is_ended (place_after claim earlier).part
    then (if is_nil pieces && (length piece == 0) then Ok (certificate_told claim (told_by p earlier)) else Err (n, kinds.CertAfter))
    else (if is_nil pieces then Err (n, kinds.CertEnd)
    else fault_or (line_fault p (place_after claim earlier) (parts_of piece)) n
    (read_on p claim (n + 1) (item_of p (parts_of piece) ∷ earlier) pieces))

abbrev pub read_claimed : Program → ℕ → Option Claim → List (List ℕ) → Answer
read_claimed p n None pieces = Err (n, kinds.CertLine)
read_claimed p n (Some claim) pieces = read_on p claim (n + 1) [] pieces

abbrev pub read_pieces : Program → ℕ → List (List ℕ) → Answer
read_pieces p n [] = Err (n, kinds.CertEnd)
read_pieces p n (first ∷ pieces) = if is_nil pieces then Err (n, kinds.CertEnd) else read_claimed p n (claim_in first) pieces

-- the certificate of a text whose first line has the number n, or the first fault
abbrev pub read_of : Program → ℕ → List ℕ → Answer
read_of p n text = read_pieces p n (pieces_of text)

-- ---- what reading answers

abbrev pub Reads : Answer → Result Certificate CertStop → Type 0
Reads answer (Ok c) = answer ≡ Ok c
Reads answer (Err stops.Memory) = ⊤
Reads answer (Err (stops.Fault line kind)) = answer ≡ Err (line, kind)
