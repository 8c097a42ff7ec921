-- What is read of one line more, of the first line, and behind END.
use Rattle.std.proofs.Common.{◌≡◌, ℕ, ◌+◌, Bool, true, false, List, [], ◌∷◌, length, Some, None, Err, refl, sym, arith}
use Rattle.std.proofs.lemmas.Bool.{eqb-true, ne_eqb}
use Rattle.std.specs.Prelude.{◌==◌, ◌&&◌, ◌||◌, if◌then◌else◌}
use Rattle.std.specs.List.{onto_first}
use Rattle.program_law.specs.Program.{Program}
use Rattle.cert_grammar.specs.declared.items.Item.{Item}
use Rattle.cert_grammar.specs.declared.items.Claim.{Claim}
use Rattle.cert_grammar.specs.declared.kinds.CertKind.TheVariants as kinds
use Rattle.cert_fields.specs.Parts.{is_byte, pieces_of, parts_of}
use Rattle.cert_grammar.specs.Places.{place_after, is_ended}
use Rattle.cert_grammar.specs.Faults.{line_fault}
use Rattle.cert_grammar.specs.Items.{item_of}
use Rattle.cert_grammar.specs.Items.{claim_in}
use Rattle.cert_text_law.specs.Items.{unless, items_on, items_claimed, text_items}
use Rattle.cert_text_law.specs.Reading.{is_nil, fault_or, read_on, read_of}
use Rattle.cert_fields.proofs.Pieces.{HasFirst, split_has_first}

-- the text of a line and what stands behind it
pub step : (p : Program) (claim : Claim) (n : ℕ) (earlier : List Item) (line text rest : List ℕ) → pieces_of text ≡ line ∷ pieces_of rest → is_ended (place_after claim earlier).part ≡ false
    → read_on p claim n earlier (pieces_of text)
    ≡ fault_or (line_fault p (place_after claim earlier) (parts_of line)) n (read_on p claim (n + 1) (item_of p (parts_of line) ∷ earlier) (pieces_of rest))
step p claim n earlier line text rest pieces e = let f = split_has_first 10 rest in rw (pieces, f.parts_are, e) refl

-- ---- behind END

-- no byte is left
abbrev pub is_last : List (List ℕ) → Bool
is_last [] = false
is_last (piece ∷ pieces) = is_nil pieces && (length piece == 0)

more_last : (b : ℕ) (parts : List (List ℕ)) → is_last (onto_first b parts) ≡ false
more_last b [] = ne_eqb (length (b ∷ [])) 0 (λ e. omega arith)
more_last b (p ∷ []) = ne_eqb (length (b ∷ p)) 0 (λ e. omega arith)
more_last b (p ∷ q ∷ ps) = refl

pub not_last : (b : ℕ) (bs : List ℕ) → is_last (pieces_of (b ∷ bs)) ≡ false
not_last b bs = go (is_byte 10 b)
  where
    go : (t : Bool) → is_last (if t then [] ∷ pieces_of bs else onto_first b (pieces_of bs)) ≡ false
    go true = let f = split_has_first 10 bs in rw f.parts_are refl
    go false = more_last b (pieces_of bs)

pub read_ended : (p : Program) (claim : Claim) (n : ℕ) (earlier : List Item) (pieces : List (List ℕ)) → is_ended (place_after claim earlier).part ≡ true → HasFirst pieces → is_last pieces ≡ false → read_on p claim n earlier pieces ≡ Err (n, kinds.CertAfter)
read_ended p claim n earlier [] e f last = absurd (none f.parts_are)
  where
    none : [] ≡ f.first ∷ f.others → ⊥
    none e = cc
read_ended p claim n earlier (piece ∷ pieces) e f last = rw (e, last) refl

-- ---- the first line

pub claimed : (p : Program) (n : ℕ) (line text rest : List ℕ) (claim : Claim) → pieces_of text ≡ line ∷ pieces_of rest → claim_in line ≡ Some claim → read_of p n text ≡ read_on p claim (n + 1) [] (pieces_of rest)
claimed p n line text rest claim pieces e = let f = split_has_first 10 rest in rw (pieces, f.parts_are, e) refl

pub unclaimed : (p : Program) (n : ℕ) (line text rest : List ℕ) → pieces_of text ≡ line ∷ pieces_of rest → claim_in line ≡ None → read_of p n text ≡ Err (n, kinds.CertLine)
unclaimed p n line text rest pieces e = let f = split_has_first 10 rest in rw (pieces, f.parts_are, e) refl

pub unbegun : (p : Program) (n : ℕ) (text : List ℕ) → pieces_of text ≡ text ∷ [] → read_of p n text ≡ Err (n, kinds.CertEnd)
unbegun p n text pieces = rw pieces refl

pub is_nothing : (text : List ℕ) → true ≡ (length text == 0) → text ≡ []
is_nothing [] e = refl
is_nothing (b ∷ bs) e = absurd (let n = eqb-true (length (b ∷ bs)) 0 (sym e) in omega (arith, n))

-- ---- the items

pub listed_step : (p : Program) (claim : Claim) (earlier : List Item) (piece next : List ℕ) (pieces : List (List ℕ)) → is_ended (place_after claim earlier).part ≡ false
    → items_on p claim earlier (piece ∷ next ∷ pieces)
    ≡ unless (line_fault p (place_after claim earlier) (parts_of piece)) (item_of p (parts_of piece) ∷ items_on p claim (item_of p (parts_of piece) ∷ earlier) (next ∷ pieces))
listed_step p claim earlier piece next pieces e = rw e refl

pub listed_end : (p : Program) (claim : Claim) (earlier : List Item) (pieces : List (List ℕ)) → is_ended (place_after claim earlier).part ≡ true → items_on p claim earlier pieces ≡ []
listed_end p claim earlier [] e = refl
listed_end p claim earlier (piece ∷ pieces) e = rw e refl

pub listed_cut : (p : Program) (claim : Claim) (earlier : List Item) (piece : List ℕ) → items_on p claim earlier (piece ∷ []) ≡ []
listed_cut p claim earlier piece = go (is_ended (place_after claim earlier).part) _
  where
    go : (b : Bool) (others : List Item) → (if b || true then [] else others) ≡ []
    go true others = refl
    go false others = refl

pub listed_first : (p : Program) (line text rest : List ℕ) → pieces_of text ≡ line ∷ pieces_of rest → text_items p text ≡ items_claimed p (claim_in line) (pieces_of rest)
listed_first p line text rest pieces = let f = split_has_first 10 rest in rw (pieces, f.parts_are) refl
