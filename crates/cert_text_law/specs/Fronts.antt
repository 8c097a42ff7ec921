-- The first lines of a text, as the front of a certificate's text.
use Rattle.std.specs.Prelude.{◌≡◌, ℕ, zero, suc, List, [], ◌∷◌, ◌++◌}
use Rattle.program_law.specs.Program.{Program}
use Rattle.certificate_law.specs.declared.Certificate.{Certificate}
use Rattle.cert_fields.specs.Parts.{pieces_of}
use Rattle.cert_grammar.specs.Text.{certificate_text}
use Rattle.cert_grammar.specs.Writable.{IsWritable, NumbersFit}

-- the text of so many pieces, with a line feed behind each but the last of all
abbrev pub first_pieces : ℕ → List (List ℕ) → List ℕ
first_pieces zero pieces = []
first_pieces (suc k) [] = []
first_pieces (suc k) (piece ∷ []) = piece
first_pieces (suc k) (piece ∷ next ∷ pieces) = piece ++ 10 ∷ first_pieces k (next ∷ pieces)

-- so many lines of a text, from its first
abbrev pub first_lines : ℕ → List ℕ → List ℕ
first_lines k text = first_pieces k (pieces_of text)

-- the text of the certificate begins so
pub record Begins (p : Program) (c : Certificate) (front : List ℕ) : Type 0 where
  pub rest : List ℕ
  pub is : certificate_text p c ≡ front ++ rest

-- the text of some certificate whose numbers fit begins so
pub record IsFront (p : Program) (front : List ℕ) : Type 0 where
  pub certificate : Certificate
  pub writable : IsWritable p certificate
  pub numbers : NumbersFit certificate
  pub begins : Begins p certificate front
