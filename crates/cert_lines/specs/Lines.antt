-- A text of a certificate, given item by item.
use Rattle.std.specs.Prelude.{◌≡◌, ℕ, ◌+◌, List, length, slice_get, Option, Some, None, Result, Ok, Err}
use Rattle.program_law.specs.Program.{Program}
use Rattle.certificate_law.specs.declared.Certificate.{Certificate}
use Rattle.cert_grammar.specs.declared.items.Item.{Item}
use Rattle.cert_grammar.specs.declared.kinds.CertFault.{CertFault}
use Rattle.cert_text_law.specs.Reading.{read_of}
use Rattle.cert_text_law.specs.Items.{text_items}

-- the program, the text, the number of its first line, and how many items were given
pub record Lines : Type 0 where
  pub program : Program
  pub text : List ℕ
  pub line : ℕ
  pub given : ℕ

-- what the next call gives: the item of the next line; nothing behind END where nothing follows; or the text's fault
abbrev pub Gives : Lines → Lines → Result (Option Item) CertFault → Type 0
Gives old new (Ok (Some item)) = (new ≡ record old { given = old.given + 1 }) × (slice_get (text_items old.program old.text) old.given ≡ Some item)
Gives old new (Ok None) = (new ≡ old) × (old.given ≡ length (text_items old.program old.text)) × (c : Certificate) × (read_of old.program old.line old.text ≡ Ok c)
Gives old new (Err f) = (new ≡ old) × (old.given ≡ length (text_items old.program old.text)) × (read_of old.program old.line old.text ≡ Err (f.line, f.kind))
