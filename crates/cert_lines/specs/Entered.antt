-- What reading the fields of a line answers.
use Rattle.std.specs.Prelude.{◌≡◌, ℕ, List, Some, None, Result, Ok, Err}
use Rattle.rational.specs.Rational.{ℚ}
use Rattle.program_law.specs.Program.{Program}
use Rattle.program_law.specs.Places.{place_of}
use Rattle.mps_tokens.specs.declared.words.CertificateWord.{CertificateWord}
use Rattle.cert_grammar.specs.declared.kinds.CertKind.{CertKind}
use Rattle.cert_grammar.specs.declared.places.Place.{Place}
use Rattle.cert_grammar.specs.declared.grammar.Allowed.{Allowed}
use Rattle.cert_grammar.specs.declared.grammar.Shape.{Shape}
use Rattle.cert_grammar.specs.declared.items.Item.{Item}
use Rattle.cert_grammar.specs.declared.items.Found.{Found}
use Rattle.cert_fields.specs.Fields.{field}
use Rattle.cert_fields.specs.Numbers.{number_of}
use Rattle.cert_grammar.specs.Faults.{first_of, bare_tests, number_tests, name_tests, entry_tests, shape_tests, line_fault}
use Rattle.cert_grammar.specs.Items.{item_of, found_in}

abbrev pub ReadsBare : Place → CertificateWord → List (List ℕ) → Result (Unit {0}) CertKind → Type 0
ReadsBare s word fields (Ok u) = first_of (bare_tests s word fields) ≡ None
ReadsBare s word fields (Err kind) = first_of (bare_tests s word fields) ≡ Some kind

abbrev pub ReadsNumber : Place → CertificateWord → Allowed → List (List ℕ) → Result ℚ CertKind → Type 0
ReadsNumber s word allowed fields (Ok v) = (first_of (number_tests s word allowed fields) ≡ None) × (number_of (field fields 0) ≡ Ok v)
ReadsNumber s word allowed fields (Err kind) = first_of (number_tests s word allowed fields) ≡ Some kind

abbrev pub ReadsName : Place → CertificateWord → List (List ℕ) → List (List ℕ) → Result ℕ CertKind → Type 0
ReadsName s word names fields (Ok j) = (first_of (name_tests s word names fields) ≡ None) × (place_of names (field fields 0) ≡ Some j)
ReadsName s word names fields (Err kind) = first_of (name_tests s word names fields) ≡ Some kind

abbrev pub ReadsEntry : Place → CertificateWord → List (List ℕ) → Allowed → List (List ℕ) → Result (ℕ × ℚ) CertKind → Type 0
ReadsEntry s word names allowed fields (Ok e) =
    (first_of (entry_tests s word names allowed fields) ≡ None) × (place_of names (field fields 0) ≡ Some e.0) × (number_of (field fields 1) ≡ Ok e.1)
ReadsEntry s word names allowed fields (Err kind) = first_of (entry_tests s word names allowed fields) ≡ Some kind

-- what stands behind the word of a line, or its fault
abbrev pub ReadsFound : Program → Place → CertificateWord → Shape → List (List ℕ) → Result Found CertKind → Type 0
ReadsFound p s word shape fields (Ok found) = (first_of (shape_tests p s word shape fields) ≡ None) × (found_in p shape fields ≡ found)
ReadsFound p s word shape fields (Err kind) = first_of (shape_tests p s word shape fields) ≡ Some kind

-- the item of a line, or its fault
abbrev pub ReadsLine : Program → Place → List (List ℕ) → Result Item CertKind → Type 0
ReadsLine p s parts (Ok item) = (line_fault p s parts ≡ None) × (item_of p parts ≡ item)
ReadsLine p s parts (Err kind) = line_fault p s parts ≡ Some kind
