-- What is wrong with a line: the first of its tests, in the order of the kinds, that holds.
use Rattle.std.specs.Prelude.{ℕ, ◌==◌, ◌&&◌, not, nat_lt, Bool, true, false, List, [], ◌∷◌, Option, Some, None, Result, Ok, Err, is_none, if◌then◌else◌}
use Rattle.rational.specs.Rational.{ℚ}
use Rattle.program_law.specs.Program.{Program}
use Rattle.program_law.specs.Places.{place_of}
use Rattle.rational.specs.Tests.{is_zero, is_positive}
use Rattle.mps_tokens.specs.declared.words.CertificateWord.{CertificateWord}
use Rattle.mps_tokens.specs.Words.{certificate_word_names}
use Rattle.mps_tokens.specs.Cases.{named}
use Rattle.cert_grammar.specs.declared.kinds.CertKind.{CertKind}
use Rattle.cert_grammar.specs.declared.kinds.CertKind.TheVariants as kinds
use Rattle.cert_grammar.specs.declared.places.Place.{Place}
use Rattle.mps_tokens.specs.declared.fault.NumberFault.{NumberFault}
use Rattle.mps_tokens.specs.declared.fault.NumberFault.TheVariants.{NotNumber, Past}
use Rattle.cert_fields.specs.Fields.{behind, field, has_fields}
use Rattle.cert_fields.specs.Names.{names_on}
use Rattle.cert_fields.specs.Numbers.{number_of}
use Rattle.cert_grammar.specs.declared.grammar.Allowed.{Allowed}
use Rattle.cert_grammar.specs.declared.grammar.Allowed.TheVariants.{Any, NotZero, Positive, Whole}
use Rattle.cert_grammar.specs.declared.grammar.Shape.{Shape}
use Rattle.cert_grammar.specs.declared.grammar.Shape.TheVariants.{Bare, Number, Name, Entry}
use Rattle.cert_grammar.specs.Grammar.{shape_of}
use Rattle.cert_grammar.specs.Places.{may_stand, least, is_one_too_many}

abbrev pub Tests : Type 0
Tests = List (Bool × CertKind)

abbrev pub first_of : Tests → Option CertKind
first_of [] = None
first_of (t ∷ ts) = if t.0 then Some t.1 else first_of ts

-- ---- the numbers that a line may have

abbrev pub allows : Allowed → ℚ → Bool
allows Any v = true
allows NotZero v = not (is_zero v)
allows Positive v = is_positive v
allows Whole v = v.den == 1

-- a numeral is above 2^127 - 1
abbrev pub is_past : Result ℚ NumberFault → Bool
is_past (Ok v) = false
is_past (Err NotNumber) = false
is_past (Err Past) = true

-- there is a number, and the line may have it
abbrev pub is_allowed : Allowed → Result ℚ NumberFault → Bool
is_allowed allowed (Ok v) = allows allowed v
is_allowed allowed (Err fault) = false

-- a place comes before the least one
abbrev pub is_early : ℕ → Option ℕ → Bool
is_early least None = false
is_early least (Some j) = nat_lt j least

-- ---- the tests of a line with a word, by the fields behind the word

-- `word`
abbrev pub bare_tests : Place → CertificateWord → List (List ℕ) → Tests
bare_tests s word fields = (not (may_stand s word && has_fields 0 fields), kinds.CertLine) ∷ []

-- `word number`
abbrev pub number_tests : Place → CertificateWord → Allowed → List (List ℕ) → Tests
number_tests s word allowed fields =
    (not (may_stand s word && has_fields 1 fields), kinds.CertLine)
    ∷ (is_past (number_of (field fields 0)), kinds.CertPast)
    ∷ (not (is_allowed allowed (number_of (field fields 0))), kinds.CertNumber)
    ∷ (is_one_too_many s word, kinds.CertMany)
    ∷ []

-- `word name`
abbrev pub name_tests : Place → CertificateWord → List (List ℕ) → List (List ℕ) → Tests
name_tests s word names fields =
    (not (may_stand s word && has_fields 1 fields), kinds.CertLine)
    ∷ (is_none (place_of names (field fields 0)), kinds.CertName)
    ∷ []

-- `word name number`
abbrev pub entry_tests : Place → CertificateWord → List (List ℕ) → Allowed → List (List ℕ) → Tests
entry_tests s word names allowed fields =
    (not (may_stand s word && has_fields 2 fields), kinds.CertLine)
    ∷ (is_none (place_of names (field fields 0)), kinds.CertName)
    ∷ (is_past (number_of (field fields 1)), kinds.CertPast)
    ∷ (not (is_allowed allowed (number_of (field fields 1))), kinds.CertNumber)
    ∷ (is_early (least s word) (place_of names (field fields 0)), kinds.CertOrder)
    ∷ (is_one_too_many s word, kinds.CertMany)
    ∷ []

-- the tests of a line with a word and a shape
abbrev pub shape_tests : Program → Place → CertificateWord → Shape → List (List ℕ) → Tests
shape_tests p s word Bare fields = bare_tests s word fields
shape_tests p s word (Number allowed) fields = number_tests s word allowed fields
shape_tests p s word (Name axis) fields = name_tests s word (names_on p axis) fields
shape_tests p s word (Entry axis allowed) fields = entry_tests s word (names_on p axis) allowed fields

abbrev pub tests : Program → Place → CertificateWord → List (List ℕ) → Tests
tests p s word fields = shape_tests p s word (shape_of word) fields

-- the word of a line
abbrev pub word_of : List (List ℕ) → Option CertificateWord
word_of [] = None
word_of (word ∷ fields) = named certificate_word_names word

abbrev pub fault_of_word : Program → Place → Option CertificateWord → List (List ℕ) → Option CertKind
fault_of_word p s None fields = Some kinds.CertLine
fault_of_word p s (Some word) fields = first_of (tests p s word fields)

-- the fault of a line at a place, by its parts
unfoldable pub line_fault : Program → Place → List (List ℕ) → Option CertKind
line_fault p s parts = fault_of_word p s (word_of parts) (behind parts)
