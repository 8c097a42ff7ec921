-- What a line says: the first a claim, each other one an item.
use Rattle.std.specs.Prelude.{◌≢◌, ℕ, ◌<◌, ◌^◌, pos, neg_ℤ, List, length, Option, Some, None, Result, Ok, Err, unwrap_or}
use Rattle.rational.specs.Rational.{ℚ, zero_ℚ}
use Rattle.program_law.specs.Program.{Program}
use Rattle.program_law.specs.Places.{place_of}
use Rattle.mps_tokens.specs.declared.fault.NumberFault.{NumberFault}
use Rattle.mps_tokens.specs.declared.words.CertificateWord.{CertificateWord}
use Rattle.mps_tokens.specs.declared.words.CertificateWord.TheVariants as words
use Rattle.mps_tokens.specs.Words.{certificate_word_names}
use Rattle.mps_tokens.specs.Cases.{named}
use Rattle.cert_fields.specs.Fields.{behind, field}
use Rattle.cert_fields.specs.Names.{names_on}
use Rattle.cert_fields.specs.Numbers.{number_of}
use Rattle.cert_grammar.specs.declared.items.Item.{Item}
use Rattle.cert_grammar.specs.declared.items.Item.TheVariants as items
use Rattle.cert_grammar.specs.declared.items.Found.{Found}
use Rattle.cert_grammar.specs.declared.items.Claim.{Claim}
use Rattle.cert_grammar.specs.declared.items.Claim.TheVariants.{Optimal, Infeasible, Unbounded, NotConvex}
use Rattle.cert_grammar.specs.declared.grammar.Shape.{Shape}
use Rattle.cert_grammar.specs.declared.grammar.Shape.TheVariants.{Bare, Number, Name, Entry}
use Rattle.cert_grammar.specs.Grammar.{shape_of, item_from}
use Rattle.cert_grammar.specs.Faults.{word_of}

-- ---- the claim of the first line

-- the claim of a word
abbrev pub claim_with : Option CertificateWord → Option Claim
claim_with (Some words.Optimal) = Some Optimal
claim_with (Some words.Infeasible) = Some Infeasible
claim_with (Some words.Unbounded) = Some Unbounded
claim_with (Some words.NotConvex) = Some NotConvex
claim_with word = None

-- the claim of the first line
unfoldable pub claim_in : List ℕ → Option Claim
claim_in line = claim_with (named certificate_word_names line)

-- ---- the item of a line that has no fault

abbrev pub place : List (List ℕ) → List ℕ → ℕ
place names name = unwrap_or (place_of names name) 0

abbrev pub value_or : Result ℚ NumberFault → ℚ → ℚ
value_or (Ok v) default = v
value_or (Err fault) default = default

abbrev pub number : List ℕ → ℚ
number bytes = value_or (number_of bytes) zero_ℚ

-- what stands behind a word, by its shape
abbrev pub found_in : Program → Shape → List (List ℕ) → Found
found_in p Bare fields = record { place = 0; number = zero_ℚ }
found_in p (Number allowed) fields = record { place = 0; number = number (field fields 0) }
found_in p (Name axis) fields = record { place = place (names_on p axis) (field fields 0); number = zero_ℚ }
found_in p (Entry axis allowed) fields = record { place = place (names_on p axis) (field fields 0); number = number (field fields 1) }

abbrev pub item_with : Program → Option CertificateWord → List (List ℕ) → Item
item_with p (Some word) fields = item_from word (found_in p (shape_of word) fields)
item_with p None fields = items.End

unfoldable pub item_of : Program → List (List ℕ) → Item
item_of p parts = item_with p (word_of parts) (behind parts)

-- its column or row is one of the program's, and a branch's number isn't -2^127
abbrev pub IsWithin : Program → Item → Type 0
IsWithin p (items.Point j v) = j < length p.columns
IsWithin p (items.Ray j v) = j < length p.columns
IsWithin p (items.Direction j v) = j < length p.columns
IsWithin p (items.Coef j v) = j < length p.columns
IsWithin p (items.Branch j k) = (j < length p.columns) × (k ≢ neg_ℤ (pos (2 ^ 127)))
IsWithin p (items.Cross j) = j < length p.columns
IsWithin p (items.W j v) = j < length p.columns
IsWithin p (items.Y i v) = i < length p.rows
IsWithin p item = Unit {0}
