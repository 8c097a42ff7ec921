-- Whether a line gives a number twice, by names and by the places of their entries.
use Rattle.std.proofs.Common.{◌≡◌, ℕ, Bool, true, false, ◌&&◌, ◌||◌, List, [], ◌∷◌, Option, Some, None, Result, refl, sym, ap, ◌∙◌}
use Rattle.std.specs.Prelude.{is_some}
use Rattle.std.specs.Str.{bytes_eq}
use Rattle.rational.specs.Rational.{ℚ}
use Rattle.program_law.specs.Places.{place_of}
use Rattle.mps_tokens.specs.declared.fault.NumberFault.{NumberFault}
use Rattle.mps_tokens.specs.declared.words.RowKind.{RowKind}
use Rattle.mps_grammar.specs.Fields.{Pair}
use Rattle.named_things.specs.Named.{names_of}
use Rattle.mps_grammar.specs.Told.{is_told, used_names}
use Rattle.mps_grammar.specs.Faults.{gives_twice}
use Rattle.mps_notes.specs.declared.numbers.Entry.{Entry}
use Rattle.mps_fields.specs.declared.pairs.Item.{Item}
use Rattle.named_things.specs.Names.{Differ}
use Rattle.mps_notes.specs.Twice.{is_counted, given_at, same_place, twice_at}
use Rattle.mps_notes.specs.Placed.{row_place, second_place}
use Rattle.mps_fields.specs.Resolved.{AreItems}
use Rattle.mps_notes.specs.Told.{tellings_of, AreEntries}
use Rattle.named_things.proofs.NameLemmas.{ne_sym, same_test, absent_differs}
use Rattle.mps_notes.proofs.Tellings.{name_from_place, told_marked, told_nowhere}

one_test : (a g : Bool) → ((a && (g || false)) || false) ≡ ((a && g) || (false || false))
one_test true true = refl
one_test true false = refl
one_test false g = refl

two_tests : (a g e b h : Bool) → ((a && (g || (e || false))) || ((b && (h || false)) || false)) ≡ ((a && g) || ((b && h) || (a && e)))
two_tests true true e b h = refl
two_tests true false true true true = refl
two_tests true false true true false = refl
two_tests true false true false h = refl
two_tests true false false true true = refl
two_tests true false false true false = refl
two_tests true false false false h = refl
two_tests false g e true true = refl
two_tests false g e true false = refl
two_tests false g e false h = refl

none_given : (es : List Entry) (column : Option ℕ) → given_at es column None ≡ false
none_given es None = refl
none_given es (Some j) = refl

same_none : (o : Option ℕ) → same_place o None ≡ false
same_none None = refl
same_none (Some k) = refl

module _ (columns rows used : List (List ℕ)) (es : List Entry) (c : List ℕ) (differ : Differ columns) (all : AreEntries columns rows used es) where
  -- one name
  given_same : (r : List ℕ) (column place : Option ℕ) → place_of columns c ≡ column → place_of used r ≡ place → (is_some place && is_told (tellings_of columns rows es) c r) ≡ given_at es column place
  given_same r column None e f = sym (none_given es column)
  given_same r None (Some s) e f = told_nowhere columns rows used c r es all e
  given_same r (Some j) (Some s) e f = told_marked columns rows used c r es j s differ all e f

  same_names : (r q : List ℕ) (one other : Option ℕ) → place_of used r ≡ one → place_of used q ≡ other → (is_some one && bytes_eq r q) ≡ same_place one other
  same_names r q None other e f = refl
  same_names r q (Some s) None e f = ne_sym q r (absent_differs used q r s f e)
  same_names r q (Some s) (Some t) e f = same_test used r q s t e f

  one_same : (p : Pair) (column place : Option ℕ) → place_of columns c ≡ column → place_of used p.0 ≡ place
      → gives_twice (λ name. is_some (place_of used name)) (is_told (tellings_of columns rows es) c) (p ∷ []) ≡ twice_at es column place None
  one_same p column place e f =
      ap (λ (o : Option ℕ). (is_some o && (is_told (tellings_of columns rows es) c p.0 || false)) || false) f
      ∙ one_test (is_some place) (is_told (tellings_of columns rows es) c p.0)
      ∙ rw (given_same p.0 column place e f, none_given es column, same_none place) refl

  two_same : (p q : Pair) (column one other : Option ℕ) → place_of columns c ≡ column → place_of used p.0 ≡ one → place_of used q.0 ≡ other
      → gives_twice (λ name. is_some (place_of used name)) (is_told (tellings_of columns rows es) c) (p ∷ q ∷ []) ≡ twice_at es column one other
  two_same p q column one other e f g =
      ap (λ (o : Option ℕ). (is_some o && (is_told (tellings_of columns rows es) c p.0 || (bytes_eq p.0 q.0 || false))) || ((is_some (place_of used q.0) && (is_told (tellings_of columns rows es) c q.0 || false)) || false)) f
      ∙ ap (λ (o : Option ℕ). (is_some one && (is_told (tellings_of columns rows es) c p.0 || (bytes_eq p.0 q.0 || false))) || ((is_some o && (is_told (tellings_of columns rows es) c q.0 || false)) || false)) g
      ∙ two_tests (is_some one) (is_told (tellings_of columns rows es) c p.0) (bytes_eq p.0 q.0) (is_some other) (is_told (tellings_of columns rows es) c q.0)
      ∙ rw (given_same p.0 column one e f, given_same q.0 column other e g, same_names p.0 q.0 one other f g) refl

-- a line's pairs of a column, whose names are known
pub twice_same : (columns : List (List ℕ)) (rows : List (List ℕ × RowKind)) (es : List Entry) (c : List ℕ) (column : Option ℕ) (read : List ℕ → Result ℚ NumberFault) (pairs : List Pair) (first : Item) (second : Option Item)
    → Differ columns → AreEntries columns (names_of rows) (used_names rows) es → place_of columns c ≡ column → AreItems (names_of rows) read pairs first second
    → gives_twice (is_counted rows) (is_told (tellings_of columns (names_of rows) es) c) pairs ≡ twice_at es column (row_place rows first.place) (second_place rows second)
twice_same columns rows es c column read [] first second differ all e items = absurd items
twice_same columns rows es c column read (p ∷ []) first None differ all e items =
    one_same columns (names_of rows) (used_names rows) es c differ all p column (row_place rows first.place) e (ap (place_of (used_names rows)) (sym (name_from_place (names_of rows) p.0 first.place items.place)))
twice_same columns rows es c column read (p ∷ []) first (Some second) differ all e items = absurd items
twice_same columns rows es c column read (p ∷ q ∷ []) first None differ all e items = absurd items
twice_same columns rows es c column read (p ∷ q ∷ []) first (Some second) differ all e items =
    two_same columns (names_of rows) (used_names rows) es c differ all p q column (row_place rows first.place) (row_place rows second.place) e
    (ap (place_of (used_names rows)) (sym (name_from_place (names_of rows) p.0 first.place items.0.place))) (ap (place_of (used_names rows)) (sym (name_from_place (names_of rows) q.0 second.place items.1.place)))
twice_same columns rows es c column read (p ∷ q ∷ r ∷ rest) first second differ all e items = absurd items
