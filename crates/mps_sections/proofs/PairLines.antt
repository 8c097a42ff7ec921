-- Lines of quadratic sections.
use Rattle.std.proofs.Common.{◌≡◌, ℕ, ◌+◌, Bool, true, false, ◌&&◌, ◌||◌, List, [], ◌∷◌, ◌++◌, Option, Some, None, Result, Ok, Err, refl, sym, ap, subst, ◌∙◌}
use Rattle.std.specs.Str.{bytes_eq}
use Rattle.rational.specs.Rational.{ℚ}
use Rattle.program_law.specs.Places.{place_of}
use Rattle.mps_tokens.specs.declared.fault.NumberFault.{NumberFault}
use Rattle.mps_tokens.specs.declared.words.Section.{Section}
use Rattle.mps_tokens.specs.declared.words.Section.TheVariants as sections
use Rattle.mps_grammar.specs.declared.kinds.FaultKind.{FaultKind}
use Rattle.mps_grammar.specs.declared.kinds.FaultKind.TheVariants as kinds
use Rattle.mps_grammar.specs.Fields.{Pair, entries_in}
use Rattle.named_things.specs.Named.{names_of}
use Rattle.mps_grammar.specs.Told.{Told, Telling, is_told, is_quadratic, quadratic_number, with_pairs}
use Rattle.mps_grammar.specs.Programs.{is_quadobj}
use Rattle.mps_grammar.specs.After.{told_more}
use Rattle.mps_grammar.specs.Faults.{Tests, first_of, gives_twice, has_long, any_pair, is_given_pair, data_tests}
use Rattle.mps_notes.specs.declared.numbers.Entry.{Entry}
use Rattle.mps_fields.specs.declared.pairs.Item.{Item}
use Rattle.mps_fields.specs.declared.pairs.Items.{Items}
use Rattle.mps_notes.specs.declared.notes.Notes.{Notes}
use Rattle.mps_sections.specs.declared.stop.LineStop.{LineStop}
use Rattle.mps_sections.specs.declared.stop.LineStop.TheVariants as stops
use Rattle.named_things.specs.Names.{Differ, name_at}
use Rattle.mps_notes.specs.Twice.{pair_given, pair_twice}
use Rattle.mps_fields.specs.Resolved.{number_in, pair_tests, IsItem, AreItems, Resolves}
use Rattle.mps_notes.specs.Placed.{second_column, items_entries}
use Rattle.mps_notes.specs.Told.{tellings_of, AreEntries}
use Rattle.mps_notes.specs.Notes.{told_in, IsSound}
use Rattle.mps_notes.specs.Notes.{Holds}
use Rattle.mps_sections.specs.Steps.{is_half, TakesPairItems, TakesData}
use Rattle.named_things.proofs.NameLemmas.{same_test}
use Rattle.mps_sections.proofs.TestChains.{first_front, first_rest}
use Rattle.mps_notes.proofs.Tellings.{name_from_place, eqb_comm, told_marked}
use Rattle.mps_notes.proofs.Puts.{place_for, put_done}
use Rattle.mps_notes.proofs.Sound.{keeps_pairs}

-- the numbers of a quadratic section
resolved_by : (names : List (List ℕ)) (section : Section) (pairs : List Pair) (r : Result Items FaultKind) → Resolves names (number_in (is_half section)) pairs r → Resolves names (quadratic_number section) pairs r
resolved_by names sections.Name pairs r h = h
resolved_by names sections.Rows pairs r h = h
resolved_by names sections.Columns pairs r h = h
resolved_by names sections.Rhs pairs r h = h
resolved_by names sections.Ranges pairs r h = h
resolved_by names sections.Bounds pairs r h = h
resolved_by names sections.QuadObj pairs r h = h
resolved_by names sections.QMatrix pairs r h = h
resolved_by names sections.DMatrix pairs r h = h
resolved_by names sections.EndData pairs r h = h
resolved_by names sections.ObjSense pairs r h = h

pub resolved_half : (names : List (List ℕ)) (section : Section) (half : Bool) (pairs : List Pair) (r : Result Items FaultKind) → half ≡ is_half section → Resolves names (number_in half) pairs r → Resolves names (quadratic_number section) pairs r
resolved_half names section half pairs r e h = let P : Bool → Type 0 = λ b. Resolves names (number_in b) pairs r in resolved_by names section pairs r (subst P e h)

-- ---- pairs given twice

or_none : (b : Bool) → b ≡ (b || false)
or_none true = refl
or_none false = refl

given_test : (section : Section) (told : List Telling) (one other : List ℕ) → is_given_pair section told one other ≡ (is_told told one other || (is_quadobj section && is_told told other one))
given_test sections.Name told one other = or_none (is_told told one other)
given_test sections.Rows told one other = or_none (is_told told one other)
given_test sections.Columns told one other = or_none (is_told told one other)
given_test sections.Rhs told one other = or_none (is_told told one other)
given_test sections.Ranges told one other = or_none (is_told told one other)
given_test sections.Bounds told one other = or_none (is_told told one other)
given_test sections.QuadObj told one other = refl
given_test sections.QMatrix told one other = or_none (is_told told one other)
given_test sections.DMatrix told one other = or_none (is_told told one other)
given_test sections.EndData told one other = or_none (is_told told one other)
given_test sections.ObjSense told one other = or_none (is_told told one other)

one_test : (g : Bool) → ((true && (g || false)) || false) ≡ (g || false)
one_test true = refl
one_test false = refl

two_tests : (g e h : Bool) → ((true && (g || (e || false))) || ((true && (h || false)) || false)) ≡ (g || (e || h))
two_tests true e h = refl
two_tests false true h = refl
two_tests false false true = refl
two_tests false false false = refl

module _ (columns : List (List ℕ)) (es : List Entry) (section : Section) (name : List ℕ) (column : ℕ) (differ : Differ columns) (all : AreEntries columns columns columns es) (at : place_of columns name ≡ Some column) where
  given_same : (q : List ℕ) (k : ℕ) → place_of columns q ≡ Some k → is_given_pair section (tellings_of columns columns es) name q ≡ pair_given es (is_quadobj section) column k
  given_same q k e =
      given_test section (tellings_of columns columns es) name q
      ∙ rw (told_marked columns columns columns name q es column k differ all at e, told_marked columns columns columns q name es k column differ all e at) refl

  -- a line's pairs, whose columns are known
  pub twice_same : (read : List ℕ → Result ℚ NumberFault) (pairs : List Pair) (first : Item) (second : Option Item) → AreItems columns read pairs first second
      → gives_twice any_pair (is_given_pair section (tellings_of columns columns es) name) pairs ≡ pair_twice es (is_quadobj section) column first.place (second_column second)
  twice_same read [] first second items = absurd items
  twice_same read (p ∷ []) first None items = one_test (is_given_pair section (tellings_of columns columns es) name p.0) ∙ ap (λ (b : Bool). b || false) (given_same p.0 first.place items.place)
  twice_same read (p ∷ []) first (Some second) items = absurd items
  twice_same read (p ∷ q ∷ []) first None items = absurd items
  twice_same read (p ∷ q ∷ []) first (Some second) items =
      two_tests (is_given_pair section (tellings_of columns columns es) name p.0) (bytes_eq p.0 q.0) (is_given_pair section (tellings_of columns columns es) name q.0)
      ∙ rw (given_same p.0 first.place items.0.place, given_same q.0 second.place items.1.place, same_test columns p.0 q.0 first.place second.place items.0.place items.1.place, eqb_comm first.place second.place) refl
  twice_same read (p ∷ q ∷ r ∷ rest) first second items = absurd items

-- ---- the items of a line

module _ (n : Notes) (section : Section) (name : List ℕ) (pairs : List Pair) (column : ℕ) (first : Item) (second : Option Item) (h : IsSound n) (at : place_of (names_of n.columns) name ≡ Some column)
    (items : AreItems (names_of n.columns) (quadratic_number section) pairs first second) where
  pub test_from : (once b : Bool) → once ≡ is_quadobj section → b ≡ pair_twice n.pairs once column first.place (second_column second) → gives_twice any_pair (is_given_pair section (told_in n).pairs name) pairs ≡ b
  test_from once b o e = twice_same (names_of n.columns) n.pairs section name column h.columns_differ h.pairs at (quadratic_number section) pairs first second items ∙ sym (e ∙ rw o refl)

  pub given_twice : gives_twice any_pair (is_given_pair section (told_in n).pairs name) pairs ≡ true → first_of ((gives_twice any_pair (is_given_pair section (told_in n).pairs name) pairs, kinds.EntryTwice) ∷ []) ≡ Some kinds.EntryTwice
  given_twice e = rw e refl

  places_same : (read : List ℕ → Result ℚ NumberFault) (pairs : List Pair) (second : Option Item) → AreItems (names_of n.columns) read pairs first second
      → (Some first.place ≡ place_of (names_of n.columns) (name_at (names_of n.columns) first.place)) × (second_column second ≡ place_for (names_of n.columns) (names_of n.columns) second)
  places_same read [] second items = absurd items
  places_same read (p ∷ []) None items = (its p first items, refl)
    where
      its : (p : Pair) (item : Item) → IsItem (names_of n.columns) read p item → Some item.place ≡ place_of (names_of n.columns) (name_at (names_of n.columns) item.place)
      its p item i = sym (ap (place_of (names_of n.columns)) (name_from_place (names_of n.columns) p.0 item.place i.place) ∙ i.place)
  places_same read (p ∷ []) (Some item) items = absurd items
  places_same read (p ∷ q ∷ []) None items = absurd items
  places_same read (p ∷ q ∷ []) (Some item) items = (its p first items.0, its q item items.1)
    where
      its : (p : Pair) (item : Item) → IsItem (names_of n.columns) read p item → Some item.place ≡ place_of (names_of n.columns) (name_at (names_of n.columns) item.place)
      its p item i = sym (ap (place_of (names_of n.columns)) (name_from_place (names_of n.columns) p.0 item.place i.place) ∙ i.place)
  places_same read (p ∷ q ∷ r ∷ rest) second items = absurd items

  pub pairs_put : (one other : Option ℕ) (new : List Entry) → gives_twice any_pair (is_given_pair section (told_in n).pairs name) pairs ≡ false → one ≡ Some first.place → other ≡ second_column second
      → new ≡ n.pairs ++ items_entries (n.lines + 1) column (record { first = first; second = second }) (record { first = one; second = other }) → TakesPairItems n section name pairs (record n { pairs = new }) (Ok tt)
  pairs_put one other new e f g is =
      let same = places_same (quadratic_number section) pairs second items in
      let put = put_done (names_of n.columns) (names_of n.columns) (names_of n.columns) name (n.lines + 1) column (quadratic_number section) at n.pairs new pairs first second one other h.pairs items (f ∙ same.0) (g ∙ same.1) is in
      (rw e refl, keeps_pairs n new _ h put.entries put.numbers)

-- ---- a line

abbrev last : Notes → Section → List ℕ → List Pair → Tests
last n section name pairs = (gives_twice any_pair (is_given_pair section (told_in n).pairs name) pairs, kinds.EntryTwice) ∷ []

module _ (n new : Notes) (fields : List (List ℕ)) (name : List ℕ) (pairs : List Pair) (column : ℕ) (form : entries_in fields ≡ Some (name, pairs)) (short : has_long (name, pairs) ≡ false) (at : place_of (names_of n.columns) name ≡ Some column) where
  rests : (section : Section) → is_quadratic section ≡ true → data_tests (told_in n) section fields ≡ (false, kinds.NameLong) ∷ pair_tests (names_of n.columns) (quadratic_number section) pairs ++ last n section name pairs
  rests sections.Name q = absurd cc
  rests sections.Rows q = absurd cc
  rests sections.Columns q = absurd cc
  rests sections.Rhs q = absurd cc
  rests sections.Ranges q = absurd cc
  rests sections.Bounds q = absurd cc
  rests sections.QuadObj q = rw (form, short, at) refl
  rests sections.QMatrix q = rw (form, short, at) refl
  rests sections.DMatrix q = rw (form, short, at) refl
  rests sections.EndData q = absurd cc
  rests sections.ObjSense q = absurd cc

  more : (section : Section) → is_quadratic section ≡ true → told_more (told_in n) section fields ≡ record (told_in n) { pairs = with_pairs (quadratic_number section) (n.lines + 1) name pairs (told_in n).pairs }
  more sections.Name q = absurd cc
  more sections.Rows q = absurd cc
  more sections.Columns q = absurd cc
  more sections.Rhs q = absurd cc
  more sections.Ranges q = absurd cc
  more sections.Bounds q = absurd cc
  more sections.QuadObj q = rw form refl
  more sections.QMatrix q = rw form refl
  more sections.DMatrix q = rw form refl
  more sections.EndData q = absurd cc
  more sections.ObjSense q = absurd cc

  pub pairs_fail : (section : Section) (kind : FaultKind) → is_quadratic section ≡ true → first_of (pair_tests (names_of n.columns) (quadratic_number section) pairs) ≡ Some kind → first_of (data_tests (told_in n) section fields) ≡ Some kind
  pairs_fail section kind q e = ap first_of (rests section q) ∙ first_front (pair_tests (names_of n.columns) (quadratic_number section) pairs) (last n section name pairs) kind e

  same_fault : (section : Section) → is_quadratic section ≡ true → first_of (pair_tests (names_of n.columns) (quadratic_number section) pairs) ≡ None → first_of (data_tests (told_in n) section fields) ≡ first_of (last n section name pairs)
  same_fault section q e = ap first_of (rests section q) ∙ first_rest (pair_tests (names_of n.columns) (quadratic_number section) pairs) (last n section name pairs) e

  pub pairs_go : (section : Section) (r : Result Unit LineStop) → is_quadratic section ≡ true → first_of (pair_tests (names_of n.columns) (quadratic_number section) pairs) ≡ None → TakesPairItems n section name pairs new r → TakesData n section fields new r
  pairs_go section (Ok u) q e t = let P : Told → Type 0 = λ told. Holds told new in (same_fault section q e ∙ t.0, subst P (sym (more section q)) t.1)
  pairs_go section (Err stops.Memory) q e t = tt
  pairs_go section (Err (stops.Fault kind)) q e t = same_fault section q e ∙ t
