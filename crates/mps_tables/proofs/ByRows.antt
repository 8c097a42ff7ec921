-- Tables by row and by column, when one more is told.
use Rattle.std.proofs.Common.{◌≡◌, ℕ, zero, suc, ◌+◌, ◌<◌, Bool, true, false, List, [], ◌∷◌, ◌++◌, map, take, length, get_or, set, replicate, Option, Some, None, refl, sym, ap, subst, ◌∙◌, arith}
use Rattle.std.specs.Prelude.{slice_get}
use Rattle.std.specs.List.{AllByRecursion}
use Rattle.std.specs.Str.{bytes_eq}
use Rattle.std.proofs.lemmas.Bool.{and_right}
use Rattle.std.proofs.lemmas.List.{map-id, map_push, take_more, get_or-map}
use Rattle.rational.specs.Rational.{ℚ, zero_ℚ}
use Rattle.program_law.specs.Places.{place_of}
use Rattle.mps_tokens.specs.declared.words.RowKind.{RowKind}
use Rattle.named_things.specs.Named.{names_of}
use Rattle.mps_grammar.specs.Told.{Telling, BoundTelling}
use Rattle.mps_grammar.specs.Programs.{value_at, bounds_for}
use Rattle.mps_notes.specs.declared.numbers.Entry.{Entry}
use Rattle.mps_notes.specs.declared.bounds.Bound.{Bound}
use Rattle.named_things.specs.Names.{Differ, name_at}
use Rattle.mps_notes.specs.Told.{telling_of, tellings_of, IsEntry, AreEntries, bound_telling, bounds_of}
use Rattle.mps_notes.specs.Notes.{no_column}
use Rattle.mps_tables.specs.declared.columns.Bounding.{Bounding}
use Rattle.mps_tables.specs.Bounding.{bounding_of, boundings_of}
use Rattle.named_things.proofs.NameLemmas.{eq_self, ne_sym}
use Rattle.mps_tables.proofs.Tables.{changed_to}
use Rattle.mps_tables.proofs.Tellings.{reversed-more, each_at, place-name_at}

-- ---- right sides and ranges

no_column_is : (k : ℕ) → k < 1 → name_at no_column k ≡ []
no_column_is zero h = refl
no_column_is (suc k) h = absurd (omega arith)

value_elsewhere : (told : List Telling) (t : Telling) (x : List ℕ) → bytes_eq x t.row ≡ false → value_at (t ∷ told) [] x ≡ value_at told [] x
value_elsewhere told t x e = rw (and_right (bytes_eq [] t.column) (bytes_eq x t.row) e) refl

value_here : (told : List Telling) (t : Telling) → t.column ≡ [] → value_at (t ∷ told) [] t.row ≡ Some t.value
value_here told t e = rw (e, eq_self t.row) refl

-- a table of what is told under the empty name, with one more telling
module _ {A : Type 0} (read : Option ℚ → A) (names : List (List ℕ)) where
  abbrev table : List Telling → List A
  table told = map (λ name. read (value_at told [] name)) names

  told_more : (told : List Telling) (e : Entry) → Differ names → e.column < 1 → e.row < length names → table (telling_of no_column names e ∷ told) ≡ set (table told) e.row (read (Some e.value))
  told_more told e differ column row =
      let t = telling_of no_column names e in
      let differ_id : Differ (map (λ x. x) names) = rw map-id differ in
      let at_id : place_of (map (λ x. x) names) (name_at names e.row) ≡ Some e.row = rw map-id (place-name_at names e.row differ row) in
      changed_to (λ x. x) (λ name. read (value_at told [] name)) (λ name. read (value_at (t ∷ told) [] name)) [] (read (Some e.value)) (name_at names e.row)
      (λ x f. ap read (value_elsewhere told t x (ne_sym (name_at names e.row) x f))) names e.row differ_id at_id (ap read (value_here told t (no_column_is e.column column)))

  pub table-step : (es : List Entry) (used : List (List ℕ)) (k : ℕ) (e : Entry) (old new : List A) → Differ names → AreEntries no_column names used es → k < length es → e ≡ get_or es k e → old ≡ table (tellings_of no_column names (take k es))
      → new ≡ set old e.row (read (Some e.value)) → new ≡ table (tellings_of no_column names (take (k + 1) es))
  table-step es used k e old new differ all h is before after =
      let entry : IsEntry no_column names used e = subst (IsEntry no_column names used) (sym is) (each_at (IsEntry no_column names used) es k e all h) in
      after ∙ ap (λ (l : List A). set l e.row (read (Some e.value))) before ∙ sym (told_more (tellings_of no_column names (take k es)) e differ entry.column entry.row)
      ∙ ap (λ (x : Entry). table (telling_of no_column names x ∷ tellings_of no_column names (take k es))) is ∙ sym (ap table (reversed-more (telling_of no_column names) es k e h))

pub table-start : {A : Type 0} (read : Option ℚ → A) (names : List (List ℕ)) → replicate (length names) (read None) ≡ map (λ name. read (value_at [] [] name)) names
table-start read [] = refl
table-start read (n ∷ ns) = ap (λ (l : List _). read None ∷ l) (table-start read ns)

-- ---- bounds

pub boundings-column : (columns : List (List ℕ × Bool)) (told : List BoundTelling) (k : ℕ) (d : List ℕ × Bool) → k < length columns → boundings_of (take (k + 1) columns) told ≡ boundings_of (take k columns) told ++ bounding_of (get_or columns k d).1 (bounds_for told (get_or columns k d).0) ∷ []
boundings-column columns told k d h =
    ap (λ l. boundings_of l told) (take_more columns k d h) ∙ map_push (λ (c : List ℕ × Bool). bounding_of c.1 (bounds_for told c.0)) (take k columns) (get_or columns k d)

bounds_elsewhere : (told : List BoundTelling) (b : BoundTelling) (name : List ℕ) → bytes_eq name b.column ≡ false → bounds_for (b ∷ told) name ≡ bounds_for told name
bounds_elsewhere told b name e = rw e refl

bounds_here : (told : List BoundTelling) (b : BoundTelling) (name : List ℕ) → bytes_eq name b.column ≡ true → bounds_for (b ∷ told) name ≡ b ∷ bounds_for told name
bounds_here told b name e = rw e refl

names_at : (columns : List (List ℕ × Bool)) (k : ℕ) (d : List ℕ × Bool) → k < length columns → name_at (names_of columns) k ≡ (get_or columns k d).0
names_at columns k d h = get_or-map (λ (c : List ℕ × Bool). c.0) columns k d [] h

module _ (columns : List (List ℕ × Bool)) (told : List BoundTelling) (b : Bound) (differ : Differ (names_of columns)) (within : b.column < length (names_of columns)) (few : b.column < length columns) where
  abbrev nameless : List ℕ × Bool
  nameless = ([], false)

  abbrev found : List ℕ × Bool
  found = get_or columns b.column nameless

  told_bound : (before result : Bounding) → before ≡ get_or (boundings_of columns told) b.column before
      → ((mark : Bool) (earlier : List BoundTelling) (name : List ℕ) → before ≡ bounding_of mark earlier → result ≡ bounding_of mark (record { kind = b.kind; column = name; value = b.value } ∷ earlier))
      → boundings_of columns (bound_telling (names_of columns) b ∷ told) ≡ set (boundings_of columns told) b.column result
  told_bound before result was becomes =
      let t = bound_telling (names_of columns) b in
      let same : name_at (names_of columns) b.column ≡ found.0 = names_at columns b.column nameless few in
      let hit : bytes_eq found.0 t.column ≡ true = rw same (eq_self found.0) in
      let first : before ≡ bounding_of found.1 (bounds_for told found.0) = was ∙ get_or-map (λ (c : List ℕ × Bool). bounding_of c.1 (bounds_for told c.0)) columns b.column nameless before few in
      let here : bounding_of found.1 (bounds_for (t ∷ told) found.0) ≡ result =
      ap (bounding_of found.1) (bounds_here told t found.0 hit) ∙ sym (becomes found.1 (bounds_for told found.0) (name_at (names_of columns) b.column) first) in
      changed_to (λ (c : List ℕ × Bool). c.0) (λ c. bounding_of c.1 (bounds_for told c.0)) (λ c. bounding_of c.1 (bounds_for (t ∷ told) c.0)) nameless result (name_at (names_of columns) b.column)
      (λ c f. ap (bounding_of c.1) (bounds_elsewhere told t c.0 (ne_sym (name_at (names_of columns) b.column) c.0 f))) columns b.column differ (place-name_at (names_of columns) b.column differ within) here

pub length_names : {A : Type 0} (things : List (List ℕ × A)) → length (names_of things) ≡ length things
length_names [] = refl
length_names (t ∷ ts) = ap suc (length_names ts)

pub bound-step : (columns : List (List ℕ × Bool)) (bs : List Bound) (k : ℕ) (b : Bound) (old : List Bounding) (before result : Bounding) → Differ (names_of columns) → AllByRecursion (λ b. b.column < length (names_of columns)) bs → k < length bs → b ≡ get_or bs k b
    → old ≡ boundings_of columns (bounds_of (names_of columns) (take k bs)) → before ≡ get_or old b.column before
    → ((mark : Bool) (earlier : List BoundTelling) (name : List ℕ) → before ≡ bounding_of mark earlier → result ≡ bounding_of mark (record { kind = b.kind; column = name; value = b.value } ∷ earlier))
    → set old b.column result ≡ boundings_of columns (bounds_of (names_of columns) (take (k + 1) bs))
bound-step columns bs k b old before result differ all h is was found becomes =
    let told = bounds_of (names_of columns) (take k bs) in
    let Within : Bound → Type 0 = λ b. b.column < length (names_of columns) in
    let within : b.column < length (names_of columns) = subst Within (sym is) (each_at Within bs k b all h) in
    let few : b.column < length columns = omega (arith, within, length_names columns) in
    ap (λ (l : List Bounding). set l b.column result) was
    ∙ sym (told_bound columns told b differ within few before result (found ∙ ap (λ (l : List Bounding). get_or l b.column before) was) becomes)
    ∙ ap (λ (x : Bound). boundings_of columns (bound_telling (names_of columns) x ∷ told)) is
    ∙ sym (ap (boundings_of columns) (reversed-more (bound_telling (names_of columns)) bs k b h))

pub thing_at : {A : Type 0} (things : List (List ℕ × A)) (k : ℕ) (d : List ℕ × A) (x : A) → slice_get (map (λ thing. thing.1) things) k ≡ Some x → (get_or things k d).1 ≡ x
thing_at [] k d x e = absurd cc
thing_at (t ∷ ts) zero d x e = cc
thing_at (t ∷ ts) (suc k) d x e = thing_at ts k d x e

pub column-step : (columns : List (List ℕ × Bool)) (k : ℕ) (mark : Bool) (z : ℚ) (old new : List Bounding) → k < length columns → slice_get (map (λ thing. thing.1) columns) k ≡ Some mark → z ≡ zero_ℚ → old ≡ boundings_of (take k columns) []
    → new ≡ old ++ record { column = record { low = Some z; high = None; whole = mark }; low_is_set = false } ∷ [] → new ≡ boundings_of (take (k + 1) columns) []
column-step columns k mark z old new h is none before after =
    let found : (get_or columns k ([], mark)).1 ≡ mark = thing_at columns k ([], mark) mark is in
    after ∙ ap (λ z. old ++ record { column = record { low = Some z; high = None; whole = mark }; low_is_set = false } ∷ []) none ∙ ap (λ (l : List Bounding). l ++ bounding_of mark [] ∷ []) before
    ∙ ap (λ m. boundings_of (take k columns) [] ++ bounding_of m [] ∷ []) (sym found) ∙ sym (boundings-column columns [] k ([], mark) h)

pub table-begins : {A : Type 0} (read : Option ℚ → A) (rows : List (List ℕ × RowKind)) (n : ℕ) (v : A) → n ≡ length rows → v ≡ read None → replicate n v ≡ map (λ name. read (value_at [] [] name)) (names_of rows)
table-begins read rows n v count none = ap (λ (m : ℕ). replicate m v) (count ∙ sym (length_names rows)) ∙ ap (replicate (length (names_of rows))) none ∙ table-start read (names_of rows)
