-- The first line with such a number, among tellings with the last one first.
use Rattle.std.proofs.Common.{◌≡◌, ℕ, zero, suc, ◌+◌, ◌<◌, Bool, true, false, List, [], ◌∷◌, ◌++◌, map, reverse, take, drop, replicate, length, get_or, set, Option, Some, None, refl, sym, ap, subst, ◌∙◌, arith, if◌then◌else◌, ◌&&◌}
use Rattle.std.specs.Prelude.{slice_get, unwrap_or}
use Rattle.std.specs.Str.{bytes_eq}
use Rattle.std.proofs.lemmas.List.{map-id, map-append, reverse-append, take-append-drop, get_or-map}
use Rattle.rational.specs.Rational.{ℚ, zero_ℚ}
use Rattle.program_law.specs.Changes.{with_place}
use Rattle.program_law.specs.Places.{place_of}
use Rattle.mps_tokens.specs.declared.words.RowKind.{RowKind}
use Rattle.mps_tokens.specs.Cases.{named}
use Rattle.named_things.specs.Named.{names_of}
use Rattle.mps_grammar.specs.Told.{Told, Telling}
use Rattle.mps_grammar.specs.Programs.{or_other, first_line, value_at, value_told, makes_past, is_range_past}
use Rattle.mps_notes.specs.declared.numbers.Entry.{Entry}
use Rattle.named_things.specs.Names.{Differ, name_at}
use Rattle.mps_notes.specs.Told.{telling_of, tellings_of, IsEntry, AreEntries}
use Rattle.mps_notes.specs.Notes.{no_column}
use Rattle.mps_tables.specs.ByRow.{rights_of}
use Rattle.mps_tables.specs.PairTable.{square_of}
use Rattle.mps_tables.proofs.Tables.{changed_at}
use Rattle.mps_tables.proofs.ByRows.{length_names}
use Rattle.named_things.proofs.NameLemmas.{eq_self, eq_sym, ne_sym, ne_from, none_some}
use Rattle.mps_tables.proofs.Tellings.{reversed-more, each_at, place-name_at}

-- ---- lists

or_assoc : {A : Type 0} (a b c : Option A) → or_other (or_other a b) c ≡ or_other a (or_other b c)
or_assoc None b c = refl
or_assoc (Some x) b c = refl

line-append : (test : Telling → Bool) (ts us : List Telling) → first_line test (ts ++ us) ≡ or_other (first_line test us) (first_line test ts)
line-append test [] us = by_line (first_line test us)
  where
    by_line : (o : Option ℕ) → o ≡ or_other o None
    by_line None = refl
    by_line (Some n) = refl
line-append test (t ∷ ts) us = ap (λ o. or_other o (if test t then Some t.line else None)) (line-append test ts us) ∙ or_assoc (first_line test us) (first_line test ts) (if test t then Some t.line else None)

module _ {X : Type 0} (f : X → Telling) (test : Telling → Bool) (xs : List X) where
  abbrev before : ℕ → Option ℕ
  before k = first_line test (reverse (map f (take k xs)))

  -- none before it, and it is one
  pub line-first : (k : ℕ) (x : X) → k < length xs → x ≡ get_or xs k x → before k ≡ None → test (f x) ≡ true → first_line test (reverse (map f xs)) ≡ Some (f x).line
  line-first k x h is none holds =
      let here : test (f (get_or xs k x)) ≡ true = ap (λ y. test (f y)) (sym is) ∙ holds in
      let found : before (k + 1) ≡ Some (f (get_or xs k x)).line = ap (first_line test) (reversed-more f xs k x h) ∙ rw (none, here) refl in
      let parts : reverse (map f xs) ≡ reverse (map f (drop (k + 1) xs)) ++ reverse (map f (take (k + 1) xs)) =
      ap (λ (l : List X). reverse (map f l)) (sym (take-append-drop (k + 1) xs)) ∙ ap reverse (map-append f (take (k + 1) xs) (drop (k + 1) xs)) ∙ reverse-append (map f (take (k + 1) xs)) (map f (drop (k + 1) xs)) in
      ap (first_line test) parts ∙ line-append test (reverse (map f (drop (k + 1) xs))) (reverse (map f (take (k + 1) xs))) ∙ ap (λ o. or_other o (first_line test (reverse (map f (drop (k + 1) xs))))) found
      ∙ ap (λ y. Some (f y).line) (sym is)

-- ---- what is read at a place

pub read_at : {A : Type 0} (xs : List A) (k : ℕ) (d x : A) → slice_get xs k ≡ Some x → get_or xs k d ≡ x
read_at [] k d x e = absurd cc
read_at (y ∷ ys) zero d x e = cc
read_at (y ∷ ys) (suc k) d x e = read_at ys k d x e

pub right_at : (names : List (List ℕ)) (told : List Telling) (k : ℕ) (v : ℚ) → k < length names → slice_get (rights_of names told) k ≡ Some v → value_told told [] (name_at names k) ≡ v
right_at names told k v h e = sym (get_or-map (λ name. value_told told [] name) names k [] v h) ∙ read_at (rights_of names told) k v v e

pub kind_at : (rows : List (List ℕ × RowKind)) (k : ℕ) (kind : RowKind) → Differ (names_of rows) → k < length rows → slice_get (map (λ row. row.1) rows) k ≡ Some kind → named rows (name_at (names_of rows) k) ≡ Some kind
kind_at [] k kind differ h e = absurd cc
kind_at (r ∷ rs) zero kind differ h e = let is : r.1 ≡ kind = cc in rw (eq_self r.0, is) refl
kind_at (r ∷ rs) (suc k) kind differ h e =
    let again : named rs (name_at (names_of rs) k) ≡ Some kind = kind_at rs k kind differ.1 (omega (arith, h)) e in
    let there : place_of (names_of rs) (name_at (names_of rs) k) ≡ Some k = place-name_at (names_of rs) k differ.1 (within rs k kind e) in
    let other = ne_from r.0 (name_at (names_of rs) k) (λ f. none_some k (sym differ.0 ∙ ap (place_of (names_of rs)) f ∙ there)) in
    rw (other, again) refl
  where
    within : (rs : List (List ℕ × RowKind)) (k : ℕ) (kind : RowKind) → slice_get (map (λ row. row.1) rs) k ≡ Some kind → k < length (names_of rs)
    within [] k kind e = absurd cc
    within (r ∷ rs) zero kind e = omega arith
    within (r ∷ rs) (suc k) kind e = omega (arith, within rs k kind e)

pub range-test : (told : Told) (e : Entry) (kind : RowKind) (right : ℚ) (rights : List ℚ) → Differ (names_of told.rows) → e.row < length told.rows → slice_get (map (λ row. row.1) told.rows) e.row ≡ Some kind → rights ≡ rights_of (names_of told.rows) told.sides
    → slice_get rights e.row ≡ Some right → e.row < length (names_of told.rows) → makes_past (Some kind) right e.value ≡ is_range_past told (telling_of no_column (names_of told.rows) e)
range-test told e kind right rights differ h kind_is rights_are right_is within =
    let k : named told.rows (name_at (names_of told.rows) e.row) ≡ Some kind = kind_at told.rows e.row kind differ h kind_is in
    let r : value_told told.sides [] (name_at (names_of told.rows) e.row) ≡ right = right_at (names_of told.rows) told.sides e.row right within (ap (λ (l : List ℚ). slice_get l e.row) (sym rights_are) ∙ right_is) in
    rw (k, r) refl

-- ---- the table of pairs

pub value-more : (told : List Telling) (t : Telling) (x y : List ℕ) → value_told (t ∷ told) x y ≡ if bytes_eq x t.column && bytes_eq y t.row then t.value else value_told told x y
value-more told t x y = by_test (bytes_eq x t.column && bytes_eq y t.row)
  where
    by_test : (b : Bool) → unwrap_or (if b then Some t.value else value_at told x y) zero_ℚ ≡ if b then t.value else unwrap_or (value_at told x y) zero_ℚ
    by_test true = refl
    by_test false = refl

pub square-place : (names : List (List ℕ)) (f g : List ℕ → List ℕ → ℚ) (a b : List ℕ) (v : ℚ) (j k : ℕ) → ((x y : List ℕ) → g x y ≡ if bytes_eq x a && bytes_eq y b then v else f x y) → Differ names
    → place_of names a ≡ Some j → place_of names b ≡ Some k → square_of names g ≡ with_place (square_of names f) j k v
square-place names f g a b v j k is differ at_a at_b =
    let differ_id : Differ (map (λ x. x) names) = rw map-id differ in
    let at_a_id : place_of (map (λ x. x) names) a ≡ Some j = rw map-id at_a in
    changed_at (λ x. x) (λ x. map (λ y. f x y) names) (λ x. map (λ y. g x y) names) (λ (row : List ℚ). set row k v) [] a
    (λ x e. others_same names x (ne_sym a x e)) (λ x e. row_here x (eq_sym a x e)) names j differ_id at_a_id
  where
    others_same : (ys : List (List ℕ)) (x : List ℕ) → bytes_eq x a ≡ false → map (λ y. g x y) ys ≡ map (λ y. f x y) ys
    others_same [] x e = refl
    others_same (y ∷ ys) x e =
        let here : g x y ≡ f x y = is x y ∙ rw e refl in
        rw (here, others_same ys x e) refl

    row_here : (x : List ℕ) → bytes_eq x a ≡ true → map (λ y. g x y) names ≡ set (map (λ y. f x y) names) k v
    row_here x e =
        let differ_id : Differ (map (λ x. x) names) = rw map-id differ in
        let at_b_id : place_of (map (λ x. x) names) b ≡ Some k = rw map-id at_b in
        changed_at (λ y. y) (λ y. f x y) (λ y. g x y) (λ old. v) zero_ℚ b
        (λ y h. is x y ∙ rw (e, ne_sym b y h) refl) (λ y h. is x y ∙ rw (e, eq_sym b y h) refl) names k differ_id at_b_id

pub square-step : (names : List (List ℕ)) (es : List Entry) (k : ℕ) (e : Entry) (old new : List (List ℚ)) → Differ names → AreEntries names names names es → k < length es → e ≡ get_or es k e → old ≡ square_of names (value_told (tellings_of names names (take k es)))
    → new ≡ with_place old e.column e.row e.value → new ≡ square_of names (value_told (tellings_of names names (take (k + 1) es)))
square-step names es k e old new differ all h is earlier after =
    let entry : IsEntry names names names e = subst (IsEntry names names names) (sym is) (each_at (IsEntry names names names) es k e all h) in
    let told = tellings_of names names (take k es) in
    let t = telling_of names names e in
    after ∙ ap (λ (m : List (List ℚ)). with_place m e.column e.row e.value) earlier
    ∙ sym (square-place names (value_told told) (value_told (t ∷ told)) t.column t.row e.value e.column e.row (value-more told t) differ (place-name_at names e.column differ entry.column) (place-name_at names e.row differ entry.row))
    ∙ ap (λ (x : Entry). square_of names (value_told (telling_of names names x ∷ told))) is ∙ sym (ap (λ ts. square_of names (value_told ts)) (reversed-more (telling_of names names) es k e h))

all_same : {A : Type 0} (xs : List (List ℕ)) (v : A) → replicate (length xs) v ≡ map (λ x. v) xs
all_same [] v = refl
all_same (x ∷ xs) v = ap (λ (l : List _). v ∷ l) (all_same xs v)

pub square-start : (columns : List (List ℕ × Bool)) (n : ℕ) (z : ℚ) → n ≡ length columns → z ≡ zero_ℚ → replicate n (replicate n z) ≡ square_of (names_of columns) (value_told [])
square-start columns n z count none =
    ap (λ (m : ℕ). replicate m (replicate m z)) (count ∙ sym (length_names columns)) ∙ all_same (names_of columns) (replicate (length (names_of columns)) z) ∙ ap (λ (row : List ℚ). map (λ one. row) (names_of columns)) (all_same (names_of columns) z) ∙ ap (λ (v : ℚ). map (λ one. map (λ other. v) (names_of columns)) (names_of columns)) none
