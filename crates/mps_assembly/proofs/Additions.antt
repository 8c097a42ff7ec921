-- Rows and columns that are added one after the other.
use Rattle.std.proofs.Common.{◌≡◌, ℕ, zero, suc, ◌+◌, ◌<◌, Bool, true, false, List, [], ◌∷◌, ◌++◌, map, take, length, get_or, Option, Some, None, refl, sym, ap, subst, ◌∙◌, arith, if◌then◌else◌, ◌&&◌, IsSome, true≢false, Result, Ok, Err, OnOk}
use Rattle.std.specs.Prelude.{slice_get, unwrap_or}
use Rattle.std.specs.Str.{bytes_eq}
use Rattle.std.proofs.lemmas.List.{take_more, take_all, get_or-map, append-nil}
use Rattle.rational.specs.Rational.{ℚ, neg_ℚ}
use Rattle.program_law.specs.declared.Row.{Row}
use Rattle.program_law.specs.Places.{place_of}
use Rattle.program_law.specs.Program.{Program, row_names, column_names}
use Rattle.program_law.specs.Changes.{with_row, with_column, with_constant}
use Rattle.mps_tokens.specs.declared.words.RowKind.{RowKind}
use Rattle.mps_tokens.specs.Cases.{named}
use Rattle.named_things.specs.Named.{names_of}
use Rattle.mps_grammar.specs.Told.{Told, Telling, binds, program_rows, objective_in}
use Rattle.mps_grammar.specs.Programs.{value_at, value_told, sides_of, row_of, column_of, bounded, bounds_for, objective_of, makes_past, is_range_past, first_line}
use Rattle.named_things.specs.Names.{Differ, name_at}
use Rattle.mps_tables.specs.Ranged.{is_past, sides_if_held}
use Rattle.mps_tables.specs.declared.columns.Bounding.{Bounding}
use Rattle.mps_tables.specs.Bounding.{bounding_of, boundings_of}
use Rattle.mps_tables.specs.ByRow.{rights_of}
use Rattle.mps_assembly.specs.Assembled.{blank, assembled}
use Rattle.mps_assembly.specs.Built.{AreSides, rows_built, columns_built}
use Rattle.named_things.proofs.NameLemmas.{eq_self, eq_from, ne_from, none_some, absent_parts, absent_head}
use Rattle.mps_tables.proofs.Tellings.{place-name_at}
use Rattle.mps_assembly.proofs.Programs.{map-push, blank-row, blank-column, assembled-start}
use Rattle.mps_assembly.proofs.UsedNames.{absent-bound, used-differ}
use Rattle.mps_tables.proofs.ByRows.{length_names}
use Rattle.mps_tables.proofs.FirstLines.{read_at, right_at, kind_at}
use Rattle.mps_assembly.proofs.Pairs.{or_other-none}

-- ---- the objective

-- the first row that doesn't bind is the objective
pub objective-at : (rows : List (List ℕ × RowKind)) (k : ℕ) (kind : RowKind) → slice_get (map (λ row. row.1) rows) k ≡ Some kind → objective_in (take k rows) ≡ None → binds kind ≡ false → objective_in rows ≡ Some (name_at (names_of rows) k)
objective-at [] k kind e none free = absurd cc
objective-at (r ∷ rs) zero kind e none free = let is : binds r.1 ≡ false = ap binds (some_kind r.1 kind e) ∙ free in rw is refl
  where
    some_kind : (a b : RowKind) → Some a ≡ Some b → a ≡ b
    some_kind a b e = cc
objective-at (r ∷ rs) (suc k) kind e none free = by_kind (binds r.1) none (λ n. objective-at rs k kind e n free)
  where
    by_kind : (b : Bool) → (if b then objective_in (take k rs) else Some r.0) ≡ None → (objective_in (take k rs) ≡ None → objective_in rs ≡ Some (name_at (names_of rs) k)) → (if b then objective_in rs else Some r.0) ≡ Some (name_at (names_of rs) k)
    by_kind true none again = again none
    by_kind false none again = absurd cc

-- rows that bind aren't it
pub objective-none : (rows : List (List ℕ × RowKind)) (k : ℕ) (kind : RowKind) → slice_get (map (λ row. row.1) rows) k ≡ Some kind → objective_in (take k rows) ≡ None → binds kind ≡ true → objective_in (take (k + 1) rows) ≡ None
objective-none rows k kind e none bound = let one : k + 1 ≡ suc k = omega arith in rw one (more rows k e none)
  where
    some_kind : (a b : RowKind) → Some a ≡ Some b → a ≡ b
    some_kind a b e = cc

    more : (rows : List (List ℕ × RowKind)) (k : ℕ) → slice_get (map (λ row. row.1) rows) k ≡ Some kind → objective_in (take k rows) ≡ None → objective_in (take (suc k) rows) ≡ None
    more [] k e none = absurd cc
    more (r ∷ rs) zero e none = let is : binds r.1 ≡ true = ap binds (some_kind r.1 kind e) ∙ bound in rw is refl
    more (r ∷ rs) (suc k) e none = by_kind (binds r.1) none (more rs k e)
      where
        by_kind : (b : Bool) → (if b then objective_in (take k rs) else Some r.0) ≡ None → (objective_in (take k rs) ≡ None → objective_in (take (suc k) rs) ≡ None) → (if b then objective_in (take (suc k) rs) else Some r.0) ≡ None
        by_kind true none again = again none
        by_kind false none again = absurd cc

-- ---- sides

-- no range past: the range that is told of a row makes a side that fits
range-fits : (told : Told) (ts : List Telling) (name : List ℕ) (r : ℚ) → first_line (is_range_past told) ts ≡ None → value_at ts [] name ≡ Some r → makes_past (named told.rows name) (value_told told.sides [] name) r ≡ false
range-fits told [] name r none e = absurd cc
range-fits told (t ∷ ts) name r none e =
    let parts = or_other-none (first_line (is_range_past told) ts) (if is_range_past told t then Some t.line else None) none in
    step (bytes_eq [] t.column) (bytes_eq name t.row) (is_range_past told t) refl refl parts.1 e (range-fits told ts name r parts.0)
  where
    value_is : (a b : ℚ) → Some a ≡ Some b → a ≡ b
    value_is a b e = cc

    step : (a b c : Bool) → bytes_eq name t.row ≡ b → is_range_past told t ≡ c → (if c then Some t.line else None) ≡ None → (if a && b then Some t.value else value_at ts [] name) ≡ Some r
        → (value_at ts [] name ≡ Some r → makes_past (named told.rows name) (value_told told.sides [] name) r ≡ false) → makes_past (named told.rows name) (value_told told.sides [] name) r ≡ false
    step a b true p q f e again = absurd cc
    step true true false p q f e again = rw (eq_from name t.row p, ← value_is t.value r e) q
    step true false false p q f e again = again e
    step false b false p q f e again = again e

pub held-sides : (told : Told) (k : ℕ) (kind : RowKind) → Differ (names_of told.rows) → k < length told.rows → slice_get (map (λ row. row.1) told.rows) k ≡ Some kind → first_line (is_range_past told) told.ranges ≡ None
    → is_past kind (value_told told.sides [] (name_at (names_of told.rows) k)) (value_at told.ranges [] (name_at (names_of told.rows) k)) ≡ false
held-sides told k kind differ h e none = by_range (value_at told.ranges [] (name_at (names_of told.rows) k)) refl
  where
    by_range : (o : Option ℚ) → value_at told.ranges [] (name_at (names_of told.rows) k) ≡ o → is_past kind (value_told told.sides [] (name_at (names_of told.rows) k)) o ≡ false
    by_range None f = refl
    by_range (Some r) f =
        let is : named told.rows (name_at (names_of told.rows) k) ≡ Some kind = kind_at told.rows k kind differ h e in
        subst (λ (o : Option RowKind). makes_past o (value_told told.sides [] (name_at (names_of told.rows) k)) r ≡ false) is (range-fits told told.ranges (name_at (names_of told.rows) k) r none f)

-- what is read of the tables at a row
pub sides_read : (told : Told) (rights : List ℚ) (ranges : List (Option ℚ)) (k : ℕ) (kind : RowKind) (right : ℚ) (range : Option ℚ) → AreSides told rights ranges → Differ (names_of told.rows) → k < length told.rows → slice_get (map (λ row. row.1) told.rows) k ≡ Some kind
    → slice_get rights k ≡ Some right → slice_get ranges k ≡ Some range
    → sides_if_held kind right range ≡ Some (sides_of kind (value_told told.sides [] (name_at (names_of told.rows) k)) (value_at told.ranges [] (name_at (names_of told.rows) k)))
sides_read told rights ranges k kind right range s differ h e f g =
    let within : k < length (names_of told.rows) = omega (arith, h, length_names told.rows) in
    let right_is : right ≡ value_told told.sides [] (name_at (names_of told.rows) k) = sym (right_at (names_of told.rows) told.sides k right within (ap (λ (l : List ℚ). slice_get l k) (sym s.rights) ∙ f)) in
    let range_is : range ≡ value_at told.ranges [] (name_at (names_of told.rows) k) =
    sym (sym (get_or-map (λ name. value_at told.ranges [] name) (names_of told.rows) k [] range within) ∙ read_at (map (λ name. value_at told.ranges [] name) (names_of told.rows)) k range range (ap (λ (l : List (Option ℚ)). slice_get l k) (sym s.ranges) ∙ g)) in
    rw (right_is, range_is, held-sides told k kind differ h e s.held) refl

-- ---- rows

some_kind : (a b : RowKind) → Some a ≡ Some b → a ≡ b
some_kind a b e = cc

-- there are fewer before it
pub bound-fewer : (rows : List (List ℕ × RowKind)) (k : ℕ) (kind : RowKind) → slice_get (map (λ row. row.1) rows) k ≡ Some kind → binds kind ≡ true → length (program_rows (take k rows)) < length (program_rows rows)
bound-fewer [] k kind e bound = absurd cc
bound-fewer (r ∷ rs) zero kind e bound = let is : binds r.1 ≡ true = ap binds (some_kind r.1 kind e) ∙ bound in rw is (omega arith)
bound-fewer (r ∷ rs) (suc k) kind e bound = by_kind (binds r.1) (bound-fewer rs k kind e bound)
  where
    by_kind : (b : Bool) → length (program_rows (take k rs)) < length (program_rows rs) → length (if b then r ∷ program_rows (take k rs) else program_rows (take k rs)) < length (if b then r ∷ program_rows rs else program_rows rs)
    by_kind true h = omega (arith, h)
    by_kind false h = h

-- it is one of them
bound-there : (rows : List (List ℕ × RowKind)) (k : ℕ) (kind : RowKind) → slice_get (map (λ row. row.1) rows) k ≡ Some kind → binds kind ≡ true → place_of (names_of (program_rows rows)) (name_at (names_of rows) k) ≡ None → ⊥
bound-there [] k kind e bound absent = absurd cc
bound-there (r ∷ rs) zero kind e bound absent =
    let is : binds r.1 ≡ true = ap binds (some_kind r.1 kind e) ∙ bound in
    let there : place_of (names_of (r ∷ program_rows rs)) r.0 ≡ None = subst (λ b. place_of (names_of (if b then r ∷ program_rows rs else program_rows rs)) r.0 ≡ None) is absent in
    true≢false (sym (eq_self r.0) ∙ (absent_parts r.0 r.0 (names_of (program_rows rs)) there).0)
bound-there (r ∷ rs) (suc k) kind e bound absent = by_kind (binds r.1) absent (bound-there rs k kind e bound)
  where
    by_kind : (b : Bool) → place_of (names_of (if b then r ∷ program_rows rs else program_rows rs)) (name_at (names_of rs) k) ≡ None → (place_of (names_of (program_rows rs)) (name_at (names_of rs) k) ≡ None → ⊥) → ⊥
    by_kind true absent again = again (absent_parts r.0 (name_at (names_of rs) k) (names_of (program_rows rs)) absent).1
    by_kind false absent again = again absent

-- a name isn't among those before it
pub absent-before : {A : Type 0} (things : List (List ℕ × A)) (k : ℕ) → Differ (names_of things) → k < length things → place_of (names_of (take k things)) (name_at (names_of things) k) ≡ None
absent-before [] k differ h = absurd (omega (arith, h))
absent-before (t ∷ ts) zero differ h = refl
absent-before (t ∷ ts) (suc k) differ h =
    let there : place_of (names_of ts) (name_at (names_of ts) k) ≡ Some k = place-name_at (names_of ts) k differ.1 (omega (arith, h, length_names ts)) in
    let other : bytes_eq (name_at (names_of ts) k) t.0 ≡ false = ne_from (name_at (names_of ts) k) t.0 (λ e. none_some k (sym differ.0 ∙ ap (place_of (names_of ts)) (sym e) ∙ there)) in
    absent_head t.0 (name_at (names_of ts) k) (names_of (take k ts)) other (absent-before ts k differ.1 (omega (arith, h)))

pub new-name : (rows : List (List ℕ × RowKind)) (k : ℕ) (kind : RowKind) → Differ (names_of rows) → IsSome (objective_in rows) → k < length rows → slice_get (map (λ row. row.1) rows) k ≡ Some kind → binds kind ≡ true
    → place_of (unwrap_or (objective_in rows) [] ∷ names_of (program_rows (take k rows))) (name_at (names_of rows) k) ≡ None
new-name rows k kind differ some h e bound =
    let o = unwrap_or (objective_in rows) [] in
    let used = used-differ rows differ some in
    let other : bytes_eq (name_at (names_of rows) k) o ≡ false = ne_from (name_at (names_of rows) k) o (λ f. bound-there rows k kind e bound (ap (place_of (names_of (program_rows rows))) f ∙ used.0)) in
    absent_head o (name_at (names_of rows) k) (names_of (program_rows (take k rows))) other (absent-bound (take k rows) (name_at (names_of rows) k) (absent-before rows k differ h))

row_names-same : (told : Told) (rows : List (List ℕ × RowKind)) → map (λ r. r.0) (map (row_of told) rows) ≡ names_of rows
row_names-same told [] = refl
row_names-same told (r ∷ rs) = ap (λ (l : List (List ℕ)). r.0 ∷ l) (row_names-same told rs)

pub row-absent : (told : Told) (k : ℕ) (kind : RowKind) (name : List ℕ) (p : Program) → Differ (names_of told.rows) → IsSome (objective_in told.rows) → k < length told.rows → slice_get (map (λ row. row.1) told.rows) k ≡ Some kind → binds kind ≡ true → p ≡ rows_built told k
    → name ≡ name_at (names_of told.rows) k → place_of (row_names p) name ≡ None
row-absent told k kind name p differ some h e bound is name_is =
    let names : row_names p ≡ objective_of told ∷ names_of (program_rows (take k told.rows)) = ap row_names is ∙ ap (λ (l : List (List ℕ)). objective_of told ∷ l) (row_names-same told (program_rows (take k told.rows))) in
    ap (λ l. place_of l name) names ∙ ap (place_of (objective_of told ∷ names_of (program_rows (take k told.rows)))) name_is ∙ new-name told.rows k kind differ some h e bound

pub filter-push : (rows : List (List ℕ × RowKind)) (r : List ℕ × RowKind) → program_rows (rows ++ r ∷ []) ≡ program_rows rows ++ program_rows (r ∷ [])
filter-push [] r = refl
filter-push (x ∷ xs) r = by_kind (binds x.1) (filter-push xs r)
  where
    by_kind : (b : Bool) → program_rows (xs ++ r ∷ []) ≡ program_rows xs ++ program_rows (r ∷ []) → (if b then x ∷ program_rows (xs ++ r ∷ []) else program_rows (xs ++ r ∷ [])) ≡ (if b then x ∷ program_rows xs else program_rows xs) ++ program_rows (r ∷ [])
    by_kind true h = ap (λ (l : List (List ℕ × RowKind)). x ∷ l) h
    by_kind false h = h

-- what stands at a place
row_at : (rows : List (List ℕ × RowKind)) (k : ℕ) (kind : RowKind) (d : List ℕ × RowKind) → k < length rows → slice_get (map (λ row. row.1) rows) k ≡ Some kind → get_or rows k d ≡ (name_at (names_of rows) k, kind)
row_at [] k kind d h e = absurd cc
row_at (r ∷ rs) zero kind d h e = ap (λ (x : RowKind). (r.0, x)) (some_kind r.1 kind e)
row_at (r ∷ rs) (suc k) kind d h e = row_at rs k kind d (omega (arith, h)) e

one_bound : (name : List ℕ) (kind : RowKind) → binds kind ≡ true → program_rows ((name, kind) ∷ []) ≡ (name, kind) ∷ []
one_bound name kind bound = rw bound refl

one_free : (name : List ℕ) (kind : RowKind) → binds kind ≡ false → program_rows ((name, kind) ∷ []) ≡ []
one_free name kind free = rw free refl

rows-more : (rows : List (List ℕ × RowKind)) (k : ℕ) (kind : RowKind) → k < length rows → slice_get (map (λ row. row.1) rows) k ≡ Some kind → program_rows (take (k + 1) rows) ≡ program_rows (take k rows) ++ program_rows ((name_at (names_of rows) k, kind) ∷ [])
rows-more rows k kind h e =
    let d : List ℕ × RowKind = (name_at (names_of rows) k, kind) in
    ap program_rows (take_more rows k d h) ∙ filter-push (take k rows) (get_or rows k d) ∙ ap (λ (r : List ℕ × RowKind). program_rows (take k rows) ++ program_rows (r ∷ [])) (row_at rows k kind d h e)

pub row-step : (told : Told) (k : ℕ) (kind : RowKind) (name : List ℕ) (s : Row) (p new : Program) → k < length told.rows → slice_get (map (λ row. row.1) told.rows) k ≡ Some kind → binds kind ≡ true → name ≡ name_at (names_of told.rows) k
    → s ≡ sides_of kind (value_told told.sides [] (name_at (names_of told.rows) k)) (value_at told.ranges [] (name_at (names_of told.rows) k)) → p ≡ rows_built told k → new ≡ with_row p name s → new ≡ rows_built told (k + 1)
row-step told k kind name s p new h e bound name_is sides_are before after =
    let row : List ℕ × RowKind = (name_at (names_of told.rows) k, kind) in
    let earlier = map (row_of told) (program_rows (take k told.rows)) in
    let more : map (row_of told) (program_rows (take (k + 1) told.rows)) ≡ earlier ++ row_of told row ∷ [] =
    ap (map (row_of told)) (rows-more told.rows k kind h e) ∙ ap (λ l. map (row_of told) (program_rows (take k told.rows) ++ l)) (one_bound (name_at (names_of told.rows) k) kind bound) ∙ map-push (row_of told) (program_rows (take k told.rows)) row in
    after ∙ ap (λ (q : Program). with_row q name s) before ∙ ap (λ n. with_row (rows_built told k) n s) name_is ∙ ap (with_row (rows_built told k) (name_at (names_of told.rows) k)) sides_are
    ∙ sym (blank-row (objective_of told) earlier [] (name_at (names_of told.rows) k) (row_of told row).1) ∙ ap (λ (l : List (List ℕ × Row)). blank (objective_of told) l []) (sym more)

pub row-passed : (told : Told) (k : ℕ) (kind : RowKind) (p : Program) → k < length told.rows → slice_get (map (λ row. row.1) told.rows) k ≡ Some kind → binds kind ≡ false → p ≡ rows_built told k → p ≡ rows_built told (k + 1)
row-passed told k kind p h e free before =
    let same : program_rows (take (k + 1) told.rows) ≡ program_rows (take k told.rows) ++ [] = rows-more told.rows k kind h e ∙ ap (λ l. program_rows (take k told.rows) ++ l) (one_free (name_at (names_of told.rows) k) kind free) in
    before ∙ ap (λ (l : List (List ℕ × RowKind)). blank (objective_of told) (map (row_of told) l) []) (sym (same ∙ append-nil (program_rows (take k told.rows))))

-- ---- columns

column_names-same : (told : Told) (columns : List (List ℕ × Bool)) → map (λ c. c.0) (map (column_of told) columns) ≡ names_of columns
column_names-same told [] = refl
column_names-same told (c ∷ cs) = ap (λ (l : List (List ℕ)). c.0 ∷ l) (column_names-same told cs)

pub column-absent : (told : Told) (k : ℕ) (name : List ℕ) (p : Program) → Differ (names_of told.columns) → k < length told.columns → p ≡ columns_built told k → name ≡ name_at (names_of told.columns) k → place_of (column_names p) name ≡ None
column-absent told k name p differ h is name_is =
    let names : column_names p ≡ names_of (take k told.columns) = ap column_names is ∙ column_names-same told (take k told.columns) in
    ap (λ l. place_of l name) names ∙ ap (place_of (names_of (take k told.columns))) name_is ∙ absent-before told.columns k differ h

pub column-step : (told : Told) (k : ℕ) (name : List ℕ) (b : Bounding) (p new : Program) → k < length told.columns → slice_get (boundings_of told.columns told.bounds) k ≡ Some b → name ≡ name_at (names_of told.columns) k → p ≡ columns_built told k → new ≡ with_column p name b.column
    → new ≡ columns_built told (k + 1)
column-step told k name b p new h e name_is before after =
    let d : List ℕ × Bool = ([], false) in
    let c = get_or told.columns k d in
    let rows = map (row_of told) (program_rows told.rows) in
    let here : c.0 ≡ name_at (names_of told.columns) k = sym (get_or-map (λ (c : List ℕ × Bool). c.0) told.columns k d [] h) in
    let is : bounding_of c.1 (bounds_for told.bounds c.0) ≡ b = sym (get_or-map (λ (c : List ℕ × Bool). bounding_of c.1 (bounds_for told.bounds c.0)) told.columns k d b h) ∙ read_at (boundings_of told.columns told.bounds) k b b e in
    let more : map (column_of told) (take (k + 1) told.columns) ≡ map (column_of told) (take k told.columns) ++ column_of told c ∷ [] = ap (map (column_of told)) (take_more told.columns k d h) ∙ map-push (column_of told) (take k told.columns) c in
    after ∙ ap (λ (q : Program). with_column q name b.column) before ∙ ap (λ n. with_column (columns_built told k) n b.column) (name_is ∙ sym here) ∙ ap (λ (x : Bounding). with_column (columns_built told k) c.0 x.column) (sym is)
    ∙ sym (blank-column (objective_of told) rows (map (column_of told) (take k told.columns)) c.0 (bounded c.1 (bounds_for told.bounds c.0))) ∙ ap (blank (objective_of told) rows) (sym more)

-- ---- answers

pub on_ok : {A E : Type 0} {P Q : Type 0} (r : Result A E) → (P → Q) → OnOk r P → OnOk r Q
on_ok (Ok a) f h = f h
on_ok (Err e) f h = h

pub is_none : {A : Type 0} {a : A} → None ≡ Some a → ⊥
is_none e = cc

pub is_some : {A : Type 0} {a b : A} → Some a ≡ Some b → a ≡ b
is_some e = cc

-- ---- all rows and columns, and the constant

pub shaped-end : (told : Told) (rights : List ℚ) (k : ℕ) (right v : ℚ) (p new : Program) → k < length told.rows → objective_in told.rows ≡ Some (name_at (names_of told.rows) k) → rights ≡ rights_of (names_of told.rows) told.sides → slice_get rights k ≡ Some right
    → v ≡ neg_ℚ right → p ≡ columns_built told (length told.columns) → new ≡ with_constant p v → new ≡ assembled told [] []
shaped-end told rights k right v p new h objective rights_are found negated before after =
    let within : k < length (names_of told.rows) = omega (arith, h, length_names told.rows) in
    let name : objective_of told ≡ name_at (names_of told.rows) k = ap (λ (o : Option (List ℕ)). unwrap_or o []) objective in
    let read : value_told told.sides [] (name_at (names_of told.rows) k) ≡ right = right_at (names_of told.rows) told.sides k right within (ap (λ (l : List ℚ). slice_get l k) (sym rights_are) ∙ found) in
    let value : v ≡ neg_ℚ (value_told told.sides [] (objective_of told)) = negated ∙ ap neg_ℚ (sym read) ∙ ap (λ n. neg_ℚ (value_told told.sides [] n)) (sym name) in
    let rows = map (row_of told) (program_rows told.rows) in
    let all : columns_built told (length told.columns) ≡ blank (objective_of told) rows (map (column_of told) told.columns) = ap (λ (l : List (List ℕ × Bool)). blank (objective_of told) rows (map (column_of told) l)) (take_all (length told.columns) told.columns (omega arith)) in
    after ∙ ap (λ (q : Program). with_constant q v) (before ∙ all) ∙ ap (with_constant (blank (objective_of told) rows (map (column_of told) told.columns))) value ∙ assembled-start told
