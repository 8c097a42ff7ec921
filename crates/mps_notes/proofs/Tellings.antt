-- What entries tell, when there is one more or when there are more names.
use Rattle.std.proofs.Common.{◌≡◌, ℕ, zero, suc, ◌<◌, Bool, true, false, eqb, ◌||◌, List, [], ◌∷◌, ◌++◌, map, reverse, length, Option, Some, None, refl, sym, ap, ◌∙◌, arith, length-append}
use Rattle.std.specs.List.{list_any, AllByRecursion}
use Rattle.std.specs.Str.{bytes_eq}
use Rattle.std.proofs.lemmas.List.{map-append, reverse-append, get_or_append_left}
use Rattle.std.proofs.lemmas.List.Folds.{list_any-append}
use Rattle.std.proofs.lemmas.Bool.Decides.{nat_tests}
use Rattle.program_law.specs.Places.{place_of}
use Rattle.mps_grammar.specs.Told.{is_at, is_told}
use Rattle.mps_notes.specs.declared.numbers.Entry.{Entry}
use Rattle.mps_notes.specs.declared.bounds.Bound.{Bound}
use Rattle.named_things.specs.Names.{Differ, name_at}
use Rattle.mps_notes.specs.Entries.{is_place, marks_at, is_marked}
use Rattle.mps_notes.specs.Told.{telling_of, tellings_of, IsEntry, AreEntries, bound_telling, bounds_of, AreBounds}
use Rattle.named_things.proofs.NameLemmas.{eq_self, ne_sym, same_test, absent_differs, absent_parts, place_first, place_behind}
use Rattle.mps_notes.proofs.RowLemmas.{place_other}

-- ---- names by their places

pub name_from_place : (names : List (List ℕ)) (n : List ℕ) (k : ℕ) → place_of names n ≡ Some k → name_at names k ≡ n
name_from_place [] n k e = absurd cc
name_from_place (x ∷ xs) n zero e = sym (place_first x n xs e)
name_from_place (x ∷ xs) n (suc k) e = name_from_place xs n k (place_behind x n xs k e).1

pub name_grows : (names more : List (List ℕ)) (k : ℕ) → k < length names → name_at (names ++ more) k ≡ name_at names k
name_grows names more k lt = get_or_append_left names more [] k lt

pub absent_name_at : (names : List (List ℕ)) (n : List ℕ) (k : ℕ) → place_of names n ≡ None → k < length names → bytes_eq (name_at names k) n ≡ false
absent_name_at [] n k absent lt = absurd (omega arith)
absent_name_at (x ∷ xs) n zero absent lt = ne_sym n x (absent_parts x n xs absent).0
absent_name_at (x ∷ xs) n (suc k) absent lt = absent_name_at xs n k (absent_parts x n xs absent).1 (omega arith)

pub place_from_name : (names : List (List ℕ)) (k : ℕ) → Differ names → k < length names → place_of names (name_at names k) ≡ Some k
place_from_name [] k differ lt = absurd (omega arith)
place_from_name (x ∷ xs) zero differ lt = rw (eq_self x) refl
place_from_name (x ∷ xs) (suc k) differ lt =
    let below : k < length xs = omega arith in
    rw (absent_name_at xs x k differ.0 below, place_from_name xs k differ.1 below) refl

-- ---- one entry more

map_push : {X A : Type 0} (f : X → A) (xs : List X) (x : X) → reverse (map f (xs ++ x ∷ [])) ≡ f x ∷ reverse (map f xs)
map_push f xs x = ap reverse (map-append f xs (x ∷ [])) ∙ reverse-append (map f xs) (f x ∷ [])

pub tellings_push : (columns rows : List (List ℕ)) (es : List Entry) (e : Entry) → tellings_of columns rows (es ++ e ∷ []) ≡ telling_of columns rows e ∷ tellings_of columns rows es
tellings_push columns rows es e = map_push (telling_of columns rows) es e

pub bounds_push : (columns : List (List ℕ)) (bs : List Bound) (b : Bound) → bounds_of columns (bs ++ b ∷ []) ≡ bound_telling columns b ∷ bounds_of columns bs
bounds_push columns bs b = map_push (bound_telling columns) bs b

-- ---- more names

map_same : {X A : Type 0} (P : X → Type 0) (f g : X → A) (xs : List X) → AllByRecursion P xs → ((x : X) → P x → f x ≡ g x) → map f xs ≡ map g xs
map_same P f g [] all same = refl
map_same P f g (x ∷ xs) all same = let here : f x ≡ g x = same x all.0 in rw here (ap (λ (l : List _). g x ∷ l) (map_same P f g xs all.1 same))

pub all_change : {X : Type 0} (P Q : X → Type 0) (xs : List X) → AllByRecursion P xs → ((x : X) → P x → Q x) → AllByRecursion Q xs
all_change P Q [] all change = tt
all_change P Q (x ∷ xs) all change = (change x all.0, all_change P Q xs all.1 change)

telling_grows : (columns rows more others used : List (List ℕ)) (e : Entry) → IsEntry columns rows used e → telling_of (columns ++ more) (rows ++ others) e ≡ telling_of columns rows e
telling_grows columns rows more others used e h = rw (name_grows columns more e.column h.column, name_grows rows others e.row h.row) refl

pub tellings_grow : (columns rows more others used : List (List ℕ)) (es : List Entry) → AreEntries columns rows used es → tellings_of (columns ++ more) (rows ++ others) es ≡ tellings_of columns rows es
tellings_grow columns rows more others used es all = ap reverse (map_same (IsEntry columns rows used) (telling_of (columns ++ more) (rows ++ others)) (telling_of columns rows) es all (λ e h. telling_grows columns rows more others used e h))

-- with columns more, or with rows more
pub tellings_columns : (columns rows more used : List (List ℕ)) (es : List Entry) → AreEntries columns rows used es → tellings_of (columns ++ more) rows es ≡ tellings_of columns rows es
tellings_columns columns rows more used es all =
    ap reverse (map_same (IsEntry columns rows used) (telling_of (columns ++ more) rows) (telling_of columns rows) es all (λ e h. rw (name_grows columns more e.column h.column) refl))

pub tellings_rows : (columns rows more used : List (List ℕ)) (es : List Entry) → AreEntries columns rows used es → tellings_of columns (rows ++ more) es ≡ tellings_of columns rows es
tellings_rows columns rows more used es all =
    ap reverse (map_same (IsEntry columns rows used) (telling_of columns (rows ++ more)) (telling_of columns rows) es all (λ e h. rw (name_grows rows more e.row h.row) refl))

longer : (names more : List (List ℕ)) (k : ℕ) → k < length names → k < length (names ++ more)
longer names more k lt = omega (arith, length-append names more)

-- columns more
pub entries_grow : (columns rows used more : List (List ℕ)) (es : List Entry) → AreEntries columns rows used es → AreEntries (columns ++ more) rows used es
entries_grow columns rows used more es all =
    all_change (IsEntry columns rows used) (IsEntry (columns ++ more) rows used) es all (λ e h. record { column = longer columns more e.column h.column; row = h.row; place = h.place })

-- a row more, where each row that was there keeps its place
pub entries_row : (columns rows used now : List (List ℕ)) (n : List ℕ) (es : List Entry) → AreEntries columns rows used es → ((k : ℕ) → k < length rows → place_of now (name_at rows k) ≡ place_of used (name_at rows k)) → AreEntries columns (rows ++ n ∷ []) now es
entries_row columns rows used now n es all kept =
    all_change (IsEntry columns rows used) (IsEntry columns (rows ++ n ∷ []) now) es all
    (λ e h. record {
      column = h.column;
      row = longer rows (n ∷ []) e.row h.row;
      place = h.place ∙ sym (kept e.row h.row) ∙ ap (place_of now) (sym (name_grows rows (n ∷ []) e.row h.row));
    })

-- a column more, for entries of two columns
pub pairs_grow : (columns : List (List ℕ)) (n : List ℕ) (es : List Entry) → AreEntries columns columns columns es → place_of columns n ≡ None → AreEntries (columns ++ n ∷ []) (columns ++ n ∷ []) (columns ++ n ∷ []) es
pairs_grow columns n es all absent =
    let rows = entries_row columns columns columns (columns ++ n ∷ []) n es all (λ k lt. place_other columns n (name_at columns k) (absent_name_at columns n k absent lt)) in
    entries_grow columns (columns ++ n ∷ []) (columns ++ n ∷ []) (n ∷ []) es rows

pub bounds_grow : (columns more : List (List ℕ)) (bs : List Bound) → AreBounds columns bs → AreBounds (columns ++ more) bs
bounds_grow columns more bs all = all_change (λ b. b.column < length columns) (λ b. b.column < length (columns ++ more)) bs all (λ b h. longer columns more b.column h)

pub bounds_same : (columns more : List (List ℕ)) (bs : List Bound) → AreBounds columns bs → bounds_of (columns ++ more) bs ≡ bounds_of columns bs
bounds_same columns more bs all =
    ap reverse (map_same (λ b. b.column < length columns) (bound_telling (columns ++ more)) (bound_telling columns) bs all (λ b h. rw (name_grows columns more b.column h) refl))

-- ---- what is told

or_swap : (a b : Bool) → (a || (b || false)) ≡ (b || a)
or_swap true true = refl
or_swap true false = refl
or_swap false true = refl
or_swap false false = refl

any_reverse : {X : Type 0} (p : X → Bool) (xs : List X) → list_any p (reverse xs) ≡ list_any p xs
any_reverse p [] = refl
any_reverse p (x ∷ xs) = ap (list_any p) (reverse-append (x ∷ []) xs) ∙ list_any-append p (reverse xs) (x ∷ []) ∙ or_swap (list_any p (reverse xs)) (p x) ∙ ap (λ (b : Bool). p x || b) (any_reverse p xs)

pub eqb_comm : (a b : ℕ) → eqb a b ≡ eqb b a
eqb_comm a b = grind (arith, nat_tests)

module _ (columns rows used : List (List ℕ)) (c r : List ℕ) where
  any_same : (q : Entry → Bool) (es : List Entry) → AreEntries columns rows used es → ((e : Entry) → IsEntry columns rows used e → is_at c r (telling_of columns rows e) ≡ q e) → list_any (is_at c r) (map (telling_of columns rows) es) ≡ list_any q es
  any_same q [] all same = refl
  any_same q (e ∷ es) all same = rw (same e all.0, any_same q es all.1 same) refl

  told_by_entries : (q : Entry → Bool) (es : List Entry) → AreEntries columns rows used es → ((e : Entry) → IsEntry columns rows used e → is_at c r (telling_of columns rows e) ≡ q e) → is_told (tellings_of columns rows es) c r ≡ list_any q es
  told_by_entries q es all same = any_reverse (is_at c r) (map (telling_of columns rows) es) ∙ any_same q es all same

  column_test : (j k : ℕ) → Differ columns → place_of columns c ≡ Some j → k < length columns → bytes_eq c (name_at columns k) ≡ eqb k j
  column_test j k differ at lt = same_test columns c (name_at columns k) j k at (place_from_name columns k differ lt) ∙ eqb_comm j k

  row_test : (s : ℕ) (n : List ℕ) (o : Option ℕ) → place_of used r ≡ Some s → o ≡ place_of used n → bytes_eq r n ≡ is_place s o
  row_test s n None at e = ne_sym n r (absent_differs used n r s (sym e) at)
  row_test s n (Some k) at e = same_test used r n s k at (sym e) ∙ eqb_comm s k

  -- a number is told for a column and a row exactly where there is an entry for their places
  pub told_marked : (es : List Entry) (j s : ℕ) → Differ columns → AreEntries columns rows used es → place_of columns c ≡ Some j → place_of used r ≡ Some s → is_told (tellings_of columns rows es) c r ≡ is_marked es j s
  told_marked es j s differ all at_column at_row =
      told_by_entries (marks_at j s) es all (λ e h. rw (column_test j e.column differ at_column h.column, row_test s (name_at rows e.row) e.place at_row h.place) refl)

  none_any : (es : List Entry) → list_any (λ (e : Entry). false) es ≡ false
  none_any [] = refl
  none_any (e ∷ es) = none_any es

  -- nothing is told for a column that isn't there
  pub told_nowhere : (es : List Entry) → AreEntries columns rows used es → place_of columns c ≡ None → is_told (tellings_of columns rows es) c r ≡ false
  told_nowhere es all absent =
      told_by_entries (λ e. false) es all (λ e h. rw (ne_sym (name_at columns e.column) c (absent_name_at columns c e.column absent h.column)) refl) ∙ none_any es
