-- What one telling more makes of the program that is told.
use Rattle.std.proofs.Common.{◌≡◌, ℕ, zero, suc, ◌+◌, true, false, Bool, ◌&&◌, List, [], ◌∷◌, ◌++◌, map, length, set, Some, None, refl, sym, ap, ◌∙◌, arith, if◌then◌else◌}
use Rattle.std.specs.Str.{bytes_eq}
use Rattle.std.proofs.lemmas.Bool.{and_right}
use Rattle.std.proofs.lemmas.List.{map-id, length-append}
use Rattle.rational.specs.Rational.{ℚ, zero_ℚ, neg_ℚ}
use Rattle.program_law.specs.declared.Row.{Row}
use Rattle.program_law.specs.declared.Column.{Column}
use Rattle.program_law.specs.Places.{place_of}
use Rattle.program_law.specs.Program.{Program}
use Rattle.program_law.specs.Changes.{zeros, widened, with_place, with_row, with_column, with_pair, with_constant}
use Rattle.mps_tokens.specs.declared.words.RowKind.{RowKind}
use Rattle.named_things.specs.Named.{names_of}
use Rattle.mps_grammar.specs.Told.{Told, Telling, program_rows, used_names}
use Rattle.mps_grammar.specs.Programs.{value_told, objective_of, row_of, column_of, pair_value, gives_pairs_once, program_of}
use Rattle.named_things.specs.Names.{Differ}
use Rattle.mps_tables.specs.PairTable.{square_of}
use Rattle.mps_assembly.specs.Assembled.{numbers_in, last_value, assembled, with_number, blank}
use Rattle.mps_assembly.specs.Sound.{AreToldOnce}
use Rattle.named_things.proofs.NameLemmas.{eq_self, eq_sym, ne_sym, place_behind, place_first, absent_parts}
use Rattle.mps_tables.proofs.Tables.{unchanged, changed_at}
use Rattle.mps_tables.proofs.FirstLines.{square-place}
use Rattle.mps_assembly.proofs.Pairs.{IsLevel, last-pair}

-- ---- the numbers of a row

numbers_elsewhere : (cs : List (List ℕ)) (es : List Telling) (t : Telling) (row : List ℕ) → bytes_eq row t.row ≡ false → numbers_in cs (t ∷ es) row ≡ numbers_in cs es row
numbers_elsewhere [] es t row e = refl
numbers_elsewhere (x ∷ xs) es t row e =
    let here : value_told (t ∷ es) x row ≡ value_told es x row = rw (and_right (bytes_eq x t.column) (bytes_eq row t.row) e) refl in
    let rest : numbers_in xs (t ∷ es) row ≡ numbers_in xs es row = numbers_elsewhere xs es t row e in
    rw (here, rest) refl

numbers_here : (cs : List (List ℕ)) (es : List Telling) (t : Telling) (row : List ℕ) (j : ℕ) → Differ cs → place_of cs t.column ≡ Some j → bytes_eq row t.row ≡ true → numbers_in cs (t ∷ es) row ≡ set (numbers_in cs es row) j t.value
numbers_here cs es t row j differ at e =
    let differ_id : Differ (map (λ x. x) cs) = rw map-id differ in
    let at_id : place_of (map (λ x. x) cs) t.column ≡ Some j = rw map-id at in
    changed_at (λ x. x) (λ x. value_told es x row) (λ x. value_told (t ∷ es) x row) (λ old. t.value) zero_ℚ t.column
    (λ x f. rw (ne_sym t.column x f) refl) (λ x f. rw (eq_sym t.column x f, e) refl) cs j differ_id at_id

-- ---- an entry more

same_numbers : (p : Program) (entries others : List (List ℚ)) (costs other : List ℚ) → entries ≡ others → costs ≡ other → record p { entries = entries; costs = costs } ≡ record p { entries = others; costs = other }
same_numbers p entries others costs other e f = rw (e, f) refl

pub assembled-entry : (told : Told) (es ps : List Telling) (t : Telling) (i j : ℕ) → Differ (used_names told.rows) → Differ (names_of told.columns) → place_of (used_names told.rows) t.row ≡ Some i → place_of (names_of told.columns) t.column ≡ Some j
    → assembled told (t ∷ es) ps ≡ with_number (assembled told es ps) i j t.value
assembled-entry told es ps t zero j names columns at_row at_column =
    let is : t.row ≡ objective_of told = place_first (objective_of told) t.row (names_of (program_rows told.rows)) at_row in
    let absent : place_of (names_of (program_rows told.rows)) t.row ≡ None = rw is names.0 in
    same_numbers (assembled told es ps) _ _ _ _
    (unchanged (λ (x : List ℕ × RowKind). x.0) (λ x. numbers_in (names_of told.columns) es x.0) (λ x. numbers_in (names_of told.columns) (t ∷ es) x.0) t.row (program_rows told.rows) absent
    (λ x e. numbers_elsewhere (names_of told.columns) es t x.0 (ne_sym t.row x.0 e)))
    (numbers_here (names_of told.columns) es t (objective_of told) j columns at_column (rw is (eq_self (objective_of told))))
assembled-entry told es ps t (suc i) j names columns at_row at_column =
    let p = place_behind (objective_of told) t.row (names_of (program_rows told.rows)) i at_row in
    same_numbers (assembled told es ps) _ _ _ _
    (changed_at (λ (x : List ℕ × RowKind). x.0) (λ x. numbers_in (names_of told.columns) es x.0) (λ x. numbers_in (names_of told.columns) (t ∷ es) x.0) (λ (row : List ℚ). set row j t.value) [] t.row
    (λ x e. numbers_elsewhere (names_of told.columns) es t x.0 (ne_sym t.row x.0 e))
    (λ x e. numbers_here (names_of told.columns) es t x.0 j columns at_column (eq_sym t.row x.0 e)) (program_rows told.rows) i names.1 p.1)
    (numbers_elsewhere (names_of told.columns) es t (objective_of told) (ne_sym t.row (objective_of told) p.0))

-- an entry on a further N row
pub assembled-unused : (told : Told) (es ps : List Telling) (t : Telling) → place_of (used_names told.rows) t.row ≡ None → assembled told (t ∷ es) ps ≡ assembled told es ps
assembled-unused told es ps t none =
    let p = absent_parts (objective_of told) t.row (names_of (program_rows told.rows)) none in
    same_numbers (assembled told es ps) _ _ _ _
    (unchanged (λ (x : List ℕ × RowKind). x.0) (λ x. numbers_in (names_of told.columns) es x.0) (λ x. numbers_in (names_of told.columns) (t ∷ es) x.0) t.row (program_rows told.rows) p.1
    (λ x e. numbers_elsewhere (names_of told.columns) es t x.0 (ne_sym t.row x.0 e)))
    (numbers_elsewhere (names_of told.columns) es t (objective_of told) (ne_sym t.row (objective_of told) p.0))

-- ---- a pair more

same_pairs : (p : Program) (one other : List (List ℚ)) → one ≡ other → record p { pairs = one } ≡ record p { pairs = other }
same_pairs p one other e = rw e refl

pub assembled-pair : (told : Told) (es ps : List Telling) (t : Telling) (j k : ℕ) → Differ (names_of told.columns) → place_of (names_of told.columns) t.column ≡ Some j → place_of (names_of told.columns) t.row ≡ Some k
    → assembled told es (t ∷ ps) ≡ with_pair (assembled told es ps) j k t.value
assembled-pair told es ps t j k differ at_column at_row =
    let once : List ℕ → List ℕ → ℚ = λ x y. if bytes_eq x t.column && bytes_eq y t.row then t.value else last_value ps x y in
    let first : square_of (names_of told.columns) once ≡ with_place (square_of (names_of told.columns) (last_value ps)) j k t.value =
    square-place (names_of told.columns) (last_value ps) once t.column t.row t.value j k (λ x y. refl) differ at_column at_row in
    let second : square_of (names_of told.columns) (last_value (t ∷ ps)) ≡ with_place (square_of (names_of told.columns) once) k j t.value =
    square-place (names_of told.columns) once (last_value (t ∷ ps)) t.row t.column t.value k j (λ x y. refl) differ at_row at_column in
    same_pairs (assembled told es ps) _ _ (second ∙ ap (λ (m : List (List ℚ)). with_place m k j t.value) first)

-- ---- a row or a column more

pub map-push : {X A : Type 0} (f : X → A) (xs : List X) (x : X) → map f (xs ++ x ∷ []) ≡ map f xs ++ f x ∷ []
map-push f [] x = refl
map-push f (y ∷ ys) x = ap (λ (l : List _). f y ∷ l) (map-push f ys x)

pub blank-row : (objective : List ℕ) (rows : List (List ℕ × Row)) (columns : List (List ℕ × Column)) (name : List ℕ) (s : Row) → blank objective (rows ++ (name, s) ∷ []) columns ≡ with_row (blank objective rows columns) name s
blank-row objective rows columns name s = rw (map-push (λ (r : List ℕ × Row). zeros (length columns)) rows (name, s)) refl

zeros-more : (n : ℕ) → zeros (suc n) ≡ widened (zeros n)
zeros-more zero = refl
zeros-more (suc n) = ap (λ (l : List ℚ). zero_ℚ ∷ l) (zeros-more n)

wider : {X : Type 0} (xs : List X) (n : ℕ) → map (λ x. zeros (suc n)) xs ≡ map widened (map (λ x. zeros n) xs)
wider [] n = refl
wider (x ∷ xs) n = rw (zeros-more n, wider xs n) refl

pub blank-column : (objective : List ℕ) (rows : List (List ℕ × Row)) (columns : List (List ℕ × Column)) (name : List ℕ) (c : Column) → blank objective rows (columns ++ (name, c) ∷ []) ≡ with_column (blank objective rows columns) name c
blank-column objective rows columns name c =
    let more : length (columns ++ (name, c) ∷ []) ≡ suc (length columns) = omega (arith, length-append columns ((name, c) ∷ [])) in
    let one : length columns + 1 ≡ suc (length columns) = omega arith in
    rw (more, one, map-push (λ (x : List ℕ × Column). zeros (suc (length columns))) columns (name, c), wider rows (length columns), wider columns (length columns), zeros-more (length columns)) refl

-- ---- with no numbers

pub map-length : {X Y : Type 0} (f : X → Y) (xs : List X) → length (map f xs) ≡ length xs
map-length f [] = refl
map-length f (x ∷ xs) = ap suc (map-length f xs)

module _ (told : Told) where
  abbrev width : ℕ
  width = length (map (column_of told) told.columns)

  width_is : length (names_of told.columns) ≡ width
  width_is = map-length (λ (c : List ℕ × Bool). c.0) told.columns ∙ sym (map-length (column_of told) told.columns)

  nothing : (columns : List (List ℕ)) → map (λ c. zero_ℚ) columns ≡ zeros (length columns)
  nothing [] = refl
  nothing (c ∷ cs) = ap (λ (l : List ℚ). zero_ℚ ∷ l) (nothing cs)

  no_numbers : map (λ c. zero_ℚ) (names_of told.columns) ≡ zeros width
  no_numbers = nothing (names_of told.columns) ∙ ap zeros width_is

  no_entries : (rows : List (List ℕ × RowKind)) → map (λ r. zeros width) (map (row_of told) rows) ≡ map (λ r. numbers_in (names_of told.columns) [] r.0) rows
  no_entries [] = refl
  no_entries (r ∷ rs) = rw (no_numbers, no_entries rs) refl

  no_pairs : (columns : List (List ℕ × Bool)) → map (λ c. zeros width) (map (column_of told) columns) ≡ map (λ one. map (λ other. zero_ℚ) (names_of told.columns)) (names_of columns)
  no_pairs [] = refl
  no_pairs (c ∷ cs) = rw (no_numbers, no_pairs cs) refl

  pub assembled-start : with_constant (blank (objective_of told) (map (row_of told) (program_rows told.rows)) (map (column_of told) told.columns)) (neg_ℚ (value_told told.sides [] (objective_of told))) ≡ assembled told [] []
  assembled-start = same_start (assembled told [] []) _ _ _ _ _ _ (no_entries (program_rows told.rows)) (sym no_numbers) (no_pairs told.columns)
    where
      same_start : (p : Program) (entries others : List (List ℚ)) (costs other : List ℚ) (pairs more : List (List ℚ)) → entries ≡ others → costs ≡ other → pairs ≡ more
          → record p { entries = entries; costs = costs; pairs = pairs } ≡ record p { entries = others; costs = other; pairs = more }
      same_start p entries others costs other pairs more e f g = rw (e, f, g) refl

-- ---- with all of them

square-same : (names : List (List ℕ)) (f g : List ℕ → List ℕ → ℚ) → ((x y : List ℕ) → f x y ≡ g x y) → square_of names f ≡ square_of names g
square-same names f g same = rows names
  where
    row : (x : List ℕ) (ys : List (List ℕ)) → map (λ y. f x y) ys ≡ map (λ y. g x y) ys
    row x [] = refl
    row x (y ∷ ys) = rw (same x y, row x ys) refl

    rows : (xs : List (List ℕ)) → map (λ x. map (λ y. f x y) names) xs ≡ map (λ x. map (λ y. g x y) names) xs
    rows [] = refl
    rows (x ∷ xs) = rw (row x names, rows xs) refl

pub assembled-end : (told : Told) → (gives_pairs_once told ≡ true → AreToldOnce told.pairs) → IsLevel told → assembled told told.entries told.pairs ≡ program_of told
assembled-end told once level = same_pairs (program_of told) _ _ (square-same (names_of told.columns) (last_value told.pairs) (pair_value told) (last-pair told once level))
