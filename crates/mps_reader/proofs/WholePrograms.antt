-- What is read is a program.
use Rattle.std.proofs.Common.{◌≡◌, ◌≢◌, ℕ, zero, suc, ◌<◌, ◌≤◌, Bool, true, false, ◌&&◌, List, [], ◌∷◌, map, length, get_or, Option, Some, None, Ok, refl, sym, ap, subst, ◌∙◌, inl, inr, arith, if◌then◌else◌, IsSome}
use Rattle.std.specs.Prelude.{AllPairs, unwrap_or}
use Rattle.std.specs.List.{AllByRecursion}
use Rattle.std.specs.Str.{bytes_eq}
use Rattle.mps_tokens.specs.Lines.{raw_lines}
use Rattle.std.proofs.lemmas.Bool.{cases_lt}
use Rattle.std.proofs.lemmas.List.{length-map}
use Rattle.std.proofs.lemmas.List.Elements.{All-from_recursion}
use Rattle.rational.specs.Rational.{ℚ, zero_ℚ, Fits}
use Rattle.frac_core.specs.Parts.{max_part}
use Rattle.program_law.specs.Places.{place_of}
use Rattle.rational.specs.Sums.{entry}
use Rattle.rational.specs.Vectors.{row_at}
use Rattle.program_law.specs.Program.{Program, IsProgram, IsName, IsRow, row_names, column_names, sides, marker}
use Rattle.mps_tokens.specs.declared.words.RowKind.{RowKind}
use Rattle.named_things.specs.Named.{names_of}
use Rattle.mps_grammar.specs.Told.{Told, Telling, binds, program_rows, objective_in, used_names, is_at, told_by}
use Rattle.mps_grammar.specs.Programs.{value_at, value_told, sides_of, row_of, column_of, pair_value, numbers_of, objective_of, program_of, first_line, is_lopsided, fault_at, range_fault, pair_fault, end_fault}
use Rattle.mps_grammar.specs.declared.kinds.FaultKind.TheVariants as kinds
use Rattle.mps_grammar.specs.Reading.{Spot, behind, read_of, told_of, told_verdict}
use Rattle.named_things.specs.Names.{Differ}
use Rattle.named_things.proofs.NameLemmas.{ne_eq, absent_parts}
use Rattle.mps_assembly.specs.Assembled.{last_value}
use Rattle.mps_assembly.specs.Sound.{IsSound}
use Rattle.mps_tables.proofs.GoodSides.{IsRow-plain, IsRow-ranged}
use Rattle.mps_assembly.proofs.Pairs.{or_other-none, last-pair, IsLevel}
use Rattle.mps_assembly.proofs.UsedNames.{used-differ}
use Rattle.mps_reader.proofs.SoundLines.{IsWhole, told-whole}
use Rattle.mps_reader.proofs.NamedLines.{HasNames, lines-named}
use Rattle.mps_reader.proofs.AppendedReading.{stands}

-- ---- names

-- a name that isn't among others is none of them
absent_ne : (names : List (List ℕ)) (name d : List ℕ) (j : ℕ) → place_of names name ≡ None → j < length names → get_or names j d ≢ name
absent_ne [] name d j e lt = absurd (omega (arith, lt))
absent_ne (n ∷ ns) name d zero e lt = λ same. ne_eq name n (absent_parts n name ns e).0 (sym same)
absent_ne (n ∷ ns) name d (suc j) e lt = absent_ne ns name d j (absent_parts n name ns e).1 (omega (arith, lt))

all_differ : (names : List (List ℕ)) → Differ names → AllPairs (λ a b. a ≢ b) names
all_differ [] h i j d lt within = absurd (omega (arith, within))
all_differ (n ∷ ns) h zero zero d lt within = absurd (omega (arith, lt))
all_differ (n ∷ ns) h zero (suc j) d lt within = λ same. absent_ne ns n d j h.0 (omega (arith, within)) (sym same)
all_differ (n ∷ ns) h (suc i) zero d lt within = absurd (omega (arith, lt))
all_differ (n ∷ ns) h (suc i) (suc j) d lt within = all_differ ns h.1 i j d (omega (arith, lt)) (omega (arith, within))

-- what holds of all rows holds of those of the program
bound_names : (P : List ℕ → Type 0) (rows : List (List ℕ × RowKind)) → AllByRecursion P (names_of rows) → AllByRecursion P (names_of (program_rows rows))
bound_names P [] h = tt
bound_names P (r ∷ rs) h = by_kind (binds r.1) (bound_names P rs h.1)
  where
    by_kind : (b : Bool) → AllByRecursion P (names_of (program_rows rs)) → AllByRecursion P (names_of (if b then r ∷ program_rows rs else program_rows rs))
    by_kind true rest = (h.0, rest)
    by_kind false rest = rest

objective_name : (P : List ℕ → Type 0) (rows : List (List ℕ × RowKind)) → AllByRecursion P (names_of rows) → IsSome (objective_in rows) → P (unwrap_or (objective_in rows) [])
objective_name P [] h some = absurd cc
objective_name P (r ∷ rs) h some = by_kind (binds r.1) some (objective_name P rs h.1)
  where
    by_kind : (b : Bool) → IsSome (if b then objective_in rs else Some r.0) → (IsSome (objective_in rs) → P (unwrap_or (objective_in rs) [])) → P (unwrap_or (if b then objective_in rs else Some r.0) [])
    by_kind true some again = again some
    by_kind false some again = h.0

apart : (names : List (List ℕ)) → place_of names marker ≡ None → AllByRecursion (λ name. name ≢ marker) names
apart [] e = tt
apart (n ∷ ns) e = let p = absent_parts n marker ns e in (λ same. ne_eq marker n p.0 (sym same), apart ns p.1)

-- ---- rows and columns

row_names_are : (told : Told) (rows : List (List ℕ × RowKind)) → map (λ r. r.0) (map (row_of told) rows) ≡ names_of rows
row_names_are told [] = refl
row_names_are told (r ∷ rs) = ap (λ (l : List (List ℕ)). r.0 ∷ l) (row_names_are told rs)

column_names_are : (told : Told) (columns : List (List ℕ × Bool)) → map (λ c. c.0) (map (column_of told) columns) ≡ names_of columns
column_names_are told [] = refl
column_names_are told (c ∷ cs) = ap (λ (l : List (List ℕ)). c.0 ∷ l) (column_names_are told cs)

range_fits : (ts : List Telling) (column row : List ℕ) (r : ℚ) → AllByRecursion (λ t. Fits max_part t.value) ts → value_at ts column row ≡ Some r → Fits max_part r
range_fits [] column row r h e = absurd cc
range_fits (t ∷ ts) column row r h e = by_test (is_at column row t) e (range_fits ts column row r h.1)
  where
    by_test : (b : Bool) → (if b then Some t.value else value_at ts column row) ≡ Some r → (value_at ts column row ≡ Some r → Fits max_part r) → Fits max_part r
    by_test true e again = let is : t.value ≡ r = cc in subst (λ (q : ℚ). Fits max_part q) is h.0
    by_test false e again = again e

good_sides : (kind : RowKind) (b : ℚ) (range : Option ℚ) → binds kind ≡ true → ((r : ℚ) → range ≡ Some r → Fits max_part r) → IsRow (sides_of kind b range)
good_sides kind b None e h = IsRow-plain kind b e
good_sides kind b (Some r) e h = IsRow-ranged kind b r e (h r refl)

good_rows : (told : Told) (rows : List (List ℕ × RowKind)) → AllByRecursion (λ t. Fits max_part t.value) told.ranges → AllByRecursion IsRow (map (λ r. r.1) (map (row_of told) (program_rows rows)))
good_rows told [] h = tt
good_rows told (r ∷ rs) h = by_kind (binds r.1) refl (good_rows told rs h)
  where
    by_kind : (b : Bool) → binds r.1 ≡ b → AllByRecursion IsRow (map (λ r. r.1) (map (row_of told) (program_rows rs))) → AllByRecursion IsRow (map (λ r. r.1) (map (row_of told) (if b then r ∷ program_rows rs else program_rows rs)))
    by_kind true e rest = (good_sides r.1 (value_told told.sides [] r.0) (value_at told.ranges [] r.0) e (λ q f. range_fits told.ranges [] r.0 q h f), rest)
    by_kind false e rest = rest

-- ---- tables

all_wide : {A : Type 0} (f : A → List ℚ) (n : ℕ) (xs : List A) → ((x : A) → length (f x) ≡ n) → AllByRecursion (λ row. length row ≡ n) (map f xs)
all_wide f n [] h = tt
all_wide f n (x ∷ xs) h = (h x, all_wide f n xs h)

-- an entry of a row of numbers
at_map : (f : List ℕ → ℚ) (names : List (List ℕ)) (k : ℕ) → k < length names → entry (map f names) k ≡ f (get_or names k [])
at_map f [] k lt = absurd (omega (arith, lt))
at_map f (n ∷ ns) zero lt = refl
at_map f (n ∷ ns) (suc k) lt = at_map f ns k (omega (arith, lt))

at_past : (f : List ℕ → ℚ) (names : List (List ℕ)) (k : ℕ) → length names ≤ k → entry (map f names) k ≡ zero_ℚ
at_past f [] k le = refl
at_past f (n ∷ ns) zero le = absurd (omega (arith, le))
at_past f (n ∷ ns) (suc k) le = at_past f ns k (omega (arith, le))

row_map : (f : List ℕ → List ℚ) (names : List (List ℕ)) (j : ℕ) → j < length names → row_at (map f names) j ≡ f (get_or names j [])
row_map f [] j lt = absurd (omega (arith, lt))
row_map f (n ∷ ns) zero lt = refl
row_map f (n ∷ ns) (suc j) lt = row_map f ns j (omega (arith, lt))

row_past : (f : List ℕ → List ℚ) (names : List (List ℕ)) (j : ℕ) → length names ≤ j → row_at (map f names) j ≡ []
row_past f [] j le = refl
row_past f (n ∷ ns) zero le = absurd (omega (arith, le))
row_past f (n ∷ ns) (suc j) le = row_past f ns j (omega (arith, le))

module _ (names : List (List ℕ)) (f : List ℕ → List ℕ → ℚ) (same : (a b : List ℕ) → f a b ≡ f b a) where
  abbrev table : List (List ℚ)
  table = map (λ one. map (λ other. f one other) names) names

  table_at : (j k : ℕ) → j < length names → k < length names → entry (row_at table j) k ≡ f (get_or names j []) (get_or names k [])
  table_at j k lt within = ap (λ (row : List ℚ). entry row k) (row_map (λ one. map (λ other. f one other) names) names j lt) ∙ at_map (λ other. f (get_or names j []) other) names k within

  table_beside : (j k : ℕ) → length names ≤ k → entry (row_at table j) k ≡ zero_ℚ
  table_beside j k le = elim (cases_lt j (length names)) [
    | inl lt ↦ ap (λ (row : List ℚ). entry row k) (row_map (λ one. map (λ other. f one other) names) names j lt) ∙ at_past (λ other. f (get_or names j []) other) names k le
    | inr past ↦ ap (λ (row : List ℚ). entry row k) (row_past (λ one. map (λ other. f one other) names) names j past)
  ]

  table_below : (j k : ℕ) → length names ≤ j → entry (row_at table j) k ≡ zero_ℚ
  table_below j k le = ap (λ (row : List ℚ). entry row k) (row_past (λ one. map (λ other. f one other) names) names j le)

  table_symmetric : (j k : ℕ) → entry (row_at table j) k ≡ entry (row_at table k) j
  table_symmetric j k = elim (cases_lt j (length names)) [
    | inl lt ↦ elim (cases_lt k (length names)) [
      | inl within ↦ table_at j k lt within ∙ same (get_or names j []) (get_or names k []) ∙ sym (table_at k j within lt)
      | inr past ↦ table_beside j k past ∙ sym (table_below k j past)
    ]
    | inr past ↦ table_below j k past ∙ sym (table_beside k j past)
  ]

-- the last number told for two names is that of both orders
last_same : (ts : List Telling) (x y : List ℕ) → last_value ts x y ≡ last_value ts y x
last_same [] x y = refl
last_same (t ∷ ts) x y = step (bytes_eq x t.row) (bytes_eq y t.column) (bytes_eq x t.column) (bytes_eq y t.row) t.value (last_value ts x y) (last_value ts y x) (last_same ts x y)
  where
    step : (a b c d : Bool) (v l m : ℚ) → l ≡ m → (if a && b then v else (if c && d then v else l)) ≡ (if d && c then v else (if b && a then v else m))
    step true true true true v l m e = refl
    step true true true false v l m e = refl
    step true true false true v l m e = refl
    step true true false false v l m e = refl
    step true false true true v l m e = refl
    step true false true false v l m e = e
    step true false false true v l m e = e
    step true false false false v l m e = e
    step false true true true v l m e = refl
    step false true true false v l m e = e
    step false true false true v l m e = e
    step false true false false v l m e = e
    step false false true true v l m e = refl
    step false false true false v l m e = e
    step false false false true v l m e = e
    step false false false false v l m e = e

-- no pair of both triangles faults
level : (told : Told) → end_fault told ≡ None → IsLevel told
level told none = λ both. at_none (first_line (is_lopsided told.pairs) told.pairs) (sym (rw both refl) ∙ (or_other-none (range_fault told) (pair_fault told) none).1)
  where
    at_none : (line : Option ℕ) → fault_at kinds.NotSymmetric line ≡ None → line ≡ None
    at_none None e = refl
    at_none (Some line) e = absurd cc

-- Q is symmetric where no pair faults
pairs_same : (told : Told) → IsSound told → end_fault told ≡ None → (a b : List ℕ) → pair_value told a b ≡ pair_value told b a
pairs_same told sound none a b = sym (last-pair told sound.pairs (level told none) a b) ∙ last_same told.pairs a b ∙ last-pair told sound.pairs (level told none) b a

-- ---- the program

module _ (told : Told) (h : HasNames told) (whole : IsWhole told) (none : end_fault told ≡ None) where
  abbrev p : Program
  p = program_of told

  some : IsSome (objective_in told.rows)
  some = whole.sound.objective whole.columns

  rows_are : row_names p ≡ used_names told.rows
  rows_are = ap (λ (l : List (List ℕ)). objective_of told ∷ l) (row_names_are told (program_rows told.rows))

  columns_are : column_names p ≡ names_of told.columns
  columns_are = column_names_are told told.columns

  count : length p.columns ≡ length (names_of told.columns)
  count = length-map told.columns (column_of told) ∙ sym (length-map told.columns (λ (c : List ℕ × Bool). c.0))

  wide : (f : List ℕ → ℚ) → length (map f (names_of told.columns)) ≡ length p.columns
  wide f = length-map (names_of told.columns) f ∙ sym count

  whole_program : IsProgram p
  whole_program = record {
    few_rows = omega (arith, length-map (program_rows told.rows) (row_of told), whole.sound.few_rows);
    few_columns = omega (arith, length-map told.columns (column_of told), h.few_columns);
    named_rows = All-from_recursion IsName (row_names p) (subst (AllByRecursion IsName) (sym rows_are) (objective_name IsName told.rows h.rows some, bound_names IsName told.rows h.rows));
    named_columns = All-from_recursion IsName (column_names p) (subst (AllByRecursion IsName) (sym columns_are) h.columns);
    rows_differ = all_differ (row_names p) (subst Differ (sym rows_are) (used-differ told.rows h.rows_differ some));
    columns_differ = all_differ (column_names p) (subst Differ (sym columns_are) h.columns_differ);
    no_marker = All-from_recursion (λ name. name ≢ marker) (row_names p)
        (subst (AllByRecursion (λ name. name ≢ marker)) (sym rows_are) (objective_name (λ name. name ≢ marker) told.rows (apart (names_of told.rows) h.no_marker) some, bound_names (λ name. name ≢ marker) told.rows (apart (names_of told.rows) h.no_marker)));
    good_rows = All-from_recursion IsRow (sides p) (good_rows told told.rows h.ranges);
    height = length-map (program_rows told.rows) (λ (r : List ℕ × RowKind). numbers_of told r.0) ∙ sym (length-map (program_rows told.rows) (row_of told));
    width = All-from_recursion (λ row. length row ≡ length p.columns) p.entries
        (all_wide (λ (r : List ℕ × RowKind). numbers_of told r.0) (length p.columns) (program_rows told.rows) (λ r. wide (λ column. value_told told.entries column r.0)));
    costs_width = wide (λ column. value_told told.entries column (objective_of told));
    pairs_height = length-map (names_of told.columns) (λ (one : List ℕ). map (λ other. pair_value told one other) (names_of told.columns)) ∙ sym count;
    pairs_width = All-from_recursion (λ row. length row ≡ length p.columns) p.pairs
        (all_wide (λ (one : List ℕ). map (λ other. pair_value told one other) (names_of told.columns)) (length p.columns) (names_of told.columns) (λ one. wide (λ other. pair_value told one other)));
    symmetric = table_symmetric (names_of told.columns) (pair_value told) (pairs_same told whole.sound none);
  }

pub read_program : (text : List ℕ) (p : Program) (spot : Spot) → read_of text ≡ Ok (p, spot) → IsProgram p
read_program text p spot e =
    let h = stands text p spot e in
    let told = told_by h.lines.0 in
    let told_is : told_of text ≡ Ok (told, behind text h.lines) = ap (told_verdict text) h.verdict_is in
    subst IsProgram (sym h.program) (whole_program told (lines-named (raw_lines text) h.lines h.verdict_is) (told-whole text told (behind text h.lines) told_is) h.none)
