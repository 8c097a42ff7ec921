-- Each change of what is kept is the change of what is seen, and leaves room.
use Rattle.std.specs.Prelude.{◌≡◌, ◌≢◌, ℕ, ◌+◌, ◌<◌, ◌≤◌, List, [], ◌∷◌, ◌++◌, length, map, take, All, None}
use Rattle.std.proofs.Common.{refl, arith, set, sym, ap, subst, ◌∙◌}
use Rattle.std.proofs.lemmas.List.{length_push, length-set, map_push, length-map, take-replicate}
use Rattle.std.proofs.lemmas.List.Elements.{All-push}
use Rattle.std.proofs.lemmas.List.Quantifiers.{all_pairs_push}
use Rattle.std.proofs.Math.Seq.{take-set-lt}
use Rattle.rational.specs.Rational.{ℚ, zero_ℚ}
use Rattle.program_law.specs.declared.Row.{Row}
use Rattle.program_law.specs.declared.Column.{Column}
use Rattle.rational.specs.Vectors.{row_at}
use Rattle.program_law.specs.Places.{place_of}
use Rattle.program_law.specs.Program.{Program, IsProgram, IsName, IsRow, row_names, column_names, marker, most_rows, most_columns}
use Rattle.program_law.specs.Changes.{zeros, widened, renewed, with_place, with_row, with_column, with_entry, with_cost, with_pair, with_sides, with_bounds}
use Rattle.program_data.specs.Kept.{IsPadded, trimmed, IsRoomy}
use Rattle.program_data.proofs.Padded.{padded_set, padded_more, padded_mores, padded_zeros, padded_place, place_taken, rows_more, take_more}
use Rattle.program_data.proofs.Changed.{entry_good, cost_good, pair_good, sides_good, bounds_good, row_good, column_good, length-renewed}

-- a program with other numbers
abbrev numbers_as : Program → List (List ℚ) → List ℚ → List (List ℚ) → Program
numbers_as p entries costs pairs =
    record {
      objective = p.objective;
      rows = p.rows;
      columns = p.columns;
      entries = entries;
      costs = costs;
      constant = p.constant;
      pairs = pairs;
    }

-- there are as many rows of entries as rows, and of pairs as columns
entries_there : (p : Program) → IsRoomy p → length p.entries ≡ length p.rows
entries_there p r = sym (length-map p.entries (take (length p.columns))) ∙ r.good.height

pairs_there : (p : Program) → IsRoomy p → length p.pairs ≡ length p.columns
pairs_there p r = sym (length-map p.pairs (take (length p.columns))) ∙ r.good.pairs_height

-- ---- numbers

entry_seen : (p : Program) (i j : ℕ) (v : ℚ) → IsRoomy p → i < length p.rows → j < length p.columns → trimmed (with_entry p i j v) ≡ with_entry (trimmed p) i j v
entry_seen p i j v r h k =
    ap (λ (rows : List (List ℚ)). numbers_as (trimmed p) rows (trimmed p).costs (trimmed p).pairs) (place_taken (length p.columns) p.entries i j v (omega (arith, h, entries_there p r)) k)

pub entry_changed : (p seen : Program) (i j : ℕ) (v : ℚ) → trimmed p ≡ seen → IsRoomy p → i < length seen.rows → j < length seen.columns → (trimmed (with_entry p i j v) ≡ with_entry seen i j v) × IsRoomy (with_entry p i j v)
entry_changed p seen i j v is r =
    subst (λ (s : Program). i < length s.rows → j < length s.columns → (trimmed (with_entry p i j v) ≡ with_entry s i j v) × IsRoomy (with_entry p i j v)) is
    (λ h k. (
      entry_seen p i j v r h k,
      record {
        good = subst IsProgram (sym (entry_seen p i j v r h k)) (entry_good (trimmed p) i j v h r.good);
        entries = padded_place (length p.columns) p.entries i j v r.entries (omega (arith, h, entries_there p r)) k;
        costs = r.costs;
        pairs = r.pairs;
      },
    ))

cost_seen : (p : Program) (j : ℕ) (v : ℚ) → j < length p.columns → trimmed (with_cost p j v) ≡ with_cost (trimmed p) j v
cost_seen p j v h = ap (λ (costs : List ℚ). numbers_as (trimmed p) (trimmed p).entries costs (trimmed p).pairs) (take-set-lt (length p.columns) p.costs j v h)

pub cost_changed : (p seen : Program) (j : ℕ) (v : ℚ) → trimmed p ≡ seen → IsRoomy p → j < length seen.columns → (trimmed (with_cost p j v) ≡ with_cost seen j v) × IsRoomy (with_cost p j v)
cost_changed p seen j v is r =
    subst (λ (s : Program). j < length s.columns → (trimmed (with_cost p j v) ≡ with_cost s j v) × IsRoomy (with_cost p j v)) is
    (λ h. (
      cost_seen p j v h,
      record {
        good = subst IsProgram (sym (cost_seen p j v h)) (cost_good (trimmed p) j v r.good);
        entries = r.entries;
        costs = padded_set (length p.columns) p.costs j v r.costs h;
        pairs = r.pairs;
      },
    ))

pair_seen : (p : Program) (j k : ℕ) (v : ℚ) → IsRoomy p → j < length p.columns → k < length p.columns → trimmed (with_pair p j k v) ≡ with_pair (trimmed p) j k v
pair_seen p j k v r h i =
    let n = length p.columns in
    let once : length (with_place p.pairs j k v) ≡ n = length-set p.pairs j (set (row_at p.pairs j) k v) ∙ pairs_there p r in
    ap (λ (pairs : List (List ℚ)). numbers_as (trimmed p) (trimmed p).entries (trimmed p).costs pairs)
    (place_taken n (with_place p.pairs j k v) k j v (omega (arith, i, once)) h ∙ ap (λ (q : List (List ℚ)). with_place q k j v) (place_taken n p.pairs j k v (omega (arith, h, pairs_there p r)) i))

pair_padded : (p : Program) (j k : ℕ) (v : ℚ) → IsRoomy p → j < length p.columns → k < length p.columns → All (IsPadded (length p.columns)) (with_place (with_place p.pairs j k v) k j v)
pair_padded p j k v r h i =
    let n = length p.columns in
    let once : length (with_place p.pairs j k v) ≡ n = length-set p.pairs j (set (row_at p.pairs j) k v) ∙ pairs_there p r in
    padded_place n (with_place p.pairs j k v) k j v (padded_place n p.pairs j k v r.pairs (omega (arith, h, pairs_there p r)) i) (omega (arith, i, once)) h

pub pair_changed : (p seen : Program) (j k : ℕ) (v : ℚ) → trimmed p ≡ seen → IsRoomy p → j < length seen.columns → k < length seen.columns → (trimmed (with_pair p j k v) ≡ with_pair seen j k v) × IsRoomy (with_pair p j k v)
pair_changed p seen j k v is r =
    subst (λ (s : Program). j < length s.columns → k < length s.columns → (trimmed (with_pair p j k v) ≡ with_pair s j k v) × IsRoomy (with_pair p j k v)) is
    (λ h i. (
      pair_seen p j k v r h i,
      record {
        good = subst IsProgram (sym (pair_seen p j k v r h i)) (pair_good (trimmed p) j k v h i r.good);
        entries = r.entries;
        costs = r.costs;
        pairs = pair_padded p j k v r h i;
      },
    ))

-- ---- sides and bounds

pub sides_changed : (p seen : Program) (i : ℕ) (s : Row) → trimmed p ≡ seen → IsRoomy p → IsRow s → (trimmed (with_sides p i s) ≡ with_sides seen i s) × IsRoomy (with_sides p i s)
sides_changed p seen i s is r good = (
  ap (λ (q : Program). with_sides q i s) is,
  record { good = sides_good (trimmed p) i s good r.good; entries = r.entries; costs = r.costs; pairs = r.pairs },
)

abbrev trimmed_to : ℕ → Program → Program
trimmed_to n p = numbers_as p (map (take n) p.entries) (take n p.costs) (map (take n) p.pairs)

bounds_seen : (p : Program) (j : ℕ) (c : Column) → trimmed (with_bounds p j c) ≡ with_bounds (trimmed p) j c
bounds_seen p j c = ap (λ (n : ℕ). trimmed_to n (with_bounds p j c)) (length-renewed p.columns j c)

pub bounds_changed : (p seen : Program) (j : ℕ) (c : Column) → trimmed p ≡ seen → IsRoomy p → (trimmed (with_bounds p j c) ≡ with_bounds seen j c) × IsRoomy (with_bounds p j c)
bounds_changed p seen j c is r =
    let count : length p.columns ≡ length (renewed p.columns j c) = sym (length-renewed p.columns j c) in (
      bounds_seen p j c ∙ ap (λ (q : Program). with_bounds q j c) is,
      record {
        good = subst IsProgram (sym (bounds_seen p j c)) (bounds_good (trimmed p) j c r.good);
        entries = subst (λ (n : ℕ). All (IsPadded n) p.entries) count r.entries;
        costs = subst (λ (n : ℕ). IsPadded n p.costs) count r.costs;
        pairs = subst (λ (n : ℕ). All (IsPadded n) p.pairs) count r.pairs;
      },
    )

-- ---- a row or a column more

-- a row of zeros is kept for the row
abbrev pub row_put : Program → List ℕ → Row → Program
row_put p name s =
    record {
      objective = p.objective;
      rows = p.rows ++ (name, s) ∷ [];
      columns = p.columns;
      entries = p.entries ++ zeros most_columns ∷ [];
      costs = p.costs;
      constant = p.constant;
      pairs = p.pairs;
    }

-- a row of zeros is kept for the column's pairs
abbrev pub column_put : Program → List ℕ → Column → Program
column_put p name c =
    record {
      objective = p.objective;
      rows = p.rows;
      columns = p.columns ++ (name, c) ∷ [];
      entries = p.entries;
      costs = p.costs;
      constant = p.constant;
      pairs = p.pairs ++ zeros most_columns ∷ [];
    }

zeros_taken : (n : ℕ) (rows : List (List ℚ)) → n ≤ most_columns → map (take n) (rows ++ zeros most_columns ∷ []) ≡ map (take n) rows ++ zeros n ∷ []
zeros_taken n rows few = map_push (take n) rows (zeros most_columns) ∙ ap (λ (row : List ℚ). map (take n) rows ++ row ∷ []) (take-replicate n most_columns zero_ℚ few)

row_seen : (p : Program) (name : List ℕ) (s : Row) → IsRoomy p → trimmed (row_put p name s) ≡ with_row (trimmed p) name s
row_seen p name s r =
    ap (λ (entries : List (List ℚ)). numbers_as (row_put (trimmed p) name s) entries (trimmed p).costs (trimmed p).pairs) (zeros_taken (length p.columns) p.entries r.good.few_columns)

pub row_added : (p seen : Program) (name : List ℕ) (s : Row) → trimmed p ≡ seen → IsRoomy p → IsName name → name ≢ marker → IsRow s → length seen.rows < most_rows → place_of (row_names seen) name ≡ None → (trimmed (row_put p name s) ≡ with_row seen name s) × IsRoomy (row_put p name s)
row_added p seen name s is r is_name unmarked good =
    subst (λ (q : Program). length q.rows < most_rows → place_of (row_names q) name ≡ None → (trimmed (row_put p name s) ≡ with_row q name s) × IsRoomy (row_put p name s)) is
    (λ room new. (
      row_seen p name s r,
      record {
        good = subst IsProgram (sym (row_seen p name s r)) (row_good (trimmed p) name s is_name unmarked good room new r.good);
        entries = All-push (IsPadded (length p.columns)) p.entries (zeros most_columns) r.entries (padded_zeros (length p.columns));
        costs = r.costs;
        pairs = r.pairs;
      },
    ))

column_seen : (p : Program) (name : List ℕ) (c : Column) → IsRoomy p → length p.columns < most_columns → trimmed (column_put p name c) ≡ with_column (trimmed p) name c
column_seen p name c r room =
    let n = length p.columns in
    let q = column_put (trimmed p) name c in
    ap (λ (m : ℕ). trimmed_to m (column_put p name c)) (length_push p.columns (name, c))
    ∙ ap (λ (entries : List (List ℚ)). numbers_as q entries (take (n + 1) p.costs) (map (take (n + 1)) (p.pairs ++ zeros most_columns ∷ []))) (rows_more n p.entries r.entries room)
    ∙ ap (λ (costs : List ℚ). numbers_as q (map widened (map (take n) p.entries)) costs (map (take (n + 1)) (p.pairs ++ zeros most_columns ∷ []))) (take_more n p.costs r.costs room)
    ∙ ap (λ (pairs : List (List ℚ)). numbers_as q (map widened (map (take n) p.entries)) (widened (take n p.costs)) pairs)
    (zeros_taken (n + 1) p.pairs (omega (arith, room)) ∙ ap (λ (rows : List (List ℚ)). rows ++ zeros (n + 1) ∷ []) (rows_more n p.pairs r.pairs room))

pub column_added : (p seen : Program) (name : List ℕ) (c : Column) → trimmed p ≡ seen → IsRoomy p → IsName name → length seen.columns < most_columns → place_of (column_names seen) name ≡ None → (trimmed (column_put p name c) ≡ with_column seen name c) × IsRoomy (column_put p name c)
column_added p seen name c is r is_name =
    let n = length p.columns in
    let more : n + 1 ≡ length (p.columns ++ (name, c) ∷ []) = sym (length_push p.columns (name, c)) in
    subst (λ (q : Program). length q.columns < most_columns → place_of (column_names q) name ≡ None → (trimmed (column_put p name c) ≡ with_column q name c) × IsRoomy (column_put p name c)) is
    (λ room new. (
      column_seen p name c r room,
      record {
        good = subst IsProgram (sym (column_seen p name c r room)) (column_good (trimmed p) name c is_name room new r.good);
        entries = subst (λ (m : ℕ). All (IsPadded m) p.entries) more (padded_mores n p.entries r.entries);
        costs = subst (λ (m : ℕ). IsPadded m p.costs) more (padded_more n p.costs r.costs);
        pairs = subst (λ (m : ℕ). All (IsPadded m) (p.pairs ++ zeros most_columns ∷ [])) more (All-push (IsPadded (n + 1)) p.pairs (zeros most_columns) (padded_mores n p.pairs r.pairs) (padded_zeros (n + 1)));
      },
    ))

-- ---- the start

abbrev pub started : List ℕ → ℚ → Program
started name constant =
    record { objective = name; rows = []; columns = []; entries = []; costs = zeros most_columns; constant = constant; pairs = [] }

nothing : {A : Type 0} (P : A → Type 0) → All P []
nothing P k d h = absurd (omega (arith, h))

started_good : (name : List ℕ) (constant : ℚ) → IsName name → name ≢ marker → IsProgram (trimmed (started name constant))
started_good name constant is_name unmarked =
    record {
      few_rows = omega arith;
      few_columns = omega arith;
      named_rows = All-push IsName [] name (nothing IsName) is_name;
      named_columns = nothing IsName;
      rows_differ = all_pairs_push (λ (a b : List ℕ). a ≢ b) [] name (λ i j d h k. absurd (omega (arith, h, k))) (λ k d h. absurd (omega (arith, h)));
      columns_differ = λ i j d h k. absurd (omega (arith, h, k));
      no_marker = All-push (λ (n : List ℕ). n ≢ marker) [] name (nothing (λ (n : List ℕ). n ≢ marker)) unmarked;
      good_rows = nothing IsRow;
      height = refl;
      width = nothing (λ (row : List ℚ). length row ≡ 0);
      costs_width = refl;
      pairs_height = refl;
      pairs_width = nothing (λ (row : List ℚ). length row ≡ 0);
      symmetric = λ j k. refl;
    }

pub started_kept : (name : List ℕ) (constant : ℚ) → IsName name → name ≢ marker → IsRoomy (started name constant)
started_kept name constant is_name unmarked =
    record {
      good = started_good name constant is_name unmarked;
      entries = nothing (IsPadded 0);
      costs = padded_zeros 0;
      pairs = nothing (IsPadded 0);
    }
