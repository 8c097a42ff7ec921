-- Each change of a program leaves a program.
use Rattle.std.specs.Prelude.{◌≡◌, ◌≢◌, ℕ, zero, suc, ◌+◌, ◌<◌, List, [], ◌∷◌, ◌++◌, length, map, All, AllPairs, Option, Some, None, Bool, true, false, ◌⊎◌}
use Rattle.std.proofs.Common.{refl, arith, get_or, set, sym, ap, subst, ◌∙◌, cond, true≢false, inl, inr}
use Rattle.std.specs.Option.{option_map}
use Rattle.std.specs.Str.{bytes_eq}
use Rattle.std.proofs.lemmas.Slice.Eq.{bytes_eq-Decides}
use Rattle.std.proofs.lemmas.Bool.{cases_lt}
use Rattle.std.proofs.lemmas.List.{length_push, map_push, length-map, length-set, length-replicate, get_or-set_same, get_or-set_other}
use Rattle.std.proofs.lemmas.List.Elements.{All-push, All-set, All-map}
use Rattle.std.proofs.lemmas.List.Quantifiers.{all_pairs_push}
use Rattle.rational.specs.Rational.{ℚ, zero_ℚ}
use Rattle.program_law.specs.declared.Row.{Row}
use Rattle.program_law.specs.declared.Column.{Column}
use Rattle.rational.specs.Sums.{entry}
use Rattle.rational.specs.Vectors.{row_at}
use Rattle.program_law.specs.Places.{place_of}
use Rattle.program_law.specs.Program.{Program, IsProgram, IsName, IsRow, row_names, column_names, sides, marker, most_rows, most_columns}
use Rattle.program_law.specs.Changes.{zeros, widened, with_place, renewed, with_row, with_column, with_entry, with_cost, with_pair, with_sides, with_bounds}
use Rattle.program_data.proofs.Padded.{at_zeros}

-- ---- names

pub place_none : (b : Bool) (o : Option ℕ) → cond b (Some 0) (option_map suc o) ≡ None → (b ≡ false) × (o ≡ None)
place_none true o e = absurd cc
place_none false None e = (refl, refl)
place_none false (Some k) e = absurd cc

pub absent : (names : List (List ℕ)) (name : List ℕ) → place_of names name ≡ None → (k : ℕ) (d : List ℕ) → k < length names → get_or names k d ≢ name
absent [] name none k d h = absurd (omega (arith, h))
absent (n ∷ ns) name none zero d h = λ e. true≢false (sym ((bytes_eq-Decides name n).1 (sym e)) ∙ (place_none (bytes_eq name n) (place_of ns name) none).0)
absent (n ∷ ns) name none (suc k) d h = absent ns name (place_none (bytes_eq name n) (place_of ns name) none).1 k d (omega (arith, h))

module _ {A : Type 0} where
  pub names-renewed : (things : List (List ℕ × A)) (i : ℕ) (thing : A) → map (λ t. t.0) (renewed things i thing) ≡ map (λ t. t.0) things
  names-renewed [] i thing = refl
  names-renewed (t ∷ ts) zero thing = refl
  names-renewed (t ∷ ts) (suc i) thing = ap (λ (l : List (List ℕ)). t.0 ∷ l) (names-renewed ts i thing)

  pub things-renewed : (things : List (List ℕ × A)) (i : ℕ) (thing : A) → map (λ t. t.1) (renewed things i thing) ≡ set (map (λ t. t.1) things) i thing
  things-renewed [] i thing = refl
  things-renewed (t ∷ ts) zero thing = refl
  things-renewed (t ∷ ts) (suc i) thing = ap (λ (l : List A). t.1 ∷ l) (things-renewed ts i thing)

  pub length-renewed : (things : List (List ℕ × A)) (i : ℕ) (thing : A) → length (renewed things i thing) ≡ length things
  length-renewed [] i thing = refl
  length-renewed (t ∷ ts) zero thing = refl
  length-renewed (t ∷ ts) (suc i) thing = ap suc (length-renewed ts i thing)

-- ---- entries

same_or_not : (a i : ℕ) → (a ≡ i) ⊎ (a ≢ i)
same_or_not a i =
    elim (cases_lt a i) [
      | inl lt ↦ inr (λ e. omega (arith, e, lt))
      | inr le ↦ elim (cases_lt i a) [ inl more ↦ inr (λ e. omega (arith, e, more)) | inr same ↦ inl (omega (arith, le, same)) ]
    ]

both_or_not : (a i b j : ℕ) → ((a ≡ i) × (b ≡ j)) ⊎ (a ≡ i → b ≡ j → ⊥)
both_or_not a i b j =
    elim (same_or_not a i) [
      | inl e ↦ elim (same_or_not b j) [ inl f ↦ inl (e, f) | inr n ↦ inr (λ _ f. n f) ]
      | inr n ↦ inr (λ e _. n e)
    ]

-- a row of a matrix with another entry has the width that it had
pub width_place : (c : ℕ) (rows : List (List ℚ)) (i j : ℕ) (v : ℚ) → i < length rows → All (λ row. length row ≡ c) rows → All (λ row. length row ≡ c) (with_place rows i j v)
width_place c rows i j v h all = All-set (λ (row : List ℚ). length row ≡ c) rows i (set (row_at rows i) j v) (length-set (row_at rows i) j v ∙ all i [] h) all

pub entry_here : (rows : List (List ℚ)) (i j : ℕ) (v : ℚ) → i < length rows → j < length (row_at rows i) → entry (row_at (with_place rows i j v) i) j ≡ v
entry_here rows i j v h k = ap (λ (r : List ℚ). entry r j) (get_or-set_same rows i (set (row_at rows i) j v) [] h) ∙ get_or-set_same (row_at rows i) j v zero_ℚ k

pub entry_elsewhere : (rows : List (List ℚ)) (i j : ℕ) (v : ℚ) (a b : ℕ) → i < length rows → (a ≡ i → b ≡ j → ⊥) → entry (row_at (with_place rows i j v) a) b ≡ entry (row_at rows a) b
entry_elsewhere rows i j v a b h other =
    elim (same_or_not a i) [
      | inl e ↦ subst (λ (n : ℕ). entry (row_at (with_place rows i j v) n) b ≡ entry (row_at rows n) b) (sym e) (ap (λ (r : List ℚ). entry r b) (get_or-set_same rows i (set (row_at rows i) j v) [] h) ∙ get_or-set_other (row_at rows i) j b v zero_ℚ (other e))
      | inr n ↦ ap (λ (r : List ℚ). entry r b) (get_or-set_other rows i a (set (row_at rows i) j v) [] n)
    ]

-- ---- changes of numbers

pub entry_good : (p : Program) (i j : ℕ) (v : ℚ) → i < length p.rows → IsProgram p → IsProgram (with_entry p i j v)
entry_good p i j v h g =
    record {
      few_rows = g.few_rows;
      few_columns = g.few_columns;
      named_rows = g.named_rows;
      named_columns = g.named_columns;
      rows_differ = g.rows_differ;
      columns_differ = g.columns_differ;
      no_marker = g.no_marker;
      good_rows = g.good_rows;
      height = length-set p.entries i (set (row_at p.entries i) j v) ∙ g.height;
      width = width_place (length p.columns) p.entries i j v (omega (arith, h, g.height)) g.width;
      costs_width = g.costs_width;
      pairs_height = g.pairs_height;
      pairs_width = g.pairs_width;
      symmetric = g.symmetric;
    }

pub cost_good : (p : Program) (j : ℕ) (v : ℚ) → IsProgram p → IsProgram (with_cost p j v)
cost_good p j v g =
    record {
      few_rows = g.few_rows;
      few_columns = g.few_columns;
      named_rows = g.named_rows;
      named_columns = g.named_columns;
      rows_differ = g.rows_differ;
      columns_differ = g.columns_differ;
      no_marker = g.no_marker;
      good_rows = g.good_rows;
      height = g.height;
      width = g.width;
      costs_width = length-set p.costs j v ∙ g.costs_width;
      pairs_height = g.pairs_height;
      pairs_width = g.pairs_width;
      symmetric = g.symmetric;
    }

-- a symmetric matrix with another entry at two mirrored places is symmetric
module _ (q : List (List ℚ)) (n j k : ℕ) (v : ℚ) (height : length q ≡ n) (width : All (λ row. length row ≡ n) q) (j_in : j < n) (k_in : k < n) where
  once_height : length (with_place q j k v) ≡ n
  once_height = length-set q j (set (row_at q j) k v) ∙ height

  once_width : All (λ row. length row ≡ n) (with_place q j k v)
  once_width = width_place n q j k v (omega (arith, j_in, height)) width

  twice_height : length (with_place (with_place q j k v) k j v) ≡ n
  twice_height = length-set (with_place q j k v) k (set (row_at (with_place q j k v) k) j v) ∙ once_height

  twice_width : All (λ row. length row ≡ n) (with_place (with_place q j k v) k j v)
  twice_width = width_place n (with_place q j k v) k j v (omega (arith, k_in, once_height)) once_width

  told_second : entry (row_at (with_place (with_place q j k v) k j v) k) j ≡ v
  told_second = entry_here (with_place q j k v) k j v (omega (arith, k_in, once_height)) (omega (arith, j_in, once_width k [] (omega (arith, k_in, once_height))))

  told_first : entry (row_at (with_place (with_place q j k v) k j v) j) k ≡ v
  told_first =
      elim (same_or_not j k) [
        | inl e ↦ subst (λ (m : ℕ). entry (row_at (with_place (with_place q j k v) k j v) j) m ≡ v) e (subst (λ (m : ℕ). entry (row_at (with_place (with_place q j k v) k j v) m) j ≡ v) (sym e) told_second)
        | inr d ↦ entry_elsewhere (with_place q j k v) k j v j k (omega (arith, k_in, once_height)) (λ e f. d e) ∙ entry_here q j k v (omega (arith, j_in, height)) (omega (arith, k_in, width j [] (omega (arith, j_in, height))))
      ]

  told_other : (a b : ℕ) → (a ≡ j → b ≡ k → ⊥) → (a ≡ k → b ≡ j → ⊥) → entry (row_at (with_place (with_place q j k v) k j v) a) b ≡ entry (row_at q a) b
  told_other a b first second =
      entry_elsewhere (with_place q j k v) k j v a b (omega (arith, k_in, once_height)) second ∙ entry_elsewhere q j k v a b (omega (arith, j_in, height)) first

  told_at : (a b i m : ℕ) → a ≡ i → b ≡ m → entry (row_at (with_place (with_place q j k v) k j v) i) m ≡ v → entry (row_at (with_place (with_place q j k v) k j v) a) b ≡ v
  told_at a b i m e f t = rw (e, f) t

  twice_symmetric : ((a b : ℕ) → entry (row_at q a) b ≡ entry (row_at q b) a) → (a b : ℕ) → entry (row_at (with_place (with_place q j k v) k j v) a) b ≡ entry (row_at (with_place (with_place q j k v) k j v) b) a
  twice_symmetric mirrored a b =
      elim (both_or_not a j b k) [
        | inl e ↦ told_at a b j k e.0 e.1 told_first ∙ sym (told_at b a k j e.1 e.0 told_second)
        | inr first ↦ elim (both_or_not a k b j) [
          | inl e ↦ told_at a b k j e.0 e.1 told_second ∙ sym (told_at b a j k e.1 e.0 told_first)
          | inr second ↦ told_other a b first second ∙ mirrored a b ∙ sym (told_other b a (λ e f. second f e) (λ e f. first f e))
        ]
      ]

pub pair_good : (p : Program) (j k : ℕ) (v : ℚ) → j < length p.columns → k < length p.columns → IsProgram p → IsProgram (with_pair p j k v)
pair_good p j k v h i g =
    record {
      few_rows = g.few_rows;
      few_columns = g.few_columns;
      named_rows = g.named_rows;
      named_columns = g.named_columns;
      rows_differ = g.rows_differ;
      columns_differ = g.columns_differ;
      no_marker = g.no_marker;
      good_rows = g.good_rows;
      height = g.height;
      width = g.width;
      costs_width = g.costs_width;
      pairs_height = twice_height p.pairs (length p.columns) j k v g.pairs_height g.pairs_width h i;
      pairs_width = twice_width p.pairs (length p.columns) j k v g.pairs_height g.pairs_width h i;
      symmetric = twice_symmetric p.pairs (length p.columns) j k v g.pairs_height g.pairs_width h i g.symmetric;
    }

-- ---- changes of sides and bounds

pub sides_good : (p : Program) (i : ℕ) (s : Row) → IsRow s → IsProgram p → IsProgram (with_sides p i s)
sides_good p i s good g =
    let same : row_names (with_sides p i s) ≡ row_names p = ap (λ (l : List (List ℕ)). p.objective ∷ l) (names-renewed p.rows i s) in
    record {
      few_rows = omega (arith, g.few_rows, length-renewed p.rows i s);
      few_columns = g.few_columns;
      named_rows = subst (All IsName) (sym same) g.named_rows;
      named_columns = g.named_columns;
      rows_differ = subst (AllPairs (λ a b. a ≢ b)) (sym same) g.rows_differ;
      columns_differ = g.columns_differ;
      no_marker = subst (All (λ name. name ≢ marker)) (sym same) g.no_marker;
      good_rows = subst (All IsRow) (sym (things-renewed p.rows i s)) (All-set IsRow (sides p) i s good g.good_rows);
      height = g.height ∙ sym (length-renewed p.rows i s);
      width = g.width;
      costs_width = g.costs_width;
      pairs_height = g.pairs_height;
      pairs_width = g.pairs_width;
      symmetric = g.symmetric;
    }

pub bounds_good : (p : Program) (j : ℕ) (c : Column) → IsProgram p → IsProgram (with_bounds p j c)
bounds_good p j c g =
    let same : column_names (with_bounds p j c) ≡ column_names p = names-renewed p.columns j c in
    let count : length p.columns ≡ length (renewed p.columns j c) = sym (length-renewed p.columns j c) in
    record {
      few_rows = g.few_rows;
      few_columns = omega (arith, g.few_columns, count);
      named_rows = g.named_rows;
      named_columns = subst (All IsName) (sym same) g.named_columns;
      rows_differ = g.rows_differ;
      columns_differ = subst (AllPairs (λ a b. a ≢ b)) (sym same) g.columns_differ;
      no_marker = g.no_marker;
      good_rows = g.good_rows;
      height = g.height;
      width = λ k d h. g.width k d h ∙ count;
      costs_width = g.costs_width ∙ count;
      pairs_height = g.pairs_height ∙ count;
      pairs_width = λ k d h. g.pairs_width k d h ∙ count;
      symmetric = g.symmetric;
    }

-- ---- a row or a column more

pub row_good : (p : Program) (name : List ℕ) (s : Row) → IsName name → name ≢ marker → IsRow s → length p.rows < most_rows → place_of (row_names p) name ≡ None → IsProgram p → IsProgram (with_row p name s)
row_good p name s is_name unmarked good room new g =
    let names : row_names (with_row p name s) ≡ row_names p ++ name ∷ [] = ap (λ (l : List (List ℕ)). p.objective ∷ l) (map_push (λ (r : List ℕ × Row). r.0) p.rows (name, s)) in
    record {
      few_rows = omega (arith, room, length_push p.rows (name, s));
      few_columns = g.few_columns;
      named_rows = subst (All IsName) (sym names) (All-push IsName (row_names p) name g.named_rows is_name);
      named_columns = g.named_columns;
      rows_differ = subst (AllPairs (λ a b. a ≢ b)) (sym names) (all_pairs_push (λ (a b : List ℕ). a ≢ b) (row_names p) name g.rows_differ (absent (row_names p) name new));
      columns_differ = g.columns_differ;
      no_marker = subst (All (λ n. n ≢ marker)) (sym names) (All-push (λ (n : List ℕ). n ≢ marker) (row_names p) name g.no_marker unmarked);
      good_rows = subst (All IsRow) (sym (map_push (λ (r : List ℕ × Row). r.1) p.rows (name, s))) (All-push IsRow (sides p) s g.good_rows good);
      height = omega (arith, g.height, length_push p.entries (zeros (length p.columns)), length_push p.rows (name, s));
      width = All-push (λ (row : List ℚ). length row ≡ length p.columns) p.entries (zeros (length p.columns)) g.width (length-replicate (length p.columns) zero_ℚ);
      costs_width = g.costs_width;
      pairs_height = g.pairs_height;
      pairs_width = g.pairs_width;
      symmetric = g.symmetric;
    }

pub at_widened : (row : List ℚ) (k : ℕ) → entry (widened row) k ≡ entry row k
at_widened [] zero = refl
at_widened [] (suc k) = refl
at_widened (x ∷ xs) zero = refl
at_widened (x ∷ xs) (suc k) = at_widened xs k

-- what a wider matrix has at a place is what the matrix has there
entry_widened : (q : List (List ℚ)) (n j k : ℕ) → entry (row_at (map widened q ++ zeros n ∷ []) j) k ≡ entry (row_at q j) k
entry_widened [] n zero k = at_zeros n k
entry_widened [] n (suc j) k = refl
entry_widened (row ∷ q) n zero k = at_widened row k
entry_widened (row ∷ q) n (suc j) k = entry_widened q n j k

width_widened : (n m : ℕ) (rows : List (List ℚ)) → m ≡ n + 1 → All (λ row. length row ≡ n) rows → All (λ row. length row ≡ m) (map widened rows)
width_widened n m rows e all = All-map (λ (row : List ℚ). length row ≡ m) widened rows (λ k d h. length_push (get_or rows k d) zero_ℚ ∙ ap (λ (i : ℕ). i + 1) (all k d h) ∙ sym e)

pub column_good : (p : Program) (name : List ℕ) (c : Column) → IsName name → length p.columns < most_columns → place_of (column_names p) name ≡ None → IsProgram p → IsProgram (with_column p name c)
column_good p name c is_name room new g =
    let names : column_names (with_column p name c) ≡ column_names p ++ name ∷ [] = map_push (λ (r : List ℕ × Column). r.0) p.columns (name, c) in
    let n = length p.columns in
    let more : length (p.columns ++ (name, c) ∷ []) ≡ n + 1 = length_push p.columns (name, c) in
    record {
      few_rows = g.few_rows;
      few_columns = omega (arith, room, more);
      named_rows = g.named_rows;
      named_columns = subst (All IsName) (sym names) (All-push IsName (column_names p) name g.named_columns is_name);
      rows_differ = g.rows_differ;
      columns_differ = subst (AllPairs (λ a b. a ≢ b)) (sym names) (all_pairs_push (λ (a b : List ℕ). a ≢ b) (column_names p) name g.columns_differ (absent (column_names p) name new));
      no_marker = g.no_marker;
      good_rows = g.good_rows;
      height = length-map p.entries widened ∙ g.height;
      width = width_widened n (length (p.columns ++ (name, c) ∷ [])) p.entries more g.width;
      costs_width = length_push p.costs zero_ℚ ∙ ap (λ (i : ℕ). i + 1) g.costs_width ∙ sym more;
      pairs_height = omega (arith, length_push (map widened p.pairs) (zeros (n + 1)), length-map p.pairs widened, g.pairs_height, more);
      pairs_width = All-push (λ (row : List ℚ). length row ≡ length (p.columns ++ (name, c) ∷ [])) (map widened p.pairs) (zeros (n + 1)) (width_widened n (length (p.columns ++ (name, c) ∷ [])) p.pairs more g.pairs_width) (length-replicate (n + 1) zero_ℚ ∙ sym more);
      symmetric = λ j k. entry_widened p.pairs (n + 1) j k ∙ g.symmetric j k ∙ sym (entry_widened p.pairs (n + 1) k j);
    }
