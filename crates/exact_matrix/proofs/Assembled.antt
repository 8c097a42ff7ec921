-- Rows that are assembled one after another, and rows of pivots that are read.
use Rattle.std.proofs.Common.{◌≡◌, ◌≢◌, ℕ, Bool, true, false, zero, suc, ◌+◌, ◌-◌, ◌*◌, ◌≤◌, ◌<◌, Option, Some, None, List, [], ◌∷◌, ◌++◌, length, map, take, drop, get_or, slice_get, replicate, sym, ap, ◌∙◌, refl, arith, add-one, append_assoc, subst}
use Rattle.std.specs.Prelude.{if◌then◌else◌, ◌==◌}
use Rattle.std.specs.Option.{option_map, SomeIff}
use Rattle.std.proofs.lemmas.List.{map-append, length-append, length-map, append-nil, take_more, take_at, drop_at, take_all, take_rest, take-map, drop-map, map_push}
use Rattle.std.proofs.lemmas.List.Elements.{recursion_from_All, All-from_recursion}
use Rattle.std.proofs.lemmas.Option.{slice_get-map, get_or_from_slice_get}
use Rattle.std.specs.List.{AllByRecursion}
use Rattle.rational.specs.Rational.{ℚ, zero_ℚ, one_ℚ}
use Rattle.rational.specs.Sums.{entry}
use Rattle.rational.specs.Vectors.{unit_vector, HasColumns}
use Rattle.rational.proofs.Vectors.{length-unit_vector, entry-unit_vector_same, entry-unit_vector_other}
use Rattle.elimination_law.specs.Elimination.{Line, is_pivot, pivot_row, unused}
use Rattle.elimination_law.specs.Answers.{Solution, Refutation, answer_by, answer_of, lines_of, beside, right_beside, unit_rows, unit_matrix, solve_rows, invert_rows, row_of_pivot, entry_in, solution_from, inverse_from, part_then}
use Rattle.exact_matrix.specs.Grid.{Grid, IsGrid, row_at, rows_of}
use Rattle.exact_matrix.specs.State.{lines, state, values, IsPivotAt}
use Rattle.exact_matrix.specs.Systems.{joined, IsPlaceOfPivot}
use Rattle.elimination_law.proofs.Vectors.{length-unit_rows, width-unit_rows, length-right_beside, width-beside}
use Rattle.elimination_law.proofs.Without.{solve_rows_width}
use Rattle.elimination_law.proofs.Pivots.{same_column, differs}

-- ---- a row of the unit matrix

entry-unit_vector : (n i k : ℕ) → k < n → entry (unit_vector n i) k ≡ (if k == i then one_ℚ else zero_ℚ)
entry-unit_vector n i k h = by_test (k == i) refl
  where
    by_test : (b : Bool) → (k == i) ≡ b → entry (unit_vector n i) k ≡ (if k == i then one_ℚ else zero_ℚ)
    by_test true e = let s : k ≡ i = same_column k i e in rw e (ap (entry (unit_vector n i)) s ∙ entry-unit_vector_same n i (omega arith))
    by_test false e = let d : i ≢ k = λ s. differs k i e (sym s) in rw e (entry-unit_vector_other n i k d)

-- one more entry
pub unit_more : {F : Type 0} (v : F → ℚ) (n i k : ℕ) (xs was : List F) (x : F) → k < n → map v xs ≡ map v was ++ take k (unit_vector n i) → v x ≡ (if k == i then one_ℚ else zero_ℚ) →
    map v (xs ++ x ∷ []) ≡ map v was ++ take (k + 1) (unit_vector n i)
unit_more v n i k xs was x h e s =
    let w : k < length (unit_vector n i) = rw length-unit_vector h in
    map_push v xs x ∙ ap (λ ys. ys ++ v x ∷ []) e ∙ append_assoc (map v was) (take k (unit_vector n i)) (v x ∷ [])
    ∙ ap (λ ys. map v was ++ ys) (ap (λ y. take k (unit_vector n i) ++ y ∷ []) (s ∙ sym (entry-unit_vector n i k h)) ∙ sym (take_more (unit_vector n i) k zero_ℚ w))

pub unit_all : {F : Type 0} (v : F → ℚ) (n i k : ℕ) (xs was : List F) → n ≤ k → map v xs ≡ map v was ++ take k (unit_vector n i) → map v xs ≡ map v was ++ unit_vector n i
unit_all v n i k xs was h e = e ∙ ap (λ ys. map v was ++ ys) (take_all k (unit_vector n i) (rw length-unit_vector h))

pub unit_none : (n i : ℕ) (xs : List ℚ) → xs ≡ xs ++ take 0 (unit_vector n i)
unit_none n i xs = sym (append-nil xs)

-- ---- a row of the system

pub solve_row : {F : Type 0} (v : F → ℚ) (was row all : List F) (right : F) (unit : List ℚ) → map v all ≡ map v (was ++ row ++ right ∷ []) ++ unit →
    map v all ≡ map v was ++ (map v row ++ v right ∷ unit)
solve_row v was row all right unit e =
    e ∙ ap (λ ys. ys ++ unit) (map-append v (was ++ row) (right ∷ []) ∙ ap (λ ys. ys ++ v right ∷ []) (map-append v was row))
    ∙ append_assoc (map v was ++ map v row) (v right ∷ []) unit ∙ append_assoc (map v was) (map v row) (v right ∷ unit)

pub invert_row : {F : Type 0} (v : F → ℚ) (was row all : List F) (unit : List ℚ) → map v all ≡ map v (was ++ row) ++ unit →
    map v all ≡ map v was ++ (map v row ++ unit)
invert_row v was row all unit e = e ∙ ap (λ ys. ys ++ unit) (map-append v was row) ∙ append_assoc (map v was) (map v row) unit

beside_get : (M X : List (List ℚ)) (i : ℕ) (a b : List ℚ) → slice_get M i ≡ Some a → slice_get X i ≡ Some b → slice_get (beside M X) i ≡ Some (a ++ b)
beside_get [] X i a b h k = absurd cc
beside_get (row ∷ M) [] i a b h k = absurd cc
beside_get (row ∷ M) (x ∷ X) zero a b h k = let e : row ≡ a = cc in let f : x ≡ b = cc in rw (e, f)
beside_get (row ∷ M) (x ∷ X) (suc i) a b h k = beside_get M X i a b h k

right_beside_get : (r : List ℚ) (X : List (List ℚ)) (i : ℕ) (y : ℚ) (x : List ℚ) → slice_get r i ≡ Some y → slice_get X i ≡ Some x → slice_get (right_beside r X) i ≡ Some (y ∷ x)
right_beside_get [] X i y x h k = absurd cc
right_beside_get (z ∷ r) [] i y x h k = absurd cc
right_beside_get (z ∷ r) (u ∷ X) zero y x h k = let e : z ≡ y = cc in let f : u ≡ x = cc in rw (e, f)
right_beside_get (z ∷ r) (u ∷ X) (suc i) y x h k = right_beside_get r X i y x h k

unit_rows_get : (m s k i : ℕ) → i < k → slice_get (unit_rows m s k) i ≡ Some (unit_vector m (s + i))
unit_rows_get m s zero i h = absurd (omega arith)
unit_rows_get m s (suc k) zero h = let e : s + 0 ≡ s = omega arith in rw e
unit_rows_get m s (suc k) (suc i) h = unit_rows_get m (suc s) k i (omega arith) ∙ ap (λ t. Some (unit_vector m t)) (omega arith)

row_get : {A : Type 0} (rows : List (List A)) (i : ℕ) → i < length rows → slice_get rows i ≡ Some (get_or rows i [])
row_get [] i h = absurd (omega arith)
row_get (r ∷ rows) zero h = refl
row_get (r ∷ rows) (suc i) h = row_get rows i (omega arith)

values_get : {F : Type 0} (v : F → ℚ) (m : Grid F) (i : ℕ) → i < length m.rows → slice_get (values v m) i ≡ Some (map v (row_at m i))
values_get v m i h = slice_get-map (map v) m.rows i ∙ ap (option_map (map v)) (row_get m.rows i h)

unit_get : {F : Type 0} (v : F → ℚ) (m : Grid F) (i : ℕ) → i < length m.rows → slice_get (unit_matrix (length (values v m))) i ≡ Some (unit_vector (length m.rows) i)
unit_get v m i h = let e = length-map m.rows (map v) in rw e (unit_rows_get (length m.rows) 0 (length m.rows) i h ∙ ap (λ t. Some (unit_vector (length m.rows) t)) (omega arith))

pub solve_rows_get : {F : Type 0} (v : F → ℚ) (m : Grid F) (r : List F) (i : ℕ) (y : F) → i < length m.rows → slice_get r i ≡ Some y →
    slice_get (solve_rows (values v m) (map v r)) i ≡ Some (map v (row_at m i) ++ v y ∷ unit_vector (length m.rows) i)
solve_rows_get v m r i y h k =
    beside_get (values v m) (right_beside (map v r) (unit_matrix (length (values v m)))) i _ _ (values_get v m i h)
    (right_beside_get (map v r) (unit_matrix (length (values v m))) i (v y) _ (slice_get-map v r i ∙ ap (option_map v) k) (unit_get v m i h))

pub invert_rows_get : {F : Type 0} (v : F → ℚ) (m : Grid F) (i : ℕ) → i < length m.rows →
    slice_get (invert_rows (values v m)) i ≡ Some (map v (row_at m i) ++ unit_vector (length m.rows) i)
invert_rows_get v m i h = beside_get (values v m) (unit_matrix (length (values v m))) i _ _ (values_get v m i h) (unit_get v m i h)

-- ---- rows one after another

joined-push : (rows : List (List ℚ)) (row : List ℚ) → joined (rows ++ row ∷ []) ≡ joined rows ++ row
joined-push [] row = append-nil row
joined-push (r ∷ rows) row = ap (λ t. r ++ t) (joined-push rows row) ∙ sym (append_assoc r (joined rows) row)

take_next : (rows : List (List ℚ)) (i : ℕ) (row : List ℚ) → slice_get rows i ≡ Some row → take (suc i) rows ≡ take i rows ++ row ∷ []
take_next [] i row h = absurd cc
take_next (r ∷ rows) zero row h = let e : r ≡ row = cc in rw e
take_next (r ∷ rows) (suc i) row h = ap (λ t. r ∷ t) (take_next rows i row h)

-- one more row
pub joined_more : (rows : List (List ℚ)) (i : ℕ) (row was all : List ℚ) → slice_get rows i ≡ Some row → was ≡ joined (take i rows) → all ≡ was ++ row → all ≡ joined (take (i + 1) rows)
joined_more rows i row was all h e k = k ∙ ap (λ t. t ++ row) e ∙ sym (joined-push (take i rows) row) ∙ ap joined (sym (take_next rows i row h) ∙ ap (λ t. take t rows) (sym (add-one i)))

pub joined_all : (rows : List (List ℚ)) (i : ℕ) (all : List ℚ) → length rows ≤ i → all ≡ joined (take i rows) → all ≡ joined rows
joined_all rows i all h e = e ∙ ap joined (take_all i rows h)

length-joined : (w : ℕ) (rows : List (List ℚ)) → AllByRecursion (λ r. length r ≡ w) rows → length (joined rows) ≡ length rows * w
length-joined w [] h = omega arith
length-joined w (r ∷ rows) h = let e = length-joined w rows h.1 in omega (arith, length-append r (joined rows), h.0, e)

rows_of-joined : (w : ℕ) (rows : List (List ℚ)) → AllByRecursion (λ r. length r ≡ w) rows → rows_of w (length rows) (joined rows) ≡ rows
rows_of-joined w [] h = refl
rows_of-joined w (r ∷ rows) h =
    both (take_at r (joined rows) w h.0) (ap (rows_of w (length rows)) (drop_at r (joined rows) w h.0) ∙ rows_of-joined w rows h.1)
  where
    both : {x y : List ℚ} {xs ys : List (List ℚ)} → x ≡ y → xs ≡ ys → x ∷ xs ≡ y ∷ ys
    both e f = cc

rows_of-map : {F : Type 0} (v : F → ℚ) (w n : ℕ) (xs : List F) → map (map v) (rows_of w n xs) ≡ rows_of w n (map v xs)
rows_of-map v w zero xs = refl
rows_of-map v w (suc n) xs = both (sym (take-map v w xs)) (rows_of-map v w n (drop w xs) ∙ ap (rows_of w n) (sym (drop-map v w xs)))
  where
    both : {x y : List ℚ} {xs ys : List (List ℚ)} → x ≡ y → xs ≡ ys → x ∷ xs ≡ y ∷ ys
    both e f = cc

-- the list holds these rows
pub assembled : {F : Type 0} (v : F → ℚ) (w n : ℕ) (xs : List F) (rows : List (List ℚ)) → HasColumns w rows → length rows ≡ n → map v xs ≡ joined rows → map (map v) (rows_of w n xs) ≡ rows
assembled v w n xs rows h e k =
    rows_of-map v w n xs ∙ ap (rows_of w n) k ∙ ap (λ t. rows_of w t (joined rows)) (sym e) ∙ rows_of-joined w rows (recursion_from_All (λ r. length r ≡ w) rows h)

pub assembled_length : {F : Type 0} (v : F → ℚ) (w n : ℕ) (xs : List F) (rows : List (List ℚ)) → HasColumns w rows → length rows ≡ n → map v xs ≡ joined rows → length xs ≡ n * w
assembled_length v w n xs rows h e k =
    sym (length-map xs v) ∙ ap length k ∙ length-joined w rows (recursion_from_All (λ r. length r ≡ w) rows h) ∙ ap (λ t. t * w) e

-- ---- the row with the pivot of a column

passed_pivot : (j : ℕ) (ps : List (Option ℕ)) (rows : List (List ℚ)) (i : ℕ) (p : Option ℕ) → slice_get ps i ≡ Some p → is_pivot j p ≡ false →
    row_of_pivot j (drop i (lines ps rows)) ≡ row_of_pivot j (drop (suc i) (lines ps rows))
unfolding row_of_pivot
passed_pivot j [] rows i p h e = absurd cc
passed_pivot j (q ∷ ps) [] zero p h e = refl
passed_pivot j (q ∷ ps) [] (suc i) p h e = refl
passed_pivot j (q ∷ ps) (r ∷ rows) zero p h e = let s : q ≡ p = cc in rw (s, e)
passed_pivot j (q ∷ ps) (r ∷ rows) (suc i) p h e = passed_pivot j ps rows i p h e

pub passed_pivots : (j : ℕ) (ps : List (Option ℕ)) (i : ℕ) (p : Option ℕ) → slice_get ps i ≡ Some p → is_pivot j p ≡ false →
    ((rows : List (List ℚ)) → row_of_pivot j (lines ps rows) ≡ row_of_pivot j (drop i (lines ps rows))) → (rows : List (List ℚ)) → row_of_pivot j (lines ps rows) ≡ row_of_pivot j (drop (i + 1) (lines ps rows))
passed_pivots j ps i p h e n rows = rw add-one (n rows ∙ passed_pivot j ps rows i p h e)

pivot_here : (j : ℕ) (ps : List (Option ℕ)) (rows : List (List ℚ)) (i : ℕ) (p : Option ℕ) → slice_get ps i ≡ Some p → is_pivot j p ≡ true → i < length rows →
    row_of_pivot j (drop i (lines ps rows)) ≡ Some (get_or rows i [])
unfolding row_of_pivot
pivot_here j [] rows i p h e k = absurd cc
pivot_here j (q ∷ ps) [] i p h e k = absurd (omega arith)
pivot_here j (q ∷ ps) (r ∷ rows) zero p h e k = let s : q ≡ p = cc in rw (s, e)
pivot_here j (q ∷ ps) (r ∷ rows) (suc i) p h e k = pivot_here j ps rows i p h e (omega arith)

pub pivot_at : (j : ℕ) (ps : List (Option ℕ)) (i : ℕ) (p : Option ℕ) → slice_get ps i ≡ Some p → is_pivot j p ≡ true →
    ((rows : List (List ℚ)) → row_of_pivot j (lines ps rows) ≡ row_of_pivot j (drop i (lines ps rows))) → (rows : List (List ℚ)) → i < length rows → row_of_pivot j (lines ps rows) ≡ Some (get_or rows i [])
pivot_at j ps i p h e n rows k = n rows ∙ pivot_here j ps rows i p h e k

lines_short : (ps : List (Option ℕ)) (rows : List (List ℚ)) (i : ℕ) → length ps ≤ i → drop i (lines ps rows) ≡ []
lines_short [] rows zero h = refl
lines_short [] rows (suc i) h = refl
lines_short (p ∷ ps) rows zero h = absurd (omega arith)
lines_short (p ∷ ps) [] (suc i) h = refl
lines_short (p ∷ ps) (r ∷ rows) (suc i) h = lines_short ps rows i (omega arith)

pub no_pivot_at : (j : ℕ) (ps : List (Option ℕ)) (i : ℕ) → length ps ≤ i →
    ((rows : List (List ℚ)) → row_of_pivot j (lines ps rows) ≡ row_of_pivot j (drop i (lines ps rows))) → (rows : List (List ℚ)) → row_of_pivot j (lines ps rows) ≡ None
unfolding row_of_pivot
no_pivot_at j ps i h n rows = n rows ∙ ap (row_of_pivot j) (lines_short ps rows i h)

-- the same over the rows that the program holds
pub held_pivot : {F : Type 0} (v : F → ℚ) (j : ℕ) (ps : List (Option ℕ)) (m : Grid F) (i : ℕ) → length ps ≡ length m.rows → IsPlaceOfPivot j ps (Some i) → row_of_pivot j (state v ps m) ≡ Some (map v (row_at m i))
held_pivot v j ps m i e h =
    h.1 (values v m) (rw length-map (omega (arith, h.0))) ∙ ap Some (get_or_from_slice_get (values v m) i _ [] (values_get v m i (omega (arith, h.0))))

-- ---- the values of the columns, and the rows of the inverse

solution_next : (k c j n : ℕ) (ls : List Line) → k ≡ suc c → solution_from k j n ls ≡ entry_in (row_of_pivot j ls) n ∷ solution_from c (suc j) n ls
solution_next k c j n ls e = rw e

pub solution_more : {F : Type 0} (v : F → ℚ) (n j : ℕ) (ls : List Line) (z u : List F) (x : F) → j < n → u ≡ z ++ x ∷ [] → v x ≡ entry_in (row_of_pivot j ls) n →
    map v z ++ solution_from (n - j) j n ls ≡ solution_from n 0 n ls → map v u ++ solution_from (n - (j + 1)) (j + 1) n ls ≡ solution_from n 0 n ls
solution_more v n j ls z u x h p e s =
    let a : n - j ≡ suc (n - (j + 1)) = omega arith in let o : suc j ≡ j + 1 = omega arith in
    ap (λ t. map v t ++ solution_from (n - (j + 1)) (j + 1) n ls) p
    ∙ ap (λ t. t ++ solution_from (n - (j + 1)) (j + 1) n ls) (map_push v z x)
    ∙ append_assoc (map v z) (v x ∷ []) (solution_from (n - (j + 1)) (j + 1) n ls)
    ∙ ap (λ t. map v z ++ t) (ap (λ y. y ∷ solution_from (n - (j + 1)) (j + 1) n ls) e ∙ ap (λ i. entry_in (row_of_pivot j ls) n ∷ solution_from (n - (j + 1)) i n ls) (sym o)
    ∙ sym (solution_next (n - j) (n - (j + 1)) j n ls a)) ∙ s

pub solution_all : {F : Type 0} (v : F → ℚ) (n j : ℕ) (ls : List Line) (z : List F) → n ≤ j → map v z ++ solution_from (n - j) j n ls ≡ solution_from n 0 n ls → map v z ≡ solution_from n 0 n ls
solution_all v n j ls z h s = let a : n - j ≡ 0 = omega arith in sym (append-nil (map v z)) ∙ ap (λ k. map v z ++ solution_from k j n ls) (sym a) ∙ s

inverse_next : (k c j n : ℕ) (ls : List Line) (o : Option (List ℚ)) → k ≡ suc c → row_of_pivot j ls ≡ o → inverse_from k j n ls ≡ part_then n o (inverse_from c (suc j) n ls)
inverse_next k c j n ls o e h = rw (e, h)

-- the entries so far, and the rows that are left
abbrev pub with_rest : List ℚ → Option (List (List ℚ)) → Option (List ℚ)
with_rest xs o = option_map (λ rows. xs ++ joined rows) o

part_joined : (xs row : List ℚ) (n : ℕ) (o : Option (List (List ℚ))) → with_rest xs (part_then n (Some row) o) ≡ with_rest (xs ++ drop n row) o
part_joined xs row n None = refl
part_joined xs row n (Some rows) = ap Some (sym (append_assoc xs (drop n row) (joined rows)))

pub inverse_more : {F : Type 0} (v : F → ℚ) (n j : ℕ) (ls : List Line) (xs ys row : List F) → j < n → row_of_pivot j ls ≡ Some (map v row) → ys ≡ xs ++ drop n row →
    with_rest (map v xs) (inverse_from (n - j) j n ls) ≡ with_rest [] (inverse_from n 0 n ls) → with_rest (map v ys) (inverse_from (n - (j + 1)) (j + 1) n ls) ≡ with_rest [] (inverse_from n 0 n ls)
inverse_more v n j ls xs ys row h e p s =
    let a : n - j ≡ suc (n - (j + 1)) = omega arith in let o : suc j ≡ j + 1 = omega arith in
    ap (λ t. with_rest t (inverse_from (n - (j + 1)) (j + 1) n ls)) (ap (map v) p ∙ map-append v xs (drop n row) ∙ ap (λ t. map v xs ++ t) (sym (drop-map v n row)))
    ∙ ap (λ i. with_rest (map v xs ++ drop n (map v row)) (inverse_from (n - (j + 1)) i n ls)) (sym o)
    ∙ sym (part_joined (map v xs) (map v row) n (inverse_from (n - (j + 1)) (suc j) n ls))
    ∙ ap (with_rest (map v xs)) (sym (inverse_next (n - j) (n - (j + 1)) j n ls (Some (map v row)) a e)) ∙ s

pub inverse_none : {F : Type 0} (v : F → ℚ) (n j : ℕ) (ls : List Line) (xs : List F) → j < n → row_of_pivot j ls ≡ None →
    with_rest (map v xs) (inverse_from (n - j) j n ls) ≡ with_rest [] (inverse_from n 0 n ls) → None ≡ with_rest [] (inverse_from n 0 n ls)
inverse_none v n j ls xs h e s =
    let a : n - j ≡ suc (n - (j + 1)) = omega arith in
    ap (with_rest (map v xs)) (sym (inverse_next (n - j) (n - (j + 1)) j n ls None a e)) ∙ s

pub inverse_all : {F : Type 0} (v : F → ℚ) (n j : ℕ) (ls : List Line) (xs : List F) → n ≤ j →
    with_rest (map v xs) (inverse_from (n - j) j n ls) ≡ with_rest [] (inverse_from n 0 n ls) → Some (map v xs) ≡ with_rest [] (inverse_from n 0 n ls)
inverse_all v n j ls xs h s =
    let a : n - j ≡ 0 = omega arith in
    ap Some (sym (append-nil (map v xs))) ∙ ap (λ k. with_rest (map v xs) (inverse_from k j n ls)) (sym a) ∙ s

-- ---- what the program pushes

pub pushed_solve_row : {F : Type 0} (v : F → ℚ) (was row copy first second all : List F) (right : F) (n k i : ℕ) →
    copy ≡ row → first ≡ was ++ copy → second ≡ first ++ right ∷ [] → k ≡ n → map v all ≡ map v second ++ unit_vector k i →
    map v all ≡ map v was ++ (map v row ++ v right ∷ unit_vector n i)
pushed_solve_row v was row copy first second all right n k i c f s e h =
    solve_row v was row all right (unit_vector n i)
    (h ∙ ap (λ t. map v t ++ unit_vector k i) (s ∙ ap (λ t. t ++ right ∷ []) (f ∙ ap (λ t. was ++ t) c)) ∙ ap (λ k. map v (was ++ row ++ right ∷ []) ++ unit_vector k i) e)

pub pushed_invert_row : {F : Type 0} (v : F → ℚ) (was row copy first all : List F) (n k i : ℕ) →
    copy ≡ row → first ≡ was ++ copy → k ≡ n → map v all ≡ map v first ++ unit_vector k i →
    map v all ≡ map v was ++ (map v row ++ unit_vector n i)
pushed_invert_row v was row copy first all n k i c f e h =
    invert_row v was row all (unit_vector n i)
    (h ∙ ap (λ t. map v t ++ unit_vector k i) (f ∙ ap (λ t. was ++ t) c) ∙ ap (λ k. map v (was ++ row) ++ unit_vector k i) e)

-- a sum that is checked
pub checked : (P : Type 0) (o : Option ℕ) (x w : ℕ) → SomeIff o P x → o ≡ Some w → w ≡ x
checked P None x w h e = absurd cc
checked P (Some k) x w h e = let s : k ≡ w = cc in sym s ∙ h.1

length-beside : (M X : List (List ℚ)) → length X ≡ length M → length (beside M X) ≡ length M
length-beside [] X h = refl
length-beside (row ∷ M) [] h = absurd (omega arith)
length-beside (row ∷ M) (x ∷ X) h = ap suc (length-beside M X (omega arith))

pub length-solve_rows : (M : List (List ℚ)) (r : List ℚ) → length r ≡ length M → length (solve_rows M r) ≡ length M
length-solve_rows M r h =
    let u = length-unit_rows (length M) 0 (length M) in
    length-beside M (right_beside r (unit_matrix (length M))) (length-right_beside r (unit_matrix (length M)) (h ∙ sym u) ∙ u)

pub length-invert_rows : (M : List (List ℚ)) → length (invert_rows M) ≡ length M
length-invert_rows M = length-beside M (unit_matrix (length M)) (length-unit_rows (length M) 0 (length M))

pub invert_rows_width : (n : ℕ) (M : List (List ℚ)) → HasColumns n M → HasColumns (n + length M) (invert_rows M)
invert_rows_width n M h =
    All-from_recursion (λ row. length row ≡ n + length M) (invert_rows M) (width-beside n (length M) M (unit_matrix (length M)) (recursion_from_All (λ row. length row ≡ n) M h) (width-unit_rows (length M) 0 (length M)))

-- the numbers of rows of one length
pub values_width : {F : Type 0} (v : F → ℚ) (m : Grid F) → IsGrid m → HasColumns m.columns (values v m)
values_width {F = F} v m h = All-from_recursion (λ row. length row ≡ m.columns) (values v m) (each m.rows (recursion_from_All (λ row. length row ≡ m.columns) m.rows h))
  where
    each : (rows : List (List F)) → AllByRecursion (λ row. length row ≡ m.columns) rows → AllByRecursion (λ row. length row ≡ m.columns) (map (map v) rows)
    each [] h = tt
    each (row ∷ rows) h = (length-map row v ∙ h.0, each rows h.1)

pub values_length : {F : Type 0} (v : F → ℚ) (m : Grid F) → length (values v m) ≡ length m.rows
values_length v m = length-map m.rows (map v)

solve_done : {F : Type 0} (v : F → ℚ) (m : Grid F) (r xs : List F) (n w i : ℕ) →
    IsGrid m → length r ≡ length m.rows → n ≡ length m.rows → w ≡ m.columns + (length m.rows + 1) → n ≤ i → map v xs ≡ joined (take i (solve_rows (values v m) (map v r))) →
    (w ≡ m.columns + (length m.rows + 1)) × (length xs ≡ n * w) × (map (map v) (rows_of w n xs) ≡ solve_rows (values v m) (map v r))
solve_done v m r xs n w i g l e f h k =
    let rows = solve_rows (values v m) (map v r) in
    let count : length rows ≡ n = length-solve_rows (values v m) (map v r) (length-map r v ∙ l ∙ sym (values_length v m)) ∙ values_length v m ∙ sym e in
    let size : m.columns + suc (length (values v m)) ≡ w = omega (arith, values_length v m) in
    let width : HasColumns w rows = subst (λ w. HasColumns w rows) size (solve_rows_width m.columns (values v m) (map v r) (values_width v m g)) in
    let all : map v xs ≡ joined rows = joined_all rows i (map v xs) (rw count h) k in
    (f, assembled_length v w n xs rows width count all, assembled v w n xs rows width count all)

-- the system is assembled
pub solve_assembled : {F : Type 0} (v : F → ℚ) (m : Grid F) (r xs : List F) (n c t w i : ℕ) (P Q : Type 0) (o p : Option ℕ) →
    IsGrid m → length r ≡ length m.rows → n ≡ length m.rows → c ≡ m.columns → SomeIff o P (n + 1) → o ≡ Some t → SomeIff p Q (c + t) → p ≡ Some w →
    n ≤ i → map v xs ≡ joined (take i (solve_rows (values v m) (map v r))) →
    (w ≡ m.columns + (length m.rows + 1)) × (length xs ≡ n * w) × (map (map v) (rows_of w n xs) ≡ solve_rows (values v m) (map v r))
solve_assembled v m r xs n c t w i P Q o p g l e f a b d k h s =
    let x = checked P o (n + 1) t a b in let y = checked Q p (c + t) w d k in
    solve_done v m r xs n w i g l e (omega (arith, x, y)) h s

invert_done : {F : Type 0} (v : F → ℚ) (m : Grid F) (xs : List F) (n w i : ℕ) →
    IsGrid m → n ≡ length m.rows → w ≡ m.columns + length m.rows → n ≤ i → map v xs ≡ joined (take i (invert_rows (values v m))) →
    (w ≡ m.columns + length m.rows) × (length xs ≡ n * w) × (map (map v) (rows_of w n xs) ≡ invert_rows (values v m))
invert_done v m xs n w i g e f h k =
    let rows = invert_rows (values v m) in
    let count : length rows ≡ n = length-invert_rows (values v m) ∙ values_length v m ∙ sym e in
    let size : m.columns + length (values v m) ≡ w = omega (arith, values_length v m) in
    let width : HasColumns w rows = subst (λ w. HasColumns w rows) size (invert_rows_width m.columns (values v m) (values_width v m g)) in
    let all : map v xs ≡ joined rows = joined_all rows i (map v xs) (rw count h) k in
    (f, assembled_length v w n xs rows width count all, assembled v w n xs rows width count all)

pub invert_assembled : {F : Type 0} (v : F → ℚ) (m : Grid F) (xs : List F) (n c w i : ℕ) (P : Type 0) (o : Option ℕ) →
    IsGrid m → n ≡ length m.rows → c ≡ m.columns → SomeIff o P (c + n) → o ≡ Some w →
    n ≤ i → map v xs ≡ joined (take i (invert_rows (values v m))) →
    (w ≡ m.columns + length m.rows) × (length xs ≡ n * w) × (map (map v) (rows_of w n xs) ≡ invert_rows (values v m))
invert_assembled v m xs n c w i P o g e f a b h s =
    let x = checked P o (c + n) w a b in
    invert_done v m xs n w i g e (omega (arith, x)) h s

pub solution_start : {F : Type 0} (v : F → ℚ) (n : ℕ) (ls : List Line) (z : List F) → z ≡ [] → map v z ++ solution_from (n - 0) 0 n ls ≡ solution_from n 0 n ls
solution_start v n ls z e = let o : n - 0 ≡ n = omega arith in rw (o, e)

pub inverse_start : {F : Type 0} (v : F → ℚ) (n : ℕ) (ls : List Line) (xs : List F) → xs ≡ [] → with_rest (map v xs) (inverse_from (n - 0) 0 n ls) ≡ with_rest [] (inverse_from n 0 n ls)
inverse_start v n ls xs e = let o : n - 0 ≡ n = omega arith in rw (o, e)

-- no row is used yet
lines_fresh : (k : ℕ) (rows : List (List ℚ)) → k ≡ length rows → lines (replicate k None) rows ≡ lines_of rows
lines_fresh zero [] e = refl
lines_fresh zero (r ∷ rows) e = absurd (omega arith)
lines_fresh (suc k) [] e = absurd (omega arith)
lines_fresh (suc k) (r ∷ rows) e = ap (λ t. unused r ∷ t) (lines_fresh k rows (omega arith))

pub state_fresh : {F : Type 0} (v : F → ℚ) (ps : List (Option ℕ)) (k : ℕ) (m : Grid F) → k ≡ length m.rows → ps ≡ replicate k None → state v ps m ≡ lines_of (values v m)
state_fresh v ps k m e h = ap (λ ps. state v ps m) h ∙ lines_fresh k (values v m) (e ∙ sym (values_length v m))

-- the answers of the rows at the end
pub refuted_by : {F : Type 0} (v : F → ℚ) (n : ℕ) (ps : List (Option ℕ)) (m : Grid F) (i : ℕ) (w : List F) (x : F) → IsPivotAt v n ps m i → w ≡ drop (suc n) (row_at m i) → entry (map v (row_at m i)) n ≡ v x →
    Refutation (map v w) (v x) ≡ answer_of n (state v ps m)
refuted_by v n ps m i w x a e h =
    ap (λ t. Refutation t (v x)) (ap (map v) e ∙ sym (drop-map v (suc n) (row_at m i))) ∙ ap (Refutation (drop (suc n) (map v (row_at m i)))) (sym h)
    ∙ ap (answer_by n (state v ps m)) (sym a.row)

pub solved_by : {F : Type 0} (v : F → ℚ) (n : ℕ) (ps : List (Option ℕ)) (m : Grid F) (z : List F) → pivot_row n (state v ps m) ≡ None → map v z ≡ solution_from n 0 n (state v ps m) →
    Solution (map v z) ≡ answer_of n (state v ps m)
solved_by v n ps m z h e = ap Solution e ∙ ap (answer_by n (state v ps m)) (sym h)

-- the part of a row that is copied from column k on
pub tail_copied : {F : Type 0} (w row copy : List F) (k n : ℕ) → w ≡ take (length copy - k) (drop k copy) → copy ≡ row → k ≡ n → w ≡ drop n row
tail_copied w row copy k n e c h = e ∙ take_rest copy k ∙ ap (drop k) c ∙ ap (λ k. drop k row) h

pub tail_pushed : {F : Type 0} (xs ys row copy : List F) (k : ℕ) → ys ≡ xs ++ take (length copy - k) (drop k copy) → copy ≡ row → ys ≡ xs ++ drop k row
tail_pushed xs ys row copy k e c = e ∙ ap (λ t. xs ++ t) (take_rest copy k ∙ ap (drop k) c)
