-- The lines that the program holds, when a row or a pivot is written; and where the pivot row of a column is.
use Rattle.std.proofs.Common.{◌≡◌, ℕ, Bool, true, false, zero, suc, ◌+◌, ◌-◌, ◌≤◌, ◌<◌, Option, Some, None, List, [], ◌∷◌, ◌++◌, length, map, take, drop, get_or, slice_get, sym, ap, ◌∙◌, refl, arith, add-one, append_assoc}
use Rattle.std.specs.Prelude.{Result, Ok, Err, not, ◌&&◌, ◌||◌}
use Rattle.std.specs.Option.{option_map, is_some}
use Rattle.std.proofs.Math.ListN.{set, drop_of_length-le}
use Rattle.std.proofs.lemmas.List.{map-set, length-map, length-set, append-nil, take_all, take_more_set}
use Rattle.std.proofs.lemmas.Option.{slice_get-map, get_or_from_slice_get}
use Rattle.rational.specs.Rational.{ℚ, zero_ℚ}
use Rattle.rational.specs.Order.{same_fields}
use Rattle.rational.specs.Sums.{entry}
use Rattle.rational.proofs.Wholes.{num-ne_of_test}
use Rattle.frac_core.specs.declared.fractions.Refused.{Refused}
use Rattle.exact_matrix.specs.Grid.{Grid, row_at, with_row}
use Rattle.elimination_law.specs.Elimination.{Line, used, is_pivot, is_unused, may_pivot, pivot_row, with_pivot}
use Rattle.elimination_law.specs.Calculation.{freed_in, each_freed_in, line_then, with_entries, divided_in, cleared_by, step_in_by, step_in, eliminated_from_in}
use Rattle.exact_matrix.specs.State.{lines, state, IsPivotAt, IsSameShape}
use Rattle.frac_core.specs.Calculated.{◌>>=◌, Leaves}
use Rattle.frac_core.specs.Row.{Row, Entries, Refusal, IsRow, row_less}
use Rattle.exact_matrix.proofs.Passes.{drop_after_set}

abbrev line : Option ℕ → List ℚ → Line
line p row = record { pivot = p; entries = row }

pub lines_length : (ps : List (Option ℕ)) (rows : List (List ℚ)) → length ps ≡ length rows → length (lines ps rows) ≡ length rows
lines_length [] rows e = e
lines_length (p ∷ ps) [] e = refl
lines_length (p ∷ ps) (row ∷ rows) e = ap suc (lines_length ps rows (omega arith))

lines_get : (ps : List (Option ℕ)) (rows : List (List ℚ)) (i : ℕ) (p : Option ℕ) (row : List ℚ) → slice_get ps i ≡ Some p → slice_get rows i ≡ Some row →
    slice_get (lines ps rows) i ≡ Some (line p row)
lines_get [] rows i p row h k = absurd cc
lines_get (q ∷ ps) [] i p row h k = absurd cc
lines_get (q ∷ ps) (r ∷ rows) zero p row h k = let e : q ≡ p = cc in let f : r ≡ row = cc in rw (e, f)
lines_get (q ∷ ps) (r ∷ rows) (suc i) p row h k = lines_get ps rows i p row h k

lines_set : (ps : List (Option ℕ)) (rows : List (List ℚ)) (i : ℕ) (p : Option ℕ) (row : List ℚ) → slice_get ps i ≡ Some p →
    lines ps (set rows i row) ≡ set (lines ps rows) i (line p row)
lines_set [] rows i p row h = refl
lines_set (q ∷ ps) [] i p row h = refl
lines_set (q ∷ ps) (r ∷ rows) zero p row h = let e : q ≡ p = cc in rw e
lines_set (q ∷ ps) (r ∷ rows) (suc i) p row h = ap (λ t. line q r ∷ t) (lines_set ps rows i p row h)

lines_set_both : (ps : List (Option ℕ)) (rows : List (List ℚ)) (i : ℕ) (p : Option ℕ) (row : List ℚ) →
    lines (set ps i p) (set rows i row) ≡ set (lines ps rows) i (line p row)
lines_set_both [] rows i p row = refl
lines_set_both (q ∷ ps) [] zero p row = refl
lines_set_both (q ∷ ps) [] (suc i) p row = refl
lines_set_both (q ∷ ps) (r ∷ rows) zero p row = refl
lines_set_both (q ∷ ps) (r ∷ rows) (suc i) p row = ap (λ t. line q r ∷ t) (lines_set_both ps rows i p row)

pub state_length : {F : Type 0} (v : F → ℚ) (ps : List (Option ℕ)) (m : Grid F) → length ps ≡ length m.rows → length (state v ps m) ≡ length m.rows
state_length v ps m e = lines_length ps (map (map v) m.rows) (e ∙ sym (length-map m.rows (map v))) ∙ length-map m.rows (map v)

row_get : {F : Type 0} (rows : List (List F)) (i : ℕ) → i < length rows → slice_get rows i ≡ Some (get_or rows i [])
row_get [] i h = absurd (omega arith)
row_get (r ∷ rows) zero h = refl
row_get (r ∷ rows) (suc i) h = row_get rows i (omega arith)

pub state_get : {F : Type 0} (v : F → ℚ) (ps : List (Option ℕ)) (m : Grid F) (i : ℕ) (p : Option ℕ) → slice_get ps i ≡ Some p → i < length m.rows →
    slice_get (state v ps m) i ≡ Some (line p (map v (row_at m i)))
state_get v ps m i p h k =
    lines_get ps (map (map v) m.rows) i p (map v (row_at m i)) h (slice_get-map (map v) m.rows i ∙ ap (option_map (map v)) (row_get m.rows i k))

pub state_set : {F : Type 0} (v : F → ℚ) (ps : List (Option ℕ)) (m : Grid F) (i : ℕ) (p : Option ℕ) (row : List F) → slice_get ps i ≡ Some p →
    state v ps (with_row m i row) ≡ set (state v ps m) i (line p (map v row))
state_set v ps m i p row h = ap (lines ps) (map-set (map v) m.rows i row) ∙ lines_set ps (map (map v) m.rows) i p (map v row) h

pub state_set_both : {F : Type 0} (v : F → ℚ) (ps : List (Option ℕ)) (m : Grid F) (i : ℕ) (p : Option ℕ) (row : List F) →
    state v (set ps i p) (with_row m i row) ≡ set (state v ps m) i (line p (map v row))
state_set_both v ps m i p row = ap (lines (set ps i p)) (map-set (map v) m.rows i row) ∙ lines_set_both ps (map (map v) m.rows) i p (map v row)

-- the number of an entry that is read
pub entry_read : {F : Type 0} (v : F → ℚ) (row : List F) (j : ℕ) (x : F) → slice_get row j ≡ Some x → entry (map v row) j ≡ v x
entry_read v row j x h = get_or_from_slice_get (map v row) j (v x) zero_ℚ (slice_get-map v row j ∙ ap (option_map v) h)

-- no line before i may be the pivot row of column j
pub record IsNoneBefore (j : ℕ) (ls : List Line) (i : ℕ) : Type 0 where
  pub rest : pivot_row j ls ≡ pivot_row j (drop i ls)
  pub placed : (p : List ℚ) → with_pivot j p ls ≡ take i ls ++ with_pivot j p (drop i ls)

pub none_at_start : (j : ℕ) (ls : List Line) → IsNoneBefore j ls 0
none_at_start j ls = record { rest = refl; placed = λ p. refl }

passed_row : (j : ℕ) (ls : List Line) (i : ℕ) (l : Line) → slice_get ls i ≡ Some l → may_pivot j l ≡ false → pivot_row j (drop i ls) ≡ pivot_row j (drop (suc i) ls)
unfolding pivot_row
passed_row j [] i l h e = absurd cc
passed_row j (x ∷ ls) zero l h e = let s : x ≡ l = cc in rw (s, e)
passed_row j (x ∷ ls) (suc i) l h e = passed_row j ls i l h e

passed_placed : (j : ℕ) (p : List ℚ) (ls : List Line) (i : ℕ) (l : Line) → slice_get ls i ≡ Some l → may_pivot j l ≡ false →
    take i ls ++ with_pivot j p (drop i ls) ≡ take (suc i) ls ++ with_pivot j p (drop (suc i) ls)
unfolding with_pivot
passed_placed j p [] i l h e = absurd cc
passed_placed j p (x ∷ ls) zero l h e = let s : x ≡ l = cc in rw (s, e)
passed_placed j p (x ∷ ls) (suc i) l h e = ap (λ t. x ∷ t) (passed_placed j p ls i l h e)

pub none_before_more : (j : ℕ) (ls : List Line) (i : ℕ) (l : Line) → slice_get ls i ≡ Some l → may_pivot j l ≡ false → IsNoneBefore j ls i → IsNoneBefore j ls (i + 1)
none_before_more j ls i l h e n = rw add-one (record { rest = n.rest ∙ passed_row j ls i l h e; placed = λ p. n.placed p ∙ passed_placed j p ls i l h e })

pub none_at_end : (j : ℕ) (ls : List Line) (i : ℕ) → length ls ≤ i → IsNoneBefore j ls i → pivot_row j ls ≡ None
unfolding pivot_row
none_at_end j ls i h n = n.rest ∙ ap (pivot_row j) (drop_of_length-le ls h)

here_row : (j : ℕ) (ls : List Line) (i : ℕ) (l : Line) → slice_get ls i ≡ Some l → may_pivot j l ≡ true → pivot_row j (drop i ls) ≡ Some l.entries
unfolding pivot_row
here_row j [] i l h e = absurd cc
here_row j (x ∷ ls) zero l h e = let s : x ≡ l = cc in rw (s, e)
here_row j (x ∷ ls) (suc i) l h e = here_row j ls i l h e

here_placed : (j : ℕ) (p : List ℚ) (ls : List Line) (i : ℕ) (l : Line) → slice_get ls i ≡ Some l → may_pivot j l ≡ true →
    take i ls ++ with_pivot j p (drop i ls) ≡ set ls i (used j p)
unfolding with_pivot
here_placed j p [] i l h e = absurd cc
here_placed j p (x ∷ ls) zero l h e = let s : x ≡ l = cc in rw (s, e)
here_placed j p (x ∷ ls) (suc i) l h e = ap (λ t. x ∷ t) (here_placed j p ls i l h e)

unused_here : (p : Option ℕ) (b : Bool) → (is_unused p && not b) ≡ true → b ≡ false
unused_here None true e = absurd cc
unused_here None false e = refl
unused_here (Some k) b e = absurd cc

-- the row at i is the pivot row
pub pivot_found : {F : Type 0} (v : F → ℚ) (j : ℕ) (ps : List (Option ℕ)) (m : Grid F) (i : ℕ) (p : Option ℕ) → slice_get ps i ≡ Some p → i < length m.rows →
    may_pivot j (line p (map v (row_at m i))) ≡ true → IsNoneBefore j (state v ps m) i → IsPivotAt v j ps m i
pivot_found v j ps m i p h k e n =
    let g = state_get v ps m i p h k in
    record {
      within = k;
      row = n.rest ∙ here_row j (state v ps m) i _ g e;
      placed = λ q. n.placed q ∙ here_placed j q (state v ps m) i _ g e;
      nonzero = num-ne_of_test (entry (map v (row_at m i)) j) (unused_here p (same_fields (entry (map v (row_at m i)) j) zero_ℚ) e);
    }

-- the test as the program makes it
pub may_unused : (p : Option ℕ) (n b : Bool) → is_some p ≡ not n → n ≡ true → not b ≡ (is_unused p && not b)
may_unused None n b h e = refl
may_unused (Some k) true b h e = absurd cc
may_unused (Some k) false b h e = absurd cc

pub may_used : (p : Option ℕ) (n b : Bool) → is_some p ≡ not n → n ≡ false → n ≡ (is_unused p && not b)
may_used None true b h e = absurd cc
may_used None false b h e = absurd cc
may_used (Some k) n b h e = e

pub freed_pivot : (top j : ℕ) (p : List ℚ) (l : Line) → is_pivot j l.pivot ≡ true → freed_in top j p l ≡ Ok l
unfolding freed_in
freed_pivot top j p l h = rw h

or_true : (a b : Bool) → b ≡ true → (a || b) ≡ true
or_true true b h = refl
or_true false b h = h

pub freed_zero : (top j : ℕ) (p : List ℚ) (l : Line) → same_fields (entry l.entries j) zero_ℚ ≡ true → freed_in top j p l ≡ Ok l
unfolding freed_in
freed_zero top j p l h = rw (or_true (is_pivot j l.pivot) (same_fields (entry l.entries j) zero_ℚ) h)

pub freed_more : (top j : ℕ) (p : List ℚ) (l : Line) → is_pivot j l.pivot ≡ false → same_fields (entry l.entries j) zero_ℚ ≡ false →
    freed_in top j p l ≡ with_entries l.pivot (row_less top (entry l.entries j) l.entries p)
unfolding freed_in
freed_more top j p l h k = rw (h, k)

-- a row that is taken from stands for a line
pub taken_line : {F : Type 0} (v : F → ℚ) (result : Result (Unit {0}) Refused) (pivot : Option ℕ) (row : List F) (r : Row) →
    IsRow v result row r → Leaves (line pivot (map v row)) result (with_entries pivot r)
taken_line v (Ok u) pivot row r h = ap (with_entries pivot) h
taken_line v (Err e) pivot row r h = ap (with_entries pivot) h

-- lines before a result
abbrev pub append_lines : List Line → Result (List Line) Refused → Result (List Line) Refused
append_lines xs (Ok ys) = Ok (xs ++ ys)
append_lines xs (Err r) = Err r

pub append_no_lines : (r : Result (List Line) Refused) → append_lines [] r ≡ r
append_no_lines (Ok ys) = refl
append_no_lines (Err r) = refl

append_line : (xs : List Line) (l : Line) (r : Result (List Line) Refused) → append_lines (xs ++ l ∷ []) r ≡ append_lines xs (line_then (Ok l) r)
append_line xs l (Ok ys) = ap Ok (append_assoc xs (l ∷ []) ys)
append_line xs l (Err r) = refl

each_next : (top j : ℕ) (p : List ℚ) (ls : List Line) (i : ℕ) (l : Line) → slice_get ls i ≡ Some l →
    each_freed_in top j p (drop i ls) ≡ line_then (freed_in top j p l) (each_freed_in top j p (drop (suc i) ls))
unfolding each_freed_in
each_next top j p [] i l h = absurd cc
each_next top j p (x ∷ ls) zero l h = let e : x ≡ l = cc in rw e
each_next top j p (x ∷ ls) (suc i) l h = each_next top j p ls i l h

-- the lines with the one at i written stand for the same calculation
pub each_more : (top j : ℕ) (p : List ℚ) (ls : List Line) (i : ℕ) (l m : Line) → i < length ls → slice_get ls i ≡ Some l → freed_in top j p l ≡ Ok m →
    append_lines (take (i + 1) (set ls i m)) (each_freed_in top j p (drop (i + 1) (set ls i m))) ≡ append_lines (take i ls) (each_freed_in top j p (drop i ls))
each_more top j p ls i l m within h e =
    rw (take_more_set ls i m within, add-one, drop_after_set ls i m)
    (append_line (take i ls) m (each_freed_in top j p (drop (suc i) ls))
    ∙ ap (λ t. append_lines (take i ls) (line_then t (each_freed_in top j p (drop (suc i) ls)))) (sym e)
    ∙ ap (append_lines (take i ls)) (sym (each_next top j p ls i l h)))

pub each_past : (top j : ℕ) (p : List ℚ) (ls : List Line) (i : ℕ) (l : Line) (r : Refused) → slice_get ls i ≡ Some l → freed_in top j p l ≡ Err r →
    append_lines (take i ls) (each_freed_in top j p (drop i ls)) ≡ Err r
each_past top j p ls i l r h e =
    ap (append_lines (take i ls)) (each_next top j p ls i l h ∙ ap (λ t. line_then t (each_freed_in top j p (drop (suc i) ls))) e)

pub each_end : (top j : ℕ) (p : List ℚ) (ls : List Line) (i : ℕ) → length ls ≤ i → append_lines (take i ls) (each_freed_in top j p (drop i ls)) ≡ Ok ls
unfolding each_freed_in
each_end top j p ls i h = rw (drop_of_length-le ls h) (ap Ok (append-nil (take i ls) ∙ take_all i ls h))

pub with_row_shape : {F : Type 0} (m g : Grid F) (i : ℕ) (row : List F) → g ≡ with_row m i row → IsSameShape m g
with_row_shape m g i row e = record { columns = ap (λ g. g.columns) e; rows = ap (λ g. length g.rows) e ∙ length-set m.rows i row }

pub state_now : {F : Type 0} (v : F → ℚ) (ps : List (Option ℕ)) (m g : Grid F) (i : ℕ) (pivot : Option ℕ) → slice_get ps i ≡ Some pivot → g ≡ with_row m i (row_at g i) →
    state v ps g ≡ set (state v ps m) i (line pivot (map v (row_at g i)))
state_now v ps m g i pivot h e = ap (state v ps) e ∙ state_set v ps m i pivot (row_at g i) h

pub row_freed : {F : Type 0} (v : F → ℚ) (top j : ℕ) (p : List ℚ) (ps : List (Option ℕ)) (m g : Grid F) (i : ℕ) (pivot : Option ℕ) →
    length ps ≡ length m.rows → i < length m.rows → slice_get ps i ≡ Some pivot → freed_in top j p (line pivot (map v (row_at m i))) ≡ Ok (line pivot (map v (row_at g i))) →
    g ≡ with_row m i (row_at g i) →
    append_lines (take (i + 1) (state v ps g)) (each_freed_in top j p (drop (i + 1) (state v ps g))) ≡ append_lines (take i (state v ps m)) (each_freed_in top j p (drop i (state v ps m)))
row_freed v top j p ps m g i pivot l h k e r =
    ap (λ ls. append_lines (take (i + 1) ls) (each_freed_in top j p (drop (i + 1) ls))) (state_now v ps m g i pivot k r)
    ∙ each_more top j p (state v ps m) i _ _ (rw (state_length v ps m l) h) (state_get v ps m i pivot k h) e

step_at : {F : Type 0} (v : F → ℚ) (top j : ℕ) (ps : List (Option ℕ)) (m : Grid F) (i : ℕ) (q : ℚ) → IsPivotAt v j ps m i → entry (map v (row_at m i)) j ≡ q →
    step_in top j (state v ps m) ≡ cleared_by top j (state v ps m) (divided_in top q (map v (row_at m i)))
unfolding step_in
step_at v top j ps m i q a e =
    ap (step_in_by top j (state v ps m)) a.row ∙ ap (λ (x : ℚ). cleared_by top j (state v ps m) (divided_in top x (map v (row_at m i)))) e

pub cleared_past : {F : Type 0} (v : F → ℚ) (top j : ℕ) (ps : List (Option ℕ)) (m : Grid F) (i : ℕ) (q : ℚ) (r : Refused) → IsPivotAt v j ps m i → entry (map v (row_at m i)) j ≡ q →
    divided_in top q (map v (row_at m i)) ≡ Refusal r → step_in top j (state v ps m) ≡ Err r
cleared_past v top j ps m i q r a e d = step_at v top j ps m i q a e ∙ ap (cleared_by top j (state v ps m)) d

pub cleared : {F : Type 0} (v : F → ℚ) (top j : ℕ) (ps : List (Option ℕ)) (m g : Grid F) (i : ℕ) (q : ℚ) → IsPivotAt v j ps m i → entry (map v (row_at m i)) j ≡ q →
    divided_in top q (map v (row_at m i)) ≡ Entries (map v (row_at g i)) → g ≡ with_row m i (row_at g i) →
    step_in top j (state v ps m) ≡ each_freed_in top j (map v (row_at g i)) (state v (set ps i (Some j)) g)
cleared v top j ps m g i q a e d r =
    step_at v top j ps m i q a e ∙ ap (cleared_by top j (state v ps m)) d
    ∙ ap (each_freed_in top j (map v (row_at g i))) (a.placed (map v (row_at g i)) ∙ sym (ap (state v (set ps i (Some j))) r ∙ state_set_both v ps m i (Some j) (row_at g i)))

pub no_pivot : (top j : ℕ) (ls : List Line) → pivot_row j ls ≡ None → step_in top j ls ≡ Ok ls
unfolding step_in
no_pivot top j ls h = ap (step_in_by top j ls) h

-- the same with the pivot row that is copied, and the pivots that are written
pub cleared_by_copy : {F : Type 0} (v : F → ℚ) (top j : ℕ) (ps qs : List (Option ℕ)) (m g : Grid F) (i : ℕ) (q : ℚ) (p row : List F) → IsPivotAt v j ps m i → entry (map v (row_at m i)) j ≡ q →
    divided_in top q (map v (row_at m i)) ≡ Entries (map v (row_at g i)) → g ≡ with_row m i (row_at g i) → qs ≡ set ps i (Some j) → p ≡ row → row ≡ row_at g i →
    step_in top j (state v ps m) ≡ each_freed_in top j (map v p) (state v qs g)
cleared_by_copy v top j ps qs m g i q p row a e d r s t u =
    cleared v top j ps m g i q a e d r
    ∙ ap (λ row. each_freed_in top j (map v row) (state v (set ps i (Some j)) g)) (sym (t ∙ u))
    ∙ ap (λ ps. each_freed_in top j (map v p) (state v ps g)) (sym s)

columns_next : (top k n j : ℕ) (ls : List Line) → k ≡ suc n → eliminated_from_in top k j ls ≡ (step_in top j ls >>= λ next. eliminated_from_in top n (suc j) next)
unfolding eliminated_from_in
columns_next top k n j ls e = rw e

-- one column on
pub columns_more : (top n j : ℕ) (ls ms : List Line) → j < n → step_in top j ls ≡ Ok ms → eliminated_from_in top (n - (j + 1)) (j + 1) ms ≡ eliminated_from_in top (n - j) j ls
columns_more top n j ls ms h e =
    let k : n - j ≡ suc (n - (j + 1)) = omega arith in let s : j + 1 ≡ suc j = omega arith in
    sym (columns_next top (n - j) (n - (j + 1)) j ls k ∙ ap (λ (r : Result (List Line) Refused). r >>= λ next. eliminated_from_in top (n - (j + 1)) (suc j) next) e
    ∙ ap (λ i. eliminated_from_in top (n - (j + 1)) i ms) (sym s))

pub columns_past : (top n j : ℕ) (ls : List Line) (r : Refused) → j < n → step_in top j ls ≡ Err r → eliminated_from_in top (n - j) j ls ≡ Err r
columns_past top n j ls r h e =
    let k : n - j ≡ suc (n - (j + 1)) = omega arith in
    columns_next top (n - j) (n - (j + 1)) j ls k ∙ ap (λ (r : Result (List Line) Refused). r >>= λ next. eliminated_from_in top (n - (j + 1)) (suc j) next) e

pub columns_end : (top n j : ℕ) (ls : List Line) → n ≤ j → eliminated_from_in top (n - j) j ls ≡ Ok ls
unfolding eliminated_from_in
columns_end top n j ls h = let e : n - j ≡ 0 = omega arith in rw e
