-- A column beside the eliminated ones acts on no other: left out before or after, the elimination is the same, and its operations are
-- among those with that column.
use Rattle.std.proofs.Common.{◌≡◌, ℕ, zero, suc, ◌+◌, ◌<◌, ◌≤◌, List, [], ◌∷◌, ◌++◌, map, length, Some, None, not, ◌&&◌, ◌||◌, sym, ap, ◌∙◌, subst, refl, arith, ⊎_elim}
use Rattle.std.specs.Prelude.{option_map}
use Rattle.std.specs.List.{AllByRecursion, Contains}
use Rattle.std.proofs.lemmas.List.Elements.{recursion_from_All, All-from_recursion, Contains-append_left, Contains-append_right, Contains-append_cases}
use Rattle.rational.specs.Rational.{ℚ, zero_ℚ, ◌+ℚ◌, ◌*ℚ◌, ◌/ℚ◌, neg_ℚ}
use Rattle.rational.specs.Order.{same_fields}
use Rattle.rational.specs.Sums.{entry}
use Rattle.rational.specs.Vectors.{add_each, scale, HasColumns}
use Rattle.frac_core.specs.declared.fractions.Op.TheVariants.{Sub, Mul, Div}
use Rattle.frac_core.specs.declared.fractions.Refused.{Refused}
use Rattle.elimination_law.specs.Elimination.{Line, unused, is_pivot, is_unused, may_pivot, pivot_row, with_pivot, divided, freed, step, eliminated, eliminated_from}
use Rattle.elimination_law.specs.Answers.{beside, right_beside, unit_matrix, solve_rows, invert_rows, lines_of, row_of_pivot}
use Rattle.frac_core.specs.Operations.{operation}
use Rattle.elimination_law.specs.Operations.{division_ops, less_ops, freed_ops, each_freed_ops, step_ops, ops_from, elimination_ops}
use Rattle.elimination_law.specs.Tails.{without, line_without}
use Rattle.elimination_law.proofs.Pivots.{row_of_pivot-none, row_of_pivot-here, row_of_pivot-later}
use Rattle.elimination_law.proofs.Vectors.{length-unit_rows, width-unit_rows, width-right_beside, width-beside}
use Rattle.elimination_law.proofs.Lines.{bool_cases, pivot_row-none, pivot_row-here, pivot_row-later, with_pivot-here, with_pivot-later, step-none, step-some, freed-pivot, freed-other, by_pivot_row, eliminated-end, eliminated-more, HasWidth, width-step, width-with_pivot, width-lines_of}
use Rattle.elimination_law.proofs.Calculated.{division_ops-zero, division_ops-more, less_ops-end, less_ops-zero, less_ops-more, freed_ops-stays, freed_ops-changes, each_freed_ops-end, each_freed_ops-more, step_ops-none, step_ops-some, ops_from-end, ops_from-more}

-- ---- a row without an entry

entry-without : (i : ℕ) (row : List ℚ) (c : ℕ) → c < i → entry (without i row) c ≡ entry row c
entry-without i [] c h = refl
entry-without zero (x ∷ row) c h = absurd (omega arith)
entry-without (suc i) (x ∷ row) zero h = refl
entry-without (suc i) (x ∷ row) (suc c) h = entry-without i row c (omega arith)

divided-without : (q : ℚ) (i : ℕ) (row : List ℚ) → divided q (without i row) ≡ without i (divided q row)
divided-without q i [] = refl
divided-without q zero (x ∷ row) = refl
divided-without q (suc i) (x ∷ row) = ap (λ s. (x /ℚ q) ∷ s) (divided-without q i row)

less-without : (f : ℚ) (i : ℕ) (row p : List ℚ) → length row ≡ length p → add_each (without i row) (scale f (without i p)) ≡ without i (add_each row (scale f p))
less-without f i [] p h = refl
less-without f i (x ∷ row) [] h = absurd (omega arith)
less-without f zero (x ∷ row) (y ∷ p) h = refl
less-without f (suc i) (x ∷ row) (y ∷ p) h = ap (λ s. (x +ℚ f *ℚ y) ∷ s) (less-without f i row p (omega arith))

may_pivot-without : (i j : ℕ) (l : Line) → j < i → may_pivot j (line_without i l) ≡ may_pivot j l
may_pivot-without i j l h = ap (λ x. is_unused l.pivot && not (same_fields x zero_ℚ)) (entry-without i l.entries j h)

pivot_row-without : (i j : ℕ) (ls : List Line) → j < i → pivot_row j (map (line_without i) ls) ≡ option_map (without i) (pivot_row j ls)
pivot_row-without i j [] h = pivot_row-none j ∙ ap (option_map (without i)) (sym (pivot_row-none j))
pivot_row-without i j (l ∷ ls) h = bool_cases (may_pivot j l)
    (λ e. pivot_row-here j (line_without i l) (map (line_without i) ls) (may_pivot-without i j l h ∙ e) ∙ ap (option_map (without i)) (sym (pivot_row-here j l ls e)))
    (λ e. pivot_row-later j (line_without i l) (map (line_without i) ls) (may_pivot-without i j l h ∙ e) ∙ pivot_row-without i j ls h ∙ ap (option_map (without i)) (sym (pivot_row-later j l ls e)))

with_pivot-none : (j : ℕ) (p : List ℚ) → with_pivot j p [] ≡ []
unfolding with_pivot
with_pivot-none j p = refl

with_pivot-without : (i j : ℕ) (p : List ℚ) (ls : List Line) → j < i → with_pivot j (without i p) (map (line_without i) ls) ≡ map (line_without i) (with_pivot j p ls)
with_pivot-without i j p [] h = with_pivot-none j (without i p) ∙ ap (map (line_without i)) (sym (with_pivot-none j p))
with_pivot-without i j p (l ∷ ls) h = bool_cases (may_pivot j l)
    (λ e. with_pivot-here j (without i p) (line_without i l) (map (line_without i) ls) (may_pivot-without i j l h ∙ e) ∙ ap (map (line_without i)) (sym (with_pivot-here j p l ls e)))
    (λ e.
    with_pivot-later j (without i p) (line_without i l) (map (line_without i) ls) (may_pivot-without i j l h ∙ e) ∙ ap (λ s. line_without i l ∷ s) (with_pivot-without i j p ls h)
    ∙ ap (map (line_without i)) (sym (with_pivot-later j p l ls e)))

freed-without : (i j : ℕ) (p : List ℚ) (l : Line) → j < i → length l.entries ≡ length p → freed j (without i p) (line_without i l) ≡ line_without i (freed j p l)
freed-without i j p l h e = bool_cases (is_pivot j l.pivot)
    (λ a. freed-pivot j (without i p) (line_without i l) a ∙ ap (line_without i) (sym (freed-pivot j p l a)))
    (λ a.
    freed-other j (without i p) (line_without i l) a
    ∙ ap (λ (s : List ℚ). record { pivot = l.pivot; entries = s })
    (ap (λ x. add_each (without i l.entries) (scale (neg_ℚ x) (without i p))) (entry-without i l.entries j h) ∙ less-without (neg_ℚ (entry l.entries j)) i l.entries p e)
    ∙ ap (line_without i) (sym (freed-other j p l a)))

freed_each-without : (i j : ℕ) (p : List ℚ) (ls : List Line) → j < i → AllByRecursion (λ l. length l.entries ≡ length p) ls
    → map (freed j (without i p)) (map (line_without i) ls) ≡ map (line_without i) (map (freed j p) ls)
freed_each-without i j p [] h e = refl
freed_each-without i j p (l ∷ ls) h e =
    ap (λ m. m ∷ map (freed j (without i p)) (map (line_without i) ls)) (freed-without i j p l h e.0) ∙ ap (λ s. line_without i (freed j p l) ∷ s) (freed_each-without i j p ls h e.1)

-- the divided pivot row
pivot-without : (i j : ℕ) (row : List ℚ) → j < i → divided (entry (without i row) j) (without i row) ≡ without i (divided (entry row j) row)
pivot-without i j row h = ap (λ q. divided q (without i row)) (entry-without i row j h) ∙ divided-without (entry row j) i row

-- ---- steps

step-without : (w i j : ℕ) (ls : List Line) → j < i → HasWidth w ls → step j (map (line_without i) ls) ≡ map (line_without i) (step j ls)
step-without w i j ls h k = by_pivot_row j ls none some
  where
    none : pivot_row j ls ≡ None → step j (map (line_without i) ls) ≡ map (line_without i) (step j ls)
    none e = step-none j (map (line_without i) ls) (pivot_row-without i j ls h ∙ ap (option_map (without i)) e) ∙ ap (map (line_without i)) (sym (step-none j ls e))

    some : (row : List ℚ) → pivot_row j ls ≡ Some row → step j (map (line_without i) ls) ≡ map (line_without i) (step j ls)
    some row e =
        let p = divided (entry row j) row in
        let t = width-with_pivot w j ls row e k in
        step-some j (map (line_without i) ls) (without i row) (pivot_row-without i j ls h ∙ ap (option_map (without i)) e)
        ∙ ap (λ r. map (freed j r) (with_pivot j r (map (line_without i) ls))) (pivot-without i j row h)
        ∙ ap (map (freed j (without i p))) (with_pivot-without i j p ls h)
        ∙ freed_each-without i j p (with_pivot j p ls) h (subst (λ n. HasWidth n (with_pivot j p ls)) (sym t.1) t.0)
        ∙ ap (map (line_without i)) (sym (step-some j ls row e))

eliminated-without : (w i k j : ℕ) (ls : List Line) → j + k ≤ i → HasWidth w ls → eliminated_from k j (map (line_without i) ls) ≡ map (line_without i) (eliminated_from k j ls)
eliminated-without w i zero j ls h e = eliminated-end j (map (line_without i) ls) ∙ ap (map (line_without i)) (sym (eliminated-end j ls))
eliminated-without w i (suc k) j ls h e =
    eliminated-more k j (map (line_without i) ls) ∙ ap (eliminated_from k (suc j)) (step-without w i j ls (omega arith) e)
    ∙ eliminated-without w i k (suc j) (step j ls) (omega arith) (width-step w j ls e) ∙ ap (map (line_without i)) (sym (eliminated-more k j ls))

lines-without : (i : ℕ) (rows : List (List ℚ)) → lines_of (map (without i) rows) ≡ map (line_without i) (lines_of rows)
lines-without i [] = refl
lines-without i (row ∷ rows) = ap (λ s. line_without i (unused row) ∷ s) (lines-without i rows)

pub rows_without : (n w i : ℕ) (rows : List (List ℚ)) → n ≤ i → HasColumns w rows → eliminated n (lines_of (map (without i) rows)) ≡ map (line_without i) (eliminated n (lines_of rows))
rows_without n w i rows h e = ap (eliminated n) (lines-without i rows) ∙ eliminated-without w i n 0 (lines_of rows) (omega arith) (width-lines_of w rows e)

-- ---- operations

-- each of xs is in ys
abbrev IsWithin : List Refused → List Refused → Type 0
IsWithin xs ys = (r : Refused) → Contains xs r → Contains ys r

within_nothing : (ys : List Refused) → IsWithin [] ys
within_nothing ys r h = Contains-append_left [] ys r h

within_more : (xs os ys : List Refused) → IsWithin xs ys → IsWithin xs (os ++ ys)
within_more xs os ys f r h = Contains-append_right os ys r (f r h)

within_both : (xs ys us vs : List Refused) → IsWithin xs us → IsWithin ys vs → IsWithin (xs ++ ys) (us ++ vs)
within_both xs ys us vs f g r h = ⊎_elim (λ a. Contains-append_left us vs r (f r a)) (λ b. Contains-append_right us vs r (g r b)) (Contains-append_cases xs ys r h)

within_itself : (xs : List Refused) → IsWithin xs xs
within_itself xs r h = h

-- through equations on both sides
within_same : (xs us ys vs : List Refused) → xs ≡ us → ys ≡ vs → IsWithin us vs → IsWithin xs ys
within_same xs us ys vs e f g = subst (λ v. IsWithin xs v) (sym f) (subst (λ u. IsWithin u vs) (sym e) g)

division-within : (q : ℚ) (i : ℕ) (row : List ℚ) → IsWithin (division_ops q (without i row)) (division_ops q row)
division-within q i [] = within_itself (division_ops q [])
division-within q zero (x ∷ row) = bool_cases (same_fields x zero_ℚ)
    (λ e. within_same _ _ _ _ refl (division_ops-zero q x row e) (within_itself (division_ops q row)))
    (λ e. within_same _ _ _ _ refl (division_ops-more q x row e) (within_more (division_ops q row) (operation Div x q ∷ []) (division_ops q row) (within_itself (division_ops q row))))
division-within q (suc i) (x ∷ row) =
    let rest = division-within q i row in
    bool_cases (same_fields x zero_ℚ)
    (λ e. within_same _ _ _ _ (division_ops-zero q x (without i row) e) (division_ops-zero q x row e) rest)
    (λ e. within_same _ _ _ _ (division_ops-more q x (without i row) e) (division_ops-more q x row e)
    (within_both (operation Div x q ∷ []) (division_ops q (without i row)) (operation Div x q ∷ []) (division_ops q row) (within_itself (operation Div x q ∷ [])) rest))

less-within : (f : ℚ) (i : ℕ) (row p : List ℚ) → length row ≡ length p → IsWithin (less_ops f (without i row) (without i p)) (less_ops f row p)
less-within f i [] p h = within_same _ _ _ _ (less_ops-end f (without i p)) refl (within_nothing (less_ops f [] p))
less-within f i (x ∷ row) [] h = absurd (omega arith)
less-within f zero (x ∷ row) (y ∷ p) h = bool_cases (same_fields y zero_ℚ)
    (λ e. within_same _ _ _ _ refl (less_ops-zero f x y row p e) (within_itself (less_ops f row p)))
    (λ e. within_same _ _ _ _ refl (less_ops-more f x y row p e) (within_more (less_ops f row p) (operation Mul f y ∷ operation Sub x (f *ℚ y) ∷ []) (less_ops f row p) (within_itself (less_ops f row p))))
less-within f (suc i) (x ∷ row) (y ∷ p) h =
    let rest = less-within f i row p (omega arith) in
    let os = operation Mul f y ∷ operation Sub x (f *ℚ y) ∷ [] in
    bool_cases (same_fields y zero_ℚ)
    (λ e. within_same _ _ _ _ (less_ops-zero f x y (without i row) (without i p) e) (less_ops-zero f x y row p e) rest)
    (λ e. within_same _ _ _ _ (less_ops-more f x y (without i row) (without i p) e) (less_ops-more f x y row p e)
    (within_both os (less_ops f (without i row) (without i p)) os (less_ops f row p) (within_itself os) rest))

freed-within : (i j : ℕ) (p : List ℚ) (l : Line) → j < i → length l.entries ≡ length p → IsWithin (freed_ops j (without i p) (line_without i l)) (freed_ops j p l)
freed-within i j p l h e =
    let same : (is_pivot j l.pivot || same_fields (entry (without i l.entries) j) zero_ℚ) ≡ (is_pivot j l.pivot || same_fields (entry l.entries j) zero_ℚ) =
    ap (λ x. is_pivot j l.pivot || same_fields x zero_ℚ) (entry-without i l.entries j h) in
    bool_cases (is_pivot j l.pivot || same_fields (entry l.entries j) zero_ℚ)
    (λ a. within_same _ _ _ _ (freed_ops-stays j (without i p) (line_without i l) (same ∙ a)) refl (within_nothing (freed_ops j p l)))
    (λ a. within_same _ _ _ _
    (freed_ops-changes j (without i p) (line_without i l) (same ∙ a) ∙ ap (λ f. less_ops f (without i l.entries) (without i p)) (entry-without i l.entries j h))
    (freed_ops-changes j p l a) (less-within (entry l.entries j) i l.entries p e))

each_freed-within : (i j : ℕ) (p : List ℚ) (ls : List Line) → j < i → AllByRecursion (λ l. length l.entries ≡ length p) ls
    → IsWithin (each_freed_ops j (without i p) (map (line_without i) ls)) (each_freed_ops j p ls)
each_freed-within i j p [] h e = within_same _ _ _ _ (each_freed_ops-end j (without i p)) refl (within_nothing (each_freed_ops j p []))
each_freed-within i j p (l ∷ ls) h e =
    within_same _ _ _ _ (each_freed_ops-more j (without i p) (line_without i l) (map (line_without i) ls)) (each_freed_ops-more j p l ls)
    (within_both (freed_ops j (without i p) (line_without i l)) (each_freed_ops j (without i p) (map (line_without i) ls)) (freed_ops j p l) (each_freed_ops j p ls)
    (freed-within i j p l h e.0) (each_freed-within i j p ls h e.1))

step-within : (w i j : ℕ) (ls : List Line) → j < i → HasWidth w ls → IsWithin (step_ops j (map (line_without i) ls)) (step_ops j ls)
step-within w i j ls h k = by_pivot_row j ls
    (λ e. within_same _ _ _ _ (step_ops-none j (map (line_without i) ls) (pivot_row-without i j ls h ∙ ap (option_map (without i)) e)) refl (within_nothing (step_ops j ls)))
    (λ row e.
    let p = divided (entry row j) row in
    let t = width-with_pivot w j ls row e k in
    let q = entry row j in
    let now = map (line_without i) ls in
    within_same _ _ _ _
    (step_ops-some j now (without i row) (pivot_row-without i j ls h ∙ ap (option_map (without i)) e)
    ∙ ap (λ r. division_ops (entry (without i row) j) (without i row) ++ each_freed_ops j r (with_pivot j r now)) (pivot-without i j row h)
    ∙ ap (λ a. division_ops a (without i row) ++ each_freed_ops j (without i p) (with_pivot j (without i p) now)) (entry-without i row j h)
    ∙ ap (λ ms. division_ops q (without i row) ++ each_freed_ops j (without i p) ms) (with_pivot-without i j p ls h))
    (step_ops-some j ls row e)
    (within_both (division_ops q (without i row)) (each_freed_ops j (without i p) (map (line_without i) (with_pivot j p ls))) (division_ops q row) (each_freed_ops j p (with_pivot j p ls))
    (division-within q i row) (each_freed-within i j p (with_pivot j p ls) h (subst (λ n. HasWidth n (with_pivot j p ls)) (sym t.1) t.0))))

ops-within : (w i k j : ℕ) (ls : List Line) → j + k ≤ i → HasWidth w ls → IsWithin (ops_from k j (map (line_without i) ls)) (ops_from k j ls)
ops-within w i zero j ls h e = within_same _ _ _ _ (ops_from-end j (map (line_without i) ls)) refl (within_nothing (ops_from zero j ls))
ops-within w i (suc k) j ls h e =
    within_same _ _ _ _
    (ops_from-more k j (map (line_without i) ls) ∙ ap (λ now. step_ops j (map (line_without i) ls) ++ ops_from k (suc j) now) (step-without w i j ls (omega arith) e))
    (ops_from-more k j ls)
    (within_both (step_ops j (map (line_without i) ls)) (ops_from k (suc j) (map (line_without i) (step j ls))) (step_ops j ls) (ops_from k (suc j) (step j ls))
    (step-within w i j ls (omega arith) e) (ops-within w i k (suc j) (step j ls) (omega arith) (width-step w j ls e)))

pub operations_without : (n w i : ℕ) (rows : List (List ℚ)) (r : Refused) → n ≤ i → HasColumns w rows
    → Contains (elimination_ops n (lines_of (map (without i) rows))) r → Contains (elimination_ops n (lines_of rows)) r
operations_without n w i rows r h e k =
    ops-within w i n 0 (lines_of rows) (omega arith) (width-lines_of w rows e) r (subst (λ ls. Contains (elimination_ops n ls) r) (lines-without i rows) k)

-- ---- [M | I] is [M | r | I] without r

row-without : (n : ℕ) (row : List ℚ) (y : ℚ) (x : List ℚ) → length row ≡ n → without n (row ++ y ∷ x) ≡ row ++ x
row-without zero [] y x h = refl
row-without (suc n) [] y x h = absurd (omega arith)
row-without zero (a ∷ row) y x h = absurd (omega arith)
row-without (suc n) (a ∷ row) y x h = ap (λ s. a ∷ s) (row-without n row y x (omega arith))

beside-without : (n : ℕ) (M : List (List ℚ)) (r : List ℚ) (X : List (List ℚ)) → AllByRecursion (λ row. length row ≡ n) M → length r ≡ length M → length X ≡ length M
    → map (without n) (beside M (right_beside r X)) ≡ beside M X
beside-without n [] r X h e f = refl
beside-without n (row ∷ M) [] X h e f = absurd (omega arith)
beside-without n (row ∷ M) (y ∷ r) [] h e f = absurd (omega arith)
beside-without n (row ∷ M) (y ∷ r) (x ∷ X) h e f =
    ap (λ s. s ∷ map (without n) (beside M (right_beside r X))) (row-without n row y x h.0) ∙ ap (λ S. (row ++ x) ∷ S) (beside-without n M r X h.1 (omega arith) (omega arith))

pub invert_rows_are : (n : ℕ) (M : List (List ℚ)) (r : List ℚ) → HasColumns n M → length r ≡ length M → map (without n) (solve_rows M r) ≡ invert_rows M
invert_rows_are n M r h e =
    beside-without n M r (unit_matrix (length M)) (recursion_from_All (λ row. length row ≡ n) M h) e (length-unit_rows (length M) 0 (length M))

-- their rows have one length
pub solve_rows_width : (n : ℕ) (M : List (List ℚ)) (r : List ℚ) → HasColumns n M → HasColumns (n + suc (length M)) (solve_rows M r)
solve_rows_width n M r h =
    All-from_recursion (λ row. length row ≡ n + suc (length M)) (solve_rows M r)
    (width-beside n (suc (length M)) M (right_beside r (unit_matrix (length M))) (recursion_from_All (λ row. length row ≡ n) M h) (width-right_beside (length M) r (unit_matrix (length M)) (width-unit_rows (length M) 0 (length M))))

pub invert_lines_are : (n : ℕ) (M : List (List ℚ)) (r : List ℚ) → HasColumns n M → length r ≡ length M
    → eliminated n (lines_of (invert_rows M)) ≡ map (line_without n) (eliminated n (lines_of (solve_rows M r)))
invert_lines_are n M r h e =
    ap (λ rows. eliminated n (lines_of rows)) (sym (invert_rows_are n M r h e)) ∙ rows_without n (n + suc (length M)) n (solve_rows M r) (omega arith) (solve_rows_width n M r h)

pub invert_operations_are : (n : ℕ) (M : List (List ℚ)) (r : List ℚ) (op : Refused) → HasColumns n M → length r ≡ length M
    → Contains (elimination_ops n (lines_of (invert_rows M))) op → Contains (elimination_ops n (lines_of (solve_rows M r))) op
invert_operations_are n M r op h e k =
    operations_without n (n + suc (length M)) n (solve_rows M r) op (omega arith) (solve_rows_width n M r h)
    (subst (λ rows. Contains (elimination_ops n (lines_of rows)) op) (sym (invert_rows_are n M r h e)) k)

-- and each column has its pivot in both, or in neither
row_of_pivot-without : (i c : ℕ) (ls : List Line) → row_of_pivot c (map (line_without i) ls) ≡ option_map (without i) (row_of_pivot c ls)
row_of_pivot-without i c [] = row_of_pivot-none c ∙ ap (option_map (without i)) (sym (row_of_pivot-none c))
row_of_pivot-without i c (l ∷ ls) = bool_cases (is_pivot c l.pivot)
    (λ e. row_of_pivot-here c (line_without i l) (map (line_without i) ls) e ∙ ap (option_map (without i)) (sym (row_of_pivot-here c l ls e)))
    (λ e. row_of_pivot-later c (line_without i l) (map (line_without i) ls) e ∙ row_of_pivot-without i c ls ∙ ap (option_map (without i)) (sym (row_of_pivot-later c l ls e)))

pub pivots_are : (n : ℕ) (M : List (List ℚ)) (r : List ℚ) (c : ℕ) → HasColumns n M → length r ≡ length M
    → row_of_pivot c (eliminated n (lines_of (invert_rows M))) ≡ option_map (without n) (row_of_pivot c (eliminated n (lines_of (solve_rows M r))))
pivots_are n M r c h e = ap (row_of_pivot c) (invert_lines_are n M r h e) ∙ row_of_pivot-without n c (eliminated n (lines_of (solve_rows M r)))

pub invert_rows_width : (n : ℕ) (M : List (List ℚ)) → HasColumns n M → HasColumns (n + length M) (invert_rows M)
invert_rows_width n M h =
    All-from_recursion (λ row. length row ≡ n + length M) (invert_rows M)
    (width-beside n (length M) M (unit_matrix (length M)) (recursion_from_All (λ row. length row ≡ n) M h) (width-unit_rows (length M) 0 (length M)))
