-- The inverse: where each column has a pivot it is one, and else the columns are dependent.
use Rattle.std.proofs.Common.{◌≡◌, ◌≢◌, ℕ, zero, suc, ◌+◌, ◌<◌, ◌≤◌, List, [], ◌∷◌, ◌++◌, map, length, take, drop, Option, Some, None, false, sym, ap, ◌∙◌, subst, refl, arith, inl, inr}
use Rattle.std.specs.Prelude.{◌⊎◌}
use Rattle.std.specs.List.{AllByRecursion}
use Rattle.std.proofs.lemmas.List.Elements.{recursion_from_All, All-from_recursion}
use Rattle.algebra.proofs.Polynomial.{minus, ◌⊕◌, ◌⊗◌, ◌≐◌, lit}
use Rattle.algebra.proofs.Solver.{ring}
use Rattle.algebra.proofs.Certificate.{prove, given, ◌⇐◌}
use Rattle.rational.specs.Rational.{ℚ, zero_ℚ, one_ℚ, ◌+ℚ◌, ◌*ℚ◌, neg_ℚ}
use Rattle.rational.specs.Sums.{entry}
use Rattle.rational.specs.Vectors.{dot, add_each, scale, zeros, unit_vector, HasColumns, rows_dot, row_at, combine}
use Rattle.rational.proofs.Field.{rationals}
use Rattle.rational.proofs.Order.{ordered_rationals}
use Rattle.rational.proofs.Vectors.{length-scale, length-unit_vector, length-rows_dot, length-combine, dot_comm, dot-scale_right, dot-unit_vector, same_by_dot, same_by_entries, transpose, entry-rows_dot, entry-unit_vector_same, entry-unit_vector_other}
use Rattle.elimination_law.specs.Elimination.{Line, unused, used, is_pivot, pivot_row, divided, freed, step, eliminated}
use Rattle.elimination_law.specs.Answers.{unit_rows, unit_matrix, beside, invert_rows, lines_of, row_of_pivot, part_then, inverse_from, inverse}
use Rattle.elimination_law.specs.Meaning.{Shaped, Depends, IsInverse, IsInverseOrDepends}
use Rattle.elimination_law.proofs.Lines.{each_both, each_weaker, found, by_pivot_row, step-none, stepped, eliminated_keeps_all}
use Rattle.elimination_law.proofs.Pivots.{AreShaped, shaped-step, shaped-first, none_yet, row_of_pivot-none, row_of_pivot-later, row_of_pivot-step, line_of_pivot, pivot-freed, mapped, other_column, column_cases}
use Rattle.elimination_law.proofs.Vectors.{entry-take, length-front, length-back, length-unit_rows, width-unit_rows, rows_dot-unit, rows_dot-zeros, width-beside, itself_less, same_of_less}
use Rattle.elimination_law.proofs.Tailed as tailed
use Rattle.elimination_law.proofs.Free as free_columns

-- ---- counting the used lines

abbrev one_if_used : Option ℕ → ℕ
one_if_used None = 0
one_if_used (Some k) = 1

abbrev count_used : List Line → ℕ
count_used [] = 0
count_used (l ∷ ls) = one_if_used l.pivot + count_used ls

count-middle : (xs : List Line) (j : ℕ) (row p : List ℚ) (ys : List Line) → count_used (xs ++ used j p ∷ ys) ≡ suc (count_used (xs ++ unused row ∷ ys))
count-middle [] j row p ys = omega arith
count-middle (x ∷ xs) j row p ys = let h = count-middle xs j row p ys in omega arith

count-freed : (j : ℕ) (p : List ℚ) (ls : List Line) → count_used (map (freed j p) ls) ≡ count_used ls
count-freed j p [] = refl
count-freed j p (l ∷ ls) = ap (λ o. one_if_used o + count_used (map (freed j p) ls)) (pivot-freed j p l) ∙ ap (λ k. one_if_used l.pivot + k) (count-freed j p ls)

count-step : (j : ℕ) (ls : List Line) (row : List ℚ) → pivot_row j ls ≡ Some row → count_used (step j ls) ≡ suc (count_used ls)
count-step j ls row e =
    let f = found j ls row e in
    let p = divided (entry row j) row in
    ap count_used (stepped j ls row e) ∙ count-freed j p (f.before ++ used j p ∷ f.after) ∙ count-middle f.before j row p f.after ∙ ap (λ l. suc (count_used l)) (sym f.is)

length-middle : {X : Type 0} (xs : List X) (x y : X) (ys : List X) → length (xs ++ x ∷ ys) ≡ length (xs ++ y ∷ ys)
length-middle [] x y ys = refl
length-middle (z ∷ xs) x y ys = ap suc (length-middle xs x y ys)

length-mapped : {X Y : Type 0} (f : X → Y) (xs : List X) → length (map f xs) ≡ length xs
length-mapped f [] = refl
length-mapped f (x ∷ xs) = ap suc (length-mapped f xs)

length-step : (j : ℕ) (ls : List Line) → length (step j ls) ≡ length ls
length-step j ls = by_pivot_row j ls
    (λ e. ap length (step-none j ls e))
    (λ row e.
    let f = found j ls row e in
    let p = divided (entry row j) row in
    ap length (stepped j ls row e) ∙ length-mapped (freed j p) (f.before ++ used j p ∷ f.after) ∙ length-middle f.before (used j p) (unused row) f.after ∙ ap length (sym f.is))

at_most : (o : Option ℕ) → one_if_used o ≤ 1
at_most None = omega arith
at_most (Some k) = omega arith

count-most : (ls : List Line) → count_used ls ≤ length ls
count-most [] = omega arith
count-most (l ∷ ls) = let a = at_most l.pivot in let b = count-most ls in omega arith

-- where as many are used as there are lines, each is
all_used : (ls : List Line) → count_used ls ≡ length ls → AllByRecursion (λ l. (k : ℕ) × (l.pivot ≡ Some k)) ls
all_used [] h = tt
all_used (l ∷ ls) h = by l.pivot refl (all_used ls (rest h))
  where
    rest : one_if_used l.pivot + count_used ls ≡ suc (length ls) → count_used ls ≡ length ls
    rest h = let a = at_most l.pivot in let b = count-most ls in omega arith

    by : (o : Option ℕ) → l.pivot ≡ o → AllByRecursion (λ l. (k : ℕ) × (l.pivot ≡ Some k)) ls → AllByRecursion (λ l. (k : ℕ) × (l.pivot ≡ Some k)) (l ∷ ls)
    by None e more = absurd (let b = count-most ls in let c : 0 + count_used ls ≡ suc (length ls) = ap (λ o. one_if_used o + count_used ls) (sym e) ∙ h in omega arith)
    by (Some k) e more = ((k, e), more)

-- each column before j has a pivot
abbrev HavePivots : ℕ → List Line → Type 0
HavePivots j ls = (c : ℕ) → c < j → (row : List ℚ) × (row_of_pivot c ls ≡ Some row)

no_row : (j : ℕ) (ls : List Line) → AllByRecursion (λ l. is_pivot j l.pivot ≡ false) ls → row_of_pivot j ls ≡ None
no_row j [] h = row_of_pivot-none j
no_row j (l ∷ ls) h = row_of_pivot-later j l ls h.0 ∙ no_row j ls h.1

record Counted (w j size : ℕ) (ls : List Line) : Type 0 where
  pub shapes : AreShaped w j ls
  pub height : length ls ≡ size
  pub count : HavePivots j ls → count_used ls ≡ j

counted-step : (w size j : ℕ) (ls : List Line) → Counted w j size ls → Counted w (suc j) size (step j ls)
counted-step w size j ls s = record {
  shapes = shaped-step w j ls s.shapes;
  height = length-step j ls ∙ s.height;
  count = λ h. by_pivot_row j ls
      (λ e. absurd (let x = h j (omega arith) in let bad : None ≡ Some x.0 = sym (no_row j ls (none_yet w j ls s.shapes)) ∙ ap (row_of_pivot j) (sym (step-none j ls e)) ∙ x.1 in cc))
      (λ row e. count-step j ls row e ∙ ap suc (s.count (λ c b.
      let x = h c (omega arith) in
      let differ : c ≢ j = omega arith in
      mapped _ (row_of_pivot c ls) x.0 (sym (row_of_pivot-step c j ls row e differ) ∙ x.1))));
}

count-first : (rows : List (List ℚ)) → count_used (map unused rows) ≡ 0
count-first [] = refl
count-first (row ∷ rows) = let h = count-first rows in omega arith

counted : (w n : ℕ) (rows : List (List ℚ)) → AllByRecursion (λ r. length r ≡ w) rows → Counted w n (length rows) (eliminated n (map unused rows))
counted w n rows h =
    eliminated_keeps_all (λ j ls. Counted w j (length rows) ls) (counted-step w (length rows)) n (map unused rows)
    (record { shapes = shaped-first w rows rows h; height = length-mapped unused rows; count = λ _. count-first rows })

-- ---- the rows of the inverse

record RowsOf (k j n : ℕ) (ls : List Line) (N : List (List ℚ)) : Type 0 where
  pub height : length N ≡ k
  pub at : (c : ℕ) → c < k → (row : List ℚ) × (row_of_pivot (j + c) ls ≡ Some row) × (row_at N c ≡ drop n row)

rows_then : (n : ℕ) (o : Option (List ℚ)) (u : Option (List (List ℚ))) (N : List (List ℚ)) → part_then n o u ≡ Some N
    → (row : List ℚ) × (rows : List (List ℚ)) × (o ≡ Some row) × (u ≡ Some rows) × (N ≡ drop n row ∷ rows)
rows_then n None u N h = absurd cc
rows_then n (Some row) None N h = absurd cc
rows_then n (Some row) (Some rows) N h = (row, rows, refl, refl, cc)

rows_none : (n : ℕ) (o : Option (List ℚ)) (u : Option (List (List ℚ))) → part_then n o u ≡ None → (o ≡ None) ⊎ (u ≡ None)
rows_none n None u h = inl refl
rows_none n (Some row) None h = inr refl
rows_none n (Some row) (Some rows) h = absurd cc

no_rows : (N : List (List ℚ)) → Some [] ≡ Some N → N ≡ []
no_rows N e = cc

rows_of : (k j n : ℕ) (ls : List Line) (N : List (List ℚ)) → inverse_from k j n ls ≡ Some N → RowsOf k j n ls N
rows_of zero j n ls N h = record { height = ap length (no_rows N h); at = λ c l. absurd (omega arith) }
rows_of (suc k) j n ls N h =
    let t = rows_then n (row_of_pivot j ls) (inverse_from k (suc j) n ls) N h in
    more k j n ls N t.0 t.1 t.2 t.4 (rows_of k (suc j) n ls t.1 t.3)
  where
    more : (k j n : ℕ) (ls : List Line) (N : List (List ℚ)) (row : List ℚ) (rows : List (List ℚ)) → row_of_pivot j ls ≡ Some row → N ≡ drop n row ∷ rows
        → RowsOf k (suc j) n ls rows → RowsOf (suc k) j n ls N
    more k j n ls N row rows e f s = record { height = ap length f ∙ ap suc s.height; at = at }
      where
        from : (j c : ℕ) → suc j + c ≡ j + suc c
        from j c = omega arith

        start : (j : ℕ) → j ≡ j + zero
        start j = omega arith

        at : (c : ℕ) → c < suc k → (row : List ℚ) × (row_of_pivot (j + c) ls ≡ Some row) × (row_at N c ≡ drop n row)
        at zero l = (row, ap (λ i. row_of_pivot i ls) (sym (start j)) ∙ e, ap (λ X. row_at X 0) f)
        at (suc c) l = let t = s.at c (omega arith) in (t.0, ap (λ i. row_of_pivot i ls) (sym (from j c)) ∙ t.1, ap (λ X. row_at X (suc c)) f ∙ t.2)

missing : (k j n : ℕ) (ls : List Line) → inverse_from k j n ls ≡ None → (c : ℕ) × (c < k) × (row_of_pivot (j + c) ls ≡ None)
missing zero j n ls h = absurd cc
missing (suc k) j n ls h = by (rows_none n (row_of_pivot j ls) (inverse_from k (suc j) n ls) h) (missing k (suc j) n ls)
  where
    from : (j c : ℕ) → suc j + c ≡ j + suc c
    from j c = omega arith

    start : (j : ℕ) → j ≡ j + zero
    start j = omega arith

    by : (row_of_pivot j ls ≡ None) ⊎ (inverse_from k (suc j) n ls ≡ None) → (inverse_from k (suc j) n ls ≡ None → (c : ℕ) × (c < k) × (row_of_pivot (suc j + c) ls ≡ None))
        → (c : ℕ) × (c < suc k) × (row_of_pivot (j + c) ls ≡ None)
    by (inl e) f = (0, omega arith, ap (λ i. row_of_pivot i ls) (sym (start j)) ∙ e)
    by (inr e) f = let t = f e in (suc (t.0), (let b = t.1 in omega arith), ap (λ i. row_of_pivot i ls) (sym (from j t.0)) ∙ t.2)

-- ---- lists of rows

same_by_rows : (A B : List (List ℚ)) → length A ≡ length B → ((c : ℕ) → c < length A → row_at A c ≡ row_at B c) → A ≡ B
same_by_rows [] [] h f = refl
same_by_rows [] (b ∷ B) h f = absurd (omega arith)
same_by_rows (a ∷ A) [] h f = absurd (omega arith)
same_by_rows (a ∷ A) (b ∷ B) h f = ap (λ r. r ∷ A) (f 0 (omega arith)) ∙ ap (λ R. b ∷ R) (same_by_rows A B (omega arith) (λ c l. f (suc c) (omega arith)))

row_at-map : (f : List ℚ → List ℚ) (A : List (List ℚ)) (c : ℕ) → c < length A → row_at (map f A) c ≡ f (row_at A c)
row_at-map f [] c h = absurd (omega arith)
row_at-map f (a ∷ A) zero h = refl
row_at-map f (a ∷ A) (suc c) h = row_at-map f A c (omega arith)

row_at-unit_rows : (m i k c : ℕ) → c < k → row_at (unit_rows m i k) c ≡ unit_vector m (i + c)
row_at-unit_rows m i zero c h = absurd (omega arith)
row_at-unit_rows m i (suc k) zero h = ap (unit_vector m) (at i)
  where
    at : (i : ℕ) → i ≡ i + zero
    at i = omega arith
row_at-unit_rows m i (suc k) (suc c) h = row_at-unit_rows m (suc i) k c (omega arith) ∙ ap (unit_vector m) (at i c)
  where
    at : (i c : ℕ) → suc i + c ≡ i + suc c
    at i c = omega arith

each_row : (P : List ℚ → Type 0) (A : List (List ℚ)) → ((c : ℕ) → c < length A → P (row_at A c)) → AllByRecursion P A
each_row P [] f = tt
each_row P (a ∷ A) f = (f 0 (omega arith), each_row P A (λ c l. f (suc c) (omega arith)))

start_at : (c : ℕ) → 0 + c ≡ c
start_at c = omega arith

-- ---- the rows of [M | I], where M is square

module _ (n : ℕ) (M : List (List ℚ)) (columns : HasColumns n M) (square : length M ≡ n) where
  abbrev m : ℕ
  m = length M

  abbrev I : List (List ℚ)
  I = unit_matrix m

  abbrev w : ℕ
  w = n + m

  abbrev pub final : List Line
  final = eliminated n (lines_of (invert_rows M))

  m_width : AllByRecursion (λ row. length row ≡ n) M
  m_width = recursion_from_All (λ row. length row ≡ n) M columns

  i_width : AllByRecursion (λ row. length row ≡ m) I
  i_width = width-unit_rows m 0 m

  heights : length M ≡ length I
  heights = sym (length-unit_rows m 0 m)

  length-beside : (M X : List (List ℚ)) → length M ≡ length X → length (beside M X) ≡ length M
  length-beside [] X h = refl
  length-beside (row ∷ M) [] h = absurd (omega arith)
  length-beside (row ∷ M) (x ∷ X) h = ap suc (length-beside M X (omega arith))

  count : Counted w n (length (invert_rows M)) final
  count = counted w n (invert_rows M) (width-beside n m M I m_width i_width)

  shapes : AreShaped w n final
  shapes = count.shapes

  n_within : n ≤ w
  n_within = omega arith

  -- what a row has before column n is a combination of the rows of M, by its part under the unit matrix
  pub front_is : (z : List ℚ) → length z ≡ n → AllByRecursion (λ l. dot (take n l.entries) z ≡ dot (drop n l.entries) (rows_dot M z)) final
  front_is z e =
      let a = rows_dot M z in
      let la : length a ≡ m = length-rows_dot M z in
      let u = scale (neg_ℚ one_ℚ) a in
      each_weaker (λ l. dot (take n l.entries) z +ℚ dot (drop n l.entries) u ≡ zero_ℚ) (λ l. dot (take n l.entries) z ≡ dot (drop n l.entries) a) final
      (λ l h. less_is (dot (take n l.entries) z) (dot (drop n l.entries) a) (dot (drop n l.entries) u) (dot-scale_right (drop n l.entries) (neg_ℚ one_ℚ) a) h)
      (tailed.there n m M I m_width i_width heights z u e
      (ap (add_each a) (rows_dot-unit m u (length-scale (neg_ℚ one_ℚ) a ∙ la)) ∙ itself_less a ∙ ap zeros la))
    where
      less_is : (d b u : ℚ) → u ≡ neg_ℚ one_ℚ *ℚ b → d +ℚ u ≡ zero_ℚ → d ≡ b
      less_is d b u f h = prove ordered_rationals (d ∷ b ∷ []) (λ d b. d ≐ b ⇐ given (d ⊕ minus (lit 1) ⊗ b ≐ lit 0)) refl (ap (λ t. d +ℚ t) (sym f) ∙ h)

  -- and back
  pub rows_span : (z v : List ℚ) → length z ≡ n → length v ≡ m → AllByRecursion (λ l. dot (take n l.entries) z ≡ dot (drop n l.entries) v) final → rows_dot M z ≡ v
  rows_span z v e f h =
      let u = scale (neg_ℚ one_ℚ) v in
      same_of_less (rows_dot M z) v (length-rows_dot M z ∙ sym f)
      (ap (add_each (rows_dot M z)) (sym (rows_dot-unit m u (length-scale (neg_ℚ one_ℚ) v ∙ f)))
      ∙ tailed.back n m M I m_width i_width heights z u e
      (each_weaker (λ l. dot (take n l.entries) z ≡ dot (drop n l.entries) v) (λ l. dot (take n l.entries) z +ℚ dot (drop n l.entries) u ≡ zero_ℚ) final
      (λ l g. none_left (dot (take n l.entries) z) (dot (drop n l.entries) v) (dot (drop n l.entries) u) g (dot-scale_right (drop n l.entries) (neg_ℚ one_ℚ) v)) h)
      ∙ ap zeros (sym (length-rows_dot M z)))
    where
      none_left : (d b u : ℚ) → d ≡ b → u ≡ neg_ℚ one_ℚ *ℚ b → d +ℚ u ≡ zero_ℚ
      none_left d b u g f = ap (λ t. t +ℚ u) g ∙ ap (λ t. b +ℚ t) f ∙ ring rationals (b ∷ []) (λ b. b ⊕ minus (lit 1) ⊗ b ≐ lit 0) refl

  -- ---- each column has a pivot

  module _ (N : List (List ℚ)) (e : inverse n M ≡ Some N) where
    rows : RowsOf n 0 n final N
    rows = rows_of n 0 n final N e

    -- the row of the pivot of column c, whose part is row c of N
    row : (c : ℕ) → c < n → (r : List ℚ) × (row_of_pivot c final ≡ Some r) × (row_at N c ≡ drop n r)
    row c h = let t = rows.at c h in (t.0, ap (λ i. row_of_pivot i final) (sym (start_at c)) ∙ t.1, t.2)

    pivots : HavePivots n final
    pivots c h = let t = row c h in (t.0, t.1)

    used_lines : AllByRecursion (λ l. (k : ℕ) × (l.pivot ≡ Some k)) final
    used_lines = all_used final (count.count pivots ∙ sym (count.height ∙ length-beside M I heights ∙ square))

    front_unit : (l : Line) (c : ℕ) → l.pivot ≡ Some c → Shaped w n final l → take n l.entries ≡ unit_vector n c
    front_unit l c p s =
        let f : length (take n l.entries) ≡ n = length-front n l.entries (let t = s.width in omega arith) in
        same_by_entries (take n l.entries) (unit_vector n c) (f ∙ sym (length-unit_vector n c)) (λ i h.
        let b : i < n = subst (λ t. i < t) f h in
        entry-take n l.entries i b
        ∙ column_cases i c
        (λ g. ap (entry l.entries) g ∙ s.one c p ∙ sym (entry-unit_vector_same n c (s.below c p)) ∙ ap (entry (unit_vector n c)) (sym g))
        (λ d. let t = pivots i b in s.other i t.0 t.1 (subst (λ o. is_pivot i o ≡ false) (sym p) (other_column c i (λ g. d (sym g)))) ∙ sym (entry-unit_vector_other n c i (λ g. d (sym g)))))

    row_gives : (z : List ℚ) (c : ℕ) → length z ≡ n → c < n → dot (row_at N c) (rows_dot M z) ≡ entry z c
    row_gives z c f h =
        let t = row c h in
        let s = line_of_pivot (Shaped w n final) c final t.0 t.1 shapes in
        ap (λ r. dot r (rows_dot M z)) t.2
        ∙ sym (line_of_pivot (λ l. dot (take n l.entries) z ≡ dot (drop n l.entries) (rows_dot M z)) c final t.0 t.1 (front_is z f))
        ∙ ap (λ r. dot r z) (front_unit (used c t.0) c refl s) ∙ dot-unit_vector n c z (omega arith)

    inverse_back : (z : List ℚ) → length z ≡ n → rows_dot N (rows_dot M z) ≡ z
    inverse_back z f =
        let g : length (rows_dot N (rows_dot M z)) ≡ n = length-rows_dot N (rows_dot M z) ∙ rows.height in
        same_by_entries (rows_dot N (rows_dot M z)) z (g ∙ sym f) (λ c h. entry-rows_dot N (rows_dot M z) c ∙ row_gives z c f (subst (λ t. c < t) g h))

    inverse_spans : (v : List ℚ) → length v ≡ n → rows_dot M (rows_dot N v) ≡ v
    inverse_spans v f =
        let z = rows_dot N v in
        let g : length z ≡ n = length-rows_dot N v ∙ rows.height in
        rows_span z v g (f ∙ sym square)
        (each_weaker (λ l. Shaped w n final l × ((k : ℕ) × (l.pivot ≡ Some k))) (λ l. dot (take n l.entries) z ≡ dot (drop n l.entries) v) final
        (λ l t.
        let k = t.1.0 in
        let p = t.1.1 in
        let b = t.0.below k p in
        let r = row k b in
        ap (λ u. dot u z) (front_unit l k p t.0) ∙ dot-unit_vector n k z (omega arith) ∙ entry-rows_dot N v k
        ∙ ap (λ u. dot u v) (r.2 ∙ ap (drop n) (same_row r.0 l.entries (sym r.1 ∙ t.0.own k p))))
        (each_both (Shaped w n final) (λ l. (k : ℕ) × (l.pivot ≡ Some k)) final shapes used_lines))
      where
        same_row : (u v : List ℚ) → Some u ≡ Some v → u ≡ v
        same_row u v e = cc

    row_width : (c : ℕ) → c < n → length (row_at N c) ≡ n
    row_width c h =
        let t = row c h in
        let s = line_of_pivot (Shaped w n final) c final t.0 t.1 shapes in
        ap length t.2 ∙ length-back n t.0 m s.width ∙ square

    row_product : (c : ℕ) → c < n → combine n (row_at N c) M ≡ unit_vector n c
    row_product c h =
        let r = row_at N c in
        let f : length (combine n r M) ≡ n = length-combine n r M columns in
        same_by_dot (combine n r M) (unit_vector n c) (f ∙ sym (length-unit_vector n c)) (λ z l.
        dot_comm z (combine n r M) ∙ sym (transpose n r M z columns) ∙ row_gives z c (l ∙ f) h
        ∙ sym (dot-unit_vector n c z (omega arith)) ∙ dot_comm (unit_vector n c) z)

    pub is_inverse : IsInverse n M N
    is_inverse = record {
      rows = rows.height;
      columns = All-from_recursion (λ r. length r ≡ n) N (each_row (λ r. length r ≡ n) N (λ c h. row_width c (subst (λ t. c < t) rows.height h)));
      product = same_by_rows (map (λ r. combine n r M) N) (unit_matrix n)
          (length-mapped (λ r. combine n r M) N ∙ rows.height ∙ sym (length-unit_rows n 0 n))
          (λ c h.
          let g : c < length N = subst (λ t. c < t) (length-mapped (λ r. combine n r M) N) h in
          let b : c < n = subst (λ t. c < t) rows.height g in
          row_at-map (λ r. combine n r M) N c g ∙ row_product c b ∙ sym (row_at-unit_rows n 0 n c b ∙ ap (unit_vector n) (start_at c)));
      back = inverse_back;
      spans = inverse_spans;
    }

  pub inverse_or_depends : IsInverseOrDepends n M (inverse n M)
  inverse_or_depends = by (inverse n M) refl
    where
      by : (o : Option (List (List ℚ))) → inverse n M ≡ o → IsInverseOrDepends n M o
      by (Some N) e = is_inverse N e
      by None e =
          let t = missing n 0 n final e in
          let free : row_of_pivot t.0 final ≡ None = ap (λ i. row_of_pivot i final) (sym (start_at t.0)) ∙ t.2 in
          free_columns.depends n m M I m_width i_width heights t.0 t.1 free

-- what has an inverse has no dependent columns
pub inverse_or_dependent : (n : ℕ) (M N : List (List ℚ)) (z : List ℚ) → IsInverse n M N → Depends n M z → ⊥
inverse_or_dependent n M N z i d = d.nonzero (sym (i.back z d.size) ∙ ap (rows_dot N) d.combined ∙ rows_dot-zeros N (length M) ∙ ap zeros i.rows)
