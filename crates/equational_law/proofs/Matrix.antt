-- The form's matrix and right sides, with multipliers: as the un-negated equations have them.
use Rattle.std.specs.Prelude.{◌≡◌, ℕ, suc, ◌+◌, ◌-◌, ◌≤◌, List, [], ◌∷◌, ◌++◌, length, drop, map, Option, Some, None, All, Bool, true, false}
use Rattle.std.proofs.Common.{arith, sym, subst, ◌∙◌, ap, refl, cond, length-append}
use Rattle.std.proofs.lemmas.List.{append_assoc}
use Rattle.std.proofs.lemmas.List.Elements.{All-head, All-tail, All-append, All-cons, All-nil}
use Rattle.algebra.proofs.Polynomial.{◌⊕◌, ◌⊗◌, ◌≐◌, lit, minus}
use Rattle.algebra.proofs.Solver.{ring}
use Rattle.rational.specs.Rational.{ℚ, zero_ℚ, one_ℚ, neg_ℚ, ◌+ℚ◌, ◌-ℚ◌, ◌*ℚ◌}
use Rattle.rational.specs.Order.{same_fields}
use Rattle.rational.specs.Vectors.{dot, zeros, rows_dot, unit_vector, HasColumns}
use Rattle.rational.proofs.Field.{rationals}
use Rattle.rational.proofs.Vectors.{dot-zeros_left, dot-append, length-zeros}
use Rattle.program_law.specs.declared.Row.{Row}
use Rattle.program_law.specs.Region.{Region}
use Rattle.equational_law.specs.Standing.{spread, parts}
use Rattle.equational_law.specs.Equations.{Equation, count_by, row_equations_by, slacks_at, row_slacks, row_equations, bound_equation_by, bound_slacks_by, bound_slacks, bound_equations, entries_in, is_negated, matrix_row, right_of}
use Rattle.equational_law.specs.Form.{unsigned, unsigned_by}
use Rattle.equational_law.proofs.Adjoint.{dot-append_left, length-spread}
use Rattle.equational_law.proofs.Between.{length-negated}
use Rattle.equational_law.proofs.Forms.{dot-map_neg}
use Rattle.equational_law.proofs.Carried.{left_at, right_side}

-- an equation with n entries on the columns, whose own slacks are among so many
pub record FitsIn (n slacks : ℕ) (e : Equation) : Type 0 where
  pub columns : length e.entries ≡ n
  pub among : e.before + length e.own ≤ slacks

-- ---- one equation

regrouped : (a b c d : List ℚ) → a ++ b ++ c ++ d ≡ a ++ (b ++ c ++ d)
regrouped a b c d = ap (λ (l : List ℚ). l ++ d) (append_assoc a b c) ∙ append_assoc a (b ++ c) d

entries_at : (n slacks : ℕ) (e : Equation) (x z : List ℚ) → FitsIn n slacks e → length x ≡ n → dot (entries_in slacks e) (x ++ z) ≡ left_at x z e
entries_at n slacks e x z f h =
    let more = slacks - (e.before + length e.own) in
    let w = drop e.before z in
    ap (λ l. dot l (x ++ z)) (regrouped e.entries (zeros e.before) e.own (zeros more))
    ∙ dot-append e.entries (zeros e.before ++ e.own ++ zeros more) x z (f.columns ∙ sym h)
    ∙ ap (λ t. dot e.entries x +ℚ t)
    (dot-append_left (zeros e.before ++ e.own) (zeros more) z
    ∙ ap (λ t. dot (zeros e.before ++ e.own) z +ℚ t) (dot-zeros_left more (drop (length (zeros e.before ++ e.own)) z))
    ∙ ap (λ t. t +ℚ zero_ℚ) (dot-append_left (zeros e.before) e.own z)
    ∙ ap (λ t. t +ℚ dot e.own (drop (length (zeros e.before)) z) +ℚ zero_ℚ) (dot-zeros_left e.before z)
    ∙ ap (λ (k : ℕ). zero_ℚ +ℚ dot e.own (drop k z) +ℚ zero_ℚ) (length-zeros e.before)
    ∙ ring rationals (dot e.own w ∷ []) (λ t. lit 0 ⊕ t ⊕ lit 0 ≐ t) refl)

row_at_point : (n slacks : ℕ) (e : Equation) (y : ℚ) (x z : List ℚ) → FitsIn n slacks e → length x ≡ n → y *ℚ dot (matrix_row slacks e) (x ++ z) ≡ unsigned_by e y *ℚ left_at x z e
row_at_point n slacks e y x z f h = by (is_negated e)
  where
    t : ℚ
    t = left_at x z e

    by : (b : Bool) → y *ℚ dot (cond b (map neg_ℚ (entries_in slacks e)) (entries_in slacks e)) (x ++ z) ≡ cond b (neg_ℚ y) y *ℚ t
    by true =
        ap (λ s. y *ℚ s) (dot-map_neg (entries_in slacks e) (x ++ z) ∙ ap neg_ℚ (entries_at n slacks e x z f h))
        ∙ ring rationals (y ∷ t ∷ []) (λ y t. y ⊗ minus t ≐ minus y ⊗ t) refl
    by false = ap (λ s. y *ℚ s) (entries_at n slacks e x z f h)

right_at : (e : Equation) (y : ℚ) → y *ℚ right_of e ≡ unsigned_by e y *ℚ e.right
right_at e y = by (is_negated e)
  where
    by : (b : Bool) → y *ℚ cond b (neg_ℚ e.right) e.right ≡ cond b (neg_ℚ y) y *ℚ e.right
    by true = ring rationals (y ∷ e.right ∷ []) (λ y t. y ⊗ minus t ≐ minus y ⊗ t) refl
    by false = refl

length-entries_in : (n slacks : ℕ) (e : Equation) → FitsIn n slacks e → length (entries_in slacks e) ≡ n + slacks
length-entries_in n slacks e f =
    let more = slacks - (e.before + length e.own) in
    ap length (regrouped e.entries (zeros e.before) e.own (zeros more))
    ∙ length-append e.entries (zeros e.before ++ e.own ++ zeros more)
    ∙ rw (length-append (zeros e.before ++ e.own) (zeros more), length-append (zeros e.before) e.own, length-zeros e.before, length-zeros more, f.columns)
    (by e.before (length e.own) f.among)
  where
    by : (a b : ℕ) → a + b ≤ slacks → n + (a + b + (slacks - (a + b))) ≡ n + slacks
    by a b h = omega arith

length-matrix_row : (n slacks : ℕ) (e : Equation) → FitsIn n slacks e → length (matrix_row slacks e) ≡ n + slacks
length-matrix_row n slacks e f = by (is_negated e)
  where
    by : (b : Bool) → length (cond b (map neg_ℚ (entries_in slacks e)) (entries_in slacks e)) ≡ n + slacks
    by true = length-negated (entries_in slacks e) ∙ length-entries_in n slacks e f
    by false = length-entries_in n slacks e f

-- ---- all equations

pub matrix_at : (n slacks : ℕ) (es : List Equation) (y x z : List ℚ) → All (FitsIn n slacks) es → length x ≡ n → length y ≡ length es
    → dot y (rows_dot (map (matrix_row slacks) es) (x ++ z)) ≡ dot (unsigned es y) (map (left_at x z) es)
matrix_at n slacks [] [] x z f h k = refl
matrix_at n slacks [] (a ∷ y) x z f h k = absurd (omega arith)
matrix_at n slacks (e ∷ es) [] x z f h k = absurd (omega arith)
matrix_at n slacks (e ∷ es) (a ∷ y) x z f h k =
    ap (λ t. t +ℚ dot y (rows_dot (map (matrix_row slacks) es) (x ++ z))) (row_at_point n slacks e a x z (All-head (FitsIn n slacks) e es f) h)
    ∙ ap (λ t. unsigned_by e a *ℚ left_at x z e +ℚ t) (matrix_at n slacks es y x z (All-tail (FitsIn n slacks) e es f) h (omega arith))

pub rights_at : (es : List Equation) (y : List ℚ) → length y ≡ length es → dot y (map right_of es) ≡ dot (unsigned es y) (map right_side es)
rights_at [] [] k = refl
rights_at [] (a ∷ y) k = absurd (omega arith)
rights_at (e ∷ es) [] k = absurd (omega arith)
rights_at (e ∷ es) (a ∷ y) k =
    ap (λ t. t +ℚ dot y (map right_of es)) (right_at e a) ∙ ap (λ t. unsigned_by e a *ℚ e.right +ℚ t) (rights_at es y (omega arith))

pub matrix_columns : (n slacks : ℕ) (es : List Equation) → All (FitsIn n slacks) es → HasColumns (n + slacks) (map (matrix_row slacks) es)
matrix_columns n slacks [] f = All-nil (λ r. length r ≡ n + slacks)
matrix_columns n slacks (e ∷ es) f =
    All-cons (λ r. length r ≡ n + slacks) (matrix_row slacks e) (map (matrix_row slacks) es) (length-matrix_row n slacks e (All-head (FitsIn n slacks) e es f))
    (matrix_columns n slacks es (All-tail (FitsIn n slacks) e es f))

-- ---- the equations of rows and columns fit

row_fits : (low high : Option ℚ) (k : ℕ) (row : List ℚ) (a : ℚ) (slacks : ℕ) → k + (count_by low high).1 ≤ slacks → All (FitsIn (length row) slacks) (row_equations_by low high k row a)
row_fits (Some l) (Some u) k row a slacks h = by (same_fields l u) h
  where
    P : Equation → Type 0
    P = FitsIn (length row) slacks

    by : (t : Bool) → k + (cond {A = ℕ × ℕ} t (1, 0) (2, 2)).1 ≤ slacks
        → All P (cond t (record { entries = row; before = k; own = []; right = l -ℚ a } ∷ [])
        (record { entries = row; before = k; own = one_ℚ ∷ []; right = u -ℚ a } ∷ record { entries = zeros (length row); before = k; own = one_ℚ ∷ one_ℚ ∷ []; right = u -ℚ l } ∷ []))
    by true h =
        let e : Equation = record { entries = row; before = k; own = []; right = l -ℚ a } in
        All-cons P e [] (record { columns = refl; among = h }) (All-nil P)
    by false h =
        let e : Equation = record { entries = row; before = k; own = one_ℚ ∷ []; right = u -ℚ a } in
        let d : Equation = record { entries = zeros (length row); before = k; own = one_ℚ ∷ one_ℚ ∷ []; right = u -ℚ l } in
        All-cons P e (d ∷ []) (record { columns = refl; among = one k h }) (All-cons P d [] (record { columns = length-zeros (length row); among = h }) (All-nil P))
      where
        one : (k : ℕ) → k + 2 ≤ slacks → k + 1 ≤ slacks
        one k h = omega arith
row_fits (Some l) None k row a slacks h = All-cons (FitsIn (length row) slacks) _ [] (record { columns = refl; among = h }) (All-nil (FitsIn (length row) slacks))
row_fits None (Some u) k row a slacks h = All-cons (FitsIn (length row) slacks) _ [] (record { columns = refl; among = h }) (All-nil (FitsIn (length row) slacks))
row_fits None None k row a slacks h = All-nil (FitsIn (length row) slacks)

pub rows_fit : (region : Region) (h : List ℚ) (k : ℕ) (ss : List Row) (rows : List (List ℚ)) (slacks : ℕ) → k + row_slacks ss ≤ slacks
    → All (FitsIn (parts region) slacks) (row_equations region h k ss rows)
rows_fit region h k [] rows slacks le = All-nil (FitsIn (parts region) slacks)
rows_fit region h k (s ∷ ss) [] slacks le = All-nil (FitsIn (parts region) slacks)
rows_fit region h k (s ∷ ss) (row ∷ rows) slacks le =
    All-append (FitsIn (parts region) slacks) _ _
    (subst (λ (n : ℕ). All (FitsIn n slacks) (row_equations_by s.low s.high k (spread region row) (dot row h))) (length-spread region row)
    (row_fits s.low s.high k (spread region row) (dot row h) slacks (first k (slacks_at s) (row_slacks ss) le)))
    (rows_fit region h (k + slacks_at s) ss rows slacks (second k (slacks_at s) (row_slacks ss) le))
  where
    first : (a b c : ℕ) → a + (b + c) ≤ slacks → a + b ≤ slacks
    first a b c h = omega arith

    second : (a b c : ℕ) → a + (b + c) ≤ slacks → a + b + c ≤ slacks
    second a b c h = omega arith

bound_fits : (low high : Option ℚ) (k : ℕ) (unit : List ℚ) (slacks : ℕ) → k + bound_slacks_by low high ≤ slacks → All (FitsIn (length unit) slacks) (bound_equation_by low high k unit)
bound_fits (Some l) (Some u) k unit slacks h = All-cons (FitsIn (length unit) slacks) _ [] (record { columns = refl; among = h }) (All-nil (FitsIn (length unit) slacks))
bound_fits (Some l) None k unit slacks h = All-nil (FitsIn (length unit) slacks)
bound_fits None (Some u) k unit slacks h = All-nil (FitsIn (length unit) slacks)
bound_fits None None k unit slacks h = All-nil (FitsIn (length unit) slacks)

pub bounds_fit : (region : Region) (k j : ℕ) (bs : Region) (slacks : ℕ) → k + bound_slacks bs ≤ slacks → All (FitsIn (parts region) slacks) (bound_equations region k j bs)
bounds_fit region k j [] slacks le = All-nil (FitsIn (parts region) slacks)
bounds_fit region k j (b ∷ bs) slacks le =
    let unit = spread region (unit_vector (length region) j) in
    All-append (FitsIn (parts region) slacks) _ _
    (subst (λ (n : ℕ). All (FitsIn n slacks) (bound_equation_by b.low b.high k unit)) (length-spread region (unit_vector (length region) j))
    (bound_fits b.low b.high k unit slacks (first k (bound_slacks_by b.low b.high) (bound_slacks bs) le)))
    (bounds_fit region (k + bound_slacks_by b.low b.high) (suc j) bs slacks (second k (bound_slacks_by b.low b.high) (bound_slacks bs) le))
  where
    first : (a b c : ℕ) → a + (b + c) ≤ slacks → a + b ≤ slacks
    first a b c h = omega arith

    second : (a b c : ℕ) → a + (b + c) ≤ slacks → a + b + c ≤ slacks
    second a b c h = omega arith
