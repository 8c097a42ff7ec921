-- The multipliers of the equations, un-negated: what they make of the equations' left and right sides.
use Rattle.std.specs.Prelude.{◌≡◌, ◌⊎◌, ℕ, suc, ◌+◌, ◌≤◌, List, [], ◌∷◌, ◌++◌, length, drop, map, Option, Some, None, IsSome, All, Bool, true, false}
use Rattle.std.proofs.Common.{arith, sym, ◌∙◌, ap, refl, cond, inl, inr}
use Rattle.std.proofs.lemmas.List.{append_assoc}
use Rattle.std.proofs.lemmas.List.Elements.{All-head, All-tail}
use Rattle.algebra.proofs.Polynomial.{◌⊕◌, ◌⊝◌, ◌⊗◌, ◌≐◌, lit}
use Rattle.algebra.proofs.Solver.{ring}
use Rattle.rational.specs.Rational.{ℚ, zero_ℚ, one_ℚ, neg_ℚ, ◌+ℚ◌, ◌-ℚ◌, ◌*ℚ◌}
use Rattle.rational.specs.Order.{same_fields}
use Rattle.rational.specs.Sums.{entry}
use Rattle.rational.specs.Vectors.{dot, zeros, rows_dot, unit_vector}
use Rattle.rational.proofs.Field.{rationals}
use Rattle.rational.proofs.Vectors.{dot-zeros_left, dot-unit_vector, dot-nil_right}
use Rattle.program_law.specs.declared.Row.{Row}
use Rattle.program_law.specs.Program.{IsRow}
use Rattle.program_law.specs.Region.{Region}
use Rattle.equational_law.specs.Standing.{spread, change}
use Rattle.equational_law.specs.Equations.{Equation, count_by, row_equations_by, slacks_at, row_equations, bound_equation_by, bound_slacks_by, bound_equations}
use Rattle.equational_law.specs.Form.{firsts}
use Rattle.equational_law.proofs.Adjoint.{adjoint, dot-append_left, length-change}
use Rattle.equational_law.proofs.Between.{dot-first_back, dot-two, dot-from, drop-drop, one_slack, negated_slack, two_slacks}
use Rattle.equational_law.proofs.Taken.{signs_by, sides_by, part_by, bound_signs_by, bound_sides_by}
use Rattle.equational_law.proofs.Takes.{row_signs, row_sides, bound_parts, bound_signs, bound_sides}

-- the left side of an equation, where x stands on the columns and z on the slacks
abbrev pub left_at : List ℚ → List ℚ → Equation → ℚ
left_at x z e = dot e.entries x +ℚ dot e.own (drop e.before z)

abbrev pub right_side : Equation → ℚ
right_side e = e.right

-- the multipliers that are left behind those of the rows' equations
abbrev pub after : List Row → List ℚ → List ℚ
after [] y = y
after (s ∷ ss) y = after ss (drop (count_by s.low s.high).0 y)

-- ---- one row

row_left : (low high : Option ℚ) (k : ℕ) (row : List ℚ) (a : ℚ) (y x z : List ℚ) (rest : List Equation) → (IsSome low ⊎ IsSome high)
    → dot y (map (left_at x z) (row_equations_by low high k row a ++ rest))
    ≡ entry y 0 *ℚ dot row x +ℚ dot (signs_by low high (entry y 0) (entry y 1)) (drop k z) +ℚ dot (drop (count_by low high).0 y) (map (left_at x z) rest)
row_left (Some l) (Some u) k row a y x z rest some = by (same_fields l u)
  where
    by : (t : Bool)
        → dot y (map (left_at x z) (cond t (record { entries = row; before = k; own = []; right = l -ℚ a } ∷ [])
        (record { entries = row; before = k; own = one_ℚ ∷ []; right = u -ℚ a } ∷ record { entries = zeros (length row); before = k; own = one_ℚ ∷ one_ℚ ∷ []; right = u -ℚ l } ∷ []) ++ rest))
        ≡ entry y 0 *ℚ dot row x +ℚ dot (cond t [] ((entry y 0 +ℚ entry y 1) ∷ entry y 1 ∷ [])) (drop k z) +ℚ dot (drop (cond {A = ℕ × ℕ} t (1, 0) (2, 2)).0 y) (map (left_at x z) rest)
    by true =
        dot-first_back y (dot row x +ℚ zero_ℚ) (map (left_at x z) rest)
        ∙ ring rationals (entry y 0 ∷ dot row x ∷ dot (drop 1 y) (map (left_at x z) rest) ∷ []) (λ a r t. a ⊗ (r ⊕ lit 0) ⊕ t ≐ a ⊗ r ⊕ lit 0 ⊕ t) refl
    by false =
        let w = drop k z in let p = dot (one_ℚ ∷ []) w in let q = dot (one_ℚ ∷ one_ℚ ∷ []) w in
        let t = dot (drop 2 y) (map (left_at x z) rest) in
        dot-two y (dot row x +ℚ p) (dot (zeros (length row)) x +ℚ q) (map (left_at x z) rest)
        ∙ ap (λ o. entry y 0 *ℚ (dot row x +ℚ p) +ℚ (entry y 1 *ℚ (o +ℚ q) +ℚ t)) (dot-zeros_left (length row) x)
        ∙ ring rationals (entry y 0 ∷ entry y 1 ∷ dot row x ∷ p ∷ q ∷ t ∷ []) (λ a b r p q t. a ⊗ (r ⊕ p) ⊕ (b ⊗ (lit 0 ⊕ q) ⊕ t) ≐ a ⊗ r ⊕ (a ⊗ p ⊕ b ⊗ q) ⊕ t) refl
        ∙ ap (λ o. entry y 0 *ℚ dot row x +ℚ o +ℚ t) (two_slacks (entry y 0) (entry y 1) w)
row_left (Some l) None k row a y x z rest some =
    let w = drop k z in let p = dot (neg_ℚ one_ℚ ∷ []) w in let t = dot (drop 1 y) (map (left_at x z) rest) in
    dot-first_back y (dot row x +ℚ p) (map (left_at x z) rest)
    ∙ ring rationals (entry y 0 ∷ dot row x ∷ p ∷ t ∷ []) (λ a r p t. a ⊗ (r ⊕ p) ⊕ t ≐ a ⊗ r ⊕ a ⊗ p ⊕ t) refl
    ∙ ap (λ o. entry y 0 *ℚ dot row x +ℚ o +ℚ t) (negated_slack (entry y 0) w)
row_left None (Some u) k row a y x z rest some =
    let w = drop k z in let p = dot (one_ℚ ∷ []) w in let t = dot (drop 1 y) (map (left_at x z) rest) in
    dot-first_back y (dot row x +ℚ p) (map (left_at x z) rest)
    ∙ ring rationals (entry y 0 ∷ dot row x ∷ p ∷ t ∷ []) (λ a r p t. a ⊗ (r ⊕ p) ⊕ t ≐ a ⊗ r ⊕ a ⊗ p ⊕ t) refl
    ∙ ap (λ o. entry y 0 *ℚ dot row x +ℚ o +ℚ t) (one_slack (entry y 0) w)
row_left None None k row a y x z rest (inl none) = cc
row_left None None k row a y x z rest (inr none) = cc

row_right : (low high : Option ℚ) (k : ℕ) (row : List ℚ) (a : ℚ) (y : List ℚ) (rest : List Equation) → (IsSome low ⊎ IsSome high)
    → dot y (map right_side (row_equations_by low high k row a ++ rest))
    ≡ sides_by low high (entry y 0) (entry y 1) -ℚ entry y 0 *ℚ a +ℚ dot (drop (count_by low high).0 y) (map right_side rest)
row_right (Some l) (Some u) k row a y rest some = by (same_fields l u)
  where
    by : (t : Bool)
        → dot y (map right_side (cond t (record { entries = row; before = k; own = []; right = l -ℚ a } ∷ [])
        (record { entries = row; before = k; own = one_ℚ ∷ []; right = u -ℚ a } ∷ record { entries = zeros (length row); before = k; own = one_ℚ ∷ one_ℚ ∷ []; right = u -ℚ l } ∷ []) ++ rest))
        ≡ cond t (entry y 0 *ℚ l) (entry y 0 *ℚ u +ℚ entry y 1 *ℚ (u -ℚ l)) -ℚ entry y 0 *ℚ a +ℚ dot (drop (cond {A = ℕ × ℕ} t (1, 0) (2, 2)).0 y) (map right_side rest)
    by true =
        dot-first_back y (l -ℚ a) (map right_side rest)
        ∙ ring rationals (entry y 0 ∷ l ∷ a ∷ dot (drop 1 y) (map right_side rest) ∷ []) (λ y l a t. y ⊗ (l ⊝ a) ⊕ t ≐ y ⊗ l ⊝ y ⊗ a ⊕ t) refl
    by false =
        dot-two y (u -ℚ a) (u -ℚ l) (map right_side rest)
        ∙ ring rationals (entry y 0 ∷ entry y 1 ∷ l ∷ u ∷ a ∷ dot (drop 2 y) (map right_side rest) ∷ [])
        (λ y b l u a t. y ⊗ (u ⊝ a) ⊕ (b ⊗ (u ⊝ l) ⊕ t) ≐ y ⊗ u ⊕ b ⊗ (u ⊝ l) ⊝ y ⊗ a ⊕ t) refl
row_right (Some l) None k row a y rest some =
    dot-first_back y (l -ℚ a) (map right_side rest)
    ∙ ring rationals (entry y 0 ∷ l ∷ a ∷ dot (drop 1 y) (map right_side rest) ∷ []) (λ y l a t. y ⊗ (l ⊝ a) ⊕ t ≐ y ⊗ l ⊝ y ⊗ a ⊕ t) refl
row_right None (Some u) k row a y rest some =
    dot-first_back y (u -ℚ a) (map right_side rest)
    ∙ ring rationals (entry y 0 ∷ u ∷ a ∷ dot (drop 1 y) (map right_side rest) ∷ []) (λ y l a t. y ⊗ (l ⊝ a) ⊕ t ≐ y ⊗ l ⊝ y ⊗ a ⊕ t) refl
row_right None None k row a y rest (inl none) = cc
row_right None None k row a y rest (inr none) = cc

pub length-signs_by : (low high : Option ℚ) (a b : ℚ) → length (signs_by low high a b) ≡ (count_by low high).1
length-signs_by (Some l) (Some u) a b = by (same_fields l u)
  where
    by : (t : Bool) → length (cond t [] ((a +ℚ b) ∷ b ∷ [])) ≡ (cond {A = ℕ × ℕ} t (1, 0) (2, 2)).1
    by true = refl
    by false = refl
length-signs_by (Some l) None a b = refl
length-signs_by None (Some u) a b = refl
length-signs_by None None a b = refl

-- ---- all rows

pub rows_left : (region : Region) (h : List ℚ) (k : ℕ) (ss : List Row) (rows : List (List ℚ)) (y x z : List ℚ) (rest : List Equation) → length rows ≡ length ss → All IsRow ss
    → dot y (map (left_at x z) (row_equations region h k ss rows ++ rest))
    ≡ dot (firsts ss y) (rows_dot rows (change region x)) +ℚ dot (row_signs ss y) (drop k z) +ℚ dot (after ss y) (map (left_at x z) rest)
rows_left region h k [] [] y x z rest e good = ring rationals (dot y (map (left_at x z) rest) ∷ []) (λ t. t ≐ lit 0 ⊕ lit 0 ⊕ t) refl
rows_left region h k [] (row ∷ rows) y x z rest e good = absurd (omega arith)
rows_left region h k (s ∷ ss) [] y x z rest e good = absurd (omega arith)
rows_left region h k (s ∷ ss) (row ∷ rows) y x z rest e good =
    let E = row_equations_by s.low s.high k (spread region row) (dot row h) in
    let F = row_equations region h (k + slacks_at s) ss rows in
    let u = signs_by s.low s.high (entry y 0) (entry y 1) in
    let later = drop (count_by s.low s.high).0 y in
    let w = drop k z in
    let D = dot (firsts ss later) (rows_dot rows (change region x)) in
    let T = dot (after ss later) (map (left_at x z) rest) in
    let a = entry y 0 in
    ap (λ (es : List Equation). dot y (map (left_at x z) es)) (append_assoc E F rest)
    ∙ row_left s.low s.high k (spread region row) (dot row h) y x z (F ++ rest) (All-head IsRow s ss good).some
    ∙ ap (λ t. a *ℚ t +ℚ dot u w +ℚ dot later (map (left_at x z) (F ++ rest))) (adjoint region row x)
    ∙ ap (λ t. a *ℚ dot row (change region x) +ℚ dot u w +ℚ t) (rows_left region h (k + slacks_at s) ss rows later x z rest (omega arith) (All-tail IsRow s ss good))
    ∙ ap (λ (v : List ℚ). a *ℚ dot row (change region x) +ℚ dot u w +ℚ (D +ℚ dot (row_signs ss later) v +ℚ T))
    (sym (drop-drop k (slacks_at s) z) ∙ ap (λ (n : ℕ). drop n w) (sym (length-signs_by s.low s.high (entry y 0) (entry y 1))))
    ∙ ring rationals ((a *ℚ dot row (change region x)) ∷ dot u w ∷ D ∷ dot (row_signs ss later) (drop (length u) w) ∷ T ∷ [])
    (λ a b c d e. a ⊕ b ⊕ (c ⊕ d ⊕ e) ≐ (a ⊕ c) ⊕ (b ⊕ d) ⊕ e) refl
    ∙ ap (λ t. (a *ℚ dot row (change region x) +ℚ D) +ℚ t +ℚ T) (sym (dot-append_left u (row_signs ss later) w))

pub rows_right : (region : Region) (h : List ℚ) (k : ℕ) (ss : List Row) (rows : List (List ℚ)) (y : List ℚ) (rest : List Equation) → length rows ≡ length ss → All IsRow ss
    → dot y (map right_side (row_equations region h k ss rows ++ rest)) ≡ row_sides ss y -ℚ dot (firsts ss y) (rows_dot rows h) +ℚ dot (after ss y) (map right_side rest)
rows_right region h k [] [] y rest e good = ring rationals (dot y (map right_side rest) ∷ []) (λ t. t ≐ lit 0 ⊝ lit 0 ⊕ t) refl
rows_right region h k [] (row ∷ rows) y rest e good = absurd (omega arith)
rows_right region h k (s ∷ ss) [] y rest e good = absurd (omega arith)
rows_right region h k (s ∷ ss) (row ∷ rows) y rest e good =
    let E = row_equations_by s.low s.high k (spread region row) (dot row h) in
    let F = row_equations region h (k + slacks_at s) ss rows in
    let later = drop (count_by s.low s.high).0 y in
    let D = dot (firsts ss later) (rows_dot rows h) in
    let T = dot (after ss later) (map right_side rest) in
    let a = entry y 0 in
    let r = sides_by s.low s.high (entry y 0) (entry y 1) in
    ap (λ (es : List Equation). dot y (map right_side es)) (append_assoc E F rest)
    ∙ row_right s.low s.high k (spread region row) (dot row h) y (F ++ rest) (All-head IsRow s ss good).some
    ∙ ap (λ t. r -ℚ a *ℚ dot row h +ℚ t) (rows_right region h (k + slacks_at s) ss rows later rest (omega arith) (All-tail IsRow s ss good))
    ∙ ring rationals (r ∷ (a *ℚ dot row h) ∷ row_sides ss later ∷ D ∷ T ∷ []) (λ r b s d t. r ⊝ b ⊕ (s ⊝ d ⊕ t) ≐ (r ⊕ s) ⊝ (b ⊕ d) ⊕ t) refl

-- ---- the columns' own equations

bound_left : (low high : Option ℚ) (k : ℕ) (unit y x z : List ℚ) (rest : List Equation)
    → dot y (map (left_at x z) (bound_equation_by low high k unit ++ rest))
    ≡ part_by low high (entry y 0) *ℚ dot unit x +ℚ dot (bound_signs_by low high (entry y 0)) (drop k z) +ℚ dot (drop (bound_slacks_by low high) y) (map (left_at x z) rest)
bound_left (Some l) (Some u) k unit y x z rest =
    let w = drop k z in let p = dot (one_ℚ ∷ []) w in let t = dot (drop 1 y) (map (left_at x z) rest) in
    dot-first_back y (dot unit x +ℚ p) (map (left_at x z) rest)
    ∙ ring rationals (entry y 0 ∷ dot unit x ∷ p ∷ t ∷ []) (λ a r p t. a ⊗ (r ⊕ p) ⊕ t ≐ a ⊗ r ⊕ a ⊗ p ⊕ t) refl
    ∙ ap (λ o. entry y 0 *ℚ dot unit x +ℚ o +ℚ t) (one_slack (entry y 0) w)
bound_left (Some l) None k unit y x z rest = ring rationals (dot unit x ∷ dot y (map (left_at x z) rest) ∷ []) (λ r t. t ≐ lit 0 ⊗ r ⊕ lit 0 ⊕ t) refl
bound_left None (Some u) k unit y x z rest = ring rationals (dot unit x ∷ dot y (map (left_at x z) rest) ∷ []) (λ r t. t ≐ lit 0 ⊗ r ⊕ lit 0 ⊕ t) refl
bound_left None None k unit y x z rest = ring rationals (dot unit x ∷ dot y (map (left_at x z) rest) ∷ []) (λ r t. t ≐ lit 0 ⊗ r ⊕ lit 0 ⊕ t) refl

bound_right : (low high : Option ℚ) (k : ℕ) (unit y : List ℚ) (rest : List Equation)
    → dot y (map right_side (bound_equation_by low high k unit ++ rest)) ≡ bound_sides_by low high (entry y 0) +ℚ dot (drop (bound_slacks_by low high) y) (map right_side rest)
bound_right (Some l) (Some u) k unit y rest = dot-first_back y (u -ℚ l) (map right_side rest)
bound_right (Some l) None k unit y rest = ring rationals (dot y (map right_side rest) ∷ []) (λ t. t ≐ lit 0 ⊕ t) refl
bound_right None (Some u) k unit y rest = ring rationals (dot y (map right_side rest) ∷ []) (λ t. t ≐ lit 0 ⊕ t) refl
bound_right None None k unit y rest = ring rationals (dot y (map right_side rest) ∷ []) (λ t. t ≐ lit 0 ⊕ t) refl

pub length-bound_signs_by : (low high : Option ℚ) (b : ℚ) → length (bound_signs_by low high b) ≡ bound_slacks_by low high
length-bound_signs_by (Some l) (Some u) b = refl
length-bound_signs_by (Some l) None b = refl
length-bound_signs_by None (Some u) b = refl
length-bound_signs_by None None b = refl

pub bounds_left : (region : Region) (k j : ℕ) (bs : Region) (y x z : List ℚ)
    → dot y (map (left_at x z) (bound_equations region k j bs)) ≡ dot (bound_parts bs y) (drop j (change region x)) +ℚ dot (bound_signs bs y) (drop k z)
bounds_left region k j [] y x z = dot-nil_right y ∙ ring rationals [] (lit 0 ≐ lit 0 ⊕ lit 0) refl
bounds_left region k j (b ∷ bs) y x z =
    let unit = unit_vector (length region) j in
    let c = change region x in
    let F = bound_equations region (k + bound_slacks_by b.low b.high) (suc j) bs in
    let u = bound_signs_by b.low b.high (entry y 0) in
    let p = part_by b.low b.high (entry y 0) in
    let later = drop (bound_slacks_by b.low b.high) y in
    let w = drop k z in
    let D = dot (bound_parts bs later) (drop (suc j) c) in
    let short : length c ≤ length region = rw (length-change region x) (omega arith) in
    bound_left b.low b.high k (spread region unit) y x z F
    ∙ ap (λ t. p *ℚ t +ℚ dot u w +ℚ dot later (map (left_at x z) F)) (adjoint region unit x ∙ dot-unit_vector (length region) j c short)
    ∙ ap (λ t. p *ℚ entry c j +ℚ dot u w +ℚ t) (bounds_left region (k + bound_slacks_by b.low b.high) (suc j) bs later x z)
    ∙ ap (λ (v : List ℚ). p *ℚ entry c j +ℚ dot u w +ℚ (D +ℚ dot (bound_signs bs later) v))
    (sym (drop-drop k (bound_slacks_by b.low b.high) z) ∙ ap (λ (n : ℕ). drop n w) (sym (length-bound_signs_by b.low b.high (entry y 0))))
    ∙ ring rationals ((p *ℚ entry c j) ∷ dot u w ∷ D ∷ dot (bound_signs bs later) (drop (length u) w) ∷ []) (λ a b c d. a ⊕ b ⊕ (c ⊕ d) ≐ (a ⊕ c) ⊕ (b ⊕ d)) refl
    ∙ ap (λ t. t +ℚ (dot u w +ℚ dot (bound_signs bs later) (drop (length u) w))) (sym (dot-from p (bound_parts bs later) j c))
    ∙ ap (λ t. dot (p ∷ bound_parts bs later) (drop j c) +ℚ t) (sym (dot-append_left u (bound_signs bs later) w))

pub bounds_right : (region : Region) (k j : ℕ) (bs : Region) (y : List ℚ) → dot y (map right_side (bound_equations region k j bs)) ≡ bound_sides bs y
bounds_right region k j [] y = dot-nil_right y
bounds_right region k j (b ∷ bs) y =
    let F = bound_equations region (k + bound_slacks_by b.low b.high) (suc j) bs in
    bound_right b.low b.high k (spread region (unit_vector (length region) j)) y F
    ∙ ap (λ t. bound_sides_by b.low b.high (entry y 0) +ℚ t) (bounds_right region (k + bound_slacks_by b.low b.high) (suc j) bs (drop (bound_slacks_by b.low b.high) y))
