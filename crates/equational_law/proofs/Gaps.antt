-- What a point, with c = 1, or a direction, with c = 0, leaves of c times the sides: from it come the solution of the form
-- and the ray of the form that stand for it.
use Rattle.std.specs.Prelude.{◌≡◌, ℕ, zero, suc, ◌+◌, List, [], ◌∷◌, ◌++◌, length, drop, Option, Some, None, Bool, true, false}
use Rattle.std.specs.List.{All}
use Rattle.std.proofs.Common.{arith, sym, subst, ◌∙◌, ap, refl, cond, inl, inr, length-append, drop-drop}
use Rattle.std.proofs.lemmas.List.Elements.{All-nil, All-cons, All-append}
use Rattle.algebra.proofs.Polynomial.{◌⊕◌, ◌⊝◌, ◌⊗◌, ◌≐◌, ◌≼◌, lit, minus}
use Rattle.algebra.proofs.Solver.{ring}
use Rattle.algebra.proofs.Certificate.{prove, given, ◌⇐◌}
use Rattle.rational.specs.Rational.{ℚ, zero_ℚ, one_ℚ, neg_ℚ, ◌+ℚ◌, ◌-ℚ◌, ◌*ℚ◌}
use Rattle.rational.specs.Order.{◌≤ℚ◌, ◌<ℚ◌, same_fields, same_fields_lem}
use Rattle.rational.specs.Sums.{entry}
use Rattle.rational.specs.Vectors.{dot, add_each, zeros, unit_vector, rows_dot}
use Rattle.rational.proofs.Field.{rationals}
use Rattle.rational.proofs.Order.{ordered_rationals, le_refl, lt_le, le_antisymm, le_or_lt}
use Rattle.rational.proofs.OrderLaws.{sub_nonneg}
use Rattle.rational.proofs.Vectors.{dot-zeros_left, length-zeros}
use Rattle.rational.specs.Tests.{is_negative}
use Rattle.program_law.proofs.Numbers.{negative_below, below_negative}
use Rattle.program_law.specs.declared.Row.{Row}
use Rattle.program_law.specs.Region.{Region}
use Rattle.equational_law.specs.Standing.{Standing, Above, Below, Free, standing_by, standing, shift_at, shift, parts_at, parts, change_at, change, spread}
use Rattle.equational_law.specs.Equations.{Equation, count_by, row_equations_by, row_equations, slacks_at, bound_equation_by, bound_slacks_by, bound_equations, row_slacks, bound_slacks}
use Rattle.equational_law.specs.Solutions.{IsNotNegative}
use Rattle.equational_law.proofs.Adjoint.{adjoint, length-spread}
use Rattle.equational_law.proofs.Equations.{equation}
use Rattle.equational_law.proofs.Scaled.{IsScaled, IsScaledWithin, AllScaledWithin, unit_side}

-- ---- the numbers

-- a column's part: its distance from c times its shift, or its positive and its negative part
abbrev pub part_of : ℚ → Standing → ℚ → List ℚ
part_of c (Above l) x = (x -ℚ c *ℚ l) ∷ []
part_of c (Below u) x = (c *ℚ u -ℚ x) ∷ []
part_of c Free x = cond (is_negative x) (zero_ℚ ∷ neg_ℚ x ∷ []) (x ∷ zero_ℚ ∷ [])

abbrev pub parts_of : ℚ → Region → List ℚ → List ℚ → List ℚ
parts_of c [] xs rest = rest
parts_of c (b ∷ bs) [] rest = rest
parts_of c (b ∷ bs) (x ∷ xs) rest = part_of c (standing b) x ++ parts_of c bs xs rest

-- what a row's sum leaves of c times its sides
abbrev pub gaps_by : ℚ → Option ℚ → Option ℚ → ℚ → List ℚ
gaps_by c (Some l) (Some u) v = cond (same_fields l u) [] ((c *ℚ u -ℚ v) ∷ (v -ℚ c *ℚ l) ∷ [])
gaps_by c (Some l) None v = (v -ℚ c *ℚ l) ∷ []
gaps_by c None (Some u) v = (c *ℚ u -ℚ v) ∷ []
gaps_by c None None v = []

abbrev pub row_gaps : ℚ → List Row → List ℚ → List ℚ → List ℚ
row_gaps c [] vs rest = rest
row_gaps c (s ∷ ss) [] rest = rest
row_gaps c (s ∷ ss) (v ∷ vs) rest = gaps_by c s.low s.high v ++ row_gaps c ss vs rest

-- what a column with both bounds leaves of c times the high one
abbrev pub bound_gap_by : ℚ → Option ℚ → Option ℚ → ℚ → List ℚ
bound_gap_by c (Some l) (Some u) x = (c *ℚ u -ℚ x) ∷ []
bound_gap_by c (Some l) None x = []
bound_gap_by c None high x = []

abbrev pub bound_gaps : ℚ → Region → List ℚ → List ℚ
bound_gaps c [] xs = []
bound_gaps c (b ∷ bs) [] = []
bound_gaps c (b ∷ bs) (x ∷ xs) = bound_gap_by c b.low b.high x ++ bound_gaps c bs xs

-- ---- lists

drop_front : (u rest : List ℚ) (n : ℕ) → length u ≡ n → drop n (u ++ rest) ≡ rest
drop_front [] rest zero h = refl
drop_front [] rest (suc n) h = absurd (omega arith)
drop_front (x ∷ u) rest zero h = absurd (omega arith)
drop_front (x ∷ u) rest (suc n) h = drop_front u rest n (omega arith)

-- what stands after the next numbers too
dropped : (z u rest : List ℚ) (k n : ℕ) → length u ≡ n → drop k z ≡ u ++ rest → drop (k + n) z ≡ rest
dropped z u rest k n h e = sym (drop-drop n k z) ∙ ap (drop n) e ∙ drop_front u rest n h

-- ---- back to the columns

-- a point less c times the shift
abbrev pub less : ℚ → Region → List ℚ → List ℚ
less c [] xs = []
less c (b ∷ bs) [] = []
less c (b ∷ bs) (x ∷ xs) = (x -ℚ c *ℚ shift_at (standing b)) ∷ less c bs xs

change-part : (c : ℚ) (s : Standing) (x : ℚ) (w : List ℚ) → change_at s (part_of c s x ++ w) ≡ x -ℚ c *ℚ shift_at s
change-part c (Above l) x w = refl
change-part c (Below u) x w = ring rationals (c ∷ u ∷ x ∷ []) (λ c u x. minus (c ⊗ u ⊝ x) ≐ x ⊝ c ⊗ u) refl
change-part c Free x w = by (is_negative x)
  where
    by : (t : Bool) → change_at Free (cond t (zero_ℚ ∷ neg_ℚ x ∷ []) (x ∷ zero_ℚ ∷ []) ++ w) ≡ x -ℚ c *ℚ zero_ℚ
    by true = ring rationals (c ∷ x ∷ []) (λ c x. lit 0 ⊝ minus x ≐ x ⊝ c ⊗ lit 0) refl
    by false = ring rationals (c ∷ x ∷ []) (λ c x. x ⊝ lit 0 ≐ x ⊝ c ⊗ lit 0) refl

length-part : (c : ℚ) (s : Standing) (x : ℚ) → length (part_of c s x) ≡ parts_at s
length-part c (Above l) x = refl
length-part c (Below u) x = refl
length-part c Free x = by (is_negative x)
  where
    by : (t : Bool) → length (cond t (zero_ℚ ∷ neg_ℚ x ∷ []) (x ∷ zero_ℚ ∷ [])) ≡ 2
    by true = refl
    by false = refl

pub change-parts_of : (c : ℚ) (region : Region) (xs rest : List ℚ) → length xs ≡ length region → change region (parts_of c region xs rest) ≡ less c region xs
change-parts_of c [] xs rest h = refl
change-parts_of c (b ∷ bs) [] rest h = absurd (omega arith)
change-parts_of c (b ∷ bs) (x ∷ xs) rest h =
    let s = standing b in
    let w = parts_of c bs xs rest in
    ap (λ d. d ∷ change bs (drop (parts_at s) (part_of c s x ++ w))) (change-part c s x w)
    ∙ ap (λ t. (x -ℚ c *ℚ shift_at s) ∷ change bs t) (drop_front (part_of c s x) w (parts_at s) (length-part c s x))
    ∙ ap (λ d. (x -ℚ c *ℚ shift_at s) ∷ d) (change-parts_of c bs xs rest (omega arith))

pub drop-parts_of : (c : ℚ) (region : Region) (xs rest : List ℚ) → length xs ≡ length region → drop (parts region) (parts_of c region xs rest) ≡ rest
drop-parts_of c [] xs rest h = refl
drop-parts_of c (b ∷ bs) [] rest h = absurd (omega arith)
drop-parts_of c (b ∷ bs) (x ∷ xs) rest h =
    let s = standing b in
    let w = parts_of c bs xs rest in
    sym (drop-drop (parts bs) (parts_at s) (part_of c s x ++ w))
    ∙ ap (drop (parts bs)) (drop_front (part_of c s x) w (parts_at s) (length-part c s x))
    ∙ drop-parts_of c bs xs rest (omega arith)

pub length-parts_of : (c : ℚ) (region : Region) (xs rest : List ℚ) → length xs ≡ length region → length (parts_of c region xs rest) ≡ parts region + length rest
length-parts_of c [] xs rest h = omega arith
length-parts_of c (b ∷ bs) [] rest h = absurd (omega arith)
length-parts_of c (b ∷ bs) (x ∷ xs) rest h =
    let e = length-append (part_of c (standing b) x) (parts_of c bs xs rest) in
    let f = length-part c (standing b) x in
    let g = length-parts_of c bs xs rest (omega arith) in
    omega arith

-- A x less c A h
pub dot-less : (c : ℚ) (region : Region) (row xs : List ℚ) → length xs ≡ length region → dot row (less c region xs) ≡ dot row xs -ℚ c *ℚ dot row (shift region)
dot-less c [] [] [] h = ring rationals (c ∷ []) (λ c. lit 0 ≐ lit 0 ⊝ c ⊗ lit 0) refl
dot-less c [] (a ∷ row) [] h = ring rationals (c ∷ []) (λ c. lit 0 ≐ lit 0 ⊝ c ⊗ lit 0) refl
dot-less c [] row (x ∷ xs) h = absurd (omega arith)
dot-less c (b ∷ bs) row [] h = absurd (omega arith)
dot-less c (b ∷ bs) [] (x ∷ xs) h = ring rationals (c ∷ []) (λ c. lit 0 ≐ lit 0 ⊝ c ⊗ lit 0) refl
dot-less c (b ∷ bs) (a ∷ row) (x ∷ xs) h =
    let d = shift_at (standing b) in
    ap (λ t. a *ℚ (x -ℚ c *ℚ d) +ℚ t) (dot-less c bs row xs (omega arith))
    ∙ ring rationals (a ∷ x ∷ c ∷ d ∷ dot row xs ∷ dot row (shift bs) ∷ [])
    (λ a x c d s t. a ⊗ (x ⊝ c ⊗ d) ⊕ (s ⊝ c ⊗ t) ≐ (a ⊗ x ⊕ s) ⊝ c ⊗ (a ⊗ d ⊕ t)) refl

pub less_one : (region : Region) (xs : List ℚ) → length xs ≡ length region → add_each (shift region) (less one_ℚ region xs) ≡ xs
less_one [] [] h = refl
less_one [] (x ∷ xs) h = absurd (omega arith)
less_one (b ∷ bs) [] h = absurd (omega arith)
less_one (b ∷ bs) (x ∷ xs) h =
    let d = shift_at (standing b) in
    ap (λ y. y ∷ add_each (shift bs) (less one_ℚ bs xs)) (ring rationals (d ∷ x ∷ []) (λ d x. d ⊕ (x ⊝ lit 1 ⊗ d) ≐ x) refl) ∙ ap (λ ys. x ∷ ys) (less_one bs xs (omega arith))

pub less_zero : (region : Region) (xs : List ℚ) → length xs ≡ length region → less zero_ℚ region xs ≡ xs
less_zero [] [] h = refl
less_zero [] (x ∷ xs) h = absurd (omega arith)
less_zero (b ∷ bs) [] h = absurd (omega arith)
less_zero (b ∷ bs) (x ∷ xs) h =
    let d = shift_at (standing b) in
    ap (λ y. y ∷ less zero_ℚ bs xs) (ring rationals (d ∷ x ∷ []) (λ d x. x ⊝ lit 0 ⊗ d ≐ x) refl) ∙ ap (λ ys. x ∷ ys) (less_zero bs xs (omega arith))

-- ---- the equations: a is A h, v is A x

row_met : (c : ℚ) (low high : Option ℚ) (k : ℕ) (row : List ℚ) (a v : ℚ) (z rest : List ℚ) → drop k (drop (length row) z) ≡ gaps_by c low high v ++ rest
    → dot row z ≡ v -ℚ c *ℚ a → IsScaledWithin c low high v → All (IsScaled c z) (row_equations_by low high k row a)
row_met c None None k row a v z rest e d w = All-nil (IsScaled c z)
row_met c None (Some u) k row a v z rest e d w =
    let f = ap (λ b. b +ℚ dot (one_ℚ ∷ []) (drop k (drop (length row) z))) d ∙ ap (λ s. (v -ℚ c *ℚ a) +ℚ dot (one_ℚ ∷ []) s) e
    ∙ ring rationals (c ∷ u ∷ a ∷ v ∷ []) (λ c u a v. (v ⊝ c ⊗ a) ⊕ (lit 1 ⊗ (c ⊗ u ⊝ v) ⊕ lit 0) ≐ c ⊗ (u ⊝ a)) refl in
    All-cons (IsScaled c z) (equation row k (one_ℚ ∷ []) (u -ℚ a)) [] f (All-nil (IsScaled c z))
row_met c (Some l) None k row a v z rest e d w =
    let f = ap (λ b. b +ℚ dot (neg_ℚ one_ℚ ∷ []) (drop k (drop (length row) z))) d ∙ ap (λ s. (v -ℚ c *ℚ a) +ℚ dot (neg_ℚ one_ℚ ∷ []) s) e
    ∙ ring rationals (c ∷ l ∷ a ∷ v ∷ []) (λ c l a v. (v ⊝ c ⊗ a) ⊕ (minus (lit 1) ⊗ (v ⊝ c ⊗ l) ⊕ lit 0) ≐ c ⊗ (l ⊝ a)) refl in
    All-cons (IsScaled c z) (equation row k (neg_ℚ one_ℚ ∷ []) (l -ℚ a)) [] f (All-nil (IsScaled c z))
row_met c (Some l) (Some u) k row a v z rest e d w = by (same_fields l u) refl e
  where
    alone : Equation
    alone = equation row k [] (l -ℚ a)

    first : Equation
    first = equation row k (one_ℚ ∷ []) (u -ℚ a)

    second : Equation
    second = equation (zeros (length row)) k (one_ℚ ∷ one_ℚ ∷ []) (u -ℚ l)

    own : List ℚ
    own = drop k (drop (length row) z)

    by : (t : Bool) → same_fields l u ≡ t → own ≡ cond t [] ((c *ℚ u -ℚ v) ∷ (v -ℚ c *ℚ l) ∷ []) ++ rest → All (IsScaled c z) (cond t (alone ∷ []) (first ∷ second ∷ []))
    by true s e =
        let low : (c *ℚ l) ≤ℚ v = w.low in
        let high : v ≤ℚ (c *ℚ l) = subst (λ m. v ≤ℚ (c *ℚ m)) (sym (same_fields_lem l u s)) w.high in
        let f : dot row z +ℚ zero_ℚ ≡ c *ℚ (l -ℚ a) = ap (λ b. b +ℚ zero_ℚ) (d ∙ ap (λ v. v -ℚ c *ℚ a) (le_antisymm v (c *ℚ l) high low))
        ∙ ring rationals (c ∷ l ∷ a ∷ []) (λ c l a. (c ⊗ l ⊝ c ⊗ a) ⊕ lit 0 ≐ c ⊗ (l ⊝ a)) refl in
        All-cons (IsScaled c z) alone [] f (All-nil (IsScaled c z))
    by false s e =
        let f = ap (λ b. b +ℚ dot (one_ℚ ∷ []) own) d ∙ ap (λ s. (v -ℚ c *ℚ a) +ℚ dot (one_ℚ ∷ []) s) e
        ∙ ring rationals (c ∷ u ∷ a ∷ v ∷ []) (λ c u a v. (v ⊝ c ⊗ a) ⊕ (lit 1 ⊗ (c ⊗ u ⊝ v) ⊕ lit 0) ≐ c ⊗ (u ⊝ a)) refl in
        let n = length row in
        let g = ap (λ b. b +ℚ dot (one_ℚ ∷ one_ℚ ∷ []) (drop k (drop (length (zeros n)) z))) (dot-zeros_left n z)
        ∙ ap (λ m. zero_ℚ +ℚ dot (one_ℚ ∷ one_ℚ ∷ []) (drop k (drop m z))) (length-zeros n)
        ∙ ap (λ s. zero_ℚ +ℚ dot (one_ℚ ∷ one_ℚ ∷ []) s) e
        ∙ ring rationals (c ∷ u ∷ l ∷ v ∷ []) (λ c u l v. lit 0 ⊕ (lit 1 ⊗ (c ⊗ u ⊝ v) ⊕ (lit 1 ⊗ (v ⊝ c ⊗ l) ⊕ lit 0)) ≐ c ⊗ (u ⊝ l)) refl in
        All-cons (IsScaled c z) first (second ∷ []) f (All-cons (IsScaled c z) second [] g (All-nil (IsScaled c z)))

length-gaps : (c : ℚ) (low high : Option ℚ) (v : ℚ) → length (gaps_by c low high v) ≡ (count_by low high).1
length-gaps c None None v = refl
length-gaps c None (Some u) v = refl
length-gaps c (Some l) None v = refl
length-gaps c (Some l) (Some u) v = by (same_fields l u)
  where
    by : (t : Bool) → length (cond t [] ((c *ℚ u -ℚ v) ∷ (v -ℚ c *ℚ l) ∷ [])) ≡ (cond {A = ℕ × ℕ} t (1, 0) (2, 2)).1
    by true = refl
    by false = refl

pub rows_met : (c : ℚ) (region : Region) (x z : List ℚ) (k : ℕ) (ss : List Row) (rows : List (List ℚ)) (rest : List ℚ) → length rows ≡ length ss
    → ((row : List ℚ) → dot row (change region z) ≡ dot row x -ℚ c *ℚ dot row (shift region))
    → drop k (drop (parts region) z) ≡ row_gaps c ss (rows_dot rows x) rest → AllScaledWithin c ss (rows_dot rows x)
    → All (IsScaled c z) (row_equations region (shift region) k ss rows) × (drop (k + row_slacks ss) (drop (parts region) z) ≡ rest)
rows_met c region x z k [] rows rest f same e w = (All-nil (IsScaled c z), ap (λ m. drop m (drop (parts region) z)) (omega arith) ∙ e)
rows_met c region x z k (s ∷ ss) [] rest f same e w = absurd (omega arith)
rows_met c region x z k (s ∷ ss) (row ∷ rows) rest f same e w =
    let own = gaps_by c s.low s.high (dot row x) in
    let others = row_gaps c ss (rows_dot rows x) rest in
    let n = slacks_at s in
    let next = rows_met c region x z (k + n) ss rows rest (omega arith) same (dropped (drop (parts region) z) own others k n (length-gaps c s.low s.high (dot row x)) e) w.1 in (
      All-append (IsScaled c z) _ _
          (row_met c s.low s.high k (spread region row) (dot row (shift region)) (dot row x) z others
          (ap (λ m. drop k (drop m z)) (length-spread region row) ∙ e) (adjoint region row z ∙ same row) w.0)
          next.0,
      ap (λ m. drop m (drop (parts region) z)) (omega arith) ∙ next.1,
    )

pub columns_met : (c : ℚ) (region : Region) (z : List ℚ) (k j : ℕ) (bs : Region) (xs : List ℚ) → length xs ≡ length bs
    → ((i : ℕ) → entry (change region z) (j + i) ≡ entry (less c bs xs) i) → drop k (drop (parts region) z) ≡ bound_gaps c bs xs
    → All (IsScaled c z) (bound_equations region k j bs)
columns_met c region z k j [] xs f same e = All-nil (IsScaled c z)
columns_met c region z k j (b ∷ bs) [] f same e = absurd (omega arith)
columns_met c region z k j (b ∷ bs) (x ∷ xs) f same e =
    let unit = spread region (unit_vector (length region) j) in
    let at : dot unit z ≡ x -ℚ c *ℚ shift_at (standing_by b.low b.high) = unit_side region j z ∙ ap (entry (change region z)) (omega arith) ∙ same 0 in
    let own : drop k (drop (length unit) z) ≡ bound_gap_by c b.low b.high x ++ bound_gaps c bs xs = ap (λ m. drop k (drop m z)) (length-spread region (unit_vector (length region) j)) ∙ e in
    All-append (IsScaled c z) _ _ (by b.low b.high unit at own)
    (columns_met c region z (k + bound_slacks_by b.low b.high) (suc j) bs xs (omega arith) (λ i. ap (entry (change region z)) (omega arith) ∙ same (suc i))
    (dropped (drop (parts region) z) (bound_gap_by c b.low b.high x) (bound_gaps c bs xs) k (bound_slacks_by b.low b.high) (long b.low b.high) e))
  where
    by : (low high : Option ℚ) (unit : List ℚ) → dot unit z ≡ x -ℚ c *ℚ shift_at (standing_by low high)
        → drop k (drop (length unit) z) ≡ bound_gap_by c low high x ++ bound_gaps c bs xs → All (IsScaled c z) (bound_equation_by low high k unit)
    by None None unit d e = All-nil (IsScaled c z)
    by None (Some u) unit d e = All-nil (IsScaled c z)
    by (Some l) None unit d e = All-nil (IsScaled c z)
    by (Some l) (Some u) unit d e =
        let f = ap (λ b. b +ℚ dot (one_ℚ ∷ []) (drop k (drop (length unit) z))) d ∙ ap (λ s. (x -ℚ c *ℚ l) +ℚ dot (one_ℚ ∷ []) s) e
        ∙ ring rationals (c ∷ u ∷ l ∷ x ∷ []) (λ c u l x. (x ⊝ c ⊗ l) ⊕ (lit 1 ⊗ (c ⊗ u ⊝ x) ⊕ lit 0) ≐ c ⊗ (u ⊝ l)) refl in
        All-cons (IsScaled c z) (equation unit k (one_ℚ ∷ []) (u -ℚ l)) [] f (All-nil (IsScaled c z))

    long : (low high : Option ℚ) → length (bound_gap_by c low high x) ≡ bound_slacks_by low high
    long None None = refl
    long None (Some u) = refl
    long (Some l) None = refl
    long (Some l) (Some u) = refl

-- ---- lengths

pub length-row_gaps : (c : ℚ) (ss : List Row) (vs rest : List ℚ) → length vs ≡ length ss → length (row_gaps c ss vs rest) ≡ row_slacks ss + length rest
length-row_gaps c [] vs rest h = omega arith
length-row_gaps c (s ∷ ss) [] rest h = absurd (omega arith)
length-row_gaps c (s ∷ ss) (v ∷ vs) rest h =
    let e = length-append (gaps_by c s.low s.high v) (row_gaps c ss vs rest) in
    let f = length-gaps c s.low s.high v in
    let g = length-row_gaps c ss vs rest (omega arith) in
    omega arith

length-bound_gap : (c : ℚ) (low high : Option ℚ) (x : ℚ) → length (bound_gap_by c low high x) ≡ bound_slacks_by low high
length-bound_gap c None None x = refl
length-bound_gap c None (Some u) x = refl
length-bound_gap c (Some l) None x = refl
length-bound_gap c (Some l) (Some u) x = refl

pub length-bound_gaps : (c : ℚ) (bs : Region) (xs : List ℚ) → length xs ≡ length bs → length (bound_gaps c bs xs) ≡ bound_slacks bs
length-bound_gaps c [] xs h = refl
length-bound_gaps c (b ∷ bs) [] h = absurd (omega arith)
length-bound_gaps c (b ∷ bs) (x ∷ xs) h =
    let e = length-append (bound_gap_by c b.low b.high x) (bound_gaps c bs xs) in
    let f = length-bound_gap c b.low b.high x in
    let g = length-bound_gaps c bs xs (omega arith) in
    omega arith

-- ---- nothing is below 0

one_more : (x : ℚ) (xs : List ℚ) → IsNotNegative x → All IsNotNegative xs → All IsNotNegative (x ∷ xs)
one_more x xs h k = All-cons IsNotNegative x xs h k

alone_nonneg : (x : ℚ) → IsNotNegative x → All IsNotNegative (x ∷ [])
alone_nonneg x h = one_more x [] h (All-nil IsNotNegative)

neg_nonneg : (x : ℚ) → x <ℚ zero_ℚ → IsNotNegative (neg_ℚ x)
neg_nonneg x h = prove ordered_rationals (x ∷ []) (λ x. lit 0 ≼ minus x ⇐ given (x ≼ lit 0)) refl (lt_le x zero_ℚ h)

not_negative : (x : ℚ) → is_negative x ≡ false → IsNotNegative x
not_negative x h =
    elim (le_or_lt zero_ℚ x) [
      | inl k ↦ k
      | inr k ↦ absurd (let bad : true ≡ false = sym (below_negative x k) ∙ h in cc)
    ]

part_nonneg : (c : ℚ) (low high : Option ℚ) (x : ℚ) → IsScaledWithin c low high x → All IsNotNegative (part_of c (standing_by low high) x)
part_nonneg c (Some l) high x w = alone_nonneg (x -ℚ c *ℚ l) (sub_nonneg w.low)
part_nonneg c None (Some u) x w = alone_nonneg (c *ℚ u -ℚ x) (sub_nonneg w.high)
part_nonneg c None None x w = by (is_negative x) refl
  where
    by : (t : Bool) → is_negative x ≡ t → All IsNotNegative (cond t (zero_ℚ ∷ neg_ℚ x ∷ []) (x ∷ zero_ℚ ∷ []))
    by true e = one_more zero_ℚ (neg_ℚ x ∷ []) (le_refl zero_ℚ) (alone_nonneg (neg_ℚ x) (neg_nonneg x (negative_below x e)))
    by false e = one_more x (zero_ℚ ∷ []) (not_negative x e) (alone_nonneg zero_ℚ (le_refl zero_ℚ))

gaps_nonneg : (c : ℚ) (low high : Option ℚ) (v : ℚ) → IsScaledWithin c low high v → All IsNotNegative (gaps_by c low high v)
gaps_nonneg c None None v w = All-nil IsNotNegative
gaps_nonneg c None (Some u) v w = alone_nonneg (c *ℚ u -ℚ v) (sub_nonneg w.high)
gaps_nonneg c (Some l) None v w = alone_nonneg (v -ℚ c *ℚ l) (sub_nonneg w.low)
gaps_nonneg c (Some l) (Some u) v w = by (same_fields l u)
  where
    by : (t : Bool) → All IsNotNegative (cond t [] ((c *ℚ u -ℚ v) ∷ (v -ℚ c *ℚ l) ∷ []))
    by true = All-nil IsNotNegative
    by false = one_more (c *ℚ u -ℚ v) ((v -ℚ c *ℚ l) ∷ []) (sub_nonneg w.high) (alone_nonneg (v -ℚ c *ℚ l) (sub_nonneg w.low))

bound_gap_nonneg : (c : ℚ) (low high : Option ℚ) (v : ℚ) → IsScaledWithin c low high v → All IsNotNegative (bound_gap_by c low high v)
bound_gap_nonneg c None None v w = All-nil IsNotNegative
bound_gap_nonneg c None (Some u) v w = All-nil IsNotNegative
bound_gap_nonneg c (Some l) None v w = All-nil IsNotNegative
bound_gap_nonneg c (Some l) (Some u) v w = alone_nonneg (c *ℚ u -ℚ v) (sub_nonneg w.high)

pub parts_nonneg : (c : ℚ) (bs : Region) (xs rest : List ℚ) → AllScaledWithin c bs xs → All IsNotNegative rest → All IsNotNegative (parts_of c bs xs rest)
parts_nonneg c [] xs rest w n = n
parts_nonneg c (b ∷ bs) [] rest w n = absurd w
parts_nonneg c (b ∷ bs) (x ∷ xs) rest w n =
    All-append IsNotNegative (part_of c (standing b) x) (parts_of c bs xs rest) (part_nonneg c b.low b.high x w.0) (parts_nonneg c bs xs rest w.1 n)

pub row_gaps_nonneg : (c : ℚ) (ss : List Row) (vs rest : List ℚ) → AllScaledWithin c ss vs → All IsNotNegative rest → All IsNotNegative (row_gaps c ss vs rest)
row_gaps_nonneg c [] vs rest w n = n
row_gaps_nonneg c (s ∷ ss) [] rest w n = absurd w
row_gaps_nonneg c (s ∷ ss) (v ∷ vs) rest w n =
    All-append IsNotNegative (gaps_by c s.low s.high v) (row_gaps c ss vs rest) (gaps_nonneg c s.low s.high v w.0) (row_gaps_nonneg c ss vs rest w.1 n)

pub bound_gaps_nonneg : (c : ℚ) (bs : Region) (xs : List ℚ) → AllScaledWithin c bs xs → All IsNotNegative (bound_gaps c bs xs)
bound_gaps_nonneg c [] xs w = All-nil IsNotNegative
bound_gaps_nonneg c (b ∷ bs) [] w = absurd w
bound_gaps_nonneg c (b ∷ bs) (x ∷ xs) w =
    All-append IsNotNegative (bound_gap_by c b.low b.high x) (bound_gaps c bs xs) (bound_gap_nonneg c b.low b.high x w.0) (bound_gaps_nonneg c bs xs w.1)
