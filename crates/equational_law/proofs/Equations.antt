-- The equations one by one, and what a solution says of each.
use Rattle.std.specs.Prelude.{◌≡◌, ℕ, zero, suc, ◌+◌, List, [], ◌∷◌, ◌++◌, map, length, drop, Bool, true, false}
use Rattle.std.specs.List.{All}
use Rattle.std.proofs.Common.{sym, ◌∙◌, ap, refl, cond, length-append, drop-drop}
use Rattle.std.proofs.lemmas.List.Elements.{All-nil, All-cons, All-head, All-tail}
use Rattle.algebra.proofs.Polynomial.{◌⊕◌, ◌⊗◌, ◌≐◌, lit, minus}
use Rattle.algebra.proofs.Solver.{ring}
use Rattle.rational.specs.Rational.{ℚ, zero_ℚ, one_ℚ, neg_ℚ, ◌+ℚ◌, ◌*ℚ◌}
use Rattle.rational.specs.Sums.{entry}
use Rattle.rational.specs.Vectors.{dot, zeros, rows_dot}
use Rattle.rational.proofs.Field.{rationals}
use Rattle.rational.proofs.Order.{le_refl}
use Rattle.rational.proofs.Vectors.{dot-zeros_left, length-zeros}
use Rattle.equational_law.specs.Equations.{Equation, entries_in, is_negated, matrix_row, right_of}
use Rattle.equational_law.specs.Solutions.{IsNotNegative}
use Rattle.equational_law.proofs.Adjoint.{dot-append_left}
use Rattle.equational_law.proofs.Forms.{dot-padded, dot-map_neg}

-- ---- lists

pub All-front : {A : Type 0} (P : A → Type 0) (xs ys : List A) → All P (xs ++ ys) → All P xs
All-front P [] ys h = All-nil P
All-front P (x ∷ xs) ys h = All-cons P x xs (All-head P x (xs ++ ys) h) (All-front P xs ys (All-tail P x (xs ++ ys) h))

pub All-back : {A : Type 0} (P : A → Type 0) (xs ys : List A) → All P (xs ++ ys) → All P ys
All-back P [] ys h = h
All-back P (x ∷ xs) ys h = All-back P xs ys (All-tail P x (xs ++ ys) h)

pub nonneg_entry : (s : List ℚ) (i : ℕ) → All IsNotNegative s → IsNotNegative (entry s i)
nonneg_entry [] i h = le_refl zero_ℚ
nonneg_entry (x ∷ s) zero h = All-head IsNotNegative x s h
nonneg_entry (x ∷ s) (suc i) h = nonneg_entry s i (All-tail IsNotNegative x s h)

-- ---- the left side of an equation at z

abbrev pub equation : List ℚ → ℕ → List ℚ → ℚ → Equation
equation entries before own right = record { entries = entries; before = before; own = own; right = right }

abbrev pub left_side : List ℚ → Equation → ℚ
left_side z e = dot e.entries z +ℚ dot e.own (drop e.before (drop (length e.entries) z))

pub left_side_is : (n : ℕ) (e : Equation) (z : List ℚ) → dot (entries_in n e) z ≡ left_side z e
left_side_is n e z =
    let k = e.before in
    let front = e.entries ++ zeros k in
    dot-padded _ (front ++ e.own) z ∙ dot-append_left front e.own z
    ∙ ap (λ s. s +ℚ dot e.own (drop (length front) z)) (dot-padded k e.entries z)
    ∙ ap (λ m. dot e.entries z +ℚ dot e.own (drop m z)) (length-append e.entries (zeros k) ∙ ap (λ m. length e.entries + m) (length-zeros k))
    ∙ ap (λ t. dot e.entries z +ℚ dot e.own t) (sym (drop-drop k (length e.entries) z))

neg_neg : (x : ℚ) → neg_ℚ (neg_ℚ x) ≡ x
neg_neg x = ring rationals (x ∷ []) (λ x. minus (minus x) ≐ x) refl

-- changed signs on both sides change nothing
unsign : (t : Bool) (u z : List ℚ) (r : ℚ) → dot (cond t (map neg_ℚ u) u) z ≡ cond t (neg_ℚ r) r → dot u z ≡ r
unsign true u z r h = sym (neg_neg (dot u z)) ∙ ap neg_ℚ (sym (dot-map_neg u z) ∙ h) ∙ neg_neg r
unsign false u z r h = h

sign : (t : Bool) (u z : List ℚ) (r : ℚ) → dot u z ≡ r → dot (cond t (map neg_ℚ u) u) z ≡ cond t (neg_ℚ r) r
sign true u z r h = dot-map_neg u z ∙ ap neg_ℚ h
sign false u z r h = h

zero_sign : (t : Bool) → cond t (neg_ℚ zero_ℚ) zero_ℚ ≡ zero_ℚ
zero_sign true = ring rationals [] (minus (lit 0) ≐ lit 0) refl
zero_sign false = refl

abbrev pub IsKept : List ℚ → Equation → Type 0
IsKept z e = left_side z e ≡ e.right

abbrev pub IsFlat : List ℚ → Equation → Type 0
IsFlat z e = left_side z e ≡ zero_ℚ

first_same : {x y : ℚ} {u v : List ℚ} → x ∷ u ≡ y ∷ v → x ≡ y
first_same h = cc

rest_same : {x y : ℚ} {u v : List ℚ} → x ∷ u ≡ y ∷ v → u ≡ v
rest_same h = cc

pub all_kept : (n : ℕ) (es : List Equation) (z : List ℚ) → rows_dot (map (matrix_row n) es) z ≡ map right_of es → All (IsKept z) es
all_kept n [] z h = All-nil (IsKept z)
all_kept n (e ∷ es) z h =
    All-cons (IsKept z) e es
    (sym (left_side_is n e z) ∙ unsign (is_negated e) (entries_in n e) z e.right (first_same h))
    (all_kept n es z (rest_same h))

pub kept_all : (n : ℕ) (es : List Equation) (z : List ℚ) → All (IsKept z) es → rows_dot (map (matrix_row n) es) z ≡ map right_of es
kept_all n [] z h = refl
kept_all n (e ∷ es) z h =
    ap (λ x. x ∷ rows_dot (map (matrix_row n) es) z) (sign (is_negated e) (entries_in n e) z e.right (left_side_is n e z ∙ All-head (IsKept z) e es h))
    ∙ ap (λ xs. right_of e ∷ xs) (kept_all n es z (All-tail (IsKept z) e es h))

pub all_flat : (n : ℕ) (es : List Equation) (z : List ℚ) (k : ℕ) → rows_dot (map (matrix_row n) es) z ≡ zeros k → All (IsFlat z) es
all_flat n [] z k h = All-nil (IsFlat z)
all_flat n (e ∷ es) z zero h = absurd (let bad : dot (matrix_row n e) z ∷ rows_dot (map (matrix_row n) es) z ≡ [] = h in cc)
all_flat n (e ∷ es) z (suc k) h =
    All-cons (IsFlat z) e es
    (sym (left_side_is n e z) ∙ unsign (is_negated e) (entries_in n e) z zero_ℚ (first_same h ∙ sym (zero_sign (is_negated e))))
    (all_flat n es z k (rest_same h))

pub flat_all : (n : ℕ) (es : List Equation) (z : List ℚ) → All (IsFlat z) es → rows_dot (map (matrix_row n) es) z ≡ zeros (length (map (matrix_row n) es))
flat_all n [] z h = refl
flat_all n (e ∷ es) z h =
    ap (λ x. x ∷ rows_dot (map (matrix_row n) es) z)
    (sign (is_negated e) (entries_in n e) z zero_ℚ (left_side_is n e z ∙ All-head (IsFlat z) e es h) ∙ zero_sign (is_negated e))
    ∙ ap (λ xs. zero_ℚ ∷ xs) (flat_all n es z (All-tail (IsFlat z) e es h))

-- ---- an equation's own slacks

pub dot_one : (c : ℚ) (s : List ℚ) → dot (c ∷ []) s ≡ c *ℚ entry s 0
dot_one c [] = ring rationals (c ∷ []) (λ c. lit 0 ≐ c ⊗ lit 0) refl
dot_one c (x ∷ s) = rationals.add_zero (c *ℚ x)

pub dot_two : (s : List ℚ) → dot (one_ℚ ∷ one_ℚ ∷ []) s ≡ entry s 0 +ℚ entry s 1
dot_two [] = ring rationals [] (lit 0 ≐ lit 0 ⊕ lit 0) refl
dot_two (x ∷ []) = ring rationals (x ∷ []) (λ x. lit 1 ⊗ x ⊕ lit 0 ≐ x ⊕ lit 0) refl
dot_two (x ∷ y ∷ s) = ring rationals (x ∷ y ∷ []) (λ x y. lit 1 ⊗ x ⊕ (lit 1 ⊗ y ⊕ lit 0) ≐ x ⊕ y) refl

-- the left side of s + t = high - low
pub slacks_side : (n k : ℕ) (z : List ℚ)
    → dot (zeros n) z +ℚ dot (one_ℚ ∷ one_ℚ ∷ []) (drop k (drop (length (zeros n)) z)) ≡ entry (drop k (drop n z)) 0 +ℚ entry (drop k (drop n z)) 1
slacks_side n k z =
    ap (λ a. a +ℚ dot (one_ℚ ∷ one_ℚ ∷ []) (drop k (drop (length (zeros n)) z))) (dot-zeros_left n z)
    ∙ ap (λ m. zero_ℚ +ℚ dot (one_ℚ ∷ one_ℚ ∷ []) (drop k (drop m z))) (length-zeros n)
    ∙ ap (λ a. zero_ℚ +ℚ a) (dot_two (drop k (drop n z)))
    ∙ ring rationals (entry (drop k (drop n z)) 0 ∷ entry (drop k (drop n z)) 1 ∷ []) (λ x y. lit 0 ⊕ (x ⊕ y) ≐ x ⊕ y) refl
