-- The equations and sides with c times their numbers: with c = 1 those of a point, with c = 0 those of a direction.
-- Where the equations hold at numbers not below 0, what they stand for is within the sides.
use Rattle.std.specs.Prelude.{◌≡◌, ℕ, suc, ◌+◌, List, [], ◌∷◌, length, drop, Option, Some, None, IfSome, OnSome, Bool, true, false}
use Rattle.std.specs.List.{All}
use Rattle.std.proofs.Common.{arith, sym, subst, ◌∙◌, ap, refl, cond}
use Rattle.std.proofs.lemmas.List.Elements.{All-head, All-tail, All-drop}
use Rattle.algebra.proofs.Polynomial.{◌⊕◌, ◌⊝◌, ◌⊗◌, ◌≐◌, ◌≼◌, lit, minus}
use Rattle.algebra.proofs.Solver.{ring}
use Rattle.algebra.proofs.Certificate.{prove, given, scaled, ◌⊞◌, ◌⇐◌}
use Rattle.rational.specs.Rational.{ℚ, zero_ℚ, one_ℚ, neg_ℚ, ◌+ℚ◌, ◌-ℚ◌, ◌*ℚ◌}
use Rattle.rational.specs.Order.{◌≤ℚ◌, same_fields, same_fields_lem}
use Rattle.rational.specs.Sums.{entry}
use Rattle.rational.specs.Vectors.{dot, add_each, zeros, unit_vector, rows_dot}
use Rattle.rational.proofs.Field.{rationals}
use Rattle.rational.proofs.Order.{ordered_rationals}
use Rattle.rational.proofs.OrderLaws.{le_of_eq}
use Rattle.rational.proofs.Vectors.{dot-unit_vector}
use Rattle.program_law.specs.declared.Row.{Row}
use Rattle.program_law.specs.Region.{Region}
use Rattle.program_law.specs.Columns.{AllWithin}
use Rattle.certificate_law.specs.Ray.{AllKeepSides}
use Rattle.equational_law.specs.Standing.{standing_by, standing, shift_at, shift, parts_at, change_at, change, spread}
use Rattle.equational_law.specs.Equations.{Equation, row_equations_by, row_equations, slacks_at, bound_equation_by, bound_slacks_by, bound_equations}
use Rattle.equational_law.specs.Solutions.{IsNotNegative}
use Rattle.equational_law.proofs.Adjoint.{adjoint, length-change}
use Rattle.equational_law.proofs.Equations.{All-front, All-back, nonneg_entry, left_side, equation, dot_one, slacks_side}

abbrev pub IsScaled : ℚ → List ℚ → Equation → Type 0
IsScaled c z e = left_side z e ≡ c *ℚ e.right

-- within c times the sides
pub record IsScaledWithin (c : ℚ) (from to : Option ℚ) (v : ℚ) : Type 0 where
  pub low : IfSome from (λ l. (c *ℚ l) ≤ℚ v)
  pub high : IfSome to (λ u. v ≤ℚ (c *ℚ u))

abbrev pub AllScaledWithin : ℚ → List Row → List ℚ → Type 0
AllScaledWithin c [] [] = Unit {0}
AllScaledWithin c [] (v ∷ vs) = ⊥
AllScaledWithin c (s ∷ ss) [] = ⊥
AllScaledWithin c (s ∷ ss) (v ∷ vs) = IsScaledWithin c s.low s.high v × AllScaledWithin c ss vs

-- ---- 1 times the sides, and 0 times

pub one_times : (x : ℚ) → one_ℚ *ℚ x ≡ x
one_times x = ring rationals (x ∷ []) (λ x. lit 1 ⊗ x ≐ x) refl

pub zero_times : (x : ℚ) → zero_ℚ *ℚ x ≡ zero_ℚ
zero_times x = ring rationals (x ∷ []) (λ x. lit 0 ⊗ x ≐ lit 0) refl

pub scaled_within : (ss : List Row) (vs : List ℚ) → AllWithin ss vs → AllScaledWithin one_ℚ ss vs
scaled_within [] [] w = tt
scaled_within [] (v ∷ vs) w = w
scaled_within (s ∷ ss) [] w = w
scaled_within (s ∷ ss) (v ∷ vs) w = (record { low = low s.low w.0.low; high = high s.high w.0.high }, scaled_within ss vs w.1)
  where
    low : (o : Option ℚ) → IfSome o (λ l. l ≤ℚ v) → IfSome o (λ l. (one_ℚ *ℚ l) ≤ℚ v)
    low None h = tt
    low (Some l) h = subst (λ m. m ≤ℚ v) (sym (one_times l)) h

    high : (o : Option ℚ) → IfSome o (λ u. v ≤ℚ u) → IfSome o (λ u. v ≤ℚ (one_ℚ *ℚ u))
    high None h = tt
    high (Some u) h = subst (λ m. v ≤ℚ m) (sym (one_times u)) h

pub within_scaled : (ss : List Row) (vs : List ℚ) → AllScaledWithin one_ℚ ss vs → AllWithin ss vs
within_scaled [] [] w = tt
within_scaled [] (v ∷ vs) w = w
within_scaled (s ∷ ss) [] w = w
within_scaled (s ∷ ss) (v ∷ vs) w = (record { low = low s.low w.0.low; high = high s.high w.0.high }, within_scaled ss vs w.1)
  where
    low : (o : Option ℚ) → IfSome o (λ l. (one_ℚ *ℚ l) ≤ℚ v) → IfSome o (λ l. l ≤ℚ v)
    low None h = tt
    low (Some l) h = subst (λ m. m ≤ℚ v) (one_times l) h

    high : (o : Option ℚ) → IfSome o (λ u. v ≤ℚ (one_ℚ *ℚ u)) → IfSome o (λ u. v ≤ℚ u)
    high None h = tt
    high (Some u) h = subst (λ m. v ≤ℚ m) (one_times u) h

pub scaled_keep : (ss : List Row) (ds : List ℚ) → AllKeepSides ss ds → AllScaledWithin zero_ℚ ss ds
scaled_keep [] [] w = tt
scaled_keep [] (d ∷ ds) w = w
scaled_keep (s ∷ ss) [] w = w
scaled_keep (s ∷ ss) (d ∷ ds) w = (record { low = low s.low w.0.low; high = high s.high w.0.high }, scaled_keep ss ds w.1)
  where
    low : (o : Option ℚ) → OnSome o (zero_ℚ ≤ℚ d) → IfSome o (λ l. (zero_ℚ *ℚ l) ≤ℚ d)
    low None h = tt
    low (Some l) h = subst (λ m. m ≤ℚ d) (sym (zero_times l)) h

    high : (o : Option ℚ) → OnSome o (d ≤ℚ zero_ℚ) → IfSome o (λ u. d ≤ℚ (zero_ℚ *ℚ u))
    high None h = tt
    high (Some u) h = subst (λ m. d ≤ℚ m) (sym (zero_times u)) h

pub keep_scaled : (ss : List Row) (ds : List ℚ) → AllScaledWithin zero_ℚ ss ds → AllKeepSides ss ds
keep_scaled [] [] w = tt
keep_scaled [] (d ∷ ds) w = w
keep_scaled (s ∷ ss) [] w = w
keep_scaled (s ∷ ss) (d ∷ ds) w = (record { low = low s.low w.0.low; high = high s.high w.0.high }, keep_scaled ss ds w.1)
  where
    low : (o : Option ℚ) → IfSome o (λ l. (zero_ℚ *ℚ l) ≤ℚ d) → OnSome o (zero_ℚ ≤ℚ d)
    low None h = tt
    low (Some l) h = subst (λ m. m ≤ℚ d) (zero_times l) h

    high : (o : Option ℚ) → IfSome o (λ u. d ≤ℚ (zero_ℚ *ℚ u)) → OnSome o (d ≤ℚ zero_ℚ)
    high None h = tt
    high (Some u) h = subst (λ m. d ≤ℚ m) (zero_times u) h

-- ---- one row, in numbers: a is A h, b is A T z, and s and t its slacks

same_scaled : (c a b l : ℚ) → b +ℚ zero_ℚ ≡ c *ℚ (l -ℚ a) → c *ℚ l ≡ c *ℚ a +ℚ b
same_scaled c a b l h = prove ordered_rationals (c ∷ a ∷ b ∷ l ∷ []) (λ c a b l. c ⊗ l ≐ c ⊗ a ⊕ b ⇐ scaled (minus (lit 1)) (b ⊕ lit 0) (c ⊗ (l ⊝ a))) refl h

high_scaled : (c a b s u : ℚ) → b +ℚ one_ℚ *ℚ s ≡ c *ℚ (u -ℚ a) → zero_ℚ ≤ℚ s → (c *ℚ a +ℚ b) ≤ℚ (c *ℚ u)
high_scaled c a b s u h n =
    prove ordered_rationals (c ∷ a ∷ b ∷ s ∷ u ∷ []) (λ c a b s u. c ⊗ a ⊕ b ≼ c ⊗ u ⇐ scaled (lit 1) (b ⊕ lit 1 ⊗ s) (c ⊗ (u ⊝ a)) ⊞ given (lit 0 ≼ s)) refl h n

low_scaled : (c a b s l : ℚ) → b +ℚ neg_ℚ one_ℚ *ℚ s ≡ c *ℚ (l -ℚ a) → zero_ℚ ≤ℚ s → (c *ℚ l) ≤ℚ (c *ℚ a +ℚ b)
low_scaled c a b s l h n =
    prove ordered_rationals (c ∷ a ∷ b ∷ s ∷ l ∷ [])
    (λ c a b s l. c ⊗ l ≼ c ⊗ a ⊕ b ⇐ scaled (minus (lit 1)) (b ⊕ minus (lit 1) ⊗ s) (c ⊗ (l ⊝ a)) ⊞ given (lit 0 ≼ s)) refl h n

two_scaled : (c a b s t l u : ℚ) → b +ℚ one_ℚ *ℚ s ≡ c *ℚ (u -ℚ a) → s +ℚ t ≡ c *ℚ (u -ℚ l) → zero_ℚ ≤ℚ t → (c *ℚ l) ≤ℚ (c *ℚ a +ℚ b)
two_scaled c a b s t l u h k n =
    prove ordered_rationals (c ∷ a ∷ b ∷ s ∷ t ∷ l ∷ u ∷ [])
    (λ c a b s t l u. c ⊗ l ≼ c ⊗ a ⊕ b ⇐ scaled (minus (lit 1)) (b ⊕ lit 1 ⊗ s) (c ⊗ (u ⊝ a)) ⊞ scaled (lit 1) (s ⊕ t) (c ⊗ (u ⊝ l)) ⊞ given (lit 0 ≼ t)) refl h k n

-- the slack read off the left side
read : (b m : ℚ) (s : List ℚ) (r : ℚ) → b +ℚ dot (m ∷ []) s ≡ r → b +ℚ m *ℚ entry s 0 ≡ r
read b m s r h = ap (λ x. b +ℚ x) (sym (dot_one m s)) ∙ h

row_back : (c : ℚ) (low high : Option ℚ) (k : ℕ) (row : List ℚ) (a : ℚ) (z : List ℚ) → All IsNotNegative z → All (IsScaled c z) (row_equations_by low high k row a)
    → IsScaledWithin c low high (c *ℚ a +ℚ dot row z)
row_back c low high k row a z n h = by low high h
  where
    b : ℚ
    b = dot row z

    s : List ℚ
    s = drop k (drop (length row) z)

    m : All IsNotNegative s
    m = All-drop IsNotNegative k (drop (length row) z) (All-drop IsNotNegative (length row) z n)

    own : List ℚ → ℚ → Equation
    own slacks right = equation row k slacks right

    gap : ℚ → Equation
    gap right = equation (zeros (length row)) k (one_ℚ ∷ one_ℚ ∷ []) right

    by_same : (l u : ℚ) (t : Bool) → same_fields l u ≡ t → All (IsScaled c z) (cond t (own [] (l -ℚ a) ∷ []) (own (one_ℚ ∷ []) (u -ℚ a) ∷ gap (u -ℚ l) ∷ []))
        → IsScaledWithin c (Some l) (Some u) (c *ℚ a +ℚ b)
    by_same l u true e h =
        let f : c *ℚ l ≡ c *ℚ a +ℚ b = same_scaled c a b l (All-head (IsScaled c z) (own [] (l -ℚ a)) [] h) in
        record { low = le_of_eq f; high = le_of_eq (sym f ∙ ap (λ x. c *ℚ x) (same_fields_lem l u e)) }
    by_same l u false e h =
        let one = own (one_ℚ ∷ []) (u -ℚ a) in
        let other = gap (u -ℚ l) in
        let f : b +ℚ one_ℚ *ℚ entry s 0 ≡ c *ℚ (u -ℚ a) = read b one_ℚ s (c *ℚ (u -ℚ a)) (All-head (IsScaled c z) one (other ∷ []) h) in
        let g : entry s 0 +ℚ entry s 1 ≡ c *ℚ (u -ℚ l) =
        sym (slacks_side (length row) k z) ∙ All-head (IsScaled c z) other [] (All-tail (IsScaled c z) one (other ∷ []) h) in
        record { low = two_scaled c a b (entry s 0) (entry s 1) l u f g (nonneg_entry s 1 m); high = high_scaled c a b (entry s 0) u f (nonneg_entry s 0 m) }

    by : (low high : Option ℚ) → All (IsScaled c z) (row_equations_by low high k row a) → IsScaledWithin c low high (c *ℚ a +ℚ b)
    by None None h = record { low = tt; high = tt }
    by None (Some u) h =
        let f = read b one_ℚ s (c *ℚ (u -ℚ a)) (All-head (IsScaled c z) (own (one_ℚ ∷ []) (u -ℚ a)) [] h) in
        record { low = tt; high = high_scaled c a b (entry s 0) u f (nonneg_entry s 0 m) }
    by (Some l) None h =
        let f = read b (neg_ℚ one_ℚ) s (c *ℚ (l -ℚ a)) (All-head (IsScaled c z) (own (neg_ℚ one_ℚ ∷ []) (l -ℚ a)) [] h) in
        record { low = low_scaled c a b (entry s 0) l f (nonneg_entry s 0 m); high = tt }
    by (Some l) (Some u) h = by_same l u (same_fields l u) refl h

-- the sums of the rows at x, which is c h + T z
pub rows_back : (c : ℚ) (region : Region) (x z : List ℚ) (k : ℕ) (ss : List Row) (rows : List (List ℚ)) → length rows ≡ length ss
    → ((row : List ℚ) → c *ℚ dot row (shift region) +ℚ dot row (change region z) ≡ dot row x) → All IsNotNegative z
    → All (IsScaled c z) (row_equations region (shift region) k ss rows) → AllScaledWithin c ss (rows_dot rows x)
rows_back c region x z k [] [] f sum n w = tt
rows_back c region x z k [] (row ∷ rows) f sum n w = absurd (omega arith)
rows_back c region x z k (s ∷ ss) [] f sum n w = absurd (omega arith)
rows_back c region x z k (s ∷ ss) (row ∷ rows) f sum n w =
    let a = dot row (shift region) in
    let these = row_equations_by s.low s.high k (spread region row) a in
    let others = row_equations region (shift region) (k + slacks_at s) ss rows in (
      subst (IsScaledWithin c s.low s.high) (ap (λ y. c *ℚ a +ℚ y) (adjoint region row z) ∙ sum row)
          (row_back c s.low s.high k (spread region row) a z n (All-front (IsScaled c z) these others w)),
      rows_back c region x z (k + slacks_at s) ss rows (omega arith) sum n (All-back (IsScaled c z) these others w),
    )

-- ---- one column

above_low : (l x : ℚ) → zero_ℚ ≤ℚ x → l ≤ℚ (l +ℚ x)
above_low l x n = prove ordered_rationals (l ∷ x ∷ []) (λ l x. l ≼ l ⊕ x ⇐ given (lit 0 ≼ x)) refl n

below_high : (u x : ℚ) → zero_ℚ ≤ℚ x → (u +ℚ neg_ℚ x) ≤ℚ u
below_high u x n = prove ordered_rationals (u ∷ x ∷ []) (λ u x. u ⊕ minus x ≼ u ⇐ given (lit 0 ≼ x)) refl n

column_back : (c : ℚ) (low high : Option ℚ) (k : ℕ) (unit z rest : List ℚ) → All IsNotNegative z → All IsNotNegative rest
    → dot unit z ≡ change_at (standing_by low high) rest → All (IsScaled c z) (bound_equation_by low high k unit)
    → IsScaledWithin c low high (c *ℚ shift_at (standing_by low high) +ℚ change_at (standing_by low high) rest)
column_back c None None k unit z rest n m e h = record { low = tt; high = tt }
column_back c None (Some u) k unit z rest n m e h = record { low = tt; high = below_high (c *ℚ u) (entry rest 0) (nonneg_entry rest 0 m) }
column_back c (Some l) None k unit z rest n m e h = record { low = above_low (c *ℚ l) (entry rest 0) (nonneg_entry rest 0 m); high = tt }
column_back c (Some l) (Some u) k unit z rest n m e h =
    let s = drop k (drop (length unit) z) in
    let p : All IsNotNegative s = All-drop IsNotNegative k (drop (length unit) z) (All-drop IsNotNegative (length unit) z n) in
    let f = ap (λ x. x +ℚ one_ℚ *ℚ entry s 0) (sym e) ∙ read (dot unit z) one_ℚ s (c *ℚ (u -ℚ l)) (All-head (IsScaled c z) (equation unit k (one_ℚ ∷ []) (u -ℚ l)) [] h) in
    record { low = above_low (c *ℚ l) (entry rest 0) (nonneg_entry rest 0 m); high = high_scaled c l (entry rest 0) (entry s 0) u f (nonneg_entry s 0 p) }

-- what the bound's equation has on the file's columns
pub unit_side : (region : Region) (j : ℕ) (z : List ℚ) → dot (spread region (unit_vector (length region) j)) z ≡ entry (change region z) j
unit_side region j z =
    adjoint region (unit_vector (length region) j) z ∙ dot-unit_vector (length region) j (change region z) (let e = length-change region z in omega arith)

-- c h + T z
abbrev pub placed : ℚ → Region → List ℚ → List ℚ
placed c [] z = []
placed c (b ∷ bs) z = (c *ℚ shift_at (standing b) +ℚ change_at (standing b) z) ∷ placed c bs (drop (parts_at (standing b)) z)

pub placed_one : (region : Region) (z : List ℚ) → placed one_ℚ region z ≡ add_each (shift region) (change region z)
placed_one [] z = refl
placed_one (b ∷ bs) z =
    let s = standing b in
    let rest = drop (parts_at s) z in
    ap (λ y. (y +ℚ change_at s z) ∷ placed one_ℚ bs rest) (one_times (shift_at s)) ∙ ap (λ ys. (shift_at s +ℚ change_at s z) ∷ ys) (placed_one bs rest)

pub placed_zero : (region : Region) (z : List ℚ) → placed zero_ℚ region z ≡ change region z
placed_zero [] z = refl
placed_zero (b ∷ bs) z =
    let s = standing b in
    let rest = drop (parts_at s) z in
    ap (λ y. y ∷ placed zero_ℚ bs rest) (ring rationals (shift_at s ∷ change_at s z ∷ []) (λ h d. lit 0 ⊗ h ⊕ d ≐ d) refl) ∙ ap (λ ys. change_at s z ∷ ys) (placed_zero bs rest)

pub columns_back : (c : ℚ) (region : Region) (z : List ℚ) (k j : ℕ) (bs : Region) (rest : List ℚ)
    → ((i : ℕ) → entry (change region z) (j + i) ≡ entry (change bs rest) i) → All IsNotNegative z → All IsNotNegative rest
    → All (IsScaled c z) (bound_equations region k j bs) → AllScaledWithin c bs (placed c bs rest)
columns_back c region z k j [] rest same n m w = tt
columns_back c region z k j (b ∷ bs) rest same n m w =
    let unit = spread region (unit_vector (length region) j) in
    let these = bound_equation_by b.low b.high k unit in
    let others = bound_equations region (k + bound_slacks_by b.low b.high) (suc j) bs in (
      column_back c b.low b.high k unit z rest n m
          (unit_side region j z ∙ ap (entry (change region z)) (omega arith) ∙ same 0)
          (All-front (IsScaled c z) these others w),
      columns_back c region z (k + bound_slacks_by b.low b.high) (suc j) bs (drop (parts_at (standing b)) rest)
          (λ i. ap (entry (change region z)) (omega arith) ∙ same (suc i)) n (All-drop IsNotNegative (parts_at (standing b)) rest m)
          (All-back (IsScaled c z) these others w),
    )
