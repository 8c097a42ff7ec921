-- The list of a leaf's check, and that its tests hold where it is good.
use Rattle.std.specs.Prelude.{◌≡◌, ℕ, suc, ℤ, pos, int_lt, List, [], ◌∷◌, length, Option, Some, None, IsSome, unwrap_or, Bool, true, false, Result, Ok}
use Rattle.std.specs.Ordering.{int_eq}
use Rattle.std.proofs.lemmas.List.Elements.{All-head}
use Rattle.std.proofs.Common.{arith, sym, ◌∙◌, refl, cond}
use Rattle.std.proofs.lemmas.Int.{ints}
use Rattle.std.proofs.lemmas.Bool.Decides.{nat_tests}
use Rattle.rational.specs.Rational.{ℚ, zero_ℚ, ◌+ℚ◌, ◌-ℚ◌, ◌*ℚ◌}
use Rattle.program_law.proofs.Ring.{ring_by, x0, x1, x2}
use Rattle.algebra.proofs.Polynomial.{◌⊕◌, num}
use Rattle.rational.specs.Tests.{is_zero, is_positive, is_negative}
use Rattle.program_law.proofs.Numbers.{zero_between, positive_above, above_positive, le_tested, le_test}
use Rattle.frac_core.specs.declared.fractions.Op.TheVariants.{Add, Sub, Mul}
use Rattle.frac_core.specs.declared.fractions.Refused.{Refused}
use Rattle.frac_core.specs.Operations.{operation}
use Rattle.frac_core.specs.Dot.{dot_ops}
use Rattle.program_law.specs.declared.Row.{Row}
use Rattle.rational.specs.Vectors.{dot, form, row_at, column}
use Rattle.rational.specs.Sums.{entry}
use Rattle.program_law.specs.Region.{Region}
use Rattle.program_law.specs.Program.{Program, sides}
use Rattle.program_law.specs.Value.{half}
use Rattle.certificate_law.specs.Leaf.{gradient, no_gradient, residual_from, side_for, HasSide, HaveSides, sides_sum, HasAllSides, total, lower_bound, IsGoodFarkas}
use Rattle.certificate_law.specs.Tree.{IsGoodFor}
use Rattle.cert_check_law.specs.declared.Event.{Event}
use Rattle.cert_check_law.specs.Chain.{◌>>=◌, op, test}
use Rattle.cert_check_law.specs.Dot.{dot_of}
use Rattle.cert_check_law.specs.Value.{half_form}
use Rattle.cert_check_law.specs.Leaf.{needed, with_side, with_rows, gradient_at, no_gradient_at, with_column, with_columns, leaf_sum, farkas_test, reaches, bound_test}
use Rattle.cert_check_law.specs.Entries.{Test, Holds}
use Rattle.cert_check_law.specs.LeafList.{needed_list, with_side_list, with_rows_list, gradient_at_ops, no_gradient_ops, with_column_list, with_columns_list, leaf_sum_list, farkas_list, bound_list}
use Rattle.cert_check_law.proofs.Listed.{stopped, Listed, Works, done, vacuous, joined, after, and_then, converted, of_value, chosen, tested, operated}
use Rattle.cert_check_law.proofs.Dots.{dot_listed}
use Rattle.cert_check_law.proofs.Products.{half_listed, nothing_left, plus_nothing}
use Rattle.cert_check_law.proofs.Points.{longer, shorter}

no : {A : Type 0} → false ≡ true → A
no e = absurd (clash e)
  where
    clash : false ≡ true → ⊥
    clash e = cc

-- a side that is to be there, and the sum with it
needed_listed : {C : Type 0} (node : ℕ) (sum y : ℚ) (o : Option ℚ) → Listed C (needed node o >>= λ side. op Mul y side >>= λ t. op Add sum t) (needed_list node sum y o) (sum +ℚ y *ℚ unwrap_or o zero_ℚ) (IsSome o)
needed_listed node sum y None = record {
  ends = stopped (Test false 7 node) [] (λ h. no h);
  tells = λ c a. All-head Holds (Test false 7 node) [] a;
  needs = λ c h. no h;
}
needed_listed node sum y (Some side) =
    converted (op Mul y side >>= λ t. op Add sum t) (λ c h. refl) (λ c h. (refl, tt))
    (joined (test true 7 node) (λ _. op Mul y side >>= λ t. op Add sum t) (tested true 7 node (λ e. e) (λ e. e))
    (and_then (operation Mul y side ∷ []) (operation Add sum (y *ℚ side) ∷ []) (op Mul y side) (λ t. op Add sum t) (operated Mul y side) (operated Add sum (y *ℚ side))))

-- the signs exclude each other
not_both : (q : ℚ) → is_positive q ≡ true → is_negative q ≡ true → false ≡ true
not_both q e f = absurd (by q.num e f)
  where
    by : (n : ℤ) → int_lt (pos 0) n ≡ true → int_lt n (pos 0) ≡ true → ⊥
    by n e f = grind (arith, ints, nat_tests)

zero_not_positive : (q : ℚ) → is_zero q ≡ true → is_positive q ≡ true → false ≡ true
zero_not_positive q e f = absurd (by q.num e f)
  where
    by : (n : ℤ) → int_eq n (pos 0) ≡ true → int_lt (pos 0) n ≡ true → ⊥
    by n e f = grind (arith, ints, nat_tests)

zero_not_negative : (q : ℚ) → is_zero q ≡ true → is_negative q ≡ true → false ≡ true
zero_not_negative q e f = absurd (by q.num e f)
  where
    by : (n : ℤ) → int_eq n (pos 0) ≡ true → int_lt n (pos 0) ≡ true → ⊥
    by n e f = grind (arith, ints, nat_tests)

no_side : (y : ℚ) (s : Row) → is_zero y ≡ true → HasSide y s
no_side y s e = record { low = λ f. no (zero_not_positive y e f); high = λ f. no (zero_not_negative y e f) }

-- a multiplier that isn't 0 has its side where the side that it takes is there
has_side : (y : ℚ) (s : Row) → IsSome (side_for y s) → HasSide y s
has_side y s h = by (is_positive y) refl h
  where
    by : (a : Bool) → is_positive y ≡ a → IsSome (cond a s.low s.high) → HasSide y s
    by true e h = record { low = λ _. h; high = λ f. no (not_both y e f) }
    by false e h = record { low = λ f. no (sym e ∙ f); high = λ _. h }

side_there : (y : ℚ) (s : Row) → is_zero y ≡ false → HasSide y s → IsSome (side_for y s)
side_there y s z h = by (is_positive y) refl (is_negative y) refl
  where
    by : (a : Bool) → is_positive y ≡ a → (b : Bool) → is_negative y ≡ b → IsSome (cond a s.low s.high)
    by true e b f = h.low e
    by false e true f = h.high f
    by false e false f = no (sym z ∙ zero_between y e f)

multiplier_listed : {C : Type 0} (node : ℕ) (sum y : ℚ) (s : Row) → Listed C (with_side node sum y s) (with_side_list node sum y s) (sum +ℚ y *ℚ unwrap_or (side_for y s) zero_ℚ) (HasSide y s)
unfolding with_side
multiplier_listed node sum y s =
    let side = unwrap_or (side_for y s) zero_ℚ in
    chosen (is_zero y) (Ok sum) (needed node (side_for y s) >>= λ side. op Mul y side >>= λ t. op Add sum t) [] (needed_list node sum y (side_for y s))
    (λ e. of_value (Ok sum) (plus_nothing sum (y *ℚ side) (nothing_left y side e)) (done sum (no_side y s e)))
    (λ e. converted (needed node (side_for y s) >>= λ side. op Mul y side >>= λ t. op Add sum t) (λ c. has_side y s) (λ c. side_there y s e) (needed_listed node sum y (side_for y s)))

-- a sum that goes on
goes_on : (sum a b : ℚ) → (sum +ℚ a) +ℚ b ≡ sum +ℚ (a +ℚ b)
goes_on sum a b = ring_by (sum ∷ a ∷ b ∷ []) ((x0 ⊕ x1) ⊕ x2) (x0 ⊕ (x1 ⊕ x2)) refl

rows_listed : {C : Type 0} (node : ℕ) (sum : ℚ) (ys : List ℚ) (ss : List Row) → (C → length ys ≡ length ss) → Listed C (with_rows node sum ys ss) (with_rows_list node sum ys ss) (sum +ℚ sides_sum ys ss) (HaveSides ys ss)
rows_listed node sum [] ss n = of_value (Ok sum) (plus_nothing sum zero_ℚ refl) (done sum tt)
rows_listed node sum (y ∷ ys) [] n = of_value (Ok sum) (plus_nothing sum zero_ℚ refl) (vacuous sum (λ c. longer y ys (n c)))
rows_listed node sum (y ∷ ys) (s ∷ ss) n =
    let term = y *ℚ unwrap_or (side_for y s) zero_ℚ in
    of_value (with_rows node sum (y ∷ ys) (s ∷ ss)) (goes_on sum term (sides_sum ys ss))
    (joined (with_side node sum y s) (λ u. with_rows node u ys ss) (multiplier_listed node sum y s) (rows_listed node (sum +ℚ term) ys ss (λ c. shorter y ys s ss (n c))))

module _ (C : Type 0) (node : ℕ) (g : ℕ → Result ℚ Event) (ops : ℕ → List Refused) (slope : ℕ → ℚ) (g_listed : (j : ℕ) → Works C (g j) (ops j) (slope j)) (rows : List (List ℚ)) (y : List ℚ) where
  column_listed : (j : ℕ) (sum : ℚ) (b : Row) → let s = slope j -ℚ dot (column j rows) y in Listed C (with_column node g rows y j sum b) (with_column_list node ops slope rows y j sum b) (sum +ℚ s *ℚ unwrap_or (side_for s b) zero_ℚ) (HasSide s b)
  unfolding with_column
  column_listed j sum b =
      let a = dot (column j rows) y in
      after (g j) (λ gj. dot_of (column j rows) y >>= λ a. op Sub gj a >>= λ s. with_side node sum s b) (g_listed j)
      (after (dot_of (column j rows) y) (λ a. op Sub (slope j) a >>= λ s. with_side node sum s b) (dot_listed (column j rows) y)
      (after (op Sub (slope j) a) (λ s. with_side node sum s b) (operated Sub (slope j) a) (multiplier_listed node sum (slope j -ℚ a) b)))

  pub columns_listed : (j : ℕ) (sum : ℚ) (bs : Region) → let s = residual_from slope rows y j bs in Listed C (with_columns node g rows y j sum bs) (with_columns_list node ops slope rows y j sum bs) (sum +ℚ sides_sum s bs) (HaveSides s bs)
  columns_listed j sum [] = of_value (Ok sum) (plus_nothing sum zero_ℚ refl) (done sum tt)
  columns_listed j sum (b ∷ bs) =
      let s = slope j -ℚ dot (column j rows) y in
      let term = s *ℚ unwrap_or (side_for s b) zero_ℚ in
      of_value (with_columns node g rows y j sum (b ∷ bs)) (goes_on sum term (sides_sum (residual_from slope rows y (suc j) bs) bs))
      (joined (with_column node g rows y j sum b) (λ u. with_columns node g rows y (suc j) u bs) (column_listed j sum b)
      (columns_listed (suc j) (sum +ℚ term) bs))

sum_listed : {C : Type 0} (p : Program) (node : ℕ) (g : ℕ → Result ℚ Event) (ops : ℕ → List Refused) (slope : ℕ → ℚ) → ((j : ℕ) → Works C (g j) (ops j) (slope j)) → (region : Region) (y : List ℚ) → (C → length y ≡ length (sides p)) → Listed C (leaf_sum p node g region y) (leaf_sum_list p node ops slope region y) (total p slope region y) (HasAllSides p slope region y)
unfolding leaf_sum
sum_listed {C = C} p node g ops slope h region y n =
    let u = sides_sum y (sides p) in
    converted (with_rows node zero_ℚ y (sides p) >>= λ u. with_columns node g p.entries y 0 u region)
    (λ c t. record { rows = t.0; columns = t.1 }) (λ c t. (t.rows, t.columns))
    (joined (with_rows node zero_ℚ y (sides p)) (λ u. with_columns node g p.entries y 0 u region)
    (of_value (with_rows node zero_ℚ y (sides p)) (ring_by (u ∷ []) (num (pos 0) ⊕ x0) x0 refl) (rows_listed node zero_ℚ y (sides p) n))
    (columns_listed C node g ops slope h p.entries y 0 u region))

pub farkas_listed : {C : Type 0} (p : Program) (node : ℕ) (region : Region) (y : List ℚ) → (C → length y ≡ length (sides p)) → Listed C (farkas_test p node region y) (farkas_list p node region y) tt (IsGoodFarkas p region y)
unfolding farkas_test
farkas_listed p node region y n =
    let s = total p no_gradient region y in
    converted (leaf_sum p node no_gradient_at region y >>= λ s. test (is_positive s) 9 node)
    (λ c t. record { has_sides = t.0; above = t.1 }) (λ c t. (t.has_sides, t.above))
    (joined (leaf_sum p node no_gradient_at region y) (λ s. test (is_positive s) 9 node) (sum_listed p node no_gradient_at no_gradient_ops no_gradient (λ j. done zero_ℚ tt) region y n)
    (tested (is_positive s) 9 node (positive_above s) (above_positive s)))

gradient_listed : {C : Type 0} (p : Program) (w : List ℚ) (j : ℕ) → Works C (gradient_at p.pairs p.costs w j) (gradient_at_ops p w j) (gradient p w j)
unfolding gradient_at
gradient_listed p w j =
    and_then (dot_ops (row_at p.pairs j) w) (operation Add (dot (row_at p.pairs j) w) (entry p.costs j) ∷ []) (dot_of (row_at p.pairs j) w) (λ t. op Add t (entry p.costs j)) (dot_listed (row_at p.pairs j) w) (operated Add (dot (row_at p.pairs j) w) (entry p.costs j))

good_if : (p : Program) (v : Option ℚ) (region : Region) (w y : List ℚ) → HasAllSides p (gradient p w) region y × (reaches v (lower_bound p region w y) ≡ true) → IsGoodFor p v region w y
good_if p None region w y t = no t.1
good_if p (Some v) region w y t = record { has_sides = t.0; enough = le_tested v (lower_bound p region w y) t.1 }

if_good : (p : Program) (v : Option ℚ) (region : Region) (w y : List ℚ) → IsGoodFor p v region w y → HasAllSides p (gradient p w) region y × (reaches v (lower_bound p region w y) ≡ true)
if_good p None region w y t = absurd t
if_good p (Some v) region w y t = (t.has_sides, le_test v (lower_bound p region w y) t.enough)

pub bound_listed : {C : Type 0} (p : Program) (v : Option ℚ) (node : ℕ) (region : Region) (w y : List ℚ) → (C → length y ≡ length (sides p)) → Listed C (bound_test p v node region w y) (bound_list p v node region w y) tt (IsGoodFor p v region w y)
unfolding bound_test
bound_listed p v node region w y n =
    let s = total p (gradient p w) region y in let h = half *ℚ form p.pairs w w in let low = lower_bound p region w y in
    converted (bound_test p v node region w y) (λ c. good_if p v region w y) (λ c. if_good p v region w y)
    (joined (leaf_sum p node (gradient_at p.pairs p.costs w) region y) (λ s. half_form p.pairs w >>= λ half. op Sub p.constant half >>= λ a. op Add a s >>= λ low. test (reaches v low) 8 node)
    (sum_listed p node (gradient_at p.pairs p.costs w) (gradient_at_ops p w) (gradient p w) (gradient_listed p w) region y n)
    (after (half_form p.pairs w) (λ half. op Sub p.constant half >>= λ a. op Add a s >>= λ low. test (reaches v low) 8 node) (half_listed p.pairs w)
    (after (op Sub p.constant h) (λ a. op Add a s >>= λ low. test (reaches v low) 8 node) (operated Sub p.constant h)
    (after (op Add (p.constant -ℚ h) s) (λ low. test (reaches v low) 8 node) (operated Add (p.constant -ℚ h) s)
    (tested (reaches v low) 8 node (λ e. e) (λ e. e))))))
