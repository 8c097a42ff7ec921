-- The list of the squares' check, and that its tests hold where they sum to the form.
use Rattle.std.specs.Prelude.{◌≡◌, ℕ, zero, suc, pos, ◌+◌, ◌<◌, ◌≤◌, nat_lt, List, [], ◌∷◌, length, ◌⊎◌, ◌||◌, Bool, true, false, All, Ok}
use Rattle.std.specs.List.{AllByRecursion}
use Rattle.std.proofs.Common.{arith, sym, subst, ◌∙◌, ap, refl, inl, inr, cond}
use Rattle.std.proofs.lemmas.Bool.Decides.{nat_tests}
use Rattle.rational.specs.Rational.{ℚ, zero_ℚ, ◌+ℚ◌, ◌*ℚ◌}
use Rattle.rational.specs.Order.{same_fields, same_fields_lem, same_fields_self}
use Rattle.rational.specs.Tests.{is_zero}
use Rattle.program_law.proofs.Ring.{ring_by, x0, x1, x2, x3}
use Rattle.algebra.proofs.Polynomial.{◌⊕◌, ◌⊗◌, num}
use Rattle.program_law.proofs.Numbers.{zero_is}
use Rattle.frac_core.specs.declared.fractions.Op.TheVariants.{Add, Mul}
use Rattle.frac_core.specs.Operations.{operation}
use Rattle.program_law.specs.declared.Square.{Square}
use Rattle.rational.specs.Sums.{entry}
use Rattle.rational.specs.Vectors.{row_at}
use Rattle.program_law.specs.Program.{Program, IsProgram}
use Rattle.program_law.specs.Squares.{squares_sum, AreSquaresOf}
use Rattle.cert_check_law.specs.Chain.{◌>>=◌, op, test}
use Rattle.cert_check_law.specs.Squares.{with_square, squares_from, pair_test, pairs_in_row, pairs_from, squares_test}
use Rattle.certificate_law.specs.Fits.{FitsSquares}
use Rattle.cert_check_law.specs.SquaresList.{with_square_ops, squares_from_ops, pair_list, pairs_in_row_list, pairs_from_list, squares_list}
use Rattle.cert_check_law.proofs.Listed.{Listed, Works, done, joined, after, and_then, converted, of_value, tested, operated}
use Rattle.cert_check_law.proofs.Products.{either, nothing_right, plus_nothing}

square_listed : {C : Type 0} (sum weight a b : ℚ) → Works C (with_square sum weight a b) (with_square_ops sum weight a b) (sum +ℚ weight *ℚ a *ℚ b)
unfolding with_square
square_listed {C = C} sum weight a b = by (is_zero a || is_zero b) refl
  where
    none_first : is_zero a ≡ true → weight *ℚ a *ℚ b ≡ zero_ℚ
    none_first z = ap (λ u. weight *ℚ u *ℚ b) (zero_is a z) ∙ ring_by (weight ∷ b ∷ []) (x0 ⊗ num (pos 0) ⊗ x1) (num (pos 0)) refl

    by : (z : Bool) → (is_zero a || is_zero b) ≡ z → Works C (cond z (Ok sum) (op Mul weight a >>= λ s. op Mul s b >>= λ t. op Add sum t))
        (cond z [] (operation Mul weight a ∷ operation Mul (weight *ℚ a) b ∷ operation Add sum (weight *ℚ a *ℚ b) ∷ [])) (sum +ℚ weight *ℚ a *ℚ b)
    by true e = of_value (Ok sum) (plus_nothing sum (weight *ℚ a *ℚ b) (elim (either (is_zero a) (is_zero b) e) [ inl z ↦ none_first z | inr z ↦ nothing_right (weight *ℚ a) b z ])) (done sum tt)
    by false e =
        and_then (operation Mul weight a ∷ []) (operation Mul (weight *ℚ a) b ∷ operation Add sum (weight *ℚ a *ℚ b) ∷ []) (op Mul weight a) (λ s. op Mul s b >>= λ t. op Add sum t) (operated Mul weight a)
        (and_then (operation Mul (weight *ℚ a) b ∷ []) (operation Add sum (weight *ℚ a *ℚ b) ∷ []) (op Mul (weight *ℚ a) b) (λ t. op Add sum t) (operated Mul (weight *ℚ a) b) (operated Add sum (weight *ℚ a *ℚ b)))

sum_listed : {C : Type 0} (sum : ℚ) (ss : List Square) (j k : ℕ) → Works C (squares_from sum ss j k) (squares_from_ops sum ss j k) (sum +ℚ squares_sum ss j k)
sum_listed sum [] j k = of_value (Ok sum) (plus_nothing sum zero_ℚ refl) (done sum tt)
sum_listed sum (s ∷ ss) j k =
    let term = s.weight *ℚ entry s.coef j *ℚ entry s.coef k in
    of_value (squares_from sum (s ∷ ss) j k) (ring_by (sum ∷ term ∷ squares_sum ss j k ∷ []) ((x0 ⊕ x1) ⊕ x2) (x0 ⊕ (x1 ⊕ x2)) refl)
    (and_then (with_square_ops sum s.weight (entry s.coef j) (entry s.coef k)) (squares_from_ops (sum +ℚ term) ss j k) (with_square sum s.weight (entry s.coef j) (entry s.coef k)) (λ t. squares_from t ss j k) (square_listed sum s.weight (entry s.coef j) (entry s.coef k))
    (sum_listed (sum +ℚ term) ss j k))

-- Q and the squares agree at two places
abbrev Agree : List (List ℚ) → List Square → ℕ → ℕ → Type 0
Agree q ss j k = entry (row_at q j) k ≡ squares_sum ss j k

pair_listed : {C : Type 0} (q : List (List ℚ)) (ss : List Square) (j k : ℕ) → Listed C (pair_test q ss j k) (pair_list q ss j k) tt (Agree q ss j k)
unfolding pair_test
pair_listed q ss j k =
    let t = squares_sum ss j k in let there = entry (row_at q j) k in
    after (squares_from zero_ℚ ss j k) (λ t. test (same_fields t there) 5 (suc j))
    (of_value (squares_from zero_ℚ ss j k) (ring_by (t ∷ []) (num (pos 0) ⊕ x0) x0 refl) (sum_listed zero_ℚ ss j k))
    (tested (same_fields t there) 5 (suc j) (λ e. sym (same_fields_lem t there e))
    (λ e. same_fields_self t _ (sym e)))

-- in so many places of a row, and in so many rows
AgreeInRow : List (List ℚ) → List Square → ℕ → ℕ → ℕ → Type 0
AgreeInRow q ss j k zero = Unit {0}
AgreeInRow q ss j k (suc more) = Agree q ss j k × AgreeInRow q ss j (suc k) more

AgreeFrom : List (List ℚ) → List Square → ℕ → ℕ → Type 0
AgreeFrom q ss j zero = Unit {0}
AgreeFrom q ss j (suc more) = AgreeInRow q ss j j (suc more) × AgreeFrom q ss (suc j) more

row_listed : {C : Type 0} (q : List (List ℚ)) (ss : List Square) (j k more : ℕ) → Listed C (pairs_in_row q ss j k more) (pairs_in_row_list q ss j k more) tt (AgreeInRow q ss j k more)
unfolding AgreeInRow
row_listed q ss j k zero = done tt tt
row_listed q ss j k (suc more) =
    joined (pair_test q ss j k) (λ _. pairs_in_row q ss j (suc k) more) (pair_listed q ss j k) (row_listed q ss j (suc k) more)

from_listed : {C : Type 0} (q : List (List ℚ)) (ss : List Square) (j more : ℕ) → Listed C (pairs_from q ss j more) (pairs_from_list q ss j more) tt (AgreeFrom q ss j more)
unfolding AgreeFrom
from_listed q ss j zero = done tt tt
from_listed q ss j (suc more) =
    joined (pairs_in_row q ss j j (suc more)) (λ _. pairs_from q ss (suc j) more) (row_listed q ss j j (suc more)) (from_listed q ss (suc j) more)

-- ---- from all places to these, and back
row_of_all : (q : List (List ℚ)) (ss : List Square) → ((j k : ℕ) → Agree q ss j k) → (j k more : ℕ) → AgreeInRow q ss j k more
unfolding AgreeInRow
row_of_all q ss h j k zero = tt
row_of_all q ss h j k (suc more) = (h j k, row_of_all q ss h j (suc k) more)

from_all : (q : List (List ℚ)) (ss : List Square) → ((j k : ℕ) → Agree q ss j k) → (j more : ℕ) → AgreeFrom q ss j more
unfolding AgreeFrom
from_all q ss h j zero = tt
from_all q ss h j (suc more) = (row_of_all q ss h j j (suc more), from_all q ss h (suc j) more)

-- one of the two: equal, or further on
here_or_on : (j a : ℕ) → j ≤ a → (j ≡ a) ⊎ (suc j ≤ a)
here_or_on j a h = by (nat_lt j a) refl
  where
    by : (b : Bool) → nat_lt j a ≡ b → (j ≡ a) ⊎ (suc j ≤ a)
    by true e = inr (grind (arith, nat_tests))
    by false e = inl (grind (arith, nat_tests))

in_row : (q : List (List ℚ)) (ss : List Square) (j k more b : ℕ) → AgreeInRow q ss j k more → k ≤ b → b < k + more → Agree q ss j b
unfolding AgreeInRow
in_row q ss j k zero b h low high = absurd (omega arith)
in_row q ss j k (suc more) b h low high =
    elim (here_or_on k b low) [ inl e ↦ subst (λ (i : ℕ). Agree q ss j i) e h.0 | inr on ↦ in_row q ss j (suc k) more b h.1 on (omega arith) ]

in_all : (q : List (List ℚ)) (ss : List Square) (j more a b : ℕ) → AgreeFrom q ss j more → j ≤ a → a ≤ b → b < j + more → Agree q ss a b
unfolding AgreeFrom
in_all q ss j zero a b h low le high = absurd (omega arith)
in_all q ss j (suc more) a b h low le high =
    elim (here_or_on j a low) [
      | inl e ↦ subst (λ (i : ℕ). Agree q ss i b) e (in_row q ss j j (suc more) b h.0 (omega arith) high)
      | inr on ↦ in_all q ss (suc j) more a b h.1 on le (omega arith)
    ]

-- ---- past the columns there is 0 on both sides
past_end : (xs : List ℚ) (k : ℕ) → length xs ≤ k → entry xs k ≡ zero_ℚ
past_end [] k h = refl
past_end (x ∷ xs) zero h = absurd (omega (arith, h))
past_end (x ∷ xs) (suc k) h = past_end xs k (omega (arith, h))

past_rows : (q : List (List ℚ)) (j : ℕ) → length q ≤ j → row_at q j ≡ []
past_rows [] j h = refl
past_rows (row ∷ q) zero h = absurd (omega (arith, h))
past_rows (row ∷ q) (suc j) h = past_rows q j (omega (arith, h))

sum_past : (c : ℕ) (ss : List Square) (j k : ℕ) → AllByRecursion (λ s. length s.coef ≡ c) ss → c ≤ k → squares_sum ss j k ≡ zero_ℚ
sum_past c [] j k w h = refl
sum_past c (s ∷ ss) j k w h =
    ap (λ z. s.weight *ℚ entry s.coef j *ℚ z +ℚ squares_sum ss j k) (past_end s.coef k (omega (arith, w.0)))
    ∙ ap (λ z. s.weight *ℚ entry s.coef j *ℚ zero_ℚ +ℚ z) (sum_past c ss j k w.1 h)
    ∙ ring_by ((s.weight *ℚ entry s.coef j) ∷ []) (x0 ⊗ num (pos 0) ⊕ num (pos 0)) (num (pos 0)) refl

sum_turned : (ss : List Square) (j k : ℕ) → squares_sum ss j k ≡ squares_sum ss k j
sum_turned [] j k = refl
sum_turned (s ∷ ss) j k =
    ap (λ z. s.weight *ℚ entry s.coef j *ℚ entry s.coef k +ℚ z) (sum_turned ss j k)
    ∙ ring_by (s.weight ∷ entry s.coef j ∷ entry s.coef k ∷ squares_sum ss k j ∷ []) (x0 ⊗ x1 ⊗ x2 ⊕ x3) (x0 ⊗ x2 ⊗ x1 ⊕ x3) refl

by_recursion : {X : Type 0} (P : X → Type 0) (xs : List X) → All P xs → AllByRecursion P xs
by_recursion P [] w = tt
by_recursion P (x ∷ xs) w = (w 0 x (omega arith), by_recursion P xs (λ k d h. w (suc k) d (omega (arith, h))))

row_width : (q : List (List ℚ)) (c j : ℕ) → AllByRecursion (λ row. length row ≡ c) q → length (row_at q j) ≤ c
row_width [] c j w = omega arith
row_width (row ∷ q) c zero w = omega (arith, w.0)
row_width (row ∷ q) c (suc j) w = row_width q c j w.1

entry_past : (q : List (List ℚ)) (c j k : ℕ) → All (λ row. length row ≡ c) q → c ≤ k → entry (row_at q j) k ≡ zero_ℚ
entry_past q c j k w h = past_end (row_at q j) k (omega (arith, row_width q c j (by_recursion (λ row. length row ≡ c) q w)))

-- what agrees at the places k from j on agrees everywhere
everywhere : (p : Program) (ss : List Square) → IsProgram p → FitsSquares p ss → AgreeFrom p.pairs ss 0 (length p.columns) → (j k : ℕ) → Agree p.pairs ss j k
everywhere p ss is fit h j k = by (nat_lt k c) refl (nat_lt j c) refl (nat_lt k j) refl
  where
    q : List (List ℚ)
    q = p.pairs

    c : ℕ
    c = length p.columns

    past : (j k : ℕ) → c ≤ k → Agree q ss j k
    past j k le = entry_past q c j k is.pairs_width le ∙ sym (sum_past c ss j k fit.widths le)

    turn : (j k : ℕ) → Agree q ss k j → Agree q ss j k
    turn j k e = is.symmetric j k ∙ e ∙ sum_turned ss k j

    by : (a : Bool) → nat_lt k c ≡ a → (b : Bool) → nat_lt j c ≡ b → (d : Bool) → nat_lt k j ≡ d → Agree q ss j k
    by false e b f d g = past j k (grind (arith, nat_tests))
    by true e false f d g = turn j k (past k j (grind (arith, nat_tests)))
    by true e true f true g = turn j k (in_all q ss 0 c k j h (omega arith) (grind (arith, nat_tests)) (grind (arith, nat_tests)))
    by true e true f false g = in_all q ss 0 c j k h (omega arith) (grind (arith, nat_tests)) (grind (arith, nat_tests))

pub squares_listed : {C : Type 0} (p : Program) (ss : List Square) → (C → IsProgram p) → (C → FitsSquares p ss) → Listed C (squares_test p ss) (squares_list p ss) tt (AreSquaresOf p.pairs ss)
unfolding squares_test
squares_listed p ss is fit =
    converted (pairs_from p.pairs ss 0 (length p.columns)) (λ c h. record { positive = (fit c).positive; sum = everywhere p ss (is c) (fit c) h })
    (λ c h. from_all p.pairs ss h.sum 0 (length p.columns)) (from_listed p.pairs ss 0 (length p.columns))
