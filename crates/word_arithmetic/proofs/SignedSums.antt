-- A sum of two products, by their signs and sizes.
use Rattle.std.proofs.Common.{◌≡◌, ℕ, ℤ, pos, neg_ℤ, [], ◌∷◌, ◌+◌, ◌-◌, ◌*◌, ◌^◌, ◌≤◌, ◌<◌, ◌+ℤ◌, ◌*ℤ◌, Bool, true, false, not, refl, sym, ap, ◌∙◌, arith}
use Rattle.std.specs.Prelude.{unsigned_abs, int_lt, IsTrue, ◌↔◌}
use mathlib.Core.Bool.{beq}
use Rattle.std.proofs.lemmas.Bool.Decides.{nat_tests}
use Rattle.std.proofs.lemmas.Int.{ints}
use Rattle.std.proofs.Math.Nat.{mul-le-mul}
use Rattle.algebra.proofs.Polynomial.{minus, ◌⊕◌, ◌⊗◌, ◌≐◌}
use Rattle.algebra.proofs.Solver.{ring}
use Rattle.algebra.proofs.Integers.{integers}
use Rattle.word_arithmetic.specs.Signed.{signed}

product_fits : (m x : ℕ) → m ≤ 2 ^ 127 → x ≤ 2 ^ 127 → m * x ≤ 2 ^ 127 * 2 ^ 127
product_fits m x h k = mul-le-mul h k

pub sum_fits : (m x n y l r : ℕ) → m ≤ 2 ^ 127 → x < 2 ^ 127 → n ≤ 2 ^ 127 → y < 2 ^ 127 → l ≡ m * x → r ≡ n * y → l + r < 2 ^ 256
sum_fits m x n y l r hm hx hn hy el er = omega (arith, product_fits m x hm (omega arith), product_fits n y hn (omega arith))

-- a number by its sign and its size
of_size : (a : ℤ) → signed (int_lt a (pos 0)) (unsigned_abs a) ≡ a
of_size a = grind (arith, ints, nat_tests)

product_of : (m x : ℕ) → pos (m * x) ≡ pos m *ℤ pos x
product_of m x = omega (arith, ints)

difference : (u v : ℕ) → v ≤ u → pos (u - v) ≡ pos u +ℤ neg_ℤ (pos v)
difference u v h = omega (arith, ints)

sum_of : (m x n y : ℕ) → pos (m * x + n * y) ≡ pos m *ℤ pos x +ℤ pos n *ℤ pos y
sum_of m x n y = omega (arith, ints)

difference_of : (m x n y : ℕ) → n * y ≤ m * x → pos (m * x - n * y) ≡ pos m *ℤ pos x +ℤ neg_ℤ (pos n) *ℤ pos y
difference_of m x n y h =
    difference (m * x) (n * y) h ∙ ap (λ u. u +ℤ neg_ℤ (pos (n * y))) (product_of m x) ∙ ap (λ u. pos m *ℤ pos x +ℤ neg_ℤ u) (product_of n y)
    ∙ ring integers (pos m ∷ pos x ∷ pos n ∷ pos y ∷ []) (λ m x n y. m ⊗ x ⊕ minus (n ⊗ y) ≐ m ⊗ x ⊕ minus n ⊗ y) refl

sum_same : (s : Bool) (m x n y : ℕ) → signed s (m * x + n * y) ≡ signed s m *ℤ pos x +ℤ signed s n *ℤ pos y
sum_same false m x n y = sum_of m x n y
sum_same true m x n y =
    ap neg_ℤ (sum_of m x n y)
    ∙ ring integers (pos m ∷ pos x ∷ pos n ∷ pos y ∷ []) (λ m x n y. minus (m ⊗ x ⊕ n ⊗ y) ≐ minus m ⊗ x ⊕ minus n ⊗ y) refl

sum_apart : (s : Bool) (m x n y : ℕ) → n * y ≤ m * x → signed s (m * x - n * y) ≡ signed s m *ℤ pos x +ℤ signed (not s) n *ℤ pos y
sum_apart false m x n y h = difference_of m x n y h
sum_apart true m x n y h =
    ap neg_ℤ (difference_of m x n y h)
    ∙ ring integers (pos m ∷ pos x ∷ pos n ∷ pos y ∷ []) (λ m x n y. minus (m ⊗ x ⊕ minus n ⊗ y) ≐ minus m ⊗ x ⊕ n ⊗ y) refl

-- what a test of two products says
pub at_most : (t : Bool) (u v l r : ℕ) → IsTrue t ↔ (u < v) → t ≡ false → u ≡ l → v ≡ r → r ≤ l
at_most true u v l r h e f k = absurd cc
at_most false u v l r h e f k = let n : ¬ (u < v) = λ l. absurd (let bad : false ≡ true = h.1 l in cc) in omega (arith, n)

pub less_than : (t : Bool) (u v l r : ℕ) → IsTrue t ↔ (u < v) → t ≡ true → u ≡ l → v ≡ r → l ≤ r
less_than true u v l r h e f k = let n : u < v = h.0 refl in omega (arith, n)
less_than false u v l r h e f k = absurd cc

same_is : (s t : Bool) → beq s t ≡ true → t ≡ s
same_is true true h = refl
same_is false false h = refl
same_is true false h = h
same_is false true h = sym h

other_is : (s t : Bool) → beq s t ≡ false → t ≡ not s
other_is true true h = h
other_is false false h = sym h
other_is true false h = refl
other_is false true h = refl

-- of numbers with one sign
pub same_sign : (a b : ℤ) (x y m n t : ℕ) → beq (int_lt a (pos 0)) (int_lt b (pos 0)) ≡ true → m ≡ unsigned_abs a → n ≡ unsigned_abs b → t ≡ m * x + n * y →
    signed (int_lt a (pos 0)) t ≡ a *ℤ pos x +ℤ b *ℤ pos y
same_sign a b x y m n t h em en et =
    let s = int_lt a (pos 0) in
    let ea : signed s m ≡ a = ap (signed s) em ∙ of_size a in
    let eb : signed s n ≡ b = ap (signed s) en ∙ ap (λ u. signed u (unsigned_abs b)) (sym (same_is s (int_lt b (pos 0)) h)) ∙ of_size b in
    ap (signed s) et ∙ sum_same s m x n y ∙ ap (λ u. u *ℤ pos x +ℤ signed s n *ℤ pos y) ea ∙ ap (λ u. a *ℤ pos x +ℤ u *ℤ pos y) eb

-- of numbers with two signs, where the first product is the larger in size
pub first_larger : (a b : ℤ) (x y m n t : ℕ) → beq (int_lt a (pos 0)) (int_lt b (pos 0)) ≡ false → m ≡ unsigned_abs a → n ≡ unsigned_abs b → n * y ≤ m * x → t ≡ m * x - n * y →
    signed (int_lt a (pos 0)) t ≡ a *ℤ pos x +ℤ b *ℤ pos y
first_larger a b x y m n t h em en le et =
    let s = int_lt a (pos 0) in
    let ea : signed s m ≡ a = ap (signed s) em ∙ of_size a in
    let eb : signed (not s) n ≡ b = ap (signed (not s)) en ∙ ap (λ u. signed u (unsigned_abs b)) (sym (other_is s (int_lt b (pos 0)) h)) ∙ of_size b in
    ap (signed s) et ∙ sum_apart s m x n y le ∙ ap (λ u. u *ℤ pos x +ℤ signed (not s) n *ℤ pos y) ea ∙ ap (λ u. a *ℤ pos x +ℤ u *ℤ pos y) eb

turned : (s t : Bool) → beq s t ≡ false → beq t s ≡ false
turned true true h = h
turned false false h = h
turned true false h = refl
turned false true h = refl

exchanged : (u v : ℤ) → u +ℤ v ≡ v +ℤ u
exchanged u v = omega (arith, ints)

-- where the second is
pub second_larger : (a b : ℤ) (x y m n t : ℕ) → beq (int_lt a (pos 0)) (int_lt b (pos 0)) ≡ false → m ≡ unsigned_abs a → n ≡ unsigned_abs b → m * x ≤ n * y → t ≡ n * y - m * x →
    signed (int_lt b (pos 0)) t ≡ a *ℤ pos x +ℤ b *ℤ pos y
second_larger a b x y m n t h em en le et =
    first_larger b a y x n m t (turned (int_lt a (pos 0)) (int_lt b (pos 0)) h) en em le et ∙ exchanged (b *ℤ pos y) (a *ℤ pos x)
