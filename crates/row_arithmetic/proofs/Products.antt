-- Sums of products, as loops add them up.
use Rattle.std.proofs.Common.{◌≡◌, refl, sym, ◌∙◌, ap, ℕ, zero, suc, ◌+◌, ◌<◌, ◌≤◌, ℤ, pos, ◌+ℤ◌, ◌*ℤ◌, List, [], ◌∷◌, length, drop, arith}
use Rattle.std.specs.Prelude.{slice_index_or, Option, Some, None, SomeIff, IfSome}
use Rattle.algebra.proofs.Integers.{integers}
use Rattle.row_arithmetic.specs.Rows.{number}
use Rattle.row_arithmetic.specs.Products.{product, sum_products}

-- what a checked operation gives, where it gives a number
pub some_is : (o : Option ℤ) (P : Type 0) (v w : ℤ) → SomeIff o P v → v ≡ w → IfSome o (λ t. t ≡ w)
some_is (Some t) P v w h e = h.1 ∙ e
some_is None P v w h e = tt

-- ---- a product with a column

pub product_next : (numbers : List ℤ) (column : List (ℕ × ℤ)) (k : ℕ) (d : ℕ × ℤ) → k < length column
    → product numbers (drop k column) ≡ number numbers (suc (slice_index_or column k d).0) *ℤ (slice_index_or column k d).1 +ℤ product numbers (drop (k + 1) column)
product_next numbers [] k d h = absurd (omega arith)
product_next numbers (x ∷ column) zero d h = refl
product_next numbers (x ∷ column) (suc k) d h =
    product_next numbers column k d (omega arith)
    ∙ ap (λ n. number numbers (suc (slice_index_or column k d).0) *ℤ (slice_index_or column k d).1 +ℤ product numbers (drop n (x ∷ column))) (let s : suc (k + 1) ≡ suc k + 1 = omega arith in s)

-- one more product to the sum
pub product_more : (numbers : List ℤ) (column : List (ℕ × ℤ)) (k : ℕ) (d : ℕ × ℤ) (was now x v : ℤ) → k < length column → was +ℤ product numbers (drop k column) ≡ product numbers column
    → now ≡ was +ℤ x *ℤ v → x ≡ number numbers ((slice_index_or column k d).0 + 1) → v ≡ (slice_index_or column k d).1 → now +ℤ product numbers (drop (k + 1) column) ≡ product numbers column
product_more numbers column k d was now x v h invariant sum x_is v_is =
    let e = slice_index_or column k d in
    let n : e.0 + 1 ≡ suc e.0 = omega arith in
    ap (λ s. s +ℤ product numbers (drop (k + 1) column)) (sum ∙ ap (λ y. was +ℤ y *ℤ v) (x_is ∙ ap (number numbers) n) ∙ ap (λ y. was +ℤ number numbers (suc e.0) *ℤ y) v_is)
    ∙ integers.add_assoc was (number numbers (suc e.0) *ℤ e.1) (product numbers (drop (k + 1) column))
    ∙ ap (λ y. was +ℤ y) (sym (product_next numbers column k d h)) ∙ invariant

-- ---- a sum of products

pub sum_next : (xs ys : List ℤ) (k : ℕ) → k < length xs → k < length ys → sum_products (drop k xs) (drop k ys) ≡ number xs k *ℤ number ys k +ℤ sum_products (drop (k + 1) xs) (drop (k + 1) ys)
sum_next [] ys k h i = absurd (omega arith)
sum_next (x ∷ xs) [] k h i = absurd (omega arith)
sum_next (x ∷ xs) (y ∷ ys) zero h i = refl
sum_next (x ∷ xs) (y ∷ ys) (suc k) h i =
    sum_next xs ys k (omega arith) (omega arith)
    ∙ ap (λ n. number xs k *ℤ number ys k +ℤ sum_products (drop n (x ∷ xs)) (drop n (y ∷ ys))) (let s : suc (k + 1) ≡ suc k + 1 = omega arith in s)

pub sum_more : (xs ys : List ℤ) (k : ℕ) (was now x y : ℤ) → k < length xs → k < length ys → was +ℤ sum_products (drop k xs) (drop k ys) ≡ sum_products xs ys → now ≡ was +ℤ x *ℤ y → x ≡ number xs k → y ≡ number ys k
    → now +ℤ sum_products (drop (k + 1) xs) (drop (k + 1) ys) ≡ sum_products xs ys
sum_more xs ys k was now x y h i inv sum x_is y_is =
    ap (λ s. s +ℤ sum_products (drop (k + 1) xs) (drop (k + 1) ys)) (sum ∙ ap (λ z. was +ℤ z *ℤ y) x_is ∙ ap (λ z. was +ℤ number xs k *ℤ z) y_is)
    ∙ integers.add_assoc was (number xs k *ℤ number ys k) (sum_products (drop (k + 1) xs) (drop (k + 1) ys))
    ∙ ap (λ z. was +ℤ z) (sym (sum_next xs ys k h i)) ∙ inv

pub sum_end : (xs ys : List ℤ) (k : ℕ) → length xs ≤ k → sum_products (drop k xs) (drop k ys) ≡ pos 0
sum_end [] ys zero h = refl
sum_end [] ys (suc k) h = refl
sum_end (x ∷ xs) ys zero h = absurd (omega arith)
sum_end (x ∷ xs) [] (suc k) h = empty (drop k xs)
  where
    empty : (xs : List ℤ) → sum_products xs [] ≡ pos 0
    empty [] = refl
    empty (x ∷ xs) = refl
sum_end (x ∷ xs) (y ∷ ys) (suc k) h = sum_end xs ys k (omega arith)
