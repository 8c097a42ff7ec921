-- Rows in two parts, and the products with them.
use Rattle.std.proofs.Common.{◌≡◌, ◌≢◌, ℕ, zero, suc, ◌+◌, ◌<◌, ◌≤◌, List, [], ◌∷◌, ◌++◌, length, take, drop, sym, ap, ◌∙◌, refl, arith, length-append}
use Rattle.std.specs.List.{AllByRecursion}
use Rattle.algebra.proofs.Ring as laws
use Rattle.algebra.proofs.Polynomial.{minus, ◌⊕◌, ◌⊗◌, ◌≐◌, lit}
use Rattle.algebra.proofs.Solver.{ring}
use Rattle.algebra.proofs.Certificate.{prove, given, ◌⇐◌}
use Rattle.rational.specs.Rational.{ℚ, zero_ℚ, one_ℚ, ◌+ℚ◌, ◌*ℚ◌, neg_ℚ}
use Rattle.rational.specs.Sums.{entry}
use Rattle.rational.specs.Vectors.{dot, add_each, scale, zeros, rows_dot}
use Rattle.rational.proofs.Field.{rationals}
use Rattle.rational.proofs.Order.{ordered_rationals}
use Rattle.rational.proofs.Vectors.{dot-append, dot-zeros_right, dot-unit_vector, length-unit_vector, length-rows_dot, same_by_entries}
use Rattle.elimination_law.specs.Answers.{beside, right_beside, unit_rows, unit_matrix, lines_of}
use Rattle.elimination_law.proofs.Kernel.{Kills}

-- ---- parts of a row

pub entry-take : (n : ℕ) (row : List ℚ) (i : ℕ) → i < n → entry (take n row) i ≡ entry row i
entry-take zero row i h = absurd (omega arith)
entry-take (suc n) [] i h = refl
entry-take (suc n) (x ∷ row) zero h = refl
entry-take (suc n) (x ∷ row) (suc i) h = entry-take n row i (omega arith)

pub length-front : (n : ℕ) (row : List ℚ) → n ≤ length row → length (take n row) ≡ n
length-front zero row h = refl
length-front (suc n) [] h = absurd (omega arith)
length-front (suc n) (x ∷ row) h = ap suc (length-front n row (omega arith))

pub drop-entry : (n : ℕ) (row : List ℚ) → n < length row → drop n row ≡ entry row n ∷ drop (suc n) row
drop-entry n [] h = absurd (omega arith)
drop-entry zero (x ∷ row) h = refl
drop-entry (suc n) (x ∷ row) h = drop-entry n row (omega arith)

pub length-back : (n : ℕ) (row : List ℚ) (m : ℕ) → length row ≡ n + m → length (drop n row) ≡ m
length-back zero row m h = h ∙ zero_plus m
  where
    zero_plus : (m : ℕ) → zero + m ≡ m
    zero_plus m = omega arith
length-back (suc n) [] m h = absurd (omega arith)
length-back (suc n) (x ∷ row) m h = length-back n row m (omega arith)

pub dot-split : (n : ℕ) (row z y : List ℚ) → length z ≡ n → n ≤ length row → dot row (z ++ y) ≡ dot (take n row) z +ℚ dot (drop n row) y
dot-split zero row [] y h k = sym (laws.zero_add rationals (dot row y))
dot-split zero row (t ∷ z) y h k = absurd (omega arith)
dot-split (suc n) [] z y h k = absurd (omega arith)
dot-split (suc n) (x ∷ row) [] y h k = absurd (omega arith)
dot-split (suc n) (x ∷ row) (t ∷ z) y h k = ap (λ s. x *ℚ t +ℚ s) (dot-split n row z y (omega arith) (omega arith)) ∙ sym (rationals.add_assoc (x *ℚ t) (dot (take n row) z) (dot (drop n row) y))

-- a product in which one place alone counts
nothing : (u z : List ℚ) → ((c : ℕ) → c < length z → entry u c *ℚ entry z c ≡ zero_ℚ) → dot u z ≡ zero_ℚ
nothing [] z h = refl
nothing (x ∷ u) [] h = refl
nothing (x ∷ u) (y ∷ z) h = ap (λ t. t +ℚ dot u z) (h 0 (omega arith)) ∙ laws.zero_add rationals (dot u z) ∙ nothing u z (λ c l. h (suc c) (omega arith))

pub dot-one_place : (k : ℕ) (u z : List ℚ) → ((c : ℕ) → c < length z → c ≢ k → entry u c *ℚ entry z c ≡ zero_ℚ) → dot u z ≡ entry u k *ℚ entry z k
dot-one_place k [] z h = sym (laws.zero_mul rationals (entry z k))
dot-one_place k (x ∷ u) [] h = sym (laws.mul_zero rationals (entry (x ∷ u) k))
dot-one_place zero (x ∷ u) (y ∷ z) h = ap (λ t. x *ℚ y +ℚ t) (nothing u z (λ c l. h (suc c) (omega arith) (λ e. absurd (omega arith)))) ∙ rationals.add_zero (x *ℚ y)
dot-one_place (suc k) (x ∷ u) (y ∷ z) h =
    ap (λ t. t +ℚ dot u z) (h 0 (omega arith) (λ e. absurd (omega arith))) ∙ laws.zero_add rationals (dot u z) ∙ dot-one_place k u z (λ c l n. h (suc c) (omega arith) (λ e. n (omega arith)))

-- ---- the unit matrix

pub length-unit_rows : (m i k : ℕ) → length (unit_rows m i k) ≡ k
length-unit_rows m i zero = refl
length-unit_rows m i (suc k) = ap suc (length-unit_rows m (suc i) k)

pub width-unit_rows : (m i k : ℕ) → AllByRecursion (λ r. length r ≡ m) (unit_rows m i k)
width-unit_rows m i zero = tt
width-unit_rows m i (suc k) = (length-unit_vector m i, width-unit_rows m (suc i) k)

entry-unit_rows : (m i k : ℕ) (u : List ℚ) (c : ℕ) → length u ≤ m → c < k → entry (rows_dot (unit_rows m i k) u) c ≡ entry u (i + c)
entry-unit_rows m i zero u c h l = absurd (omega arith)
entry-unit_rows m i (suc k) u zero h l = dot-unit_vector m i u h ∙ ap (entry u) (at i)
  where
    at : (i : ℕ) → i ≡ i + zero
    at i = omega arith
entry-unit_rows m i (suc k) u (suc c) h l = entry-unit_rows m (suc i) k u c h (omega arith) ∙ ap (entry u) (at i c)
  where
    at : (i c : ℕ) → suc i + c ≡ i + suc c
    at i c = omega arith

pub rows_dot-unit : (m : ℕ) (u : List ℚ) → length u ≡ m → rows_dot (unit_matrix m) u ≡ u
rows_dot-unit m u h =
    let e : length (rows_dot (unit_matrix m) u) ≡ m = length-rows_dot (unit_matrix m) u ∙ length-unit_rows m 0 m in
    same_by_entries _ _ (e ∙ sym h) (λ c l. entry-unit_rows m 0 m u c (omega arith) (omega arith) ∙ ap (entry u) (at c))
  where
    at : (c : ℕ) → 0 + c ≡ c
    at c = omega arith

-- ---- rows side by side

pub length-right_beside : (r : List ℚ) (X : List (List ℚ)) → length r ≡ length X → length (right_beside r X) ≡ length X
length-right_beside [] [] h = refl
length-right_beside [] (x ∷ X) h = absurd (omega arith)
length-right_beside (y ∷ r) [] h = absurd (omega arith)
length-right_beside (y ∷ r) (x ∷ X) h = ap suc (length-right_beside r X (omega arith))

pub width-right_beside : (m : ℕ) (r : List ℚ) (X : List (List ℚ)) → AllByRecursion (λ x. length x ≡ m) X → AllByRecursion (λ x. length x ≡ suc m) (right_beside r X)
width-right_beside m [] X h = tt
width-right_beside m (y ∷ r) [] h = tt
width-right_beside m (y ∷ r) (x ∷ X) h = (ap suc h.0, width-right_beside m r X h.1)

pub rows_dot-right_beside : (r : List ℚ) (X : List (List ℚ)) (t : ℚ) (u : List ℚ) → length r ≡ length X → rows_dot (right_beside r X) (t ∷ u) ≡ add_each (scale t r) (rows_dot X u)
rows_dot-right_beside [] [] t u h = refl
rows_dot-right_beside [] (x ∷ X) t u h = absurd (omega arith)
rows_dot-right_beside (y ∷ r) [] t u h = absurd (omega arith)
rows_dot-right_beside (y ∷ r) (x ∷ X) t u h =
    ap (λ s. (s +ℚ dot x u) ∷ rows_dot (right_beside r X) (t ∷ u)) (rationals.mul_comm y t) ∙ ap (λ s. (t *ℚ y +ℚ dot x u) ∷ s) (rows_dot-right_beside r X t u (omega arith))

pub width-beside : (n m : ℕ) (M X : List (List ℚ)) → AllByRecursion (λ r. length r ≡ n) M → AllByRecursion (λ r. length r ≡ m) X → AllByRecursion (λ r. length r ≡ n + m) (beside M X)
width-beside n m [] X h k = tt
width-beside n m (row ∷ M) [] h k = tt
width-beside n m (row ∷ M) (x ∷ X) h k = (length-append row x ∙ ap (λ a. a + length x) h.0 ∙ ap (λ a. n + a) k.0, width-beside n m M X h.1 k.1)

-- [M | X] gives 0 of (z, y) exactly where M z + X y is 0
pub kills-beside : (n : ℕ) (M X : List (List ℚ)) (z y : List ℚ) → AllByRecursion (λ r. length r ≡ n) M → length z ≡ n → length M ≡ length X
    → add_each (rows_dot M z) (rows_dot X y) ≡ zeros (length M) → Kills (z ++ y) (lines_of (beside M X))
kills-beside n [] X z y h e l k = tt
kills-beside n (row ∷ M) [] z y h e l k = tt
kills-beside n (row ∷ M) (x ∷ X) z y h e l k =
    let t = parted k in
    (dot-append row x z y (h.0 ∙ sym e) ∙ t.0, kills-beside n M X z y h.1 e (omega arith) t.1)
  where
    parted : add_each (rows_dot (row ∷ M) z) (rows_dot (x ∷ X) y) ≡ zeros (length (row ∷ M)) → (dot row z +ℚ dot x y ≡ zero_ℚ) × (add_each (rows_dot M z) (rows_dot X y) ≡ zeros (length M))
    parted k = apart (dot row z +ℚ dot x y) zero_ℚ (add_each (rows_dot M z) (rows_dot X y)) (zeros (length M)) k
      where
        apart : (a b : ℚ) (u v : List ℚ) → a ∷ u ≡ b ∷ v → (a ≡ b) × (u ≡ v)
        apart a b u v k = (cc, cc)

pub killed-beside : (n : ℕ) (M X : List (List ℚ)) (z y : List ℚ) → AllByRecursion (λ r. length r ≡ n) M → length z ≡ n → length M ≡ length X
    → Kills (z ++ y) (lines_of (beside M X)) → add_each (rows_dot M z) (rows_dot X y) ≡ zeros (length M)
killed-beside n [] X z y h e l k = refl
killed-beside n (row ∷ M) [] z y h e l k = absurd (omega arith)
killed-beside n (row ∷ M) (x ∷ X) z y h e l k =
    ap (λ t. t ∷ add_each (rows_dot M z) (rows_dot X y)) (sym (dot-append row x z y (h.0 ∙ sym e)) ∙ k.0) ∙ ap (λ s. zero_ℚ ∷ s) (killed-beside n M X z y h.1 e (omega arith) k.1)

-- ---- sums that are 0

-- a + (0 r - a)
pub zero_and_less : (a r : List ℚ) → length a ≡ length r → add_each a (add_each (scale zero_ℚ r) (scale (neg_ℚ one_ℚ) a)) ≡ zeros (length a)
zero_and_less [] r h = refl
zero_and_less (x ∷ a) [] h = absurd (omega arith)
zero_and_less (x ∷ a) (y ∷ r) h =
    ap (λ t. t ∷ add_each a (add_each (scale zero_ℚ r) (scale (neg_ℚ one_ℚ) a))) (ring rationals (x ∷ y ∷ []) (λ x y. x ⊕ (lit 0 ⊗ y ⊕ minus (lit 1) ⊗ x) ≐ lit 0) refl)
    ∙ ap (λ s. zero_ℚ ∷ s) (zero_and_less a r (omega arith))

-- a - a
pub itself_less : (a : List ℚ) → add_each a (scale (neg_ℚ one_ℚ) a) ≡ zeros (length a)
itself_less [] = refl
itself_less (x ∷ a) =
    ap (λ t. t ∷ add_each a (scale (neg_ℚ one_ℚ) a)) (ring rationals (x ∷ []) (λ x. x ⊕ minus (lit 1) ⊗ x ≐ lit 0) refl) ∙ ap (λ s. zero_ℚ ∷ s) (itself_less a)

-- 0 + (1 r - r)
pub one_less_one : (r : List ℚ) → add_each (zeros (length r)) (add_each (scale one_ℚ r) (scale (neg_ℚ one_ℚ) r)) ≡ zeros (length r)
one_less_one [] = refl
one_less_one (y ∷ r) =
    ap (λ t. t ∷ add_each (zeros (length r)) (add_each (scale one_ℚ r) (scale (neg_ℚ one_ℚ) r))) (ring rationals (y ∷ []) (λ y. lit 0 ⊕ (lit 1 ⊗ y ⊕ minus (lit 1) ⊗ y) ≐ lit 0) refl)
    ∙ ap (λ s. zero_ℚ ∷ s) (one_less_one r)

-- where a + (-r + 0) is 0, a is r
pub same_of_difference : (a r : List ℚ) → length a ≡ length r → add_each a (add_each (scale (neg_ℚ one_ℚ) r) (zeros (length r))) ≡ zeros (length a) → a ≡ r
same_of_difference [] [] h k = refl
same_of_difference [] (y ∷ r) h k = absurd (omega arith)
same_of_difference (x ∷ a) [] h k = absurd (omega arith)
same_of_difference (x ∷ a) (y ∷ r) h k =
    let t = apart (x +ℚ (neg_ℚ one_ℚ *ℚ y +ℚ zero_ℚ)) zero_ℚ (add_each a (add_each (scale (neg_ℚ one_ℚ) r) (zeros (length r)))) (zeros (length a)) k in
    ap (λ s. s ∷ a) (prove ordered_rationals (x ∷ y ∷ []) (λ x y. x ≐ y ⇐ given (x ⊕ (minus (lit 1) ⊗ y ⊕ lit 0) ≐ lit 0)) refl t.0) ∙ ap (λ s. y ∷ s) (same_of_difference a r (omega arith) t.1)
  where
    apart : (a b : ℚ) (u v : List ℚ) → a ∷ u ≡ b ∷ v → (a ≡ b) × (u ≡ v)
    apart a b u v k = (cc, cc)

-- where a + (0 r - u) is 0, a is u
pub same_beside_zero : (a r u : List ℚ) → length a ≡ length r → length a ≡ length u → add_each a (add_each (scale zero_ℚ r) (scale (neg_ℚ one_ℚ) u)) ≡ zeros (length a) → a ≡ u
same_beside_zero [] r [] h l k = refl
same_beside_zero [] r (z ∷ u) h l k = absurd (omega arith)
same_beside_zero (x ∷ a) [] u h l k = absurd (omega arith)
same_beside_zero (x ∷ a) (y ∷ r) [] h l k = absurd (omega arith)
same_beside_zero (x ∷ a) (y ∷ r) (z ∷ u) h l k =
    let t = apart (x +ℚ (zero_ℚ *ℚ y +ℚ neg_ℚ one_ℚ *ℚ z)) zero_ℚ (add_each a (add_each (scale zero_ℚ r) (scale (neg_ℚ one_ℚ) u))) (zeros (length a)) k in
    ap (λ s. s ∷ a) (prove ordered_rationals (x ∷ y ∷ z ∷ []) (λ x y z. x ≐ z ⇐ given (x ⊕ (lit 0 ⊗ y ⊕ minus (lit 1) ⊗ z) ≐ lit 0)) refl t.0)
    ∙ ap (λ s. z ∷ s) (same_beside_zero a r u (omega arith) (omega arith) t.1)
  where
    apart : (a b : ℚ) (u v : List ℚ) → a ∷ u ≡ b ∷ v → (a ≡ b) × (u ≡ v)
    apart a b u v k = (cc, cc)

-- where a - u is 0, a is u
pub same_of_less : (a u : List ℚ) → length a ≡ length u → add_each a (scale (neg_ℚ one_ℚ) u) ≡ zeros (length a) → a ≡ u
same_of_less [] [] h k = refl
same_of_less [] (y ∷ r) h k = absurd (omega arith)
same_of_less (x ∷ a) [] h k = absurd (omega arith)
same_of_less (x ∷ a) (y ∷ r) h k =
    let t = apart (x +ℚ neg_ℚ one_ℚ *ℚ y) zero_ℚ (add_each a (scale (neg_ℚ one_ℚ) r)) (zeros (length a)) k in
    ap (λ s. s ∷ a) (prove ordered_rationals (x ∷ y ∷ []) (λ x y. x ≐ y ⇐ given (x ⊕ minus (lit 1) ⊗ y ≐ lit 0)) refl t.0) ∙ ap (λ s. y ∷ s) (same_of_less a r (omega arith) t.1)
  where
    apart : (a b : ℚ) (u v : List ℚ) → a ∷ u ≡ b ∷ v → (a ≡ b) × (u ≡ v)
    apart a b u v k = (cc, cc)

pub rows_dot-zeros : (M : List (List ℚ)) (n : ℕ) → rows_dot M (zeros n) ≡ zeros (length M)
rows_dot-zeros [] n = refl
rows_dot-zeros (row ∷ M) n = ap (λ t. t ∷ rows_dot M (zeros n)) (dot-zeros_right row n) ∙ ap (λ s. zero_ℚ ∷ s) (rows_dot-zeros M n)
