-- Lists with one place changed, and rows with multiples of one row added.
use Rattle.std.proofs.Common.{inl, inr, ◌≡◌, ◌≢◌, refl, sym, ◌∙◌, ap, ℕ, zero, suc, ◌<◌, ◌⊎◌, List, [], ◌∷◌, length, arith, map}
use Rattle.std.specs.Prelude.{slice_set}
use Rattle.std.proofs.lemmas.List.Elements.{All-nil, All-cons, All-head, All-tail}
use Rattle.algebra.proofs.Polynomial.{◌⊕◌, ◌⊗◌, ◌≐◌, ◌⊝◌, lit}
use Rattle.algebra.proofs.Solver.{ring}
use Rattle.rational.specs.Rational.{ℚ, ◌+ℚ◌, ◌-ℚ◌, ◌*ℚ◌}
use Rattle.rational.specs.Sums.{entry}
use Rattle.rational.specs.Vectors.{dot, add_each, scale, rows_dot, column, row_at, HasColumns}
use Rattle.rational.proofs.Field.{rationals}
use Rattle.rational.proofs.Vectors.{length-scale, length-add_each, dot-add_scale_left}
use Rattle.elimination_law.specs.Answers.{right_beside}
use Rattle.linear_basis_law.specs.Exchange.{add_multiples}

pub same_or_other : (i l : ℕ) → (i ≡ l) ⊎ (i ≢ l)
same_or_other zero zero = inl refl
same_or_other zero (suc l) = inr (omega arith)
same_or_other (suc i) zero = inr (omega arith)
same_or_other (suc i) (suc l) = next (same_or_other i l)
  where
    next : (i ≡ l) ⊎ (i ≢ l) → (suc i ≡ suc l) ⊎ (suc i ≢ suc l)
    next (inl e) = inl (ap suc e)
    next (inr n) = inr (λ e. n (omega arith))

-- ---- one place changed

pub length-slice_set : {X : Type 0} (xs : List X) (l : ℕ) (x : X) → length (slice_set xs l x) ≡ length xs
length-slice_set [] l x = refl
length-slice_set (y ∷ xs) zero x = refl
length-slice_set (y ∷ xs) (suc l) x = ap suc (length-slice_set xs l x)

pub map-slice_set : {X Y : Type 0} (f : X → Y) (xs : List X) (l : ℕ) (x : X) → map f (slice_set xs l x) ≡ slice_set (map f xs) l (f x)
map-slice_set f [] l x = refl
map-slice_set f (y ∷ xs) zero x = refl
map-slice_set f (y ∷ xs) (suc l) x = ap (λ zs. f y ∷ zs) (map-slice_set f xs l x)

pub HasColumns-slice_set : (n : ℕ) (B : List (List ℚ)) (l : ℕ) (a : List ℚ) → HasColumns n B → length a ≡ n → HasColumns n (slice_set B l a)
HasColumns-slice_set n [] l a h e = h
HasColumns-slice_set n (b ∷ B) zero a h e = All-cons (λ r. length r ≡ n) a B e (All-tail (λ r. length r ≡ n) b B h)
HasColumns-slice_set n (b ∷ B) (suc l) a h e =
    All-cons (λ r. length r ≡ n) b (slice_set B l a) (All-head (λ r. length r ≡ n) b B h) (HasColumns-slice_set n B l a (All-tail (λ r. length r ≡ n) b B h) e)

pub row_at-set_same : (B : List (List ℚ)) (l : ℕ) (a : List ℚ) → l < length B → row_at (slice_set B l a) l ≡ a
row_at-set_same [] l a h = absurd (omega arith)
row_at-set_same (b ∷ B) zero a h = refl
row_at-set_same (b ∷ B) (suc l) a h = row_at-set_same B l a (omega arith)

pub row_at-set_other : (B : List (List ℚ)) (l : ℕ) (a : List ℚ) (k : ℕ) → k ≢ l → row_at (slice_set B l a) k ≡ row_at B k
row_at-set_other [] l a k n = refl
row_at-set_other (b ∷ B) zero a zero n = absurd (n refl)
row_at-set_other (b ∷ B) zero a (suc k) n = refl
row_at-set_other (b ∷ B) (suc l) a zero n = refl
row_at-set_other (b ∷ B) (suc l) a (suc k) n = row_at-set_other B l a k (λ e. n (ap suc e))

pub column-slice_set : (j : ℕ) (B : List (List ℚ)) (l : ℕ) (a : List ℚ) → column j (slice_set B l a) ≡ slice_set (column j B) l (entry a j)
column-slice_set j [] l a = refl
column-slice_set j (b ∷ B) zero a = refl
column-slice_set j (b ∷ B) (suc l) a = ap (λ c. entry b j ∷ c) (column-slice_set j B l a)

-- the product changes by what the place changes
pub dot-slice_set : (c u : List ℚ) (l : ℕ) (s : ℚ) → l < length c → dot (slice_set c l s) u ≡ dot c u +ℚ entry u l *ℚ (s -ℚ entry c l)
dot-slice_set [] u l s h = absurd (omega arith)
dot-slice_set (x ∷ c) [] zero s h = ring rationals (s ∷ x ∷ []) (λ s x. lit 0 ≐ lit 0 ⊕ lit 0 ⊗ (s ⊝ x)) refl
dot-slice_set (x ∷ c) [] (suc l) s h = ring rationals (s ∷ entry c l ∷ []) (λ s x. lit 0 ≐ lit 0 ⊕ lit 0 ⊗ (s ⊝ x)) refl
dot-slice_set (x ∷ c) (y ∷ u) zero s h =
    ring rationals (s ∷ x ∷ y ∷ dot c u ∷ []) (λ s x y t. s ⊗ y ⊕ t ≐ (x ⊗ y ⊕ t) ⊕ y ⊗ (s ⊝ x)) refl
dot-slice_set (x ∷ c) (y ∷ u) (suc l) s h =
    ap (λ t. x *ℚ y +ℚ t) (dot-slice_set c u l s (omega arith))
    ∙ ring rationals (s ∷ x ∷ y ∷ dot c u ∷ entry c l ∷ entry u l ∷ []) (λ s x y t a b. x ⊗ y ⊕ (t ⊕ b ⊗ (s ⊝ a)) ≐ (x ⊗ y ⊕ t) ⊕ b ⊗ (s ⊝ a)) refl

-- ---- multiples of one row added

pub length-add_multiples : (d u : List ℚ) (rows : List (List ℚ)) → length d ≡ length rows → length (add_multiples d u rows) ≡ length rows
length-add_multiples [] u [] h = refl
length-add_multiples [] u (r ∷ rows) h = absurd (omega arith)
length-add_multiples (x ∷ d) u [] h = absurd (omega arith)
length-add_multiples (x ∷ d) u (r ∷ rows) h = ap suc (length-add_multiples d u rows (omega arith))

pub HasColumns-add_multiples : (n : ℕ) (d u : List ℚ) (rows : List (List ℚ)) → length u ≡ n → HasColumns n rows → HasColumns n (add_multiples d u rows)
HasColumns-add_multiples n [] u rows e h = All-nil (λ r. length r ≡ n)
HasColumns-add_multiples n (x ∷ d) u [] e h = All-nil (λ r. length r ≡ n)
HasColumns-add_multiples n (x ∷ d) u (r ∷ rows) e h =
    let f : length r ≡ n = All-head (λ r. length r ≡ n) r rows h in
    All-cons (λ r. length r ≡ n) (add_each r (scale x u)) (add_multiples d u rows)
    (length-add_each r (scale x u) (f ∙ sym e ∙ sym (length-scale x u)) ∙ f)
    (HasColumns-add_multiples n d u rows e (All-tail (λ r. length r ≡ n) r rows h))

pub rows_dot-add_multiples : (n : ℕ) (d u : List ℚ) (rows : List (List ℚ)) (v : List ℚ) → length u ≡ n → HasColumns n rows → length d ≡ length rows
    → rows_dot (add_multiples d u rows) v ≡ add_each (rows_dot rows v) (scale (dot u v) d)
rows_dot-add_multiples n [] u [] v e h l = refl
rows_dot-add_multiples n [] u (r ∷ rows) v e h l = absurd (omega arith)
rows_dot-add_multiples n (x ∷ d) u [] v e h l = absurd (omega arith)
rows_dot-add_multiples n (x ∷ d) u (r ∷ rows) v e h l =
    let f : length r ≡ n = All-head (λ r. length r ≡ n) r rows h in
    ap (λ s. s ∷ rows_dot (add_multiples d u rows) v)
    (dot-add_scale_left r x u v (f ∙ sym e) ∙ ring rationals (dot r v ∷ x ∷ dot u v ∷ []) (λ a x q. a ⊕ x ⊗ q ≐ a ⊕ q ⊗ x) refl)
    ∙ ap (λ s. (dot r v +ℚ dot u v *ℚ x) ∷ s) (rows_dot-add_multiples n d u rows v e (All-tail (λ r. length r ≡ n) r rows h) (omega arith))

pub row_at-add_multiples : (d u : List ℚ) (rows : List (List ℚ)) (k : ℕ) → length d ≡ length rows → k < length rows
    → row_at (add_multiples d u rows) k ≡ add_each (row_at rows k) (scale (entry d k) u)
row_at-add_multiples [] u [] k e l = absurd (omega arith)
row_at-add_multiples [] u (r ∷ rows) k e l = absurd (omega arith)
row_at-add_multiples (x ∷ d) u [] k e l = absurd (omega arith)
row_at-add_multiples (x ∷ d) u (r ∷ rows) zero e l = refl
row_at-add_multiples (x ∷ d) u (r ∷ rows) (suc k) e l = row_at-add_multiples d u rows k (omega arith) (omega arith)

-- rows beside their products with r, pivoted: both parts alike
pub beside-add_multiples : (n : ℕ) (d u : List ℚ) (rows : List (List ℚ)) (r : List ℚ) → length u ≡ n → HasColumns n rows
    → right_beside (rows_dot (add_multiples d u rows) r) (add_multiples d u rows) ≡ add_multiples d (dot u r ∷ u) (right_beside (rows_dot rows r) rows)
beside-add_multiples n [] u rows r e h = refl
beside-add_multiples n (x ∷ d) u [] r e h = refl
beside-add_multiples n (x ∷ d) u (a ∷ rows) r e h =
    let f : length a ≡ n = All-head (λ r. length r ≡ n) a rows h in
    ap (λ s. (s ∷ add_each a (scale x u)) ∷ right_beside (rows_dot (add_multiples d u rows) r) (add_multiples d u rows)) (dot-add_scale_left a x u r (f ∙ sym e))
    ∙ ap (λ s. ((dot a r +ℚ x *ℚ dot u r) ∷ add_each a (scale x u)) ∷ s) (beside-add_multiples n d u rows r e (All-tail (λ r. length r ≡ n) a rows h))

pub row_at-beside : (rows : List (List ℚ)) (r : List ℚ) (k : ℕ) → k < length rows → row_at (right_beside (rows_dot rows r) rows) k ≡ dot (row_at rows k) r ∷ row_at rows k
row_at-beside [] r k l = absurd (omega arith)
row_at-beside (a ∷ rows) r zero l = refl
row_at-beside (a ∷ rows) r (suc k) l = row_at-beside rows r k (omega arith)
