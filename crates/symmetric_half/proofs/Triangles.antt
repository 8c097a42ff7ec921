-- An upper half in one list.
use Rattle.std.proofs.Common.{◌≡◌, ℕ, Vec, zero, suc, ◌+◌, ◌-◌, ◌*◌, ◌/◌, ◌<◌, ◌≤◌, List, [], ◌∷◌, ◌++◌, length, take, drop, slice_get, Some, sym, ap, ◌∙◌, refl, arith, append_assoc, subst}
use Rattle.std.proofs.Math.Seq.{take-add}
use Rattle.std.proofs.Math.ListN.{set}
use borrow.Rule.Slice.PartMut.{put_mid}
use Rattle.std.proofs.lemmas.List.{drop-drop, length-take-le, length-drop, take_at, drop_at, length-append, get_or-set_same, with_items_is, take_all}
use Rattle.std.specs.Vec.{with_items}
use Rattle.rational.specs.Rational.{ℚ}
use Rattle.rational.specs.Vectors.{row_at}
use Rattle.exact_matrix.specs.Systems.{joined}
use Rattle.exact_matrix.proofs.Assembled.{joined_more, joined_all}
use Rattle.symmetric_half.specs.Half.{upper_from, upper_half, IsHalf, IsSymmetric}
use Rattle.symmetric_half.specs.Triangle.{rows_of, count_of, start_of}
use Rattle.symmetric_half.proofs.Halves.{is_half}

-- ---- where rows begin and end

start_twice : (n j : ℕ) → j ≤ n → start_of n j * 2 + j * j ≡ j * (2 * n + 1)
start_twice n zero h = omega arith
start_twice zero (suc j) h = absurd (omega arith)
start_twice (suc n) (suc j) h = let e = start_twice n j (omega arith) in omega (arith, e)

halved : (a s : ℕ) → a ≡ s * 2 → a / 2 ≡ s
halved a s e = omega arith

pub start_is : (n j : ℕ) → j ≤ n → j * (2 * n + 1 - j) / 2 ≡ start_of n j
start_is n j h =
    let m : (2 * n + 1 - j) + j ≡ 2 * n + 1 = omega arith in
    halved (j * (2 * n + 1 - j)) (start_of n j) (omega (arith, start_twice n j h, ap (λ (t : ℕ). j * t) m))

pub start_within : (n j : ℕ) → j < n → start_of n j + (n - j) ≤ count_of n
start_within zero j h = absurd (omega arith)
start_within (suc n) zero h = omega arith
start_within (suc n) (suc j) h = omega (arith, start_within n j (omega arith))

-- ---- the rows

pub length-rows_of : (n : ℕ) (xs : List ℚ) → length (rows_of n xs) ≡ n
length-rows_of zero xs = refl
length-rows_of (suc n) xs = ap suc (length-rows_of n (drop (suc n) xs))

pub is_half_rows : (n : ℕ) (xs : List ℚ) → length xs ≡ count_of n → IsHalf n (rows_of n xs)
is_half_rows zero xs h = tt
is_half_rows (suc n) xs h =
    (length-take-le (suc n) xs (omega arith), is_half_rows n (drop (suc n) xs) (rw length-drop (omega arith)))

row_of : (n : ℕ) (xs : List ℚ) (j : ℕ) → j < n → row_at (rows_of n xs) j ≡ take (n - j) (drop (start_of n j) xs)
row_of zero xs j h = absurd (omega arith)
row_of (suc n) xs zero h = ap (λ (k : ℕ). take k xs) (let e : suc n ≡ suc n - 0 = omega arith in e)
row_of (suc n) xs (suc j) h =
    row_of n (drop (suc n) xs) j (omega arith)
    ∙ ap (take (n - j)) (drop-drop (start_of n j) (suc n) xs) ∙ ap (λ (k : ℕ). take (n - j) (drop k xs)) (omega arith)
    ∙ ap (λ (k : ℕ). take k (drop (suc n + start_of n j) xs)) (let e : n - j ≡ suc n - suc j = omega arith in e)

put_later : (c k m : ℕ) (xs ys : List ℚ) → put_mid (c + k) m xs ys ≡ take c xs ++ put_mid k m (drop c xs) ys
put_later c k m xs ys =
    rw (take-add c k xs, ← drop-drop k c xs) (append_assoc (take c xs) (take k (drop c xs)) (ys ++ drop m (drop k (drop c xs))))

both : (x y : List ℚ) (xs ys : List (List ℚ)) → x ≡ y → xs ≡ ys → x ∷ xs ≡ y ∷ ys
both x y xs ys e h = cc

-- a row written at its place
rows_of-put : (n : ℕ) (xs ys : List ℚ) (j : ℕ) → j < n → count_of n ≤ length xs → length ys ≡ n - j
    → rows_of n (put_mid (start_of n j) (n - j) xs ys) ≡ set (rows_of n xs) j ys
rows_of-put zero xs ys j h k e = absurd (omega arith)
rows_of-put (suc n) xs ys zero h k e =
    let l : length ys ≡ suc n = omega (arith, e) in
    let m : suc n - 0 ≡ suc n = omega arith in
    rw m (both _ _ _ _ (take_at ys (drop (suc n) xs) (suc n) l) (ap (rows_of n) (drop_at ys (drop (suc n) xs) (suc n) l)))
rows_of-put (suc n) xs ys (suc j) h k e =
    let w : length (take (suc n) xs) ≡ suc n = length-take-le (suc n) xs (omega arith) in
    let l : count_of n ≤ length (drop (suc n) xs) = rw length-drop (omega arith) in
    let m : suc n - suc j ≡ n - j = omega arith in
    rw (put_later (suc n) (start_of n j) (suc n - suc j) xs ys)
    (both _ _ _ _ (take_at (take (suc n) xs) _ (suc n) w)
    (ap (rows_of n) (drop_at (take (suc n) xs) _ (suc n) w ∙ ap (λ (t : ℕ). put_mid (start_of n j) t (drop (suc n) xs) ys) m)
    ∙ rows_of-put n (drop (suc n) xs) ys j (omega arith) l (e ∙ m)))

-- ---- what is kept, with its rows

count_here : (n : ℕ) (xs : List ℚ) (rows : List (List ℚ)) → rows_of n xs ≡ rows → length rows ≡ n
count_here n xs rows e = ap length (sym e) ∙ length-rows_of n xs

pub size_is : (n : ℕ) (xs : List ℚ) (rows : List (List ℚ)) → rows_of n xs ≡ rows → n ≡ length rows
size_is n xs rows e = sym (count_here n xs rows e)

pub place_is : (n : ℕ) (xs : List ℚ) (rows : List (List ℚ)) (j : ℕ) → rows_of n xs ≡ rows → j < length rows → j < n
place_is n xs rows j e h = omega (arith, count_here n xs rows e)

pub half_is : (n : ℕ) (xs : List ℚ) (rows : List (List ℚ)) → rows_of n xs ≡ rows → length xs ≡ count_of n → IsHalf n rows
half_is n xs rows e h = subst (λ (r : List (List ℚ)). IsHalf n r) e (is_half_rows n xs h)

pub row_read : (n : ℕ) (xs ys : List ℚ) (rows : List (List ℚ)) (j a b : ℕ) → rows_of n xs ≡ rows → j < length rows → ys ≡ xs
    → a ≡ start_of n j → b ≡ start_of n j + (n - j) → take (b - a) (drop a ys) ≡ row_at rows j
row_read n xs ys rows j a b e h s at_a at_b =
    let m : (start_of n j + (n - j)) - start_of n j ≡ n - j = omega arith in
    let there : j < n = omega (arith, h, count_here n xs rows e) in
    rw (at_a, at_b, m, s) (sym (row_of n xs j there) ∙ ap (λ (r : List (List ℚ)). row_at r j) e)

pub row_width : (n : ℕ) (xs ys : List ℚ) (rows : List (List ℚ)) (j a b : ℕ) → rows_of n xs ≡ rows → length xs ≡ count_of n → j < length rows → ys ≡ xs
    → a ≡ start_of n j → b ≡ start_of n j + (n - j) → j + length (take (b - a) (drop a ys)) ≡ length rows
row_width n xs ys rows j a b e l h s at_a at_b =
    let there : j < n = omega (arith, h, count_here n xs rows e) in
    let m : (start_of n j + (n - j)) - start_of n j ≡ n - j = omega arith in
    let t : length (take (n - j) (drop (start_of n j) xs)) ≡ n - j =
    length-take-le (n - j) (drop (start_of n j) xs) (rw length-drop (omega (arith, start_within n j there))) in
    rw (at_a, at_b, m, s) (omega (arith, t, count_here n xs rows e))

put_mid_length : (a k : ℕ) (xs ys : List ℚ) → a + k ≤ length xs → length ys ≡ k → length (put_mid a k xs ys) ≡ length xs
put_mid_length a k xs ys h e = simp (length-append, length-drop) (let t = length-take-le a xs (omega arith) in omega (arith, t))

vec_items : {Z : Type 0} (v : Vec ℚ Z) (n j a b : ℕ) (ys zs : List ℚ) → length v.items ≡ count_of n → v.len ≡ length v.items → j < n → ys ≡ v.items
    → a ≡ start_of n j → b ≡ start_of n j + (n - j) → length zs ≡ n - j
    → (with_items v (put_mid a (b - a) ys zs)).items ≡ put_mid (start_of n j) (n - j) v.items zs
vec_items v n j a b ys zs l len h s at_a at_b w =
    let m : (start_of n j + (n - j)) - start_of n j ≡ n - j = omega arith in
    rw (at_a, at_b, m, s)
    (with_items_is v (put_mid (start_of n j) (n - j) v.items zs)
    (put_mid_length (start_of n j) (n - j) v.items zs (omega (arith, start_within n j h)) w ∙ sym len))

pub vec_count : {Z : Type 0} (v : Vec ℚ Z) (n j a b : ℕ) (ys zs : List ℚ) → length v.items ≡ count_of n → v.len ≡ length v.items → j < n → ys ≡ v.items
    → a ≡ start_of n j → b ≡ start_of n j + (n - j) → length zs ≡ n - j
    → length (with_items v (put_mid a (b - a) ys zs)).items ≡ count_of n
vec_count v n j a b ys zs l len h s at_a at_b w =
    ap length (vec_items v n j a b ys zs l len h s at_a at_b w)
    ∙ put_mid_length (start_of n j) (n - j) v.items zs (omega (arith, start_within n j h)) w ∙ l

pub vec_rows : {Z : Type 0} (v : Vec ℚ Z) (n j a b : ℕ) (ys zs : List ℚ) (rows : List (List ℚ)) → rows_of n v.items ≡ rows → length v.items ≡ count_of n
    → v.len ≡ length v.items → j < n → ys ≡ v.items → a ≡ start_of n j → b ≡ start_of n j + (n - j) → length zs ≡ n - j
    → rows_of n (with_items v (put_mid a (b - a) ys zs)).items ≡ set rows j zs
vec_rows v n j a b ys zs rows e l len h s at_a at_b w =
    ap (rows_of n) (vec_items v n j a b ys zs l len h s at_a at_b w)
    ∙ rows_of-put n v.items zs j h (omega arith) w ∙ ap (λ (r : List (List ℚ)). set r j zs) e

pub row_now : (rows new : List (List ℚ)) (j : ℕ) (zs : List ℚ) → j < length rows → new ≡ set rows j zs → row_at new j ≡ zs
row_now rows new j zs h e = ap (λ (r : List (List ℚ)). row_at r j) e ∙ get_or-set_same rows j zs [] h

pub rest_now : (rows new : List (List ℚ)) (j : ℕ) (zs : List ℚ) → j < length rows → new ≡ set rows j zs → new ≡ set rows j (row_at new j)
rest_now rows new j zs h e = e ∙ ap (set rows j) (sym (row_now rows new j zs h e))

-- ---- the upper half of a matrix, row after row

pub length-joined : (n : ℕ) (rows : List (List ℚ)) → IsHalf n rows → length (joined rows) ≡ count_of n
length-joined zero [] h = refl
length-joined zero (row ∷ rows) h = absurd h
length-joined (suc n) [] h = absurd h
length-joined (suc n) (row ∷ rows) h = simp length-append (omega (arith, h.0, length-joined n rows h.1))

pub rows_of_joined : (n : ℕ) (rows : List (List ℚ)) → IsHalf n rows → rows_of n (joined rows) ≡ rows
rows_of_joined zero [] h = refl
rows_of_joined zero (row ∷ rows) h = absurd h
rows_of_joined (suc n) [] h = absurd h
rows_of_joined (suc n) (row ∷ rows) h =
    both _ _ _ _ (take_at row (joined rows) (suc n) h.0) (ap (rows_of n) (drop_at row (joined rows) (suc n) h.0) ∙ rows_of_joined n rows h.1)

upper_row : (i : ℕ) (q : List (List ℚ)) (j : ℕ) → j < length q → slice_get (upper_from i q) j ≡ Some (drop (i + j) (row_at q j))
upper_row i [] j h = absurd (omega arith)
upper_row i (row ∷ q) zero h = ap (λ (k : ℕ). Some (drop k row)) (omega arith)
upper_row i (row ∷ q) (suc j) h = upper_row (suc i) q j (omega arith) ∙ ap (λ (k : ℕ). Some (drop k (row_at q j))) (omega arith)

-- one row more
pub upper_more : (q : List (List ℚ)) (j : ℕ) (row xs ys : List ℚ) → j < length q → row ≡ row_at q j → xs ≡ joined (take j (upper_half q))
    → ys ≡ xs ++ take (length row - j) (drop j row) → ys ≡ joined (take (j + 1) (upper_half q))
upper_more q j row xs ys h e inv step =
    let all : take (length row - j) (drop j row) ≡ drop j row = take_all (length row - j) (drop j row) (rw length-drop (omega arith)) in
    joined_more (upper_half q) j (drop j row) xs ys
    (upper_row 0 q j h ∙ ap (λ (k : ℕ). Some (drop k (row_at q j))) (omega arith) ∙ ap (λ (r : List ℚ). Some (drop j r)) (sym e)) inv (step ∙ ap (λ (r : List ℚ). xs ++ r) all)

pub length-upper : (i : ℕ) (q : List (List ℚ)) → length (upper_from i q) ≡ length q
length-upper i [] = refl
length-upper i (row ∷ q) = ap suc (length-upper (suc i) q)

-- all rows
pub all_joined : (q : List (List ℚ)) (n j : ℕ) (xs : List ℚ) → IsSymmetric q → n ≡ length q → n ≤ j → xs ≡ joined (take j (upper_half q))
    → (length xs ≡ count_of n) × (rows_of n xs ≡ upper_half q)
all_joined q n j xs s e h inv =
    let w : length (upper_half q) ≤ j = rw (length-upper 0 q) (omega (arith, h, e)) in
    let whole : xs ≡ joined (upper_half q) = joined_all (upper_half q) j xs w inv in
    let half : IsHalf n (upper_half q) = subst (λ (k : ℕ). IsHalf k (upper_half q)) (sym e) (is_half q s) in
    (ap length whole ∙ length-joined n (upper_half q) half, ap (rows_of n) whole ∙ rows_of_joined n (upper_half q) half)
