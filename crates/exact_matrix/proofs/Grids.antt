-- A list as rows that stand one after another.
use Rattle.std.proofs.Common.{◌≡◌, ℕ, Vec, zero, suc, ◌+◌, ◌-◌, ◌*◌, ◌<◌, ◌≤◌, List, [], ◌∷◌, ◌++◌, Option, Some, None, length, take, drop, get_or, slice_get, replicate, sym, ap, ◌∙◌, refl, arith, append_assoc}
use Rattle.std.proofs.Math.Seq.{take-add}
use Rattle.std.proofs.Math.ListN.{set}
use Rattle.std.proofs.Math.Nat.{mul-le-mul_right}
use borrow.Rule.Slice.PartMut.{put_mid}
use Rattle.std.proofs.lemmas.List.{drop-drop, drop-set-lt, drop-set-add, take-set-le, length-take-le, length-drop, take_at, drop_at, length-append, get_or-take, get_or-drop, get_or-set_same, length-replicate, take-replicate, drop-replicate, with_items_is}
use Rattle.std.proofs.lemmas.Option.{slice_get_read}
use Rattle.std.specs.Option.{SomeIff}
use Rattle.std.specs.Vec.{with_items}
use Rattle.exact_matrix.specs.Grid.{Grid, rows_of, row_at, with_row}

pub row_end : (i rows c : ℕ) → i < rows → i * c + c ≤ rows * c
row_end i rows c h = omega (arith, mul-le-mul_right c h)

pub rows_of-length : {F : Type 0} (c n : ℕ) (xs : List F) → length (rows_of c n xs) ≡ n
rows_of-length c zero xs = refl
rows_of-length c (suc n) xs = ap suc (rows_of-length c n (drop c xs))

pub rows_of-row : {F : Type 0} (c n : ℕ) (xs : List F) (i : ℕ) (d : List F) → i < n → get_or (rows_of c n xs) i d ≡ take c (drop (i * c) xs)
rows_of-row c zero xs i d h = absurd (omega arith)
rows_of-row c (suc n) xs zero d h = let z : zero * c ≡ 0 = omega arith in rw z
rows_of-row c (suc n) xs (suc i) d h = rows_of-row c n (drop c xs) i d (omega arith) ∙ ap (take c) (drop-drop (i * c) c xs) ∙ ap (λ k. take c (drop k xs)) (omega arith)

pub rows_of-shape : {F : Type 0} (c n : ℕ) (xs : List F) → length xs ≡ n * c → (i : ℕ) (d : List F) → i < n → length (get_or (rows_of c n xs) i d) ≡ c
rows_of-shape c n xs e i d h =
    ap length (rows_of-row c n xs i d h) ∙ length-take-le c (drop (i * c) xs) (rw length-drop (omega (arith, row_end i n c h)))

cons_both : {F : Type 0} (x y : List F) (xs ys : List (List F)) → x ≡ y → xs ≡ ys → x ∷ xs ≡ y ∷ ys
cons_both x y xs ys e h = cc

take_set : {F : Type 0} (c : ℕ) (xs : List F) (j : ℕ) (v : F) → take c (set xs j v) ≡ set (take c xs) j v
take_set zero xs j v = refl
take_set (suc c) [] j v = refl
take_set (suc c) (x ∷ xs) zero v = refl
take_set (suc c) (x ∷ xs) (suc j) v = ap (λ t. x ∷ t) (take_set c xs j v)

-- an entry written at its place
pub rows_of-set : {F : Type 0} (c n : ℕ) (xs : List F) (i j : ℕ) (v : F) → i < n → j < c →
    rows_of c n (set xs (i * c + j) v) ≡ set (rows_of c n xs) i (set (take c (drop (i * c) xs)) j v)
rows_of-set c zero xs i j v h k = absurd (omega arith)
rows_of-set c (suc n) xs zero j v h k =
    let z : zero * c + j ≡ j = omega arith in let o : zero * c ≡ 0 = omega arith in
    rw (z, o) (cons_both _ _ _ _ (take_set c xs j v) (ap (rows_of c n) (drop-set-lt c xs j v k)))
rows_of-set c (suc n) xs (suc i) j v h k =
    let z : suc i * c + j ≡ c + (i * c + j) = omega arith in let o : suc i * c ≡ c + i * c = omega arith in
    rw (z, o) (cons_both _ _ _ _ (take-set-le c xs (c + (i * c + j)) v (omega arith))
    (ap (rows_of c n) (drop-set-add c xs (i * c + j) v) ∙ rows_of-set c n (drop c xs) i j v (omega arith) k
    ∙ ap (λ t. set (rows_of c n (drop c xs)) i (set (take c t) j v)) (drop-drop (i * c) c xs)))

put_later : {F : Type 0} (c k : ℕ) (xs ys : List F) → put_mid (c + k) c xs ys ≡ take c xs ++ put_mid k c (drop c xs) ys
put_later c k xs ys =
    rw (take-add c k xs, ← drop-drop k c xs) (append_assoc (take c xs) (take k (drop c xs)) (ys ++ drop c (drop k (drop c xs))))

-- a row written at its place
pub rows_of-put : {F : Type 0} (c n : ℕ) (xs ys : List F) (i : ℕ) → i < n → n * c ≤ length xs → length ys ≡ c →
    rows_of c n (put_mid (i * c) c xs ys) ≡ set (rows_of c n xs) i ys
rows_of-put c zero xs ys i h k e = absurd (omega arith)
rows_of-put c (suc n) xs ys zero h k e =
    let o : zero * c ≡ 0 = omega arith in
    rw o (cons_both _ _ _ _ (take_at ys (drop c xs) c e) (ap (rows_of c n) (drop_at ys (drop c xs) c e)))
rows_of-put c (suc n) xs ys (suc i) h k e =
    let o : suc i * c ≡ c + i * c = omega arith in
    let w : length (take c xs) ≡ c = length-take-le c xs (omega arith) in
    let l : n * c ≤ length (drop c xs) = rw length-drop (omega arith) in
    rw (o, put_later c (i * c) xs ys) (cons_both _ _ _ _ (take_at (take c xs) _ c w) (ap (rows_of c n) (drop_at (take c xs) _ c w) ∙ rows_of-put c n (drop c xs) ys i (omega arith) l e))

pub rows_of-replicate : {F : Type 0} (c n : ℕ) (v : F) → rows_of c n (replicate (n * c) v) ≡ replicate n (replicate c v)
rows_of-replicate c zero v = refl
rows_of-replicate c (suc n) v =
    let o : suc n * c ≡ c + n * c = omega arith in
    rw o (cons_both _ _ _ _ (take-replicate c (c + n * c) v (omega arith)) (ap (rows_of c n) (drop-replicate c (c + n * c) v ∙ ap (λ k. replicate k v) (omega arith)) ∙ rows_of-replicate c n v))

flat_rows : {F : Type 0} (c n : ℕ) (xs : List F) (m : Grid F) → record { columns = c; rows = rows_of c n xs } ≡ m → length m.rows ≡ n
flat_rows c n xs m e = ap (λ m. length m.rows) (sym e) ∙ rows_of-length c n xs

-- the row at i stands within the list
pub row_within : {F : Type 0} (c n : ℕ) (xs : List F) (m : Grid F) (i : ℕ) →
    record { columns = c; rows = rows_of c n xs } ≡ m → length xs ≡ n * c → i < length m.rows → i * c + c ≤ length xs
row_within c n xs m i e l h = omega (arith, row_end i n c (omega (arith, flat_rows c n xs m e)))

pub place_within : {F : Type 0} (c n : ℕ) (xs : List F) (m : Grid F) (i j : ℕ) →
    record { columns = c; rows = rows_of c n xs } ≡ m → length xs ≡ n * c → i < length m.rows → j < m.columns → i * c + j < length xs
place_within c n xs m i j e l h k = omega (arith, row_within c n xs m i e l h, ap (λ m. m.columns) e)

pub row_is : {F : Type 0} (c n : ℕ) (xs : List F) (m : Grid F) (i : ℕ) →
    record { columns = c; rows = rows_of c n xs } ≡ m → i < length m.rows → row_at m i ≡ take c (drop (i * c) xs)
row_is c n xs m i e h = ap (λ m. row_at m i) (sym e) ∙ rows_of-row c n xs i [] (omega (arith, flat_rows c n xs m e))

-- an entry read at its place
pub entry_is : {F : Type 0} (c n : ℕ) (xs : List F) (m : Grid F) (i j : ℕ) (x : F) →
    record { columns = c; rows = rows_of c n xs } ≡ m → length xs ≡ n * c → i < length m.rows → j < m.columns → x ≡ get_or xs (i * c + j) x →
    slice_get (row_at m i) j ≡ Some x
entry_is c n xs m i j x e l h k r =
    let w : i * c + c ≤ length xs = row_within c n xs m i e l h in
    let k : j < c = omega (arith, ap (λ m. m.columns) e) in
    rw (row_is c n xs m i e h) (slice_get_read (take c (drop (i * c) xs)) c j x (sym (length-take-le c (drop (i * c) xs) (rw length-drop (omega arith)))) k
    (r ∙ sym (get_or-take c (drop (i * c) xs) j x k ∙ get_or-drop (i * c) xs j x)))

-- the matrix with an entry written
pub entry_set : {F : Type 0} (c n : ℕ) (xs : List F) (m : Grid F) (i j : ℕ) (x : F) →
    record { columns = c; rows = rows_of c n xs } ≡ m → i < length m.rows → j < m.columns →
    record { columns = c; rows = rows_of c n (set xs (i * c + j) x) } ≡ with_row m i (set (row_at m i) j x)
entry_set c n xs m i j x e h k =
    rw (row_is c n xs m i e h) (ap (λ rows. record { columns = c; rows = rows }) (rows_of-set c n xs i j x (omega (arith, flat_rows c n xs m e)) (omega (arith, ap (λ m. m.columns) e)))
    ∙ ap (λ m. with_row m i (set (take c (drop (i * c) xs)) j x)) e)

-- the matrix with a row written
pub row_put : {F : Type 0} (c n : ℕ) (xs ys : List F) (m : Grid F) (i : ℕ) →
    record { columns = c; rows = rows_of c n xs } ≡ m → length xs ≡ n * c → i < length m.rows → length ys ≡ c →
    record { columns = c; rows = rows_of c n (put_mid (i * c) c xs ys) } ≡ with_row m i ys
row_put c n xs ys m i e l h k =
    ap (λ rows. record { columns = c; rows = rows }) (rows_of-put c n xs ys i (omega (arith, flat_rows c n xs m e)) (omega arith) k)
    ∙ ap (λ m. with_row m i ys) e

count_is : (rows columns count : ℕ) (o : Option ℕ) (P : Type 0) → SomeIff o P (rows * columns) → o ≡ Some count → count ≡ rows * columns
count_is rows columns count None P h e = absurd cc
count_is rows columns count (Some k) P h e = let e2 : k ≡ count = cc in omega (arith, e2, h.1)

pub filled_is : {F : Type 0} (rows columns count : ℕ) (xs : List F) (v : F) (o : Option ℕ) (P : Type 0) → SomeIff o P (rows * columns) → o ≡ Some count → xs ≡ replicate count v →
    ◌≡◌ {A = Grid F} (record { columns = columns; rows = rows_of columns rows xs }) (record { columns = columns; rows = replicate rows (replicate columns v) })
filled_is rows columns count xs v o P h e is =
    ap (λ rows. record { columns = columns; rows = rows })
    (ap (rows_of columns rows) (is ∙ ap (λ n. replicate n v) (count_is rows columns count o P h e)) ∙ rows_of-replicate columns rows v)

pub filled_length : {F : Type 0} (rows columns count : ℕ) (xs : List F) (v : F) (o : Option ℕ) (P : Type 0) → SomeIff o P (rows * columns) → o ≡ Some count → xs ≡ replicate count v → length xs ≡ rows * columns
filled_length rows columns count xs v o P h e is = ap length is ∙ length-replicate count v ∙ count_is rows columns count o P h e

pub row_read : {F : Type 0} (c n : ℕ) (xs ys : List F) (m : Grid F) (i : ℕ) →
    record { columns = c; rows = rows_of c n xs } ≡ m → i < length m.rows → ys ≡ xs → take ((i * c + c) - i * c) (drop (i * c) ys) ≡ row_at m i
row_read c n xs ys m i e h s = ap (λ k. take k (drop (i * c) ys)) (omega arith) ∙ ap (λ t. take c (drop (i * c) t)) s ∙ sym (row_is c n xs m i e h)

pub row_of_put : {F : Type 0} (m : Grid F) (i : ℕ) (ys : List F) → i < length m.rows → row_at (with_row m i ys) i ≡ ys
row_of_put m i ys h = get_or-set_same m.rows i ys [] h

put_mid_length : {F : Type 0} (a k : ℕ) (xs ys : List F) → a + k ≤ length xs → length ys ≡ k → length (put_mid a k xs ys) ≡ length xs
put_mid_length a k xs ys h e = simp (length-append, length-drop) (let t = length-take-le a xs (omega arith) in omega (arith, t))

-- the list with a part written, where the part is a row
pub written_length : {F : Type 0} (c n : ℕ) (xs xs' ys : List F) (m : Grid F) (i : ℕ) →
    record { columns = c; rows = rows_of c n xs } ≡ m → length xs ≡ n * c → i < length m.rows → xs' ≡ xs →
    length ys ≡ length (take ((i * c + c) - i * c) (drop (i * c) xs')) → length (put_mid (i * c) ((i * c + c) - i * c) xs' ys) ≡ length xs
written_length c n xs xs' ys m i e l h s k =
    let w : i * c + c ≤ length xs = row_within c n xs m i e l h in
    let o : (i * c + c) - i * c ≡ c = omega arith in
    rw (o, s) (put_mid_length (i * c) c xs ys w (k ∙ rw (o, s) (length-take-le c (drop (i * c) xs) (rw length-drop (omega arith)))))

pub row_written : {F : Type 0} (c n : ℕ) (xs xs' ys zs : List F) (m : Grid F) (i : ℕ) →
    record { columns = c; rows = rows_of c n xs } ≡ m → length xs ≡ n * c → i < length m.rows → xs' ≡ xs →
    length ys ≡ length (take ((i * c + c) - i * c) (drop (i * c) xs')) → zs ≡ put_mid (i * c) ((i * c + c) - i * c) xs' ys →
    record { columns = c; rows = rows_of c n zs } ≡ with_row m i ys
row_written c n xs xs' ys zs m i e l h s k z =
    let w : i * c + c ≤ length xs = row_within c n xs m i e l h in
    let o : (i * c + c) - i * c ≡ c = omega arith in
    rw (z, o, s) (row_put c n xs ys m i e l h (k ∙ rw (o, s) (length-take-le c (drop (i * c) xs) (rw length-drop (omega arith)))))

-- the row that is written, and the rest
pub row_now : {F : Type 0} (m g : Grid F) (i : ℕ) (ys : List F) → i < length m.rows → g ≡ with_row m i ys → row_at g i ≡ ys
row_now m g i ys h e = ap (λ g. row_at g i) e ∙ row_of_put m i ys h

pub rest_now : {F : Type 0} (m g : Grid F) (i : ℕ) (ys : List F) → i < length m.rows → g ≡ with_row m i ys → g ≡ with_row m i (row_at g i)
rest_now m g i ys h e = e ∙ ap (with_row m i) (sym (row_now m g i ys h e))

-- the same of the vector that the list stands in
vec_items : {F Z : Type 0} (v : Vec F Z) (c n : ℕ) (xs' ys : List F) (m : Grid F) (i : ℕ) →
    record { columns = c; rows = rows_of c n v.items } ≡ m → length v.items ≡ n * c → i < length m.rows → xs' ≡ v.items → v.len ≡ length v.items →
    length ys ≡ length (take ((i * c + c) - i * c) (drop (i * c) xs')) →
    (with_items v (put_mid (i * c) ((i * c + c) - i * c) xs' ys)).items ≡ put_mid (i * c) ((i * c + c) - i * c) xs' ys
vec_items v c n xs' ys m i e l h s len k =
    with_items_is v (put_mid (i * c) ((i * c + c) - i * c) xs' ys) (written_length c n v.items xs' ys m i e l h s k ∙ sym len)

pub vec_length : {F Z : Type 0} (v : Vec F Z) (c n : ℕ) (xs' ys : List F) (m : Grid F) (i : ℕ) →
    record { columns = c; rows = rows_of c n v.items } ≡ m → length v.items ≡ n * c → i < length m.rows → xs' ≡ v.items → v.len ≡ length v.items →
    length ys ≡ length (take ((i * c + c) - i * c) (drop (i * c) xs')) →
    length (with_items v (put_mid (i * c) ((i * c + c) - i * c) xs' ys)).items ≡ n * c
vec_length v c n xs' ys m i e l h s len k =
    ap length (vec_items v c n xs' ys m i e l h s len k) ∙ written_length c n v.items xs' ys m i e l h s k ∙ l

pub vec_written : {F Z : Type 0} (v : Vec F Z) (c n : ℕ) (xs' ys : List F) (m : Grid F) (i : ℕ) →
    record { columns = c; rows = rows_of c n v.items } ≡ m → length v.items ≡ n * c → i < length m.rows → xs' ≡ v.items → v.len ≡ length v.items →
    length ys ≡ length (take ((i * c + c) - i * c) (drop (i * c) xs')) →
    record { columns = c; rows = rows_of c n (with_items v (put_mid (i * c) ((i * c + c) - i * c) xs' ys)).items } ≡ with_row m i ys
vec_written v c n xs' ys m i e l h s len k =
    row_written c n v.items xs' ys _ m i e l h s k (vec_items v c n xs' ys m i e l h s len k)

pub row_read_length : {F : Type 0} (c n : ℕ) (xs ys : List F) (m : Grid F) (i : ℕ) →
    record { columns = c; rows = rows_of c n xs } ≡ m → length xs ≡ n * c → i < length m.rows → ys ≡ xs → length (take ((i * c + c) - i * c) (drop (i * c) ys)) ≡ m.columns
row_read_length c n xs ys m i e l h s =
    let w : i * c + c ≤ length xs = row_within c n xs m i e l h in
    let o : (i * c + c) - i * c ≡ c = omega arith in
    rw (o, s) (length-take-le c (drop (i * c) xs) (rw length-drop (omega arith)) ∙ ap (λ m. m.columns) e)
