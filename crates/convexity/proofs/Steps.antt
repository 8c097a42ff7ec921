-- The steps of the reduction: at each place the answer stays the same.
use Rattle.std.specs.Prelude.{◌≡◌, ◌≢◌, ℕ, zero, suc, ◌+◌, ◌-◌, ◌<◌, ◌≤◌, Bool, true, false, List, [], ◌∷◌, ◌++◌, pos, take, drop, length, map, replicate, slice_set, slice_index_or, Option, Some, None, Result, Ok, Err, if◌then◌else◌}
use Rattle.std.specs.declared.cmp.Ordering.{Ordering}
use Rattle.std.specs.declared.cmp.Ordering.TheVariants.{Less, Equal, Greater}
use Rattle.std.specs.Ordering.{is_eq}
use Rattle.std.proofs.Common.{refl, sym, ◌∙◌, ap, arith, add-one, append_assoc}
use Rattle.std.proofs.Math.Seq.{take-suc, drop-cons}
use Rattle.std.proofs.Math.ListN.{drop_of_length-le}
use Rattle.std.proofs.lemmas.List.{drop-set, take_more_set, get_or-set_other, get_or-drop, length-append, take_at, take_all, length-drop, length-take-le}
use Rattle.rational.specs.Rational.{ℚ, zero_ℚ, one_ℚ, neg_ℚ}
use Rattle.rational.specs.Order.{rational_cmp, same_fields, same_fields_is, same_fields_self}
use Rattle.rational.specs.Vectors.{zeros, row_at}
use Rattle.rational.proofs.Wholes.{num-ne_of_test, num-ne_of_ne}
use Rattle.frac_core.specs.Parts.{max_part}
use Rattle.frac_core.specs.Row.{Entries, row_less}
use Rattle.frac_core.specs.declared.fractions.Refused.{Refused}
use Rattle.program_law.specs.declared.Square.{Square}
use Rattle.rational.specs.Sums.{entry}
use Rattle.elimination_law.specs.Calculation.{divided_in}
use Rattle.exact_matrix.proofs.Passes.{drop_after_set}
use Rattle.convexity.specs.declared.Curvature.{Curvature}
use Rattle.convexity.specs.declared.Curvature.TheVariants.{Squares, Negative}
use Rattle.frac_core.specs.Calculated.{◌>>=◌, answered}
use Rattle.frac_core.specs.Dot.{dot_of}
use Rattle.frac_core.specs.declared.fractions.Tried.{Tried}
use Rattle.symmetric_half.specs.Chain.{row_answered}
use Rattle.symmetric_half.specs.Half.{IsHalf}
use Rattle.convexity.specs.Onto.{divided_onto}
use Rattle.convexity.specs.Places.{after_row, after_rows, answer_at, answer_found, freed_onto, squares_of_rows}
use Rattle.convexity.specs.Reduction.{first_place, tilted, with_zero, after_zero}
use Rattle.convexity.specs.ReductionCalculation.{tilt_in, less_product, less_products_in, after_square_in, flat_in, by_sign_in, squares_from}
use Rattle.convexity.proofs.Entries.{place_found}
use Rattle.convexity.proofs.Onto.{before, divided_onto_is}

-- ---- answers carried back

after_last : (rows : List (List ℚ)) (row : List ℚ) (a : Result Curvature Refused) → after_rows (rows ++ row ∷ []) a ≡ after_rows rows (a >>= λ c. after_row row c)
after_last [] row a = refl
after_last (x ∷ rows) row a = ap (λ (b : Result Curvature Refused). b >>= λ c. after_row x c) (after_last rows row a)

after_refused : (rows : List (List ℚ)) (r : Refused) → after_rows rows (Err r) ≡ Err r
after_refused [] r = refl
after_refused (x ∷ rows) r = ap (λ (b : Result Curvature Refused). b >>= λ c. after_row x c) (after_refused rows r)

same_then : {A B : Type 0} (a : Result A Refused) (f g : A → Result B Refused) → ((x : A) → f x ≡ g x) → (a >>= f) ≡ (a >>= g)
same_then (Ok x) f g h = h x
same_then (Err r) f g h = refl

-- ---- a row and those after it

here : (j : ℕ) (rows : List (List ℚ)) → j < length rows → drop j rows ≡ row_at rows j ∷ drop (j + 1) rows
here j rows h = rw add-one (drop-cons rows j [] h)

next : (j : ℕ) (rows : List (List ℚ)) → j < length rows → take (j + 1) rows ≡ take j rows ++ row_at rows j ∷ []
next j rows h = rw add-one (take-suc rows j [] h)

head_tail : (row : List ℚ) → 0 < length row → row ≡ entry row 0 ∷ drop 1 row
head_tail [] h = absurd (omega arith)
head_tail (x ∷ row) h = refl

-- what the place j comes to, by how its diagonal compares with 0
abbrev sign_at : Ordering → ℕ → List (List ℚ) → Result Curvature Refused
sign_at o j rows =
    by_sign_in o (length rows - (j + 1)) (entry (row_at rows j) 0) (drop 1 (row_at rows j)) (drop (j + 1) rows) (λ left. squares_from (length rows - (j + 1)) left)

squares_more : (n : ℕ) (d : ℚ) (r : List ℚ) (rows : List (List ℚ)) → squares_from (suc n) ((d ∷ r) ∷ rows) ≡ by_sign_in (rational_cmp d zero_ℚ) n d r rows (λ left. squares_from n left)
unfolding squares_from
squares_more n d r rows = refl

answer_here : (o : Ordering) (j : ℕ) (rows : List (List ℚ)) → j < length rows → 0 < length (row_at rows j) → rational_cmp (entry (row_at rows j) 0) zero_ℚ ≡ o
    → answer_at j rows ≡ after_rows (take j rows) (sign_at o j rows)
unfolding answer_at
answer_here o j rows h some e =
    let row = row_at rows j in let m = length rows - (j + 1) in
    let n : length rows - j ≡ suc (length rows - (j + 1)) = omega arith in
    ap (after_rows (take j rows))
    (ap (λ (k : ℕ). squares_from k (drop j rows)) n
    ∙ ap (squares_from (suc m)) (here j rows h ∙ ap (λ (r : List ℚ). r ∷ drop (j + 1) rows) (head_tail row some))
    ∙ squares_more m (entry row 0) (drop 1 row) (drop (j + 1) rows)
    ∙ ap (λ (o : Ordering). sign_at o j rows) e)

answer_next : (j : ℕ) (rows : List (List ℚ)) → j < length rows
    → answer_at (j + 1) rows ≡ after_rows (take j rows) (squares_from (length rows - (j + 1)) (drop (j + 1) rows) >>= λ c. after_row (row_at rows j) c)
unfolding answer_at
answer_next j rows h =
    let rest = squares_from (length rows - (j + 1)) (drop (j + 1) rows) in
    ap (λ (front : List (List ℚ)). after_rows front rest) (next j rows h) ∙ after_last (take j rows) (row_at rows j) rest

-- ---- a row with the weight 0, and one with another

zero_test : (d : ℚ) (o : Ordering) → rational_cmp d zero_ℚ ≡ o → same_fields d zero_ℚ ≡ is_eq o
zero_test d o e = same_fields_is d zero_ℚ ∙ ap is_eq e

row_of_zero : (row : List ℚ) (c : Curvature) → same_fields (entry row 0) zero_ℚ ≡ true → after_row row c ≡ Ok (after_zero c)
row_of_zero [] c e = refl
row_of_zero (d ∷ v) c e = rw e

row_of_square : (d : ℚ) (v : List ℚ) (c : Curvature) → same_fields d zero_ℚ ≡ false → after_row (d ∷ v) c ≡ after_square_in d v c
row_of_square d v c e = rw e

-- what a test says of a row's first entry
pub first_test : (row : List ℚ) (d : ℚ) (t v : Bool) → d ≡ slice_index_or row 0 d → 0 < length row → t ≡ same_fields d zero_ℚ → t ≡ v → same_fields (entry row 0) zero_ℚ ≡ v
first_test [] d t v e h a b = absurd (omega arith)
first_test (x ∷ row) d t v e h a b = ap (λ (q : ℚ). same_fields q zero_ℚ) (sym e) ∙ sym a ∙ b

pub first_order : (row : List ℚ) (d : ℚ) (o : Ordering) → d ≡ slice_index_or row 0 d → 0 < length row → rational_cmp d zero_ℚ ≡ o → rational_cmp (entry row 0) zero_ℚ ≡ o
first_order [] d o e h a = absurd (omega arith)
first_order (x ∷ row) d o e h a = ap (λ (q : ℚ). rational_cmp q zero_ℚ) (sym e) ∙ a

-- an entry read at its place
pub entry_is : (row : List ℚ) (k : ℕ) (d : ℚ) → d ≡ slice_index_or row k d → k < length row → d ≡ entry row k
entry_is [] k d e h = absurd (omega arith)
entry_is (x ∷ row) zero d e h = e
entry_is (x ∷ row) (suc k) d e h = entry_is row k d e (omega arith)

pub half_width : (n : ℕ) (rows : List (List ℚ)) (j : ℕ) → IsHalf n rows → j < n → j + length (row_at rows j) ≡ n
half_width zero rows j s h = absurd (omega arith)
half_width (suc n) [] j s h = absurd s
half_width (suc n) (row ∷ rows) zero s h = omega (arith, s.0)
half_width (suc n) (row ∷ rows) (suc j) s h = omega (arith, half_width n rows j s.1 (omega arith))

-- a row from a place on, as it is lent
pub tail_is : (row : List ℚ) (k : ℕ) → take (length row - k) (drop k row) ≡ drop k row
tail_is row k = take_all (length row - k) (drop k row) (let e = length-drop k row in omega (arith, e))

rest_from : (row : List ℚ) (k : ℕ) → take (length row - k) (drop k row) ≡ drop k row
rest_from row k = take_all (length row - k) (drop k row) (let e = length-drop k row in omega (arith, e))

-- a row without its first entry, as it is lent
pub rest_is : (row : List ℚ) → take (length row - 1) (drop 1 row) ≡ drop 1 row
rest_is row = rest_from row 1

-- the product of what is lent of a row and of a vector
pub dot_lent : (row lent z : List ℚ) (next : ℕ) (t : Tried) → lent ≡ z → dot_of max_part (take (length row - 1) (drop 1 row)) (take (length lent - next) (drop next lent)) ≡ t
    → dot_of max_part (drop 1 row) (drop next z) ≡ t
dot_lent row lent z next t e h =
    ap (λ (u : List ℚ). dot_of max_part u (drop next z)) (sym (rest_is row))
    ∙ ap (λ (u : List ℚ). dot_of max_part (take (length row - 1) (drop 1 row)) u) (ap (drop next) (sym e) ∙ sym (rest_from lent next)) ∙ h

-- the first place with an entry, read off a row that is lent
pub place_read : (row lent : List ℚ) (o : Option ℕ) → lent ≡ row → o ≡ first_place (take (length lent - 1) (drop 1 lent)) → first_place (drop 1 row) ≡ o
place_read row lent o e h = ap (λ (r : List ℚ). first_place (drop 1 r)) (sym e) ∙ ap first_place (sym (rest_is lent)) ∙ sym h

pub place_nonzero : (row : List ℚ) (k : ℕ) (q : ℚ) → first_place (drop 1 row) ≡ Some k → q ≡ entry row (1 + k) → q.num ≢ pos 0
place_nonzero row k q f e =
    num-ne_of_ne q (λ z. (place_found (drop 1 row) k f).1 (get_or-drop 1 row k zero_ℚ ∙ sym e ∙ z))

pub divisor_is : (q : ℚ) → rational_cmp q zero_ℚ ≡ Greater → q.num ≢ pos 0
divisor_is q e = num-ne_of_test q (zero_test q Greater e)

-- ---- the diagonal is below 0

drop_zeros : (n j : ℕ) → drop j (replicate n zero_ℚ) ≡ zeros (n - j)
drop_zeros n zero = all_zeros n ∙ ap zeros (let e : n ≡ n - 0 = omega arith in e)
  where
    all_zeros : (n : ℕ) → replicate n zero_ℚ ≡ zeros n
    all_zeros zero = refl
    all_zeros (suc n) = ap (λ (l : List ℚ). zero_ℚ ∷ l) (all_zeros n)
drop_zeros zero (suc j) = ap zeros (let e : 0 ≡ 0 - suc j = omega arith in e)
drop_zeros (suc n) (suc j) = drop_zeros n j ∙ ap zeros (let e : n - j ≡ suc n - suc j = omega arith in e)

length-zero_list : (n : ℕ) → length (replicate n zero_ℚ) ≡ n
length-zero_list zero = refl
length-zero_list (suc n) = ap suc (length-zero_list n)

pub step_below : (j : ℕ) (rows : List (List ℚ)) (z : List ℚ) → j < length rows → 0 < length (row_at rows j) → z ≡ replicate (length rows) zero_ℚ
    → rational_cmp (entry (row_at rows j) 0) zero_ℚ ≡ Less → answer_found j rows (slice_set z j one_ℚ) ≡ answer_at j rows
unfolding answer_found
step_below j rows z h some zs e =
    let l : j < length z = rw zs (rw (length-zero_list (length rows)) h) in
    ap (λ (u : List ℚ). after_rows (take j rows) (Ok (Negative u)))
    (drop-set z j one_ℚ l ∙ ap (λ (u : List ℚ). one_ℚ ∷ u) (ap (drop (j + 1)) zs ∙ drop_zeros (length rows) (j + 1)))
    ∙ sym (answer_here Less j rows h some e)

-- ---- the diagonal is 0

at_flat : ℕ → List (List ℚ) → Option ℕ → Result Curvature Refused
at_flat j rows o =
    flat_in (length rows - (j + 1)) (drop 1 (row_at rows j)) (drop (j + 1) rows) o (λ left. squares_from (length rows - (j + 1)) left)

answer_flat : (o : Option ℕ) (j : ℕ) (rows : List (List ℚ)) → j < length rows → 0 < length (row_at rows j) → rational_cmp (entry (row_at rows j) 0) zero_ℚ ≡ Equal
    → first_place (drop 1 (row_at rows j)) ≡ o → answer_at j rows ≡ after_rows (take j rows) (at_flat j rows o)
unfolding at_flat
answer_flat o j rows h some e f = answer_here Equal j rows h some e ∙ ap (λ (o : Option ℕ). after_rows (take j rows) (at_flat j rows o)) f

pub step_none : (j : ℕ) (rows : List (List ℚ)) → j < length rows → 0 < length (row_at rows j) → rational_cmp (entry (row_at rows j) 0) zero_ℚ ≡ Equal
    → first_place (drop 1 (row_at rows j)) ≡ None → answer_at (j + 1) rows ≡ answer_at j rows
unfolding at_flat
step_none j rows h some e f =
    let rest = squares_from (length rows - (j + 1)) (drop (j + 1) rows) in
    answer_next j rows h
    ∙ ap (after_rows (take j rows))
    (same_then rest (λ c. after_row (row_at rows j) c) (λ c. Ok (after_zero c)) (λ c. row_of_zero (row_at rows j) c (zero_test (entry (row_at rows j) 0) Equal e)))
    ∙ sym (answer_flat None j rows h some e f)

drop_two : (z : List ℚ) (j k : ℕ) (x t : ℚ) → j < length z → drop j (slice_set (slice_set z j x) (j + 1 + k) t) ≡ x ∷ slice_set (drop (j + 1) z) k t
drop_two [] j k x t h = absurd (omega arith)
drop_two (y ∷ z) zero k x t h =
    let e : 0 + 1 + k ≡ suc k = omega arith in
    rw e refl
drop_two (y ∷ z) (suc j) k x t h =
    let e : suc j + 1 + k ≡ suc (j + 1 + k) = omega arith in let f : suc j + 1 ≡ suc (j + 1) = omega arith in
    rw (e, f) (drop_two z j k x t (omega arith))

flat_is : (j k : ℕ) (rows : List (List ℚ)) (b c : ℚ) → b ≡ entry (row_at rows j) (1 + k) → c ≡ entry (row_at rows (j + 1 + k)) 0
    → at_flat j rows (Some k) ≡ (tilt_in b c >>= λ t. Ok (Negative (tilted (length rows - (j + 1)) k t)))
unfolding at_flat
flat_is j k rows b c eb ec =
    ap (λ (b : ℚ). tilt_in b (entry (row_at (drop (j + 1) rows) k) 0) >>= λ t. Ok (Negative (tilted (length rows - (j + 1)) k t))) (get_or-drop 1 (row_at rows j) k zero_ℚ ∙ sym eb)
    ∙ ap (λ (c : ℚ). tilt_in b c >>= λ t. Ok (Negative (tilted (length rows - (j + 1)) k t))) (ap (λ (r : List ℚ). entry r 0) (get_or-drop (j + 1) rows k []) ∙ sym ec)

pub step_tilted : (j k : ℕ) (rows : List (List ℚ)) (z : List ℚ) (b c t : ℚ) → j < length rows → 0 < length (row_at rows j) → z ≡ replicate (length rows) zero_ℚ
    → rational_cmp (entry (row_at rows j) 0) zero_ℚ ≡ Equal → first_place (drop 1 (row_at rows j)) ≡ Some k
    → b ≡ entry (row_at rows j) (1 + k) → c ≡ entry (row_at rows (j + 1 + k)) 0 → tilt_in b c ≡ Ok t
    → answer_found j rows (slice_set (slice_set z j one_ℚ) (j + 1 + k) t) ≡ answer_at j rows
unfolding answer_found
step_tilted j k rows z b c t h some zs e f eb ec et =
    let l : j < length z = rw zs (rw (length-zero_list (length rows)) h) in
    ap (λ (u : List ℚ). after_rows (take j rows) (Ok (Negative u)))
    (drop_two z j k one_ℚ t l ∙ ap (λ (u : List ℚ). one_ℚ ∷ slice_set u k t) (ap (drop (j + 1)) zs ∙ drop_zeros (length rows) (j + 1)))
    ∙ sym (answer_flat (Some k) j rows h some e f
    ∙ ap (after_rows (take j rows)) (flat_is j k rows b c eb ec ∙ ap (λ (s : Result ℚ Refused). s >>= λ t. Ok (Negative (tilted (length rows - (j + 1)) k t))) et))

pub step_tilt_refused : (j k : ℕ) (rows : List (List ℚ)) (b c : ℚ) (r : Refused) → j < length rows → 0 < length (row_at rows j)
    → rational_cmp (entry (row_at rows j) 0) zero_ℚ ≡ Equal → first_place (drop 1 (row_at rows j)) ≡ Some k
    → b ≡ entry (row_at rows j) (1 + k) → c ≡ entry (row_at rows (j + 1 + k)) 0 → tilt_in b c ≡ Err r → answer_at j rows ≡ Err r
step_tilt_refused j k rows b c r h some e f eb ec et =
    answer_flat (Some k) j rows h some e f
    ∙ ap (after_rows (take j rows)) (flat_is j k rows b c eb ec ∙ ap (λ (s : Result ℚ Refused). s >>= λ t. Ok (Negative (tilted (length rows - (j + 1)) k t))) et)
    ∙ after_refused (take j rows) r

-- ---- the diagonal is above 0

-- what is written before, and then what comes
before_ok : (done v : List ℚ) (a : Result (List ℚ) Refused) → before done a ≡ Ok v → (w : List ℚ) × (a ≡ Ok w) × (v ≡ done ++ w)
before_ok done v (Ok w) e = (w, refl, cc)
before_ok done v (Err r) e = absurd cc

before_err : (done : List ℚ) (r : Refused) (a : Result (List ℚ) Refused) → before done a ≡ Err r → a ≡ Err r
before_err done r (Ok w) e = absurd cc
before_err done r (Err s) e = cc

-- the same of rows
abbrev rows_before : List (List ℚ) → Result (List (List ℚ)) Refused → Result (List (List ℚ)) Refused
rows_before done rows = rows >>= λ left. Ok (done ++ left)

rows_before_ok : (done new : List (List ℚ)) (a : Result (List (List ℚ)) Refused) → rows_before done a ≡ Ok new → (left : List (List ℚ)) × (a ≡ Ok left) × (new ≡ done ++ left)
rows_before_ok done new (Ok left) e = (left, refl, cc)
rows_before_ok done new (Err r) e = absurd cc

rows_before_err : (done : List (List ℚ)) (r : Refused) (a : Result (List (List ℚ)) Refused) → rows_before done a ≡ Err r → a ≡ Err r
rows_before_err done r (Ok left) e = absurd cc
rows_before_err done r (Err s) e = cc

nothing_more : (done : List (List ℚ)) → Ok done ≡ rows_before done (Ok [])
nothing_more done = ap (λ (l : List (List ℚ)). Ok l) (no_more done)
  where
    no_more : (l : List (List ℚ)) → l ≡ l ++ []
    no_more [] = refl
    no_more (x ∷ l) = ap (λ (m : List (List ℚ)). x ∷ m) (no_more l)

freed_is : (done : List (List ℚ)) (r v : List ℚ) (rows : List (List ℚ)) → freed_onto done r v rows ≡ rows_before done (less_products_in r v rows)
freed_is done [] v rows = nothing_more done
freed_is done (f ∷ r) [] rows = nothing_more done
freed_is done (f ∷ r) (y ∷ v) [] = nothing_more done
freed_is done (f ∷ r) (y ∷ v) (row ∷ rows) = by_row (row_answered (less_product f (y ∷ v) row)) (λ one. freed_is (done ++ one ∷ []) r v rows)
  where
    longer : (one : List ℚ) (a : Result (List (List ℚ)) Refused) → rows_before (done ++ one ∷ []) a ≡ rows_before done (a >>= λ others. Ok (one ∷ others))
    longer one (Ok others) = ap (λ (l : List (List ℚ)). Ok l) (append_assoc done (one ∷ []) others)
    longer one (Err e) = refl

    by_row : (a : Result (List ℚ) Refused) → ((one : List ℚ) → freed_onto (done ++ one ∷ []) r v rows ≡ rows_before (done ++ one ∷ []) (less_products_in r v rows))
        → (a >>= λ one. freed_onto (done ++ one ∷ []) r v rows) ≡ rows_before done (a >>= λ one. less_products_in r v rows >>= λ others. Ok (one ∷ others))
    by_row (Ok one) h = h one ∙ longer one (less_products_in r v rows)
    by_row (Err e) h = refl

-- a row freed, where its factor is not 0
pub less_is : (f : ℚ) (v row : List ℚ) → same_fields f zero_ℚ ≡ false → row_answered (row_less max_part f row v) ≡ row_answered (less_product f v row)
unfolding less_product
less_is f v row e = ap row_answered (pick (same_fields f zero_ℚ) e)
  where
    pick : (b : Bool) → b ≡ false → row_less max_part f row v ≡ (if b then Entries row else row_less max_part f row v)
    pick true h = absurd cc
    pick false h = refl

freed_here : (done : List (List ℚ)) (i k : ℕ) (r v : List ℚ) (rows : List (List ℚ)) → k < length r → k < length v → i < length rows
    → freed_onto done (drop k r) (drop k v) (drop i rows)
    ≡ (row_answered (less_product (entry r k) (drop k v) (row_at rows i)) >>= λ one. freed_onto (done ++ one ∷ []) (drop (k + 1) r) (drop (k + 1) v) (drop (i + 1) rows))
freed_here done i k r v rows h l w =
    let er : drop k r ≡ entry r k ∷ drop (k + 1) r = rw add-one (drop-cons r k zero_ℚ h) in
    let ev : drop k v ≡ entry v k ∷ drop (k + 1) v = rw add-one (drop-cons v k zero_ℚ l) in
    ap (λ (a : List ℚ). freed_onto done a (drop k v) (drop i rows)) er
    ∙ ap (λ (a : List ℚ). freed_onto done (entry r k ∷ drop (k + 1) r) a (drop i rows)) ev
    ∙ ap (λ (a : List (List ℚ)). freed_onto done (entry r k ∷ drop (k + 1) r) (entry v k ∷ drop (k + 1) v) a) (here i rows w)
    ∙ ap (λ (a : List ℚ). row_answered (less_product (entry r k) a (row_at rows i)) >>= λ one. freed_onto (done ++ one ∷ []) (drop (k + 1) r) (drop (k + 1) v) (drop (i + 1) rows)) (sym ev)

-- one row more is freed
pub freed_more : (j k : ℕ) (v row : List ℚ) (rows new : List (List ℚ)) (one : List ℚ) → 1 ≤ k → k < length row → k < length v → j + k < length rows
    → row ≡ row_at rows j → row_answered (less_product (entry row k) (drop k v) (row_at rows (j + k))) ≡ Ok one → new ≡ slice_set rows (j + k) one
    → (freed_onto (take (j + (k + 1)) new) (drop (k + 1) (row_at new j)) (drop (k + 1) v) (drop (j + (k + 1)) new)
    ≡ freed_onto (take (j + k) rows) (drop k (row_at rows j)) (drop k v) (drop (j + k) rows)) × (row_at new j ≡ row_at rows j)
freed_more j k v row rows new one some h l w is e put =
    let n : j + (k + 1) ≡ j + k + 1 = omega arith in
    let ne : j ≢ j + k = omega arith in
    let stays : row_at new j ≡ row_at rows j = ap (λ (r : List (List ℚ)). row_at r j) put ∙ get_or-set_other rows (j + k) j one [] ne in
    let front : take (j + (k + 1)) new ≡ take (j + k) rows ++ one ∷ [] = ap (λ (m : ℕ). take m new) n ∙ ap (take (j + k + 1)) put ∙ take_more_set rows (j + k) one w in
    let back : drop (j + (k + 1)) new ≡ drop (j + k + 1) rows = ap (λ (m : ℕ). drop m new) n ∙ ap (drop (j + k + 1)) put ∙ rw add-one (drop_after_set rows (j + k) one) in (
      ap (λ (a : List (List ℚ)). freed_onto a (drop (k + 1) (row_at new j)) (drop (k + 1) v) (drop (j + (k + 1)) new)) front
          ∙ ap (λ (a : List (List ℚ)). freed_onto (take (j + k) rows ++ one ∷ []) (drop (k + 1) (row_at new j)) (drop (k + 1) v) a) back
          ∙ ap (λ (a : List ℚ). freed_onto (take (j + k) rows ++ one ∷ []) (drop (k + 1) a) (drop (k + 1) v) (drop (j + k + 1) rows)) (stays ∙ sym is)
          ∙ sym (ap (λ (a : List ℚ). freed_onto (take (j + k) rows) (drop k a) (drop k v) (drop (j + k) rows)) (sym is)
          ∙ freed_here (take (j + k) rows) (j + k) k row v rows h l w
          ∙ ap (λ (s : Result (List ℚ) Refused). s >>= λ one. freed_onto (take (j + k) rows ++ one ∷ []) (drop (k + 1) row) (drop (k + 1) v) (drop (j + k + 1) rows)) e),
      stays,
    )

pub freed_stops : (j k : ℕ) (v row : List ℚ) (rows : List (List ℚ)) (r : Refused) → k < length row → k < length v → j + k < length rows
    → row ≡ row_at rows j → row_answered (less_product (entry row k) (drop k v) (row_at rows (j + k))) ≡ Err r
    → freed_onto (take (j + k) rows) (drop k (row_at rows j)) (drop k v) (drop (j + k) rows) ≡ Err r
freed_stops j k v row rows r h l w is e =
    ap (λ (a : List ℚ). freed_onto (take (j + k) rows) (drop k a) (drop k v) (drop (j + k) rows)) (sym is)
    ∙ freed_here (take (j + k) rows) (j + k) k row v rows h l w
    ∙ ap (λ (s : Result (List ℚ) Refused). s >>= λ one. freed_onto (take (j + k) rows ++ one ∷ []) (drop (k + 1) row) (drop (k + 1) v) (drop (j + k + 1) rows)) e

pub freed_end : (j k : ℕ) (v row : List ℚ) (rows : List (List ℚ)) → length row ≤ k → length rows ≤ j + k
    → row ≡ row_at rows j → freed_onto (take (j + k) rows) (drop k (row_at rows j)) (drop k v) (drop (j + k) rows) ≡ Ok rows
freed_end j k v row rows h w is =
    ap (λ (a : List ℚ). freed_onto (take (j + k) rows) (drop k a) (drop k v) (drop (j + k) rows)) (sym is)
    ∙ ap (λ (a : List ℚ). freed_onto (take (j + k) rows) a (drop k v) (drop (j + k) rows)) (drop_of_length-le row h)
    ∙ ap (λ (l : List (List ℚ)). Ok l) (take_all (j + k) rows w)

put_back : (j : ℕ) (old left : List (List ℚ)) (v : List ℚ) → j < length old → slice_set (take (j + 1) old ++ left) j v ≡ take j old ++ v ∷ left
put_back j [] left v h = absurd (omega arith)
put_back zero (x ∷ old) left v h = refl
put_back (suc j) (x ∷ old) left v h =
    let e : suc j + 1 ≡ suc (j + 1) = omega arith in
    rw e (ap (λ (l : List (List ℚ)). x ∷ l) (put_back j old left v (omega arith)))

module _ (j : ℕ) (old : List (List ℚ)) (h : j < length old) (some : 0 < length (row_at old j)) (above : rational_cmp (entry (row_at old j) 0) zero_ℚ ≡ Greater) where
  abbrev diagonal : ℚ
  diagonal = entry (row_at old j) 0

  abbrev later : ℕ
  later = length old - (j + 1)

  -- what the place comes to, given the row divided
  abbrev from_row : List ℚ → Result Curvature Refused
  from_row v = less_products_in (drop 1 (row_at old j)) v (drop (j + 1) old) >>= λ left. squares_from later left >>= λ c. after_square_in diagonal v c

  pub divided_refused : (r : Refused) → divided_onto diagonal (diagonal ∷ []) (drop 1 (row_at old j)) ≡ Err r → answer_at j old ≡ Err r
  divided_refused r e =
      answer_here Greater j old h some above
      ∙ ap (λ (a : Result (List ℚ) Refused). after_rows (take j old) (a >>= λ v. from_row v))
      (before_err (diagonal ∷ []) r (row_answered (divided_in max_part diagonal (drop 1 (row_at old j)))) (sym (divided_onto_is diagonal (diagonal ∷ []) (drop 1 (row_at old j))) ∙ e))
      ∙ after_refused (take j old) r

  -- the row divided
  answer_divided : (v : List ℚ) → divided_onto diagonal (diagonal ∷ []) (drop 1 (row_at old j)) ≡ Ok v
      → (w : List ℚ) × (v ≡ diagonal ∷ w) × (answer_at j old ≡ after_rows (take j old) (from_row w))
  answer_divided v e =
      let found = before_ok (diagonal ∷ []) v (row_answered (divided_in max_part diagonal (drop 1 (row_at old j)))) (sym (divided_onto_is diagonal (diagonal ∷ []) (drop 1 (row_at old j))) ∙ e) in (
        found.0,
        found.2,
        answer_here Greater j old h some above ∙ ap (λ (a : Result (List ℚ) Refused). after_rows (take j old) (a >>= λ v. from_row v)) found.1,
      )

  pub freed_refused : (v : List ℚ) (r : Refused) → divided_onto diagonal (diagonal ∷ []) (drop 1 (row_at old j)) ≡ Ok v
      → freed_onto (take (j + 1) old) (drop 1 (row_at old j)) (drop 1 v) (drop (j + 1) old) ≡ Err r → answer_at j old ≡ Err r
  freed_refused v r e f =
      let found = answer_divided v e in let w = found.0 in
      let g : less_products_in (drop 1 (row_at old j)) w (drop (j + 1) old) ≡ Err r =
      rows_before_err (take (j + 1) old) r (less_products_in (drop 1 (row_at old j)) w (drop (j + 1) old))
      (sym (freed_is (take (j + 1) old) (drop 1 (row_at old j)) w (drop (j + 1) old))
      ∙ ap (λ (u : List ℚ). freed_onto (take (j + 1) old) (drop 1 (row_at old j)) (drop 1 u) (drop (j + 1) old)) (sym found.1) ∙ f) in
      found.2
      ∙ ap (λ (a : Result (List (List ℚ)) Refused). after_rows (take j old) (a >>= λ left. squares_from later left >>= λ c. after_square_in diagonal w c)) g
      ∙ after_refused (take j old) r

  -- the answer of the rows with the square's row in its place
  answer_of_row : (w : List ℚ) (left : List (List ℚ)) → length left ≡ later
      → answer_at (j + 1) (take j old ++ (diagonal ∷ w) ∷ left) ≡ after_rows (take j old) (squares_from later left >>= λ c. after_square_in diagonal w c)
  answer_of_row w left l =
      let front : length (take j old) ≡ j = length-take-le j old (omega arith) in
      let new = take j old ++ (diagonal ∷ w) ∷ left in
      let n : length (take j old ++ (diagonal ∷ w) ∷ left) - (j + 1) ≡ later = simp length-append (omega (arith, front, l)) in
      let row : row_at (take j old ++ (diagonal ∷ w) ∷ left) j ≡ diagonal ∷ w = read_at (take j old) (diagonal ∷ w) left j front in
      let rest : drop (j + 1) (take j old ++ (diagonal ∷ w) ∷ left) ≡ left = drop_after (take j old) (diagonal ∷ w) left j front in
      answer_next j (take j old ++ (diagonal ∷ w) ∷ left) (simp length-append (omega (arith, front)))
      ∙ ap (λ (f : List (List ℚ)). after_rows f (squares_from (length new - (j + 1)) (drop (j + 1) new) >>= λ c. after_row (row_at new j) c)) (take_at (take j old) ((diagonal ∷ w) ∷ left) j front)
      ∙ ap (λ (k : ℕ). after_rows (take j old) (squares_from k (drop (j + 1) new) >>= λ c. after_row (row_at new j) c)) n
      ∙ ap (λ (r : List (List ℚ)). after_rows (take j old) (squares_from later r >>= λ c. after_row (row_at new j) c)) rest
      ∙ ap (λ (r : List ℚ). after_rows (take j old) (squares_from later left >>= λ c. after_row r c)) row
      ∙ ap (after_rows (take j old))
      (same_then (squares_from later left) (λ c. after_row (diagonal ∷ w) c) (λ c. after_square_in diagonal w c) (λ c. row_of_square diagonal w c (zero_test diagonal Greater above)))
    where
      read_at : (front : List (List ℚ)) (row : List ℚ) (left : List (List ℚ)) (j : ℕ) → length front ≡ j → row_at (front ++ row ∷ left) j ≡ row
      read_at [] row left zero e = refl
      read_at [] row left (suc j) e = absurd (omega arith)
      read_at (x ∷ front) row left zero e = absurd (omega arith)
      read_at (x ∷ front) row left (suc j) e = read_at front row left j (omega arith)

      drop_after : (front : List (List ℚ)) (row : List ℚ) (left : List (List ℚ)) (j : ℕ) → length front ≡ j → drop (j + 1) (front ++ row ∷ left) ≡ left
      drop_after [] row left zero e = refl
      drop_after [] row left (suc j) e = absurd (omega arith)
      drop_after (x ∷ front) row left zero e = absurd (omega arith)
      drop_after (x ∷ front) row left (suc j) e =
          let k : suc j + 1 ≡ suc (j + 1) = omega arith in rw k (drop_after front row left j (omega arith))

  pub step_square : (v : List ℚ) (freed new : List (List ℚ)) → divided_onto diagonal (diagonal ∷ []) (drop 1 (row_at old j)) ≡ Ok v
      → freed_onto (take (j + 1) old) (drop 1 (row_at old j)) (drop 1 v) (drop (j + 1) old) ≡ Ok freed → length freed ≡ length old → new ≡ slice_set freed j v
      → answer_at (j + 1) new ≡ answer_at j old
  step_square v freed new e f l put =
      let found = answer_divided v e in let w = found.0 in
      let rows = rows_before_ok (take (j + 1) old) freed (less_products_in (drop 1 (row_at old j)) w (drop (j + 1) old))
      (sym (freed_is (take (j + 1) old) (drop 1 (row_at old j)) w (drop (j + 1) old))
      ∙ ap (λ (u : List ℚ). freed_onto (take (j + 1) old) (drop 1 (row_at old j)) (drop 1 u) (drop (j + 1) old)) (sym found.1) ∙ f) in
      let left = rows.0 in
      let front : length (take (j + 1) old) ≡ j + 1 = length-take-le (j + 1) old (omega arith) in
      let count : length left ≡ later = omega (arith, l, front, ap (λ (r : List (List ℚ)). length r) rows.2, length-append (take (j + 1) old) left) in
      ap (answer_at (j + 1)) (put ∙ ap (λ (r : List (List ℚ)). slice_set r j v) rows.2 ∙ put_back j old left v h ∙ ap (λ (u : List ℚ). take j old ++ u ∷ left) found.1)
      ∙ answer_of_row w left count
      ∙ sym (found.2 ∙ ap (λ (a : Result (List (List ℚ)) Refused). after_rows (take j old) (a >>= λ left. squares_from later left >>= λ c. after_square_in diagonal w c)) rows.1)

-- ---- carried back

found_set : (j : ℕ) (rows : List (List ℚ)) (z : List ℚ) (x : ℚ) → j < length z
    → answer_found j rows (slice_set z j x) ≡ after_rows (take j rows) (Ok (Negative (x ∷ drop (j + 1) z)))
unfolding answer_found
found_set j rows z x l = ap (λ (u : List ℚ). after_rows (take j rows) (Ok (Negative u))) (drop-set z j x l)

found_next : (j : ℕ) (rows : List (List ℚ)) (z : List ℚ) → j < length rows
    → answer_found (j + 1) rows z ≡ after_rows (take j rows) (after_row (row_at rows j) (Negative (drop (j + 1) z)))
unfolding answer_found
found_next j rows z h =
    ap (λ (front : List (List ℚ)). after_rows front (Ok (Negative (drop (j + 1) z)))) (next j rows h) ∙ after_last (take j rows) (row_at rows j) (Ok (Negative (drop (j + 1) z)))

-- the entry at a place with a square
pub carried_is : (row z : List ℚ) (t : Tried) → same_fields (entry row 0) zero_ℚ ≡ false → dot_of max_part (drop 1 row) z ≡ t
    → after_row row (Negative z) ≡ (answered t >>= λ q. Ok (Negative (neg_ℚ q ∷ z)))
carried_is [] z t h e = absurd (let bad : true ≡ false = sym (same_fields_self zero_ℚ zero_ℚ refl) ∙ h in cc)
carried_is (d ∷ v) z t h e = row_of_square d v (Negative z) h ∙ ap (λ (t : Tried). answered t >>= λ q. Ok (Negative (neg_ℚ q ∷ z))) e

pub carried_more : (i : ℕ) (rows : List (List ℚ)) (z : List ℚ) (x : ℚ) → 0 < i → i ≤ length rows → i ≤ length z
    → after_row (row_at rows (i - 1)) (Negative (drop i z)) ≡ Ok (Negative (x ∷ drop i z)) → answer_found (i - 1) rows (slice_set z (i - 1) x) ≡ answer_found i rows z
carried_more i rows z x some h l e =
    let same : i - 1 + 1 ≡ i = omega arith in
    one (i - 1) (omega arith) (omega arith) (rw same e) ∙ ap (λ (k : ℕ). answer_found k rows z) same
  where
    one : (j : ℕ) → j < length rows → j < length z → after_row (row_at rows j) (Negative (drop (j + 1) z)) ≡ Ok (Negative (x ∷ drop (j + 1) z))
        → answer_found j rows (slice_set z j x) ≡ answer_found (j + 1) rows z
    one j h l e = found_set j rows z x l ∙ sym (found_next j rows z h ∙ ap (after_rows (take j rows)) e)

pub carried_refused : (i : ℕ) (rows : List (List ℚ)) (z : List ℚ) (r : Refused) → 0 < i → i ≤ length rows
    → after_row (row_at rows (i - 1)) (Negative (drop i z)) ≡ Err r → answer_found i rows z ≡ Err r
carried_refused i rows z r some h e =
    let same : i - 1 + 1 ≡ i = omega arith in
    ap (λ (k : ℕ). answer_found k rows z) (sym same) ∙ found_next (i - 1) rows z (omega arith)
    ∙ ap (after_rows (take (i - 1) rows)) (rw same e) ∙ after_refused (take (i - 1) rows) r

pub carried_all : (rows : List (List ℚ)) (z : List ℚ) → answer_found 0 rows z ≡ Ok (Negative z)
unfolding answer_found
carried_all rows z = refl

-- ---- squares

squares_shifted : (j : ℕ) (rows : List (List ℚ)) → squares_of_rows (suc j) rows ≡ map with_zero (squares_of_rows j rows)
squares_shifted j [] = refl
squares_shifted j ([] ∷ rows) = squares_shifted (suc j) rows
squares_shifted j ((d ∷ v) ∷ rows) = by_test (same_fields d zero_ℚ) (squares_shifted (suc j) rows)
  where
    by_test : (b : Bool) → squares_of_rows (suc (suc j)) rows ≡ map with_zero (squares_of_rows (suc j) rows)
        → (if b then squares_of_rows (suc (suc j)) rows else record { weight = d; coef = replicate (suc j) zero_ℚ ++ one_ℚ ∷ v } ∷ squares_of_rows (suc (suc j)) rows)
        ≡ map with_zero (if b then squares_of_rows (suc j) rows else record { weight = d; coef = replicate j zero_ℚ ++ one_ℚ ∷ v } ∷ squares_of_rows (suc j) rows)
    by_test true h = h
    by_test false h = ap (λ (ss : List Square). record { weight = d; coef = zero_ℚ ∷ (replicate j zero_ℚ ++ one_ℚ ∷ v) } ∷ ss) h

squares_after : (rows : List (List ℚ)) → after_rows rows (Ok (Squares [])) ≡ Ok (Squares (squares_of_rows 0 rows))
squares_after [] = refl
squares_after ([] ∷ rows) =
    ap (λ (a : Result Curvature Refused). a >>= λ c. after_row [] c) (squares_after rows)
    ∙ ap (λ (ss : List Square). Ok (Squares ss)) (sym (squares_shifted 0 rows))
squares_after ((d ∷ v) ∷ rows) =
    ap (λ (a : Result Curvature Refused). a >>= λ c. after_row (d ∷ v) c) (squares_after rows) ∙ by_test (same_fields d zero_ℚ)
  where
    by_test : (b : Bool) → (if b then Ok (after_zero (Squares (squares_of_rows 0 rows))) else after_square_in d v (Squares (squares_of_rows 0 rows)))
        ≡ Ok (Squares (if b then squares_of_rows 1 rows else record { weight = d; coef = one_ℚ ∷ v } ∷ squares_of_rows 1 rows))
    by_test true = ap (λ (ss : List Square). Ok (Squares ss)) (sym (squares_shifted 0 rows))
    by_test false = ap (λ (ss : List Square). Ok (Squares (record { weight = d; coef = one_ℚ ∷ v } ∷ ss))) (sym (squares_shifted 0 rows))

pub squares_done : (rows : List (List ℚ)) → answer_at (length rows) rows ≡ Ok (Squares (squares_of_rows 0 rows))
unfolding answer_at squares_from
squares_done rows =
    let n : length rows - length rows ≡ 0 = omega arith in
    ap (λ (k : ℕ). after_rows (take (length rows) rows) (squares_from k (drop (length rows) rows))) n
    ∙ ap (λ (front : List (List ℚ)). after_rows front (Ok (Squares []))) (take_all (length rows) rows (omega arith))
    ∙ squares_after rows

pub at_start : (rows : List (List ℚ)) → answer_at 0 rows ≡ squares_from (length rows) rows
unfolding answer_at
at_start rows = ap (λ (k : ℕ). squares_from k rows) (let e : length rows - 0 ≡ length rows = omega arith in e)
