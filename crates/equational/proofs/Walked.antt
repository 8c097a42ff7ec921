-- The walk over the columns on the way back.
use Rattle.std.specs.Prelude.{◌≡◌, ℕ, ◌+◌, ◌≤◌, ◌<◌, List, [], ◌∷◌, ◌++◌, length, take, drop, get_or, slice_get, set, Some, None, Result, Ok, Err}
use Rattle.std.proofs.Common.{refl, sym, ap, ◌∙◌, arith}
use Rattle.std.proofs.lemmas.List.{append_assoc, append-nil, drop_all, drop-drop, drop_more, get_or-drop, take_all, take_more_set}
use Rattle.std.proofs.lemmas.Option.{get_or_from_slice_get}
use Rattle.rational.specs.Rational.{ℚ, zero_ℚ, neg_ℚ}
use Rattle.rational.specs.Sums.{entry}
use Rattle.frac_core.specs.declared.fractions.Op.TheVariants.{Add, Sub}
use Rattle.frac_core.specs.declared.fractions.Refused.{Refused}
use Rattle.frac_core.specs.declared.fractions.Tried.{Tried}
use Rattle.frac_core.specs.Calculated.{tried_in, ◌>>=◌, answered, operated}
use Rattle.frac_core.specs.Dot.{IsAnswer}
use Rattle.frac_core.specs.Parts.{max_part}
use Rattle.program_law.specs.declared.Row.{Row}
use Rattle.program_law.specs.Region.{Region}
use Rattle.equational_law.specs.Standing.{Above, Below, Free, standing, parts_at, parts}
use Rattle.equational_law.specs.Calculation.{point_entry_in, ray_entry_in, point_in, ray_in}
use Rattle.equational.specs.declared.back.Carried.{Carried}
use Rattle.equational.specs.declared.back.Carried.TheVariants.{Point, Direction}
use Rattle.equational.specs.Back.{column_in, columns_in, with_rest}

-- ---- a list from an item on

next_there : (bs : Region) (j : ℕ) (b : Row) → j < length bs → b ≡ get_or bs j b → drop j bs ≡ b ∷ drop (j + 1) bs
next_there bs j b within is = drop_more bs j b within ∙ ap (λ (x : Row). x ∷ drop (j + 1) bs) (sym is)

-- ---- a column

number_is : (r : Result ℚ Refused) (t : Tried) → IsAnswer (λ q. q) r t → r ≡ answered t
number_is (Ok q) t h = rw h refl
number_is (Err e) t h = rw h refl

entry_there : (z : List ℚ) (i k : ℕ) (x : ℚ) → slice_get z (i + k) ≡ Some x → entry (drop i z) k ≡ x
entry_there z i k x h = get_or-drop i z k zero_ℚ ∙ get_or_from_slice_get z (i + k) x zero_ℚ h

first_there : (z : List ℚ) (i : ℕ) (x : ℚ) → slice_get z i ≡ Some x → entry (drop i z) 0 ≡ x
first_there z i x h = entry_there z i 0 x (ap (λ k. slice_get z k) (omega arith) ∙ h)

pub difference_is : (z : List ℚ) (i : ℕ) (x y : ℚ) (r : Result ℚ Refused) → slice_get z i ≡ Some x → slice_get z (i + 1) ≡ Some y
    → IsAnswer (λ q. q) r (tried_in max_part Sub x y) → r ≡ operated max_part Sub (entry (drop i z) 0) (entry (drop i z) 1)
difference_is z i x y r g h a = number_is r (tried_in max_part Sub x y) a ∙ rw (first_there z i x g, entry_there z i 1 y h) refl

standing_above : (b : Row) (l : ℚ) → b.low ≡ Some l → standing b ≡ Above l
standing_above b l e = rw e refl

standing_below : (b : Row) (u : ℚ) → b.low ≡ None → b.high ≡ Some u → standing b ≡ Below u
standing_below b u e f = rw (e, f) refl

standing_free : (b : Row) → b.low ≡ None → b.high ≡ None → standing b ≡ Free
standing_free b e f = rw (e, f) refl

pub point_above : (b : Row) (z : List ℚ) (i : ℕ) (l x : ℚ) (r : Result ℚ Refused) → b.low ≡ Some l → slice_get z i ≡ Some x
    → IsAnswer (λ q. q) r (tried_in max_part Add l x) → r ≡ point_entry_in max_part (standing b) (drop i z)
unfolding point_entry_in
point_above b z i l x r e h a = number_is r (tried_in max_part Add l x) a ∙ rw (standing_above b l e, first_there z i x h) refl

pub point_below : (b : Row) (z : List ℚ) (i : ℕ) (u x : ℚ) (r : Result ℚ Refused) → b.low ≡ None → b.high ≡ Some u → slice_get z i ≡ Some x
    → IsAnswer (λ q. q) r (tried_in max_part Sub u x) → r ≡ point_entry_in max_part (standing b) (drop i z)
unfolding point_entry_in
point_below b z i u x r e f h a = number_is r (tried_in max_part Sub u x) a ∙ rw (standing_below b u e f, first_there z i x h) refl

pub point_free : (b : Row) (z : List ℚ) → b.low ≡ None → b.high ≡ None
    → operated max_part Sub (entry z 0) (entry z 1) ≡ point_entry_in max_part (standing b) z
unfolding point_entry_in
point_free b z e f = rw (standing_free b e f) refl

pub ray_above : (b : Row) (d : List ℚ) (i : ℕ) (l x : ℚ) → b.low ≡ Some l → slice_get d i ≡ Some x
    → Ok x ≡ ray_entry_in max_part (standing b) (drop i d)
unfolding ray_entry_in
ray_above b d i l x e h = rw (standing_above b l e, first_there d i x h) refl

pub ray_below : (b : Row) (d : List ℚ) (i : ℕ) (u x : ℚ) → b.low ≡ None → b.high ≡ Some u → slice_get d i ≡ Some x
    → Ok (neg_ℚ x) ≡ ray_entry_in max_part (standing b) (drop i d)
unfolding ray_entry_in
ray_below b d i u x e f h = rw (standing_below b u e f, first_there d i x h) refl

pub ray_free : (b : Row) (d : List ℚ) → b.low ≡ None → b.high ≡ None
    → operated max_part Sub (entry d 0) (entry d 1) ≡ ray_entry_in max_part (standing b) d
unfolding ray_entry_in
ray_free b d e f = rw (standing_free b e f) refl

-- ---- the columns in order

columns_then : (c : Carried) (b : Row) (bs : Region) (z : List ℚ)
    → columns_in c (b ∷ bs) z ≡ (column_in c (standing b) z >>= λ x. columns_in c bs (drop (parts_at (standing b)) z) >>= λ xs. Ok (x ∷ xs))
unfolding point_in ray_in
columns_then Point b bs z = refl
columns_then Direction b bs z = refl

columns_none : (c : Carried) (z : List ℚ) → columns_in c [] z ≡ Ok []
unfolding point_in ray_in
columns_none Point z = refl
columns_none Direction z = refl

pub nothing_yet : (rest : Result (List ℚ) Refused) → with_rest [] rest ≡ rest
nothing_yet (Ok ys) = refl
nothing_yet (Err r) = refl

with_one_more : (xs : List ℚ) (x : ℚ) (rest : Result (List ℚ) Refused) → with_rest (xs ++ x ∷ []) rest ≡ with_rest xs (rest >>= λ ys. Ok (x ∷ ys))
with_one_more xs x (Ok ys) = ap Ok (append_assoc xs (x ∷ []) ys)
with_one_more xs x (Err r) = refl

-- the columns from the one at j on begin with it
columns_next : (c : Carried) (bs : Region) (z : List ℚ) (j place : ℕ) (b : Row) → j < length bs → b ≡ get_or bs j b
    → columns_in c (drop j bs) (drop place z)
    ≡ (column_in c (standing b) (drop place z) >>= λ x. columns_in c (drop (j + 1) bs) (drop (place + parts_at (standing b)) z) >>= λ xs. Ok (x ∷ xs))
columns_next c bs z j place b within is =
    ap (λ (r : Region). columns_in c r (drop place z)) (next_there bs j b within is)
    ∙ columns_then c b (drop (j + 1) bs) (drop place z)
    ∙ ap (λ (u : List ℚ). column_in c (standing b) (drop place z) >>= λ x. columns_in c (drop (j + 1) bs) u >>= λ xs. Ok (x ∷ xs))
    (drop-drop (parts_at (standing b)) place z)

-- with the column at j the numbers so far and the rest give the same
pub column_more : (c : Carried) (bs : Region) (z xs : List ℚ) (j place : ℕ) (b : Row) (x : ℚ) → length xs ≡ length bs → j < length bs → b ≡ get_or bs j b
    → column_in c (standing b) (drop place z) ≡ Ok x
    → with_rest (take (j + 1) (set xs j x)) (columns_in c (drop (j + 1) bs) (drop (place + parts_at (standing b)) z))
    ≡ with_rest (take j xs) (columns_in c (drop j bs) (drop place z))
column_more c bs z xs j place b x same within is e =
    let rest = columns_in c (drop (j + 1) bs) (drop (place + parts_at (standing b)) z) in
    ap (λ (t : List ℚ). with_rest t rest) (take_more_set xs j x (omega (arith, same, within)))
    ∙ with_one_more (take j xs) x rest
    ∙ ap (λ (r : Result ℚ Refused). with_rest (take j xs) (r >>= λ x. rest >>= λ ys. Ok (x ∷ ys))) (sym e)
    ∙ ap (with_rest (take j xs)) (sym (columns_next c bs z j place b within is))

-- the refusal of the column at j is that of the whole
pub column_past : (c : Carried) (bs : Region) (z xs : List ℚ) (j place : ℕ) (b : Row) (r : Refused) → j < length bs → b ≡ get_or bs j b
    → column_in c (standing b) (drop place z) ≡ Err r → with_rest (take j xs) (columns_in c (drop j bs) (drop place z)) ≡ Err r
column_past c bs z xs j place b r within is e =
    let rest = columns_in c (drop (j + 1) bs) (drop (place + parts_at (standing b)) z) in
    ap (with_rest (take j xs)) (columns_next c bs z j place b within is)
    ∙ ap (λ (r : Result ℚ Refused). with_rest (take j xs) (r >>= λ x. rest >>= λ ys. Ok (x ∷ ys))) e

pub columns_end : (c : Carried) (bs : Region) (z xs : List ℚ) (j : ℕ) → length xs ≡ length bs → length bs ≤ j → with_rest (take j xs) (columns_in c (drop j bs) z) ≡ Ok xs
columns_end c bs z xs j same h =
    ap (λ (r : Region). with_rest (take j xs) (columns_in c r z)) (drop_all j bs h)
    ∙ ap (with_rest (take j xs)) (columns_none c z)
    ∙ ap Ok (append-nil (take j xs) ∙ take_all j xs (omega (arith, same, h)))

-- the form's columns that are left stand for the file's that are left
pub room_left : (bs : Region) (n j place : ℕ) (b : Row) → j < length bs → b ≡ get_or bs j b → place + parts (drop j bs) ≤ n
    → place + parts_at (standing b) + parts (drop (j + 1) bs) ≤ n
room_left bs n j place b within is k =
    let next : parts (drop j bs) ≡ parts_at (standing b) + parts (drop (j + 1) bs) = ap parts (next_there bs j b within is) in omega (arith, next, k)
