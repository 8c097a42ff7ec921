-- Supports, and rows over two columns for each place of a support.
use Rattle.std.proofs.Common.{◌≡◌, ◌≢◌, refl, sym, ◌∙◌, ap, subst, ℕ, zero, suc, ◌+◌, ◌≤◌, Bool, true, false, List, [], ◌∷◌, length, map, if◌then◌else◌, arith}
use Rattle.std.specs.Prelude.{take, drop, All}
use Rattle.std.proofs.lemmas.List.{length-append, take-append-drop}
use Rattle.std.proofs.lemmas.List.Elements.{All-nil, All-cons, All-head, All-tail}
use Rattle.rational.specs.Rational.{ℚ, zero_ℚ, neg_ℚ, ◌+ℚ◌}
use Rattle.rational.specs.Order.{same_fields, same_fields_lem, differ_of_same_fields}
use Rattle.rational.specs.Sums.{entry}
use Rattle.rational.specs.Vectors.{dot, pick, put_at, rows_dot, combine, HasColumns}
use Rattle.rational.proofs.Vectors.{length-combine, dot-append, dot-add_right, dot_comm, transpose, same_by_dot}
use Rattle.rational.proofs.Supports.{length-pick, length-put_at, dot-pick}
use Rattle.face_descent_law.specs.Small.{support_from}
use Rattle.quad_solve_law.specs.Problems.{doubled, difference}
use Rattle.quad_solve_law.proofs.Lists.{dot-negated, length-negated, length-taken}

-- ---- supports

pub length-places : (k : ℕ) (z : List ℚ) → length (support_from k z) ≤ length z
length-places k [] = omega arith
length-places k (x ∷ z) = by (same_fields x zero_ℚ) (length-places (suc k) z)
  where
    by : (b : Bool) → length (support_from (suc k) z) ≤ length z → length (if b then support_from (suc k) z else k ∷ support_from (suc k) z) ≤ length (x ∷ z)
    by true h = omega arith
    by false h = omega arith

-- all of them are at least the place of the first entry
pub from_first : (k : ℕ) (z : List ℚ) → All (λ j. k ≤ j) (support_from k z)
from_first k [] = All-nil (λ j. k ≤ j)
from_first k (x ∷ z) = by (same_fields x zero_ℚ) (λ i d l. omega (arith, from_first (suc k) z i d l))
  where
    by : (b : Bool) → All (λ j. k ≤ j) (support_from (suc k) z) → All (λ j. k ≤ j) (if b then support_from (suc k) z else k ∷ support_from (suc k) z)
    by true h = h
    by false h = All-cons (λ j. k ≤ j) k (support_from (suc k) z) (omega arith) h

-- where an entry is 0, its place is none of them
pub off_places : (k : ℕ) (z : List ℚ) (i j : ℕ) → j ≡ k + i → entry z i ≡ zero_ℚ → All (λ m. m ≢ j) (support_from k z)
off_places k [] i j e h = All-nil (λ m. m ≢ j)
off_places k (x ∷ z) zero j e h = by (same_fields x zero_ℚ) refl (λ i d l. omega (arith, from_first (suc k) z i d l, e))
  where
    by : (b : Bool) → same_fields x zero_ℚ ≡ b → All (λ m. m ≢ j) (support_from (suc k) z) → All (λ m. m ≢ j) (if b then support_from (suc k) z else k ∷ support_from (suc k) z)
    by true t r = r
    by false t r = absurd (differ_of_same_fields x zero_ℚ t h)
off_places k (x ∷ z) (suc i) j e h = by (same_fields x zero_ℚ) (off_places (suc k) z i j (omega arith) h)
  where
    by : (b : Bool) → All (λ m. m ≢ j) (support_from (suc k) z) → All (λ m. m ≢ j) (if b then support_from (suc k) z else k ∷ support_from (suc k) z)
    by true r = r
    by false r = All-cons (λ m. m ≢ j) k (support_from (suc k) z) (omega arith) r

-- what holds of all entries at the places holds where an entry isn't 0
pub on_places : (P : ℚ → Type 0) (u : List ℚ) (k : ℕ) (z : List ℚ) (i j : ℕ) → j ≡ k + i → All P (pick (support_from k z) u) → entry z i ≢ zero_ℚ → P (entry u j)
on_places P u k [] i j e h n = absurd (n refl)
on_places P u k (x ∷ z) zero j e h n = by (same_fields x zero_ℚ) refl h
  where
    by : (b : Bool) → same_fields x zero_ℚ ≡ b → All P (pick (if b then support_from (suc k) z else k ∷ support_from (suc k) z) u) → P (entry u j)
    by true t r = absurd (n (same_fields_lem x zero_ℚ t))
    by false t r = let s : k ≡ j = omega (arith, e) in subst (λ (i : ℕ). P (entry u i)) s (All-head P (entry u k) (pick (support_from (suc k) z) u) r)
on_places P u k (x ∷ z) (suc i) j e h n = by (same_fields x zero_ℚ) (λ r. on_places P u (suc k) z i j (omega arith) r n) h
  where
    by : (b : Bool) → (All P (pick (support_from (suc k) z) u) → P (entry u j)) → All P (pick (if b then support_from (suc k) z else k ∷ support_from (suc k) z) u) → P (entry u j)
    by true f r = f r
    by false f r = f (All-tail P (entry u k) (pick (support_from (suc k) z) u) r)

-- ---- doubled rows

pub length-doubled : (s : List ℕ) (row : List ℚ) → length (doubled s row) ≡ length row + length s
length-doubled s row = length-append row (map neg_ℚ (pick s row)) ∙ ap (λ k. length row + k) (length-negated (pick s row) ∙ length-pick s row)

pub wide_doubled : (n : ℕ) (s : List ℕ) (R : List (List ℚ)) → HasColumns n R → HasColumns (n + length s) (map (doubled s) R)
wide_doubled n s [] h = All-nil (λ r. length r ≡ n + length s)
wide_doubled n s (r ∷ R) h =
    All-cons (λ r. length r ≡ n + length s) (doubled s r) (map (doubled s) R)
    (length-doubled s r ∙ ap (λ k. k + length s) (All-head (λ r. length r ≡ n) r R h)) (wide_doubled n s R (All-tail (λ r. length r ≡ n) r R h))

pub length-difference : (n : ℕ) (s : List ℕ) (x : List ℚ) → n ≤ length x → length (difference n s x) ≡ n
length-difference n s x l =
    let a = length-taken n x l in
    Rattle.rational.proofs.Vectors.length-add_each (take n x) (map neg_ℚ (put_at n s (drop n x))) (a ∙ sym (length-negated (put_at n s (drop n x)) ∙ length-put_at n s (drop n x))) ∙ a

-- a doubled row gives of p and n what the row gives of p - n
pub dot-doubled : (n : ℕ) (s : List ℕ) (row x : List ℚ) → length row ≡ n → n ≤ length x → dot (doubled s row) x ≡ dot row (difference n s x)
dot-doubled n s row x e l =
    let p = take n x in let v = drop n x in let w = put_at n s v in
    let a = length-taken n x l in
    ap (dot (doubled s row)) (sym (take-append-drop n x))
    ∙ dot-append row (map neg_ℚ (pick s row)) p v (e ∙ sym a)
    ∙ ap (λ t. dot row p +ℚ t) (dot-negated (pick s row) v ∙ ap neg_ℚ (dot-pick n s row v e)
    ∙ ap neg_ℚ (dot_comm row w) ∙ sym (dot-negated w row) ∙ dot_comm (map neg_ℚ w) row)
    ∙ sym (dot-add_right row p (map neg_ℚ w) (a ∙ sym (length-negated w ∙ length-put_at n s v)))

pub rows_dot-doubled : (n : ℕ) (s : List ℕ) (R : List (List ℚ)) (x : List ℚ) → HasColumns n R → n ≤ length x → rows_dot (map (doubled s) R) x ≡ rows_dot R (difference n s x)
rows_dot-doubled n s [] x h l = refl
rows_dot-doubled n s (r ∷ R) x h l =
    ap (λ t. t ∷ rows_dot (map (doubled s) R) x) (dot-doubled n s r x (All-head (λ r. length r ≡ n) r R h) l)
    ∙ ap (λ u. dot r (difference n s x) ∷ u) (rows_dot-doubled n s R x (All-tail (λ r. length r ≡ n) r R h) l)

-- doubled rows sum to the doubled sum
pub combine-doubled : (n : ℕ) (s : List ℕ) (w : List ℚ) (R : List (List ℚ)) → HasColumns n R → combine (n + length s) w (map (doubled s) R) ≡ doubled s (combine n w R)
combine-doubled n s w R h =
    let wide = wide_doubled n s R h in
    let a = length-combine (n + length s) w (map (doubled s) R) wide in
    let b = length-combine n w R h in
    same_by_dot _ _ (a ∙ sym (length-doubled s (combine n w R) ∙ ap (λ k. k + length s) b)) (λ x e.
    let l : n ≤ length x = omega (arith, e, a) in
    dot_comm x (combine (n + length s) w (map (doubled s) R)) ∙ sym (transpose (n + length s) w (map (doubled s) R) x wide)
    ∙ ap (dot w) (rows_dot-doubled n s R x h l) ∙ transpose n w R (difference n s x) h
    ∙ sym (dot-doubled n s (combine n w R) x b l) ∙ dot_comm (doubled s (combine n w R)) x)
