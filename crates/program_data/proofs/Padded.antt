-- Rows with room for more columns, and what is seen of them.
use Rattle.std.specs.Prelude.{◌≡◌, ℕ, zero, suc, ◌+◌, ◌<◌, List, [], ◌∷◌, ◌++◌, length, map, take, All, replicate}
use Rattle.std.proofs.Common.{refl, arith, get_or, set, sym, ap, ◌∙◌, inl, inr}
use Rattle.std.proofs.lemmas.Bool.{cases_lt}
use Rattle.std.proofs.lemmas.List.{map-set, length-set, length-replicate, get_or-set_other, get_or-replicate}
use Rattle.std.proofs.lemmas.List.Elements.{All-set}
use Rattle.std.proofs.Math.Seq.{take-suc, take-set-lt}
use Rattle.std.proofs.Math.ListN.{get_or-eq_default}
use Rattle.rational.specs.Rational.{ℚ, zero_ℚ}
use Rattle.rational.specs.Sums.{entry}
use Rattle.rational.specs.Vectors.{row_at}
use Rattle.program_law.specs.Changes.{zeros, widened, with_place}
use Rattle.program_law.specs.Program.{most_columns}
use Rattle.program_data.specs.Kept.{IsPadded}

pub padded_set : (c : ℕ) (row : List ℚ) (j : ℕ) (v : ℚ) → IsPadded c row → j < c → IsPadded c (set row j v)
padded_set c row j v p h =
    record {
      room = length-set row j v ∙ p.room;
      zeros = λ k le. get_or-set_other row j k v zero_ℚ (λ e. omega (arith, e, le, h)) ∙ p.zeros k le;
    }

pub padded_more : (c : ℕ) (row : List ℚ) → IsPadded c row → IsPadded (c + 1) row
padded_more c row p = record { room = p.room; zeros = λ k le. p.zeros k (omega (arith, le)) }

pub at_zeros : (n k : ℕ) → entry (zeros n) k ≡ zero_ℚ
at_zeros n k =
    elim (cases_lt k n) [
      | inl lt ↦ get_or-replicate n k zero_ℚ zero_ℚ lt
      | inr le ↦ get_or-eq_default (replicate n zero_ℚ) zero_ℚ (omega (arith, le, length-replicate n zero_ℚ))
    ]

pub padded_zeros : (c : ℕ) → IsPadded c (zeros most_columns)
padded_zeros c = record { room = length-replicate most_columns zero_ℚ; zeros = λ k le. at_zeros most_columns k }

pub take_more : (c : ℕ) (row : List ℚ) → IsPadded c row → c < most_columns → take (c + 1) row ≡ widened (take c row)
take_more c row p h =
    let one : c + 1 ≡ suc c = omega arith in
    let there : c < length row = omega (arith, h, p.room) in
    rw one (take-suc row c zero_ℚ there ∙ ap (λ (z : ℚ). take c row ++ z ∷ []) (p.zeros c (omega arith)))

-- ---- rows of rows

pub row_taken : (c : ℕ) (rows : List (List ℚ)) (i : ℕ) → i < length rows → row_at (map (take c) rows) i ≡ take c (row_at rows i)
row_taken c [] i h = absurd (omega (arith, h))
row_taken c (row ∷ rows) zero h = refl
row_taken c (row ∷ rows) (suc i) h = row_taken c rows i (omega (arith, h))

pub place_taken : (c : ℕ) (rows : List (List ℚ)) (i j : ℕ) (v : ℚ) → i < length rows → j < c → map (take c) (with_place rows i j v) ≡ with_place (map (take c) rows) i j v
place_taken c rows i j v h k =
    map-set (take c) rows i (set (row_at rows i) j v) ∙ ap (λ (r : List ℚ). set (map (take c) rows) i r) (take-set-lt c (row_at rows i) j v k ∙ ap (λ (r : List ℚ). set r j v) (sym (row_taken c rows i h)))

pub padded_place : (c : ℕ) (rows : List (List ℚ)) (i j : ℕ) (v : ℚ) → All (IsPadded c) rows → i < length rows → j < c → All (IsPadded c) (with_place rows i j v)
padded_place c rows i j v all h k = All-set (IsPadded c) rows i (set (row_at rows i) j v) (padded_set c (row_at rows i) j v (all i [] h) k) all

pub rows_more : (c : ℕ) (rows : List (List ℚ)) → All (IsPadded c) rows → c < most_columns → map (take (c + 1)) rows ≡ map widened (map (take c) rows)
rows_more c [] all h = refl
rows_more c (row ∷ rows) all h =
    ap (λ (r : List ℚ). r ∷ map (take (c + 1)) rows) (take_more c row (all 0 [] (omega arith)) h) ∙ ap (λ (l : List (List ℚ)). widened (take c row) ∷ l) (rows_more c rows (λ k d lt. all (suc k) d (omega (arith, lt))) h)

pub padded_mores : (c : ℕ) (rows : List (List ℚ)) → All (IsPadded c) rows → All (IsPadded (c + 1)) rows
padded_mores c rows all = λ k d h. padded_more c (get_or rows k d) (all k d h)
