-- An upper half in one list: its rows one after another, each an entry shorter than the one before.
use Rattle.std.specs.Prelude.{ℕ, zero, suc, ◌+◌, List, [], ◌∷◌, take, drop}
use Rattle.rational.specs.Rational.{ℚ}

-- n rows, cut off one after another
abbrev pub rows_of : ℕ → List ℚ → List (List ℚ)
rows_of zero xs = []
rows_of (suc n) xs = take (suc n) xs ∷ rows_of n (drop (suc n) xs)

-- how many entries they have together
abbrev pub count_of : ℕ → ℕ
count_of zero = 0
count_of (suc n) = suc n + count_of n

-- where the row at j begins
abbrev pub start_of : ℕ → ℕ → ℕ
start_of n zero = 0
start_of zero (suc j) = 0
start_of (suc n) (suc j) = suc n + start_of n j
