-- The lexicographic order of rows, each divided by a number above 0, and the least row in it.
use Rattle.std.specs.Prelude.{ℕ, ◌<◌, List, [], ◌∷◌, Option, Some, None}
use Rattle.std.specs.declared.cmp.Ordering.{Ordering}
use Rattle.std.specs.declared.cmp.Ordering.TheVariants.{Equal}
use Rattle.std.specs.Ordering.{ordering_then}
use Rattle.rational.specs.Rational.{ℚ, zero_ℚ, ◌/ℚ◌}
use Rattle.rational.specs.Order.{◌<ℚ◌, rational_cmp}
use Rattle.rational.specs.Sums.{entry}
use Rattle.linear_basis_law.specs.Lexicographic.{IsLexBelow}
use Rattle.linear_basis_law.specs.Exchange.{quotient_row}

-- the order of two rows divided by s and by t: the first entries that differ decide
abbrev pub compare_quotients : ℚ → ℚ → List ℚ → List ℚ → Ordering
compare_quotients s t [] v = Equal
compare_quotients s t (a ∷ u) [] = Equal
compare_quotients s t (a ∷ u) (b ∷ v) = ordering_then (rational_cmp (a /ℚ s) (b /ℚ t)) (compare_quotients s t u v)

-- Of the first n places with an entry of t above 0 none has a divided row below that of this one; and it is one of them. Or there is none.
abbrev pub IsLeast : List ℚ → List (List ℚ) → ℕ → Option ℕ → Type 0
IsLeast t rows n None = (k : ℕ) → k < n → ¬ (zero_ℚ <ℚ entry t k)
IsLeast t rows n (Some l) =
    (l < n) × (zero_ℚ <ℚ entry t l)
    × ((k : ℕ) → k < n → zero_ℚ <ℚ entry t k → ¬ (IsLexBelow (quotient_row t rows k) (quotient_row t rows l)))
