-- The squares of a symmetric matrix, or a vector with a negative form, over exact numbers without limit.
--
-- R starts as the matrix. For each place j in order, with d the entry of R at j and j:
-- - d below 0: the vector with 1 at j has a negative form.
-- - d = 0: where the row of j is 0 after j, go on. Else k is the first place after j where it is not 0, and the vector with 1 at j and t
--   at k has a negative form.
-- - d above 0: the square of weight d, with 1 at j and after it the entries of the row divided by d, is taken from R.
-- A vector that is found is carried back over the places before it, the last first: at a place with a square it gets the entry that
-- makes the square 0 at it, and at the others 0.
--
-- R is kept as its upper half without the places that are done: d and r are the row of j, and then come the rows after it.
use Rattle.std.specs.Prelude.{ℕ, zero, suc, List, [], ◌∷◌, map, length, Option, Some, None, option_map, if◌then◌else◌, slice_set}
use Rattle.std.specs.declared.cmp.Ordering.{Ordering}
use Rattle.std.specs.declared.cmp.Ordering.TheVariants.{Less, Equal, Greater}
use Rattle.rational.specs.Rational.{ℚ, zero_ℚ, one_ℚ, neg_ℚ, ◌/ℚ◌}
use Rattle.rational.specs.Order.{rational_cmp, same_fields}
use Rattle.rational.specs.Vectors.{add_each, scale, zeros, row_at, dot}
use Rattle.program_law.specs.declared.Square.{Square}
use Rattle.rational.specs.Tests.{is_positive}
use Rattle.rational.specs.Sums.{entry}
use Rattle.elimination_law.specs.Elimination.{divided}
use Rattle.convexity.specs.declared.Curvature.{Curvature}
use Rattle.convexity.specs.declared.Curvature.TheVariants.{Squares, Negative}
use Rattle.symmetric_half.specs.Half.{upper_half}

-- the first place where a row is not 0
abbrev pub first_place : List ℚ → Option ℕ
first_place [] = None
first_place (x ∷ r) = if same_fields x zero_ℚ then option_map suc (first_place r) else Some 0

-- t, where R has b at j and k, and c at k and k: the form at 1 and t is 2 b t + c t^2
abbrev pub tilt : ℚ → ℚ → ℚ
tilt b c = if is_positive c then neg_ℚ (b /ℚ c) else neg_ℚ (one_ℚ /ℚ b)

-- 1, and n entries after it, of which the one at k is t and the others are 0
abbrev pub tilted : ℕ → ℕ → ℚ → List ℚ
tilted n k t = one_ℚ ∷ slice_set (zeros n) k t

-- the rows less a product: each row less its entry f of r times v, from its own place on
abbrev pub less_products : List ℚ → List ℚ → List (List ℚ) → List (List ℚ)
less_products [] v rows = []
less_products (f ∷ r) [] rows = []
less_products (f ∷ r) (y ∷ v) [] = []
less_products (f ∷ r) (y ∷ v) (row ∷ rows) = add_each row (scale (neg_ℚ f) (y ∷ v)) ∷ less_products r v rows

-- a square with a 0 before its entries
abbrev pub with_zero : Square → Square
with_zero s = record { weight = s.weight; coef = zero_ℚ ∷ s.coef }

-- an answer carried back over a place without a square
abbrev pub after_zero : Curvature → Curvature
after_zero (Squares ss) = Squares (map with_zero ss)
after_zero (Negative z) = Negative (zero_ℚ ∷ z)

-- an answer carried back over a place with the square of weight d and the entries 1 and v
abbrev pub after_square : ℚ → List ℚ → Curvature → Curvature
after_square d v (Squares ss) = Squares (record { weight = d; coef = one_ℚ ∷ v } ∷ map with_zero ss)
after_square d v (Negative z) = Negative (neg_ℚ (dot v z) ∷ z)

-- where d is 0, given the first place of r with an entry
abbrev pub flat : ℕ → List ℚ → List (List ℚ) → Option ℕ → (List (List ℚ) → Curvature) → Curvature
flat n r rows None rest = after_zero (rest rows)
flat n r rows (Some k) rest = Negative (tilted n k (tilt (entry r k) (entry (row_at rows k) 0)))

-- by how d compares with 0, where n places come after this one and `rest` is the answer of the rows that are left
abbrev pub by_sign : Ordering → ℕ → ℚ → List ℚ → List (List ℚ) → (List (List ℚ) → Curvature) → Curvature
by_sign Less n d r rows rest = Negative (one_ℚ ∷ zeros n)
by_sign Equal n d r rows rest = flat n r rows (first_place r) rest
by_sign Greater n d r rows rest = after_square d (divided d r) (rest (less_products r (divided d r) rows))

-- the answer of the rows of n places
unfoldable pub curvature_from : ℕ → List (List ℚ) → Curvature
curvature_from zero rows = Squares []
curvature_from (suc n) [] = Squares []
curvature_from (suc n) ([] ∷ rows) = Squares []
curvature_from (suc n) ((d ∷ r) ∷ rows) = by_sign (rational_cmp d zero_ℚ) n d r rows (λ left. curvature_from n left)

-- the answer of a matrix
abbrev pub curvature_of : List (List ℚ) → Curvature
curvature_of q = curvature_from (length q) (upper_half q)
