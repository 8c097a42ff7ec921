-- The reduction as a calculation: it ends with the answer, or with the first operation that is refused.
use Rattle.std.specs.Prelude.{ℕ, zero, suc, List, [], ◌∷◌, length, Option, Some, None, Result, Ok, if◌then◌else◌}
use Rattle.std.specs.declared.cmp.Ordering.{Ordering}
use Rattle.std.specs.declared.cmp.Ordering.TheVariants.{Less, Equal, Greater}
use Rattle.rational.specs.Rational.{ℚ, zero_ℚ, one_ℚ, neg_ℚ}
use Rattle.rational.specs.Order.{rational_cmp, same_fields}
use Rattle.rational.specs.Vectors.{zeros, row_at}
use Rattle.frac_core.specs.Parts.{max_part}
use Rattle.frac_core.specs.Dot.{dot_of}
use Rattle.frac_core.specs.Row.{Row, Entries, row_less}
use Rattle.frac_core.specs.declared.fractions.Op.TheVariants.{Div}
use Rattle.frac_core.specs.declared.fractions.Refused.{Refused}
use Rattle.rational.specs.Tests.{is_positive}
use Rattle.rational.specs.Sums.{entry}
use Rattle.elimination_law.specs.Calculation.{divided_in}
use Rattle.convexity.specs.declared.Curvature.{Curvature}
use Rattle.convexity.specs.declared.Curvature.TheVariants.{Squares, Negative}
use Rattle.frac_core.specs.Calculated.{◌>>=◌, answered, operated}
use Rattle.symmetric_half.specs.Chain.{row_answered}
use Rattle.symmetric_half.specs.Half.{upper_half}
use Rattle.convexity.specs.Reduction.{first_place, tilted, after_zero, after_square}

-- the quotient, with its sign turned
abbrev pub tilt_in : ℚ → ℚ → Result ℚ Refused
tilt_in b c = if is_positive c then (operated max_part Div b c >>= λ q. Ok (neg_ℚ q)) else (operated max_part Div one_ℚ b >>= λ q. Ok (neg_ℚ q))

-- a row less f times v; nothing where f is 0
unfoldable pub less_product : ℚ → List ℚ → List ℚ → Row
less_product f v row = if same_fields f zero_ℚ then Entries row else row_less max_part f row v

-- the rows one after another
abbrev pub less_products_in : List ℚ → List ℚ → List (List ℚ) → Result (List (List ℚ)) Refused
less_products_in [] v rows = Ok []
less_products_in (f ∷ r) [] rows = Ok []
less_products_in (f ∷ r) (y ∷ v) [] = Ok []
less_products_in (f ∷ r) (y ∷ v) (row ∷ rows) =
    row_answered (less_product f (y ∷ v) row) >>= λ first. less_products_in r v rows >>= λ others. Ok (first ∷ others)

-- an answer carried back over a place with a square: a vector takes the product, with its sign turned
abbrev pub after_square_in : ℚ → List ℚ → Curvature → Result Curvature Refused
after_square_in d v (Squares ss) = Ok (after_square d v (Squares ss))
after_square_in d v (Negative z) = answered (dot_of max_part v z) >>= λ q. Ok (Negative (neg_ℚ q ∷ z))

abbrev pub flat_in : ℕ → List ℚ → List (List ℚ) → Option ℕ → (List (List ℚ) → Result Curvature Refused) → Result Curvature Refused
flat_in n r rows None rest = rest rows >>= λ c. Ok (after_zero c)
flat_in n r rows (Some k) rest = tilt_in (entry r k) (entry (row_at rows k) 0) >>= λ t. Ok (Negative (tilted n k t))

abbrev pub by_sign_in : Ordering → ℕ → ℚ → List ℚ → List (List ℚ) → (List (List ℚ) → Result Curvature Refused) → Result Curvature Refused
by_sign_in Less n d r rows rest = Ok (Negative (one_ℚ ∷ zeros n))
by_sign_in Equal n d r rows rest = flat_in n r rows (first_place r) rest
by_sign_in Greater n d r rows rest =
    row_answered (divided_in max_part d r) >>= λ v. less_products_in r v rows >>= λ left. rest left >>= λ c. after_square_in d v c

-- the answer of the rows of n places
unfoldable pub squares_from : ℕ → List (List ℚ) → Result Curvature Refused
squares_from zero rows = Ok (Squares [])
squares_from (suc n) [] = Ok (Squares [])
squares_from (suc n) ([] ∷ rows) = Ok (Squares [])
squares_from (suc n) ((d ∷ r) ∷ rows) = by_sign_in (rational_cmp d zero_ℚ) n d r rows (λ left. squares_from n left)

-- the answer of a matrix
abbrev pub squares_of : List (List ℚ) → Result Curvature Refused
squares_of q = squares_from (length q) (upper_half q)
