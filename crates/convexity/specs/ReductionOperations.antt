-- The operations of the reduction in order, over exact values. Where d is above 0: each entry of the row that is not 0 divided by d;
-- then for each later row whose entry f of the row is not 0, and each place where v is not 0, f times v, and the entry less that
-- product; then the operations of the rows that are left; and where they have a vector, those of its product with v.
use Rattle.std.specs.Prelude.{ℕ, zero, suc, List, [], ◌∷◌, ◌++◌, length, Option, Some, None, if◌then◌else◌}
use Rattle.std.specs.declared.cmp.Ordering.{Ordering}
use Rattle.std.specs.declared.cmp.Ordering.TheVariants.{Less, Equal, Greater}
use Rattle.rational.specs.Rational.{ℚ, zero_ℚ, one_ℚ}
use Rattle.rational.specs.Order.{rational_cmp, same_fields}
use Rattle.frac_core.specs.Dot.{dot_ops}
use Rattle.frac_core.specs.Operations.{operation}
use Rattle.frac_core.specs.declared.fractions.Op.TheVariants.{Div}
use Rattle.frac_core.specs.declared.fractions.Refused.{Refused}
use Rattle.rational.specs.Tests.{is_positive}
use Rattle.rational.specs.Sums.{entry}
use Rattle.rational.specs.Vectors.{row_at}
use Rattle.elimination_law.specs.Elimination.{divided}
use Rattle.elimination_law.specs.Operations.{division_ops, less_ops}
use Rattle.convexity.specs.declared.Curvature.{Curvature}
use Rattle.convexity.specs.declared.Curvature.TheVariants.{Squares, Negative}
use Rattle.symmetric_half.specs.Half.{upper_half}
use Rattle.convexity.specs.Reduction.{first_place, less_products, curvature_from}

abbrev pub tilt_ops : ℚ → ℚ → List Refused
tilt_ops b c = if is_positive c then operation Div b c ∷ [] else operation Div one_ℚ b ∷ []

-- a row less f times v
abbrev pub less_product_ops : ℚ → List ℚ → List ℚ → List Refused
less_product_ops f v row = if same_fields f zero_ℚ then [] else less_ops f row v

abbrev pub less_products_ops : List ℚ → List ℚ → List (List ℚ) → List Refused
less_products_ops [] v rows = []
less_products_ops (f ∷ r) [] rows = []
less_products_ops (f ∷ r) (y ∷ v) [] = []
less_products_ops (f ∷ r) (y ∷ v) (row ∷ rows) = less_product_ops f (y ∷ v) row ++ less_products_ops r v rows

-- an answer carried back over a place with a square
abbrev pub after_square_ops : List ℚ → Curvature → List Refused
after_square_ops v (Squares ss) = []
after_square_ops v (Negative z) = dot_ops v z

abbrev pub flat_ops : List ℚ → List (List ℚ) → Option ℕ → (List (List ℚ) → List Refused) → List Refused
flat_ops r rows None rest = rest rows
flat_ops r rows (Some k) rest = tilt_ops (entry r k) (entry (row_at rows k) 0)

abbrev pub by_sign_ops : Ordering → ℕ → ℚ → List ℚ → List (List ℚ) → (List (List ℚ) → List Refused) → List Refused
by_sign_ops Less n d r rows rest = []
by_sign_ops Equal n d r rows rest = flat_ops r rows (first_place r) rest
by_sign_ops Greater n d r rows rest =
    let v = divided d r in let left = less_products r v rows in
    division_ops d r ++ (less_products_ops r v rows ++ (rest left ++ after_square_ops v (curvature_from n left)))

-- the operations of the rows of n places
unfoldable pub squares_ops_from : ℕ → List (List ℚ) → List Refused
squares_ops_from zero rows = []
squares_ops_from (suc n) [] = []
squares_ops_from (suc n) ([] ∷ rows) = []
squares_ops_from (suc n) ((d ∷ r) ∷ rows) = by_sign_ops (rational_cmp d zero_ℚ) n d r rows (λ left. squares_ops_from n left)

-- the operations of a matrix
abbrev pub squares_ops : List (List ℚ) → List Refused
squares_ops q = squares_ops_from (length q) (upper_half q)
