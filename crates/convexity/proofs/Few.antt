-- A reduction gives at most one square for each place.
use Rattle.std.specs.Prelude.{ℕ, zero, suc, List, [], ◌∷◌, length, Option, Some, None}
use Rattle.std.specs.declared.cmp.Ordering.{Ordering}
use Rattle.std.specs.declared.cmp.Ordering.TheVariants.{Less, Equal, Greater}
use Rattle.std.proofs.Common.{arith}
use Rattle.std.proofs.lemmas.List.{length-map}
use Rattle.rational.specs.Rational.{ℚ, zero_ℚ}
use Rattle.rational.specs.Order.{rational_cmp}
use Rattle.elimination_law.specs.Elimination.{divided}
use Rattle.convexity.specs.declared.Curvature.{Curvature}
use Rattle.convexity.specs.declared.Curvature.TheVariants.{Squares, Negative}
use Rattle.symmetric_half.specs.Half.{upper_half}
use Rattle.convexity.specs.Meaning.{AreFew}
use Rattle.convexity.specs.Reduction.{first_place, with_zero, less_products, after_zero, after_square, flat, by_sign, curvature_from, curvature_of}

few_after_zero : (n : ℕ) (c : Curvature) → AreFew n c → AreFew (suc n) (after_zero c)
few_after_zero n (Squares ss) h = let e = length-map ss with_zero in omega (arith, h, e)
few_after_zero n (Negative v) h = tt

few_after_square : (n : ℕ) (d : ℚ) (v : List ℚ) (c : Curvature) → AreFew n c → AreFew (suc n) (after_square d v c)
few_after_square n d v (Squares ss) h = let e = length-map ss with_zero in omega (arith, h, e)
few_after_square n d v (Negative z) h = tt

few_flat : (n : ℕ) (r : List ℚ) (rows : List (List ℚ)) (o : Option ℕ) (rest : List (List ℚ) → Curvature) → ((left : List (List ℚ)) → AreFew n (rest left)) → AreFew (suc n) (flat n r rows o rest)
few_flat n r rows None rest h = few_after_zero n (rest rows) (h rows)
few_flat n r rows (Some k) rest h = tt

few_by_sign : (o : Ordering) (n : ℕ) (d : ℚ) (r : List ℚ) (rows : List (List ℚ)) (rest : List (List ℚ) → Curvature) → ((left : List (List ℚ)) → AreFew n (rest left)) → AreFew (suc n) (by_sign o n d r rows rest)
few_by_sign Less n d r rows rest h = tt
few_by_sign Equal n d r rows rest h = few_flat n r rows (first_place r) rest h
few_by_sign Greater n d r rows rest h = few_after_square n d (divided d r) (rest (less_products r (divided d r) rows)) (h (less_products r (divided d r) rows))

few_from : (n : ℕ) (rows : List (List ℚ)) → AreFew n (curvature_from n rows)
unfolding curvature_from
few_from zero rows = omega arith
few_from (suc n) [] = omega arith
few_from (suc n) ([] ∷ rows) = omega arith
few_from (suc n) ((d ∷ r) ∷ rows) = few_by_sign (rational_cmp d zero_ℚ) n d r rows (λ left. curvature_from n left) (λ left. few_from n left)

-- of a matrix q
pub few_of : (q : List (List ℚ)) → AreFew (length q) (curvature_of q)
few_of q = few_from (length q) (upper_half q)
