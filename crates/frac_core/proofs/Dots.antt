-- A product of two vectors, place after place.
use Rattle.std.proofs.Common.{◌≡◌, refl, sym, subst, ap, ◌∙◌, ℕ, ◌+◌, ◌<◌, ◌≤◌, Some, List, length, drop, map, get_or, slice_get}
use Rattle.std.specs.Prelude.{Result}
use Rattle.std.specs.Option.{option_map}
use Rattle.std.proofs.lemmas.List.{map-id}
use Rattle.std.proofs.lemmas.Option.{slice_get-map, slice_get_read}
use Rattle.rational.specs.Rational.{ℚ}
use Rattle.frac_core.specs.declared.fractions.Refused.{Refused}
use Rattle.frac_core.specs.declared.fractions.Tried.TheVariants.{Is, Past}
use Rattle.frac_core.specs.Calculated.{and_then}
use Rattle.frac_core.specs.Dot.{dot_step, dot_from, dot_of, dot_ops, IsAnswer}
use Rattle.frac_core.specs.Operations.{IsPastOf}
use Rattle.frac_core.specs.Parts.{max_part}
use Rattle.frac_core.proofs.Operations.{dot_tries, tries_past, first_past}
use Rattle.frac_core.proofs.Steps.{dot_more, dot_end}

-- the number of an entry that is read
pub number_read : {F : Type 0} (v : F → ℚ) (xs : List F) (i : ℕ) (x : F) → i < length xs → x ≡ get_or xs i x → slice_get (map v xs) i ≡ Some (v x)
number_read v xs i x h e = slice_get-map v xs i ∙ ap (option_map v) (slice_get_read xs (length xs) i x refl h e)

-- s is the sum of the places before the one at i
module _ (top : ℕ) (xs ys : List ℚ) (i : ℕ) (s : ℚ) (goes : dot_from top s (drop i xs) (drop i ys) ≡ dot_of top xs ys) where
  pub dot_goes : (x y t : ℚ) → slice_get xs i ≡ Some x → slice_get ys i ≡ Some y → dot_step top s x y ≡ Is t →
      dot_from top t (drop (i + 1) xs) (drop (i + 1) ys) ≡ dot_of top xs ys
  dot_goes x y t h k e =
      ap (λ r. and_then r (λ r. dot_from top r (drop (i + 1) xs) (drop (i + 1) ys))) (sym e) ∙ sym (dot_more top s xs ys i x y h k) ∙ goes

  pub dot_stops : (x y : ℚ) (r : Refused) → slice_get xs i ≡ Some x → slice_get ys i ≡ Some y → dot_step top s x y ≡ Past r → dot_of top xs ys ≡ Past r
  dot_stops x y r h k e =
      sym goes ∙ dot_more top s xs ys i x y h k ∙ ap (λ r. and_then r (λ r. dot_from top r (drop (i + 1) xs) (drop (i + 1) ys))) e

  pub dot_done : length xs ≤ i → dot_of top xs ys ≡ Is s
  dot_done h = sym goes ∙ dot_end top s xs ys i h

-- the refusal of a product is one of its operations
pub dot_past : (xs ys : List ℚ) (r : Refused) → dot_of max_part xs ys ≡ Past r → IsPastOf (dot_ops xs ys) r
dot_past xs ys r e = first_past (dot_ops xs ys) r (tries_past max_part (dot_ops xs ys) (dot_of max_part xs ys) r e (dot_tries max_part xs ys))

-- of fractions, which are their own numbers
pub fractions_dot : (answer : Result ℚ Refused) (xs ys : List ℚ) → IsAnswer (λ q. q) answer (dot_of max_part (map (λ q. q) xs) (map (λ q. q) ys)) → IsAnswer (λ q. q) answer (dot_of max_part xs ys)
fractions_dot answer xs ys h =
    subst (λ l. IsAnswer (λ q. q) answer (dot_of max_part l ys)) (map-id xs) (subst (λ l. IsAnswer (λ q. q) answer (dot_of max_part (map (λ q. q) xs) l)) (map-id ys) h)
