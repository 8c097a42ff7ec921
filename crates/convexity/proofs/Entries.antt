-- The entries of rows divided and less a product.
use Rattle.std.specs.Prelude.{◌≡◌, ℕ, zero, suc, ◌<◌, List, [], ◌∷◌, length, Option, Some, None, Bool, true, false, option_map, if◌then◌else◌}
use Rattle.std.proofs.Common.{refl, sym, ◌∙◌, ap, arith}
use Rattle.algebra.proofs.Polynomial.{minus, ◌⊕◌, ◌⊝◌, ◌⊗◌, ◌≐◌, lit}
use Rattle.algebra.proofs.Solver.{ring}
use Rattle.algebra.proofs.Certificate.{prove, scaled, ◌⇐◌}
use Rattle.rational.specs.Rational.{ℚ, zero_ℚ, neg_ℚ, ◌+ℚ◌, ◌-ℚ◌, ◌*ℚ◌, reciprocal}
use Rattle.rational.specs.Order.{same_fields, same_fields_lem, differ_of_same_fields}
use Rattle.rational.specs.Vectors.{add_each, scale}
use Rattle.rational.proofs.Field.{rationals, mul-reciprocal}
use Rattle.rational.proofs.Order.{ordered_rationals}
use Rattle.rational.proofs.Vectors.{length-add_each, length-scale}
use Rattle.rational.specs.Sums.{entry}
use Rattle.elimination_law.specs.Elimination.{divided}
use Rattle.symmetric_half.specs.Half.{IsHalf, half_at}
use Rattle.convexity.specs.Reduction.{first_place, less_products}

-- ---- a row divided

pub at-divided : (d : ℚ) (r : List ℚ) (k : ℕ) → ¬ (d ≡ zero_ℚ) → entry r k ≡ d *ℚ entry (divided d r) k
at-divided d [] k ne = ring rationals (d ∷ []) (λ d. lit 0 ≐ d ⊗ lit 0) refl
at-divided d (x ∷ r) zero ne =
    prove ordered_rationals (d ∷ x ∷ reciprocal d ∷ []) (λ d x i. x ≐ d ⊗ (x ⊗ i) ⇐ scaled (minus x) (d ⊗ i) (lit 1)) refl (mul-reciprocal d ne)
at-divided d (x ∷ r) (suc k) ne = at-divided d r k ne

pub length-divided : (d : ℚ) (r : List ℚ) → length (divided d r) ≡ length r
length-divided d [] = refl
length-divided d (x ∷ r) = ap suc (length-divided d r)

-- ---- rows less a product

at-less : (row ps : List ℚ) (t : ℚ) (k : ℕ) → length row ≡ length ps → entry (add_each row (scale t ps)) k ≡ entry row k +ℚ t *ℚ entry ps k
at-less [] [] t k h = ring rationals (t ∷ []) (λ t. lit 0 ≐ lit 0 ⊕ t ⊗ lit 0) refl
at-less [] (p ∷ ps) t k h = absurd (omega arith)
at-less (x ∷ row) [] t k h = absurd (omega arith)
at-less (x ∷ row) (p ∷ ps) t zero h = refl
at-less (x ∷ row) (p ∷ ps) t (suc k) h = at-less row ps t k (omega arith)

pub is_half_less : (n : ℕ) (r v : List ℚ) (rows : List (List ℚ)) → length r ≡ n → length v ≡ n → IsHalf n rows → IsHalf n (less_products r v rows)
is_half_less zero [] v [] h k s = tt
is_half_less zero [] v (row ∷ rows) h k s = absurd s
is_half_less zero (f ∷ r) v rows h k s = absurd (omega arith)
is_half_less (suc n) [] v rows h k s = absurd (omega arith)
is_half_less (suc n) (f ∷ r) [] rows h k s = absurd (omega arith)
is_half_less (suc n) (f ∷ r) (y ∷ v) [] h k s = absurd s
is_half_less (suc n) (f ∷ r) (y ∷ v) (row ∷ rows) h k s =
    let e : length row ≡ length (scale (neg_ℚ f) (y ∷ v)) = s.0 ∙ sym k ∙ sym (length-scale (neg_ℚ f) (y ∷ v)) in
    (length-add_each row (scale (neg_ℚ f) (y ∷ v)) e ∙ s.0, is_half_less n r v rows (omega arith) (omega arith) s.1)

-- where r is d times v, the rows lose d v v^T
pub less_at : (n : ℕ) (d : ℚ) (r v : List ℚ) (rows : List (List ℚ)) (j k : ℕ) → length r ≡ n → length v ≡ n → IsHalf n rows
    → ((k : ℕ) → entry r k ≡ d *ℚ entry v k) → half_at (less_products r v rows) j k ≡ half_at rows j k -ℚ (d *ℚ entry v j) *ℚ entry v k
less_at zero d [] [] [] j k h l s e = ring rationals (d ∷ []) (λ d. lit 0 ≐ lit 0 ⊝ (d ⊗ lit 0) ⊗ lit 0) refl
less_at zero d [] (y ∷ v) rows j k h l s e = absurd (omega arith)
less_at zero d [] [] (row ∷ rows) j k h l s e = absurd s
less_at zero d (f ∷ r) v rows j k h l s e = absurd (omega arith)
less_at (suc n) d [] v rows j k h l s e = absurd (omega arith)
less_at (suc n) d (f ∷ r) [] rows j k h l s e = absurd (omega arith)
less_at (suc n) d (f ∷ r) (y ∷ v) [] j k h l s e = absurd s
less_at (suc n) d (f ∷ r) (y ∷ v) (row ∷ rows) zero k h l s e =
    at-less row (y ∷ v) (neg_ℚ f) k (s.0 ∙ sym l)
    ∙ ap (λ (t : ℚ). entry row k +ℚ neg_ℚ t *ℚ entry (y ∷ v) k) (e 0)
    ∙ ring rationals (entry row k ∷ d ∷ y ∷ entry (y ∷ v) k ∷ []) (λ a d y z. a ⊕ minus (d ⊗ y) ⊗ z ≐ a ⊝ (d ⊗ y) ⊗ z) refl
less_at (suc n) d (f ∷ r) (y ∷ v) (row ∷ rows) (suc j) zero h l s e =
    at-less row (y ∷ v) (neg_ℚ f) (suc j) (s.0 ∙ sym l)
    ∙ ap (λ (t : ℚ). entry row (suc j) +ℚ neg_ℚ t *ℚ entry v j) (e 0)
    ∙ ring rationals (entry row (suc j) ∷ d ∷ y ∷ entry v j ∷ []) (λ a d y z. a ⊕ minus (d ⊗ y) ⊗ z ≐ a ⊝ (d ⊗ z) ⊗ y) refl
less_at (suc n) d (f ∷ r) (y ∷ v) (row ∷ rows) (suc j) (suc k) h l s e = less_at n d r v rows j k (omega arith) (omega arith) s.1 (λ k. e (suc k))

-- ---- the first place with an entry

none_of : (b : Bool) (o : Option ℕ) → (if b then option_map suc o else Some 0) ≡ None → (b ≡ true) × (o ≡ None)
none_of true None e = (refl, refl)
none_of true (Some m) e = absurd cc
none_of false o e = absurd cc

pub no_place : (r : List ℚ) (k : ℕ) → first_place r ≡ None → entry r k ≡ zero_ℚ
no_place [] k h = refl
no_place (x ∷ r) zero h = same_fields_lem x zero_ℚ (none_of (same_fields x zero_ℚ) (first_place r) h).0
no_place (x ∷ r) (suc k) h = no_place r k (none_of (same_fields x zero_ℚ) (first_place r) h).1

first_of_all : (b : Bool) (o : Option ℕ) → (if b then option_map suc o else Some 0) ≡ Some 0 → b ≡ false
first_of_all true None e = absurd cc
first_of_all true (Some m) e = absurd (not_zero m cc)
  where
    not_zero : (m : ℕ) → suc m ≡ 0 → ⊥
    not_zero m e = absurd (omega arith)
first_of_all false o e = refl

later : (b : Bool) (o : Option ℕ) (k : ℕ) → (if b then option_map suc o else Some 0) ≡ Some (suc k) → o ≡ Some k
later true None k e = absurd cc
later true (Some m) k e = ap (λ (n : ℕ). Some n) (less m k cc)
  where
    less : (m k : ℕ) → suc m ≡ suc k → m ≡ k
    less m k e = omega arith
later false o k e = absurd (never k cc)
  where
    never : (k : ℕ) → 0 ≡ suc k → ⊥
    never k e = absurd (omega arith)

pub place_found : (r : List ℚ) (k : ℕ) → first_place r ≡ Some k → (k < length r) × (¬ (entry r k ≡ zero_ℚ))
place_found [] k h = absurd cc
place_found (x ∷ r) zero h = (omega arith, differ_of_same_fields x zero_ℚ (first_of_all (same_fields x zero_ℚ) (first_place r) h))
place_found (x ∷ r) (suc k) h =
    let found = place_found r k (later (same_fields x zero_ℚ) (first_place r) k h) in
    (omega (arith, found.0), found.1)
