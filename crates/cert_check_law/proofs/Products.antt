-- Products, forms and values.
use Rattle.std.specs.Prelude.{◌≡◌, pos, List, [], ◌∷◌, ◌++◌, Bool, true, false, ◌||◌, ◌⊎◌, Ok, if◌then◌else◌}
use Rattle.std.proofs.Common.{sym, subst, ◌∙◌, ap, refl, cond, inl, inr}
use Rattle.rational.specs.Divisors.{gcd_of}
use Rattle.rational.specs.Rational.{ℚ, zero_ℚ, whole, ratio, reciprocal, same_ℚ, ◌+ℚ◌, ◌*ℚ◌}
use Rattle.rational.specs.Order.{same_fields}
use Rattle.rational.proofs.Field.{*ℚ_comm}
use Rattle.rational.specs.Tests.{is_zero}
use Rattle.program_law.proofs.Ring.{ring_by, x0}
use Rattle.algebra.proofs.Polynomial.{◌⊕◌, ◌⊗◌, num}
use Rattle.program_law.proofs.Numbers.{zero_is}
use Rattle.frac_core.specs.declared.fractions.Op.TheVariants.{Add, Mul, Div}
use Rattle.frac_core.specs.Operations.{operation}
use Rattle.frac_core.specs.Dot.{place_ops, dot_ops_from, dot_ops}
use Rattle.rational.specs.Vectors.{dot, rows_dot, form}
use Rattle.program_law.specs.Program.{Program}
use Rattle.program_law.specs.Value.{half}
use Rattle.program_law.specs.Columns.{value}
use Rattle.cert_check_law.specs.Chain.{◌>>=◌, op}
use Rattle.cert_check_law.specs.Dot.{dot_of}
use Rattle.cert_check_law.specs.Value.{row_product, row_products, form_of, half_form, two, value_of}
use Rattle.cert_check_law.specs.ValueList.{row_products_ops, form_of_ops, half_form_ops, value_ops}
use Rattle.cert_check_law.proofs.Settled.{Settles}
use Rattle.cert_check_law.proofs.Listed.{Works, done, and_then, turned, of_value, operated, settled}
use Rattle.cert_check_law.proofs.Dots.{same_test, dot_listed}

pub either : (a b : Bool) → (a || b) ≡ true → (a ≡ true) ⊎ (b ≡ true)
either true b e = inl refl
either false b e = inr e

pub nothing_left : (x y : ℚ) → is_zero x ≡ true → x *ℚ y ≡ zero_ℚ
nothing_left x y e = ap (λ z. z *ℚ y) (zero_is x e) ∙ ring_by (y ∷ []) (num (pos 0) ⊗ x0) (num (pos 0)) refl

pub nothing_right : (x y : ℚ) → is_zero y ≡ true → x *ℚ y ≡ zero_ℚ
nothing_right x y e = *ℚ_comm x y ∙ nothing_left y x e

pub plus_nothing : (sum z : ℚ) → z ≡ zero_ℚ → sum ≡ sum +ℚ z
plus_nothing sum z e = ring_by (sum ∷ []) x0 (x0 ⊕ num (pos 0)) refl ∙ ap (λ t. sum +ℚ t) (sym e)

pub dot_is : (xs ys : List ℚ) → Settles (dot_of xs ys) (dot xs ys) (Unit {0})
dot_is xs ys = settled {C = Unit {0}} (dot_of xs ys) tt (dot_listed xs ys)

-- ---- the form
abbrev entry : List ℚ → ℚ → List ℚ → ℚ
entry row xj x = if is_zero xj then zero_ℚ else dot row x

abbrev entries : List (List ℚ) → List ℚ → List ℚ → List ℚ
entries [] xs x = []
entries (row ∷ rows) [] x = []
entries (row ∷ rows) (xj ∷ xs) x = entry row xj x ∷ entries rows xs x

entry_listed : {C : Type 0} (row : List ℚ) (xj : ℚ) (x : List ℚ) → Works C (row_product row xj x) (if is_zero xj then [] else dot_ops row x) (entry row xj x)
unfolding row_product
entry_listed {C = C} row xj x = by (is_zero xj)
  where
    by : (b : Bool) → Works C (cond b (Ok zero_ℚ) (dot_of row x)) (cond b [] (dot_ops row x)) (cond b zero_ℚ (dot row x))
    by true = done zero_ℚ tt
    by false = dot_listed row x

entries_listed : {C : Type 0} (rows : List (List ℚ)) (xs x : List ℚ) → Works C (row_products rows xs x) (row_products_ops rows xs x) (entries rows xs x)
entries_listed [] xs x = done [] tt
entries_listed (row ∷ rows) [] x = done [] tt
entries_listed (row ∷ rows) (xj ∷ xs) x =
    and_then (if is_zero xj then [] else dot_ops row x) (row_products_ops rows xs x) (row_product row xj x) (λ t. row_products rows xs x >>= λ ts. Ok (t ∷ ts)) (entry_listed row xj x)
    (turned (row_products rows xs x) (λ ts. entry row xj x ∷ ts) (entries_listed rows xs x))

-- where an entry is 0 it doesn't matter what stands there
same_place : (sum xj t : ℚ) → place_ops sum xj (if is_zero xj then zero_ℚ else t) ≡ place_ops sum xj t
unfolding place_ops
same_place sum xj t = ap (λ b. place_ops sum xj (if b then zero_ℚ else t)) (same_test xj) ∙ by (same_fields xj zero_ℚ)
  where
    by : (b : Bool) → (if b || same_fields (if b then zero_ℚ else t) zero_ℚ then [] else operation Mul xj (if b then zero_ℚ else t) ∷ operation Add sum (xj *ℚ (if b then zero_ℚ else t)) ∷ [])
        ≡ (if b || same_fields t zero_ℚ then [] else operation Mul xj t ∷ operation Add sum (xj *ℚ t) ∷ [])
    by true = refl
    by false = refl

same_product : (row : List ℚ) (xj : ℚ) (x : List ℚ) → xj *ℚ entry row xj x ≡ xj *ℚ dot row x
same_product row xj x = by (is_zero xj) refl
  where
    by : (b : Bool) → is_zero xj ≡ b → xj *ℚ cond b zero_ℚ (dot row x) ≡ xj *ℚ dot row x
    by true e = nothing_left xj zero_ℚ e ∙ sym (nothing_left xj (dot row x) e)
    by false e = refl

same_ops : (sum : ℚ) (rows : List (List ℚ)) (xs x : List ℚ) → dot_ops_from sum xs (entries rows xs x) ≡ dot_ops_from sum xs (rows_dot rows x)
unfolding dot_ops_from
same_ops sum [] xs x = refl
same_ops sum (row ∷ rows) [] x = refl
same_ops sum (row ∷ rows) (xj ∷ xs) x =
    ap (λ l. l ++ dot_ops_from (sum +ℚ xj *ℚ entry row xj x) xs (entries rows xs x)) (same_place sum xj (dot row x))
    ∙ ap (λ t. place_ops sum xj (dot row x) ++ dot_ops_from (sum +ℚ t) xs (entries rows xs x)) (same_product row xj x)
    ∙ ap (λ l. place_ops sum xj (dot row x) ++ l) (same_ops (sum +ℚ xj *ℚ dot row x) rows xs x)

entries_form : (rows : List (List ℚ)) (xs x : List ℚ) → dot xs (entries rows xs x) ≡ dot (rows_dot rows x) xs
entries_form [] [] x = refl
entries_form [] (xj ∷ xs) x = refl
entries_form (row ∷ rows) [] x = refl
entries_form (row ∷ rows) (xj ∷ xs) x =
    ap (λ z. z +ℚ dot xs (entries rows xs x)) (same_product row xj x ∙ *ℚ_comm xj (dot row x)) ∙ ap (λ z. dot row x *ℚ xj +ℚ z) (entries_form rows xs x)

pub form_listed : {C : Type 0} (q : List (List ℚ)) (x : List ℚ) → Works C (form_of q x) (form_of_ops q x) (form q x x)
unfolding form_of
form_listed {C = C} q x =
    and_then (row_products_ops q x x) (dot_ops x (rows_dot q x)) (row_products q x x) (λ t. dot_of x t) (entries_listed q x x)
    (of_value (dot_of x (entries q x x)) (entries_form q x x)
    (subst (λ l. Works C (dot_of x (entries q x x)) l (dot x (entries q x x))) (same_ops zero_ℚ q x x) (dot_listed x (entries q x x))))

by_two : reciprocal two ≡ half
unfolding reciprocal ratio gcd_of whole
by_two = same_ℚ _ _ refl refl

pub half_listed : {C : Type 0} (q : List (List ℚ)) (x : List ℚ) → Works C (half_form q x) (half_form_ops q x) (half *ℚ form q x x)
unfolding half_form
half_listed q x =
    and_then (form_of_ops q x) (operation Div (form q x x) two ∷ []) (form_of q x) (λ h. op Div h two) (form_listed q x)
    (of_value (op Div (form q x x) two) (ap (λ z. form q x x *ℚ z) by_two ∙ *ℚ_comm (form q x x) half) (operated Div (form q x x) two))

pub value_listed : {C : Type 0} (p : Program) (x : List ℚ) → Works C (value_of p x) (value_ops p x) (value p x)
unfolding value_of
value_listed p x =
    let h = half *ℚ form p.pairs x x in let l = dot p.costs x in let last = operation Add (h +ℚ l) p.constant ∷ [] in
    and_then (half_form_ops p.pairs x) (dot_ops p.costs x ++ (operation Add h l ∷ last)) (half_form p.pairs x) (λ half. dot_of p.costs x >>= λ linear. op Add half linear >>= λ s. op Add s p.constant) (half_listed p.pairs x)
    (and_then (dot_ops p.costs x) (operation Add h l ∷ last) (dot_of p.costs x) (λ linear. op Add h linear >>= λ s. op Add s p.constant) (dot_listed p.costs x)
    (and_then (operation Add h l ∷ []) last (op Add h l) (λ s. op Add s p.constant) (operated Add h l) (operated Add (h +ℚ l) p.constant)))

pub value_settles : (p : Program) (x : List ℚ) → Settles (value_of p x) (value p x) (Unit {0})
value_settles p x = settled {C = Unit {0}} (value_of p x) tt (value_listed p x)
