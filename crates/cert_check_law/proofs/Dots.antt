-- The product of two vectors is the same calculation as that of fractions, so it has the same list.
use Rattle.std.specs.Prelude.{◌≡◌, List, [], ◌∷◌, Bool, true, false, ◌||◌, Result, Ok, Err, if◌then◌else◌}
use Rattle.std.proofs.Common.{sym, subst, ◌∙◌, ap, refl}
use Rattle.rational.specs.Rational.{ℚ, zero_ℚ}
use Rattle.rational.specs.Order.{same_fields, same_fields_lem, same_fields_self}
use Rattle.frac_core.specs.Parts.{max_part}
use Rattle.frac_core.specs.Calculated.{tried, and_then as then_tried}
use Rattle.frac_core.specs.declared.fractions.Op.TheVariants.{Add, Mul}
use Rattle.frac_core.specs.declared.fractions.Tried.{Tried}
use Rattle.frac_core.specs.declared.fractions.Tried.TheVariants.{Is, Past as PastTried}
use Rattle.frac_core.specs.Dot as fractions
use Rattle.frac_core.specs.Dot.{dot_ops}
use Rattle.frac_core.proofs.Operations.{dot_tries}
use Rattle.frac_core.proofs.Values.{dot_of-value}
use Rattle.rational.specs.Tests.{is_zero}
use Rattle.rational.specs.Vectors.{dot}
use Rattle.program_law.proofs.Numbers.{zero_is, is_zero_zero}
use Rattle.cert_check_law.specs.declared.Event.{Event}
use Rattle.cert_check_law.specs.Chain.{◌>>=◌, answered, op}
use Rattle.cert_check_law.specs.Dot.{with_product, dot_from, dot_of}
use Rattle.cert_check_law.proofs.Listed.{Works, of_tries}

pub same_test : (q : ℚ) → is_zero q ≡ same_fields q zero_ℚ
same_test q = by (is_zero q) (same_fields q zero_ℚ) (λ e. same_fields_self q zero_ℚ (zero_is q e)) (λ e. ap is_zero (same_fields_lem q zero_ℚ e) ∙ is_zero_zero)
  where
    by : (a b : Bool) → (a ≡ true → b ≡ true) → (b ≡ true → a ≡ true) → a ≡ b
    by true b f g = sym (f refl)
    by false true f g = g refl
    by false false f g = refl

answered_then : (t : Tried) (f : ℚ → Tried) → answered (then_tried t f) ≡ (answered t >>= λ q. answered (f q))
answered_then (Is q) f = refl
answered_then (PastTried r) f = refl

same_rest : {A B : Type 0} (r : Result A Event) (f g : A → Result B Event) → ((x : A) → f x ≡ g x) → (r >>= f) ≡ (r >>= g)
same_rest (Ok x) f g h = h x
same_rest (Err e) f g h = refl

one_step : (s x y : ℚ) → answered (fractions.dot_step max_part s x y) ≡ with_product s x y
unfolding fractions.dot_step with_product
one_step s x y =
    by (same_fields x zero_ℚ || same_fields y zero_ℚ)
    ∙ ap (λ b. if b then Ok s else (op Mul x y >>= λ t. op Add s t)) (ap (λ a. a || same_fields y zero_ℚ) (sym (same_test x)) ∙ ap (λ a. is_zero x || a) (sym (same_test y)))
  where
    by : (b : Bool) → answered (if b then Is s else then_tried (tried Mul x y) (λ t. tried Add s t)) ≡ (if b then Ok s else (op Mul x y >>= λ t. op Add s t))
    by true = refl
    by false = answered_then (tried Mul x y) (λ t. tried Add s t)

one_sum : (s : ℚ) (xs ys : List ℚ) → answered (fractions.dot_from max_part s xs ys) ≡ dot_from s xs ys
unfolding fractions.dot_from
one_sum s [] ys = refl
one_sum s (x ∷ xs) [] = refl
one_sum s (x ∷ xs) (y ∷ ys) =
    answered_then (fractions.dot_step max_part s x y) (λ q. fractions.dot_from max_part q xs ys)
    ∙ ap (λ r. r >>= λ q. answered (fractions.dot_from max_part q xs ys)) (one_step s x y)
    ∙ same_rest (with_product s x y) (λ q. answered (fractions.dot_from max_part q xs ys)) (λ q. dot_from q xs ys) (λ q. one_sum q xs ys)

pub one_product : (xs ys : List ℚ) → answered (fractions.dot_of max_part xs ys) ≡ dot_of xs ys
one_product xs ys = one_sum zero_ℚ xs ys

pub dot_listed : {C : Type 0} (xs ys : List ℚ) → Works C (dot_of xs ys) (dot_ops xs ys) (dot xs ys)
dot_listed {C = C} xs ys =
    subst (λ r. Works C r (dot_ops xs ys) (dot xs ys)) (one_product xs ys)
    (of_tries (dot_ops xs ys) (fractions.dot_of max_part xs ys) (dot xs ys) (dot_tries max_part xs ys) (dot_of-value max_part xs ys))
