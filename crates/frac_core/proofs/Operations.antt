-- The two laws of a calculation: by the answers of its operations one after another.
use Rattle.std.proofs.Common.{◌≡◌, ℕ, Bool, true, false, List, [], ◌∷◌, ◌++◌, sym, ap, ◌∙◌, subst, refl, arith, rules, ◌||◌}
use Rattle.std.specs.Prelude.{if◌then◌else◌}
use Rattle.std.specs.List.{All, Contains}
use Rattle.std.proofs.lemmas.Bool.Decides.{nat_tests}
use Rattle.std.proofs.lemmas.List.{append_assoc}
use Rattle.std.proofs.lemmas.List.Elements.{All-nil, All-append, Contains-append_left, Contains-append_right}
use Rattle.rational.specs.Rational.{ℚ, zero_ℚ, ◌+ℚ◌, ◌*ℚ◌, fits, Fits}
use Rattle.rational.specs.Order.{same_fields}
use Rattle.frac_core.specs.declared.fractions.Op.{Op}
use Rattle.frac_core.specs.declared.fractions.Op.TheVariants.{Add, Mul}
use Rattle.frac_core.specs.declared.fractions.Refused.{Refused}
use Rattle.frac_core.specs.declared.fractions.Tried.{Tried}
use Rattle.frac_core.specs.declared.fractions.Tried.TheVariants.{Is, Past}
use Rattle.frac_core.specs.Calculated.{tried_in, and_then, exact_of}
use Rattle.frac_core.specs.Operations.{operation, IsWithin, IsFirstPast, IsPastOf, Tries}
use Rattle.frac_core.specs.Parts.{max_part}
use Rattle.frac_core.specs.Dot.{dot_step, dot_from, dot_of, place_ops, dot_ops_from, dot_ops}
use Rattle.frac_core.proofs.Values.{tried-value, dot_step-value}

fits_is : (top : ℕ) (q : ℚ) → fits top q ≡ true → Fits top q
fits_is top q h = grind (arith, nat_tests)

past_is : (top : ℕ) (q : ℚ) → fits top q ≡ false → ¬ (Fits top q)
past_is top q h k = grind (arith, nat_tests)

All-one : {X : Type 0} (P : X → Type 0) (x : X) → P x → All P (x ∷ [])
All-one P x h = search rules

-- no operation is past
pub tries_none : (top : ℕ) (q : ℚ) → Tries top [] (Is q)
tries_none top q = All-nil (IsWithin top)

-- one operation
pub tries_one : (top : ℕ) (op : Op) (p q : ℚ) → Tries top (operation op p q ∷ []) (tried_in top op p q)
tries_one top op p q = by_fit (fits top (exact_of op p q)) refl
  where
    by_fit : (b : Bool) → fits top (exact_of op p q) ≡ b → Tries top (operation op p q ∷ []) (if b then Is (exact_of op p q) else Past (operation op p q))
    by_fit true e = All-one (IsWithin top) (operation op p q) (fits_is top (exact_of op p q) e)
    by_fit false e = record { earlier = []; later = []; place = refl; within = All-nil (IsWithin top); past = past_is top (exact_of op p q) e }

tries_after : (top : ℕ) (xs ys : List Refused) (u : Tried) → All (IsWithin top) xs → Tries top ys u → Tries top (xs ++ ys) u
tries_after top xs ys (Is q) h k = All-append (IsWithin top) xs ys h k
tries_after top xs ys (Past r) h k = record {
  earlier = xs ++ k.earlier;
  later = k.later;
  place = ap (λ l. xs ++ l) k.place ∙ sym (append_assoc xs k.earlier (r ∷ k.later));
  within = All-append (IsWithin top) xs k.earlier h k.within;
  past = k.past;
}

-- operations, and then those that come of their number
pub tries_then : (top : ℕ) (xs ys : List Refused) (t : Tried) (f : ℚ → Tried) → Tries top xs t → ((q : ℚ) → t ≡ Is q → Tries top ys (f q)) → Tries top (xs ++ ys) (and_then t f)
tries_then top xs ys (Is q) f h k = tries_after top xs ys (f q) h (k q refl)
tries_then top xs ys (Past r) f h k = record {
  earlier = h.earlier;
  later = h.later ++ ys;
  place = ap (λ l. l ++ ys) h.place ∙ append_assoc h.earlier (r ∷ h.later) ys;
  within = h.within;
  past = h.past;
}

-- the first past operation stands in the list
pub contained : (top : ℕ) (operations : List Refused) (r : Refused) → IsFirstPast top operations r → Contains operations r
contained top operations r h = subst (λ l. Contains l r) (sym h.place) (Contains-append_right h.earlier (r ∷ h.later) r (0, omega arith, refl))

place_tries : (top : ℕ) (s x y : ℚ) → Tries top (place_ops s x y) (dot_step top s x y)
unfolding place_ops dot_step
place_tries top s x y = by_test (same_fields x zero_ℚ || same_fields y zero_ℚ)
  where
    by_test : (b : Bool) → Tries top (if b then [] else operation Mul x y ∷ operation Add s (x *ℚ y) ∷ []) (if b then Is s else and_then (tried_in top Mul x y) (λ t. tried_in top Add s t))
    by_test true = tries_none top s
    by_test false =
        tries_then top (operation Mul x y ∷ []) (operation Add s (x *ℚ y) ∷ []) (tried_in top Mul x y) (λ t. tried_in top Add s t) (tries_one top Mul x y)
        (λ q e. subst (λ v. Tries top (operation Add s v ∷ []) (tried_in top Add s q)) (tried-value top Mul x y q e) (tries_one top Add s q))

dot_tries_from : (top : ℕ) (s : ℚ) (xs ys : List ℚ) → Tries top (dot_ops_from s xs ys) (dot_from top s xs ys)
unfolding dot_ops_from dot_from
dot_tries_from top s [] ys = tries_none top s
dot_tries_from top s (x ∷ xs) [] = tries_none top s
dot_tries_from top s (x ∷ xs) (y ∷ ys) =
    tries_then top (place_ops s x y) (dot_ops_from (s +ℚ x *ℚ y) xs ys) (dot_step top s x y) (λ r. dot_from top r xs ys) (place_tries top s x y)
    (λ q e. subst (λ v. Tries top (dot_ops_from v xs ys) (dot_from top q xs ys)) (dot_step-value top s x y q e) (dot_tries_from top q xs ys))

-- the product of two vectors answers as its operations do, in order
pub dot_tries : (top : ℕ) (xs ys : List ℚ) → Tries top (dot_ops xs ys) (dot_of top xs ys)
dot_tries top xs ys = dot_tries_from top zero_ℚ xs ys

pub tries_is : (top : ℕ) (operations : List Refused) (t : Tried) (q : ℚ) → t ≡ Is q → Tries top operations t → All (IsWithin top) operations
tries_is top operations t q e h = subst (λ u. Tries top operations u) e h

pub tries_past : (top : ℕ) (operations : List Refused) (t : Tried) (r : Refused) → t ≡ Past r → Tries top operations t → IsFirstPast top operations r
tries_past top operations t r e h = subst (λ u. Tries top operations u) e h

-- ---- an operation of a list that is past

pub first_past : (operations : List Refused) (r : Refused) → IsFirstPast max_part operations r → IsPastOf operations r
first_past operations r h = (contained max_part operations r h, h.past)

-- an operation that is refused is past
pub one_past : (op : Op) (p q : ℚ) (r : Refused) → tried_in max_part op p q ≡ Past r → IsPastOf (operation op p q ∷ []) r
one_past op p q r e =
    first_past (operation op p q ∷ []) r (tries_past max_part (operation op p q ∷ []) (tried_in max_part op p q) r e (tries_one max_part op p q))

pub past_left : (a b : List Refused) (r : Refused) → IsPastOf a r → IsPastOf (a ++ b) r
past_left a b r h = (Contains-append_left a b r h.0, h.1)

pub past_right : (a b : List Refused) (r : Refused) → IsPastOf b r → IsPastOf (a ++ b) r
past_right a b r h = (Contains-append_right a b r h.0, h.1)
