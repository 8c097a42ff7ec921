-- A worked shrink, by computing: (x + y - 2)^2 from (1, 0), whose support is the first column alone, goes to (2, 0), which is stationary.
use Rattle.std.specs.Prelude.{◌≡◌, zero, suc, pos, neg_ℤ, List, [], ◌∷◌}
use Rattle.std.proofs.Common.{refl, sym, ◌∙◌, ap, subst, inl, inr}
use Rattle.rational.specs.Divisors.{gcd_of}
use Rattle.rational.specs.Rational.{ℚ, whole, ratio, neg_ℚ, reciprocal, same_ℚ, zero_ℚ, one_ℚ, ◌+ℚ◌, ◌*ℚ◌}
use Rattle.rational.specs.Order.{◌<ℚ◌}
use Rattle.rational.proofs.Order.{lt_irrefl, lt_le, whole_positive}
use Rattle.rational.proofs.OrderLaws.{lt-le_trans, le_of_eq}
use Rattle.rational.specs.Vectors.{scale}
use Rattle.program_law.proofs.Numbers.{negative_below}
use Rattle.elimination_law.specs.Elimination.{pivot_row, with_pivot, freed, step, eliminated_from}
use Rattle.elimination_law.specs.Answers.{row_of_pivot, Answer, Solution, Refutation}
use Rattle.equational_law.specs.Form.{Form}
use Rattle.face_descent_law.specs.Worked.{n, valley_form}
use Rattle.face_descent_law.specs.Small.{small_answer, IsStationary}
use Rattle.face_descent_law.specs.Step.{distance, on_support, moved, IsWithin, AreShrinkSteps}

abbrev start : List ℚ
start = n 1 ∷ n 0 ∷ []

abbrev end : List ℚ
end = n 2 ∷ n 0 ∷ []

-- the answer is a solution of one unknown, q
abbrev IsOne : Answer → ℚ → Type 0
IsOne (Solution []) q = ⊥
IsOne (Solution (x ∷ [])) q = (x.num ≡ q.num) × (x.den ≡ q.den)
IsOne (Solution (x ∷ y ∷ more)) q = ⊥
IsOne (Refutation w v) q = ⊥

one : (a : Answer) (q : ℚ) → IsOne a q → a ≡ Solution (q ∷ [])
one (Solution []) q h = absurd h
one (Solution (x ∷ [])) q h = ap (λ t. Solution (t ∷ [])) (same_ℚ x q h.0 h.1)
one (Solution (x ∷ y ∷ more)) q h = absurd h
one (Refutation w v) q h = absurd h

two : (a b x y : ℚ) → a ≡ x → b ≡ y → a ∷ b ∷ [] ≡ x ∷ y ∷ []
two a b x y e f = cc

one_is_not_zero : one_ℚ ∷ [] ≡ zero_ℚ ∷ [] → ⊥
one_is_not_zero e = lt_irrefl zero_ℚ (subst (λ t. zero_ℚ <ℚ t) (heads e) (whole_positive 0))
  where
    heads : {x y : ℚ} → x ∷ [] ≡ y ∷ [] → x ≡ y
    heads e = cc

start_answer : small_answer valley_form start ≡ Solution (n 1 ∷ [])
unfolding ◌+ℚ◌ ◌*ℚ◌ neg_ℚ ratio gcd_of whole reciprocal pivot_row with_pivot freed step eliminated_from row_of_pivot
start_answer = one _ _ (refl, refl)

end_answer : small_answer valley_form end ≡ Solution (n 0 ∷ [])
unfolding ◌+ℚ◌ ◌*ℚ◌ neg_ℚ ratio gcd_of whole reciprocal pivot_row with_pivot freed step eliminated_from row_of_pivot
end_answer = one _ _ (refl, refl)

direction : on_support 2 start (n 1 ∷ []) ≡ n 1 ∷ n 0 ∷ []
unfolding ◌+ℚ◌ ◌*ℚ◌ neg_ℚ ratio gcd_of whole
direction = two _ _ _ _ (same_ℚ _ _ refl refl) (same_ℚ _ _ refl refl)

end_is : moved start (n 1 ∷ n 0 ∷ []) one_ℚ ≡ end
unfolding ◌+ℚ◌ ◌*ℚ◌ neg_ℚ ratio gcd_of whole
end_is = two _ _ _ _ (same_ℚ _ _ refl refl) (same_ℚ _ _ refl refl)

-- no entry of the direction falls
no_zero : IsWithin start (n 1 ∷ n 0 ∷ []) one_ℚ
no_zero zero h = absurd (lt_irrefl zero_ℚ (lt-le_trans (whole_positive 0) (lt_le _ _ h)))
no_zero (suc zero) h = absurd (lt_irrefl zero_ℚ h)
no_zero (suc (suc j)) h = absurd (lt_irrefl zero_ℚ h)

pub shrinks : AreShrinkSteps 2 valley_form start (end ∷ [])
unfolding ratio gcd_of whole
shrinks = (
  inl (record {
    unknowns = n 1 ∷ [];
    solved = start_answer;
    moving = one_is_not_zero;
    step = one_ℚ;
    capped = inl (refl, subst (λ d. IsWithin start d one_ℚ) (sym direction) no_zero);
    end = sym (ap (λ d. moved start d one_ℚ) direction ∙ end_is);
  }),
  tt,
)

pub stationary : IsStationary valley_form end
unfolding ratio gcd_of whole
stationary = record { unknowns = n 0 ∷ []; solved = end_answer; still = refl }

-- ---- a refuted step: the cost -x where x + y = 2, from (1, 1), goes to (2, 0)

abbrev minus_one : ℚ
minus_one = whole (neg_ℤ (pos 1))

abbrev slope : Form
slope = record {
  matrix = (n 1 ∷ n 1 ∷ []) ∷ [];
  right = n 2 ∷ [];
  quadratic = (n 0 ∷ n 0 ∷ []) ∷ (n 0 ∷ n 0 ∷ []) ∷ [];
  cost = minus_one ∷ n 0 ∷ [];
  constant = n 0;
}

abbrev middle : List ℚ
middle = n 1 ∷ n 1 ∷ []

-- the answer refutes by three multipliers and a number
abbrev IsSame : ℚ → ℚ → Type 0
IsSame x q = (x.num ≡ q.num) × (x.den ≡ q.den)

abbrev IsThree : Answer → ℚ → ℚ → ℚ → ℚ → Type 0
IsThree (Solution x) p q r v = ⊥
IsThree (Refutation [] t) p q r v = ⊥
IsThree (Refutation (a ∷ []) t) p q r v = ⊥
IsThree (Refutation (a ∷ b ∷ []) t) p q r v = ⊥
IsThree (Refutation (a ∷ b ∷ c ∷ []) t) p q r v = IsSame a p × IsSame b q × IsSame c r × IsSame t v
IsThree (Refutation (a ∷ b ∷ c ∷ d ∷ more) t) p q r v = ⊥

same_refutation : (a b c t p q r v : ℚ) → a ≡ p → b ≡ q → c ≡ r → t ≡ v → Refutation (a ∷ b ∷ c ∷ []) t ≡ Refutation (p ∷ q ∷ r ∷ []) v
same_refutation a b c t p q r v e f g h = cc

three : (a : Answer) (p q r v : ℚ) → IsThree a p q r v → a ≡ Refutation (p ∷ q ∷ r ∷ []) v
three (Solution x) p q r v h = absurd h
three (Refutation [] t) p q r v h = absurd h
three (Refutation (a ∷ []) t) p q r v h = absurd h
three (Refutation (a ∷ b ∷ []) t) p q r v h = absurd h
three (Refutation (a ∷ b ∷ c ∷ []) t) p q r v h =
    let i = h.0 in
    let j = h.1 in
    let k = h.2 in
    let l = h.3 in
    same_refutation a b c t p q r v (same_ℚ a p i.0 i.1) (same_ℚ b q j.0 j.1) (same_ℚ c r k.0 k.1) (same_ℚ t v l.0 l.1)
three (Refutation (a ∷ b ∷ c ∷ d ∷ more) t) p q r v h = absurd h

abbrev refuting : List ℚ
refuting = minus_one ∷ n 1 ∷ n 0 ∷ []

middle_answer : small_answer slope middle ≡ Refutation refuting minus_one
unfolding ◌+ℚ◌ ◌*ℚ◌ neg_ℚ ratio gcd_of whole reciprocal pivot_row with_pivot freed step eliminated_from row_of_pivot
middle_answer = three _ _ _ _ _ ((refl, refl), (refl, refl), (refl, refl), (refl, refl))

abbrev downhill : List ℚ
downhill = n 1 ∷ minus_one ∷ []

turned_is : downhill ≡ scale (neg_ℚ one_ℚ) (on_support 2 middle refuting)
unfolding ◌+ℚ◌ ◌*ℚ◌ neg_ℚ ratio gcd_of whole
turned_is = two _ _ _ _ (same_ℚ _ _ refl refl) (same_ℚ _ _ refl refl)

minus_below : minus_one <ℚ zero_ℚ
unfolding ratio gcd_of whole
minus_below = negative_below minus_one refl

ratio_is : one_ℚ ≡ distance middle downhill 1
unfolding ◌+ℚ◌ ◌*ℚ◌ neg_ℚ ratio gcd_of whole reciprocal
ratio_is = same_ℚ _ _ refl refl

moved_is : end ≡ moved middle downhill one_ℚ
unfolding ◌+ℚ◌ ◌*ℚ◌ neg_ℚ ratio gcd_of whole
moved_is = two _ _ _ _ (same_ℚ _ _ refl refl) (same_ℚ _ _ refl refl)

within_one : IsWithin middle downhill one_ℚ
within_one zero h = absurd (lt_irrefl zero_ℚ (lt-le_trans (whole_positive 0) (lt_le _ _ h)))
within_one (suc zero) h = le_of_eq ratio_is
within_one (suc (suc j)) h = absurd (lt_irrefl zero_ℚ h)

falls : AreShrinkSteps 2 slope middle (end ∷ [])
falls = (
  inr (record {
    multipliers = refuting;
    number = minus_one;
    refuted = middle_answer;
    direction = downhill;
    turned = record { as_it_is = λ h. absurd (lt_irrefl zero_ℚ (lt-le_trans h (lt_le _ _ minus_below))); changed = λ h. turned_is };
    step = one_ℚ;
    nearest = record { place = 1; falls = minus_below; there = ratio_is; within = within_one };
    end = moved_is;
  }),
  tt,
)
