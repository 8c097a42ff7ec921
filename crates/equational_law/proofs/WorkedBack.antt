-- Worked programs: an optimal solution's multipliers, which a bound leaf gets, and those that refute a form.
use Rattle.std.specs.Prelude.{◌≡◌, ◌≢◌, ℕ, zero, suc, List, [], ◌∷◌, map, All}
use Rattle.std.proofs.lemmas.List.Elements.{All-cons, All-nil}
use Rattle.std.proofs.Common.{refl, sym, subst, ap, ◌∙◌}
use Rattle.rational.specs.Divisors.{gcd_of}
use Rattle.rational.specs.Rational.{ℚ, whole, ratio, neg_ℚ, zero_ℚ, same_ℚ, ◌+ℚ◌, ◌*ℚ◌}
use Rattle.rational.specs.Order.{◌≤ℚ◌, ◌<ℚ◌}
use Rattle.rational.specs.Sums.{entry}
use Rattle.rational.specs.Vectors.{dot, combine, gradient}
use Rattle.rational.proofs.Order.{le_refl}
use Rattle.program_law.specs.Program.{bounds}
use Rattle.program_law.proofs.Numbers.{le_tested, lt_tested}
use Rattle.program_law.proofs.Worked.{n, minus, first, apart}
use Rattle.equational_law.specs.Form.{form_of, multipliers_of}
use Rattle.equational_law.specs.Optimal.{IsRefutation, IsOptimality}

-- at the point (2, 3), with 2 on the first row's slack, 0 on the second's and 1 on that of y's bounds
abbrev solution : List ℚ
solution = n 2 ∷ n 3 ∷ n 2 ∷ n 0 ∷ n 1 ∷ []

-- the second row's multiplier alone
abbrev multipliers : List ℚ
multipliers = n 0 ∷ minus 4 ∷ n 0 ∷ []

five : (a b c d e p q r s t : ℚ) → a ≡ p → b ≡ q → c ≡ r → d ≡ s → e ≡ t → a ∷ b ∷ c ∷ d ∷ e ∷ [] ≡ p ∷ q ∷ r ∷ s ∷ t ∷ []
five a b c d e p q r s t f g h i j = cc

combined : combine 5 multipliers (form_of first (bounds first)).matrix ≡ n 4 ∷ minus 8 ∷ n 0 ∷ minus 4 ∷ n 0 ∷ []
unfolding ◌+ℚ◌ ◌*ℚ◌ neg_ℚ ratio gcd_of whole
combined = five _ _ _ _ _ _ _ _ _ _ (same_ℚ _ _ refl refl) (same_ℚ _ _ refl refl) (same_ℚ _ _ refl refl) (same_ℚ _ _ refl refl) (same_ℚ _ _ refl refl)

gradient_there : gradient (form_of first (bounds first)).quadratic (form_of first (bounds first)).cost solution ≡ n 4 ∷ minus 8 ∷ n 0 ∷ n 0 ∷ n 0 ∷ []
unfolding ◌+ℚ◌ ◌*ℚ◌ neg_ℚ ratio gcd_of whole
gradient_there = five _ _ _ _ _ _ _ _ _ _ (same_ℚ _ _ refl refl) (same_ℚ _ _ refl refl) (same_ℚ _ _ refl refl) (same_ℚ _ _ refl refl) (same_ℚ _ _ refl refl)

below_zero : minus 4 ≤ℚ n 0
unfolding neg_ℚ ratio gcd_of whole
below_zero = le_tested _ _ refl

at_most : (j : ℕ) → entry (n 4 ∷ minus 8 ∷ n 0 ∷ minus 4 ∷ n 0 ∷ []) j ≤ℚ entry (n 4 ∷ minus 8 ∷ n 0 ∷ n 0 ∷ n 0 ∷ []) j
at_most zero = le_refl (n 4)
at_most (suc zero) = le_refl (minus 8)
at_most (suc (suc zero)) = le_refl (n 0)
at_most (suc (suc (suc zero))) = below_zero
at_most (suc (suc (suc (suc zero)))) = le_refl (n 0)
at_most (suc (suc (suc (suc (suc j))))) = le_refl zero_ℚ

on_support : (j : ℕ) → entry solution j ≢ zero_ℚ → entry (n 4 ∷ minus 8 ∷ n 0 ∷ minus 4 ∷ n 0 ∷ []) j ≡ entry (n 4 ∷ minus 8 ∷ n 0 ∷ n 0 ∷ n 0 ∷ []) j
on_support zero h = refl
on_support (suc zero) h = refl
on_support (suc (suc zero)) h = refl
on_support (suc (suc (suc zero))) h = absurd (h refl)
on_support (suc (suc (suc (suc zero)))) h = refl
on_support (suc (suc (suc (suc (suc j))))) h = refl

optimal : IsOptimality 5 (form_of first (bounds first)) solution multipliers
optimal = record {
  size = refl;
  at_most = λ j. subst (λ (u : List ℚ). entry u j ≤ℚ entry (gradient (form_of first (bounds first)).quadratic (form_of first (bounds first)).cost solution) j) (sym combined)
      (subst (λ (v : List ℚ). entry (n 4 ∷ minus 8 ∷ n 0 ∷ minus 4 ∷ n 0 ∷ []) j ≤ℚ entry v j) (sym gradient_there) (at_most j));
  on_support = λ j h. ap (λ (u : List ℚ). entry u j) combined ∙ on_support j h ∙ ap (λ (v : List ℚ). entry v j) (sym gradient_there);
}

two : (a b x y : ℚ) → a ≡ x → b ≡ y → a ∷ b ∷ [] ≡ x ∷ y ∷ []
two a b x y e f = cc

-- the leaf's multipliers
back : multipliers_of first (bounds first) multipliers ≡ n 0 ∷ minus 4 ∷ []
unfolding ◌+ℚ◌ ◌*ℚ◌ neg_ℚ ratio gcd_of whole
back = two _ _ _ _ (same_ℚ _ _ refl refl) (same_ℚ _ _ refl refl)

-- ---- x ≤ 1 and x ≥ 2: the first equation less the second

against : List ℚ
against = n 1 ∷ minus 1 ∷ []

three : (a b c x y z : ℚ) → a ≡ x → b ≡ y → c ≡ z → a ∷ b ∷ c ∷ [] ≡ x ∷ y ∷ z ∷ []
three a b c x y z e f g = cc

against_combined : combine 3 against (form_of apart (bounds apart)).matrix ≡ n 0 ∷ n 1 ∷ n 1 ∷ []
unfolding against ◌+ℚ◌ ◌*ℚ◌ neg_ℚ ratio gcd_of whole
against_combined = three _ _ _ _ _ _ (same_ℚ _ _ refl refl) (same_ℚ _ _ refl refl) (same_ℚ _ _ refl refl)

against_right : dot against (form_of apart (bounds apart)).right <ℚ zero_ℚ
unfolding against ◌+ℚ◌ ◌*ℚ◌ neg_ℚ ratio gcd_of whole
against_right = lt_tested _ _ refl

one_above : zero_ℚ ≤ℚ n 1
unfolding ratio gcd_of whole
one_above = le_tested _ _ refl

refutes : IsRefutation 3 (form_of apart (bounds apart)) against
unfolding against
refutes =
    let P = λ (x : ℚ). zero_ℚ ≤ℚ x in
    record {
      size = refl;
      not_negative = subst (λ (u : List ℚ). All P u) (sym against_combined)
          (All-cons P (n 0) (n 1 ∷ n 1 ∷ []) (le_refl zero_ℚ) (All-cons P (n 1) (n 1 ∷ []) one_above (All-cons P (n 1) [] one_above (All-nil P))));
      below = against_right;
    }

-- the leaf's multipliers
back_against : multipliers_of apart (bounds apart) (map neg_ℚ against) ≡ minus 1 ∷ n 1 ∷ []
unfolding against ◌+ℚ◌ ◌*ℚ◌ neg_ℚ ratio gcd_of whole
back_against = two _ _ _ _ (same_ℚ _ _ refl refl) (same_ℚ _ _ refl refl)
