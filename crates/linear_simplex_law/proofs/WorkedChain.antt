-- A worked chain, by computing: the two rows x = 1 and y = 1. Its unit columns are 2 and 3. One strict step leads to the columns 0 and 3,
-- and a second one to 0 and 1, which cost nothing.
use Rattle.std.proofs.Common.{◌≡◌, ◌≢◌, refl, sym, subst, ℕ, zero, suc, ◌<◌, [], ◌∷◌, length, arith}
use Rattle.std.proofs.lemmas.List.Elements.{All-nil, All-cons}
use Rattle.algebra.proofs.Polynomial.{minus, ◌≐◌, ◌≼◌, ◌≺◌, lit}
use Rattle.algebra.proofs.Certificate.{prove, given, weight, ◌⊞◌, ◌⇐◌}
use Rattle.rational.specs.Divisors.{gcd_of}
use Rattle.rational.specs.Rational.{ℚ, whole, ratio, neg_ℚ, reciprocal, zero_ℚ, one_ℚ, same_ℚ, ◌+ℚ◌, ◌*ℚ◌}
use Rattle.rational.specs.Order.{◌≤ℚ◌, ◌<ℚ◌}
use Rattle.rational.specs.Sums.{entry}
use Rattle.rational.proofs.Order.{ordered_rationals, lt_irrefl}
use Rattle.linear_basis_law.specs.Problem.{Problem, IsProblem}
use Rattle.linear_basis_law.specs.Basis.{Tableau, IsZeroCost, point, price, unit_basis}
use Rattle.linear_basis_law.specs.Exchange.{IsLeaving, coordinates, exchanged}
use Rattle.linear_basis_law.proofs.Units.{units_basis, units_standing}
use Rattle.linear_simplex_law.specs.Chain.{IsEntering, IsStrictStep, EndsWithin, IsSpent}
use Rattle.linear_simplex_law.proofs.Steps.{ratio_steps}

abbrev worked : Problem
worked = record { given = 2; rows = (one_ℚ ∷ zero_ℚ ∷ []) ∷ (zero_ℚ ∷ one_ℚ ∷ []) ∷ []; right = one_ℚ ∷ one_ℚ ∷ [] }

abbrev start : Tableau
start = unit_basis worked

abbrev middle : Tableau
middle = exchanged worked start 0 0

abbrev last : Tableau
last = exchanged worked middle 1 1

start_columns : start.columns ≡ 2 ∷ 3 ∷ []
start_columns = refl

middle_columns : middle.columns ≡ 0 ∷ 3 ∷ []
middle_columns = refl

last_columns : last.columns ≡ 0 ∷ 1 ∷ []
last_columns = refl

-- ---- numbers

one_nonneg : zero_ℚ ≤ℚ one_ℚ
one_nonneg = prove ordered_rationals (zero_ℚ ∷ []) (λ z. lit 0 ≼ lit 1 ⇐ weight 1) refl

above : (x : ℚ) → x ≡ one_ℚ → zero_ℚ <ℚ x
above x e = prove ordered_rationals (x ∷ []) (λ x. lit 0 ≺ x ⇐ given (lit 1 ≐ x) ⊞ weight 1) refl (sym e)

beneath : (x : ℚ) → x ≡ neg_ℚ one_ℚ → x <ℚ zero_ℚ
beneath x e = prove ordered_rationals (x ∷ []) (λ x. x ≺ lit 0 ⇐ given (x ≐ minus (lit 1)) ⊞ weight 1) refl e

not_nothing : (x : ℚ) → x ≡ one_ℚ → ¬ (x ≡ zero_ℚ)
not_nothing x e f = lt_irrefl zero_ℚ (prove ordered_rationals (x ∷ []) (λ x. lit 0 ≺ lit 0 ⇐ given (lit 1 ≐ x) ⊞ given (x ≐ lit 0) ⊞ weight 1) refl (sym e) f)

not_above : (x : ℚ) → x ≡ zero_ℚ → ¬ (zero_ℚ <ℚ x)
not_above x e h = lt_irrefl zero_ℚ (subst (λ x. zero_ℚ <ℚ x) e h)

not_beneath : (x : ℚ) → x ≡ zero_ℚ → ¬ (x <ℚ zero_ℚ)
not_beneath x e h = lt_irrefl zero_ℚ (subst (λ x. x <ℚ zero_ℚ) e h)

-- ---- what is computed

start_value : entry (point worked start) 0 ≡ one_ℚ
unfolding ◌+ℚ◌ ◌*ℚ◌ neg_ℚ ratio gcd_of whole reciprocal
start_value = same_ℚ (entry (point worked start) 0) one_ℚ refl refl

start_price : price worked start 0 ≡ neg_ℚ one_ℚ
unfolding ◌+ℚ◌ ◌*ℚ◌ neg_ℚ ratio gcd_of whole reciprocal
start_price = same_ℚ (price worked start 0) (neg_ℚ one_ℚ) refl refl

start_place : entry (coordinates worked start 0) 0 ≡ one_ℚ
unfolding ◌+ℚ◌ ◌*ℚ◌ neg_ℚ ratio gcd_of whole reciprocal
start_place = same_ℚ (entry (coordinates worked start 0) 0) one_ℚ refl refl

start_other : entry (coordinates worked start 0) 1 ≡ zero_ℚ
unfolding ◌+ℚ◌ ◌*ℚ◌ neg_ℚ ratio gcd_of whole reciprocal
start_other = same_ℚ (entry (coordinates worked start 0) 1) zero_ℚ refl refl

middle_value : entry (point worked middle) 1 ≡ one_ℚ
unfolding ◌+ℚ◌ ◌*ℚ◌ neg_ℚ ratio gcd_of whole reciprocal
middle_value = same_ℚ (entry (point worked middle) 1) one_ℚ refl refl

middle_first : price worked middle 0 ≡ zero_ℚ
unfolding ◌+ℚ◌ ◌*ℚ◌ neg_ℚ ratio gcd_of whole reciprocal
middle_first = same_ℚ (price worked middle 0) zero_ℚ refl refl

middle_price : price worked middle 1 ≡ neg_ℚ one_ℚ
unfolding ◌+ℚ◌ ◌*ℚ◌ neg_ℚ ratio gcd_of whole reciprocal
middle_price = same_ℚ (price worked middle 1) (neg_ℚ one_ℚ) refl refl

middle_place : entry (coordinates worked middle 1) 1 ≡ one_ℚ
unfolding ◌+ℚ◌ ◌*ℚ◌ neg_ℚ ratio gcd_of whole reciprocal
middle_place = same_ℚ (entry (coordinates worked middle 1) 1) one_ℚ refl refl

middle_other : entry (coordinates worked middle 1) 0 ≡ zero_ℚ
unfolding ◌+ℚ◌ ◌*ℚ◌ neg_ℚ ratio gcd_of whole reciprocal
middle_other = same_ℚ (entry (coordinates worked middle 1) 0) zero_ℚ refl refl

-- ---- the chain

problem : IsProblem worked
problem = record {
  rows = refl;
  columns = All-cons (λ r. length r ≡ 2) (one_ℚ ∷ zero_ℚ ∷ []) ((zero_ℚ ∷ one_ℚ ∷ []) ∷ []) refl
      (All-cons (λ r. length r ≡ 2) (zero_ℚ ∷ one_ℚ ∷ []) [] refl (All-nil (λ r. length r ≡ 2)));
  nonneg = All-cons (λ x. zero_ℚ ≤ℚ x) one_ℚ (one_ℚ ∷ []) one_nonneg (All-cons (λ x. zero_ℚ ≤ℚ x) one_ℚ [] one_nonneg (All-nil (λ x. zero_ℚ ≤ℚ x)));
}

start_costs : ¬ (IsZeroCost worked start)
start_costs z = not_nothing (entry (point worked start) 0) start_value (z 0 (omega arith) (omega arith))

start_enters : IsEntering worked start 0
start_enters = record {
  given = omega arith;
  falling = beneath (price worked start 0) start_price;
  first = λ i l. absurd (omega arith);
}

start_leaves : IsLeaving worked start 0 0
start_leaves = record {
  place = omega arith;
  positive = above (entry (coordinates worked start 0) 0) start_place;
  least = λ k l n h. absurd (none k l n h);
}
  where
    none : (k : ℕ) → k < 2 → k ≢ 0 → zero_ℚ <ℚ entry (coordinates worked start 0) k → ⊥
    none zero l n h = n refl
    none (suc zero) l n h = not_above (entry (coordinates worked start 0) 1) start_other h
    none (suc (suc k)) l n h = omega arith

first_step : IsStrictStep worked start middle
first_step = ratio_steps worked problem start 0 0 (units_basis worked) (units_standing worked problem) start_costs start_enters start_leaves

middle_costs : ¬ (IsZeroCost worked middle)
middle_costs z = not_nothing (entry (point worked middle) 1) middle_value (z 1 (omega arith) (omega arith))

middle_enters : IsEntering worked middle 1
middle_enters = record {
  given = omega arith;
  falling = beneath (price worked middle 1) middle_price;
  first = none;
}
  where
    none : (i : ℕ) → i < 1 → ¬ (price worked middle i <ℚ zero_ℚ)
    none zero l h = not_beneath (price worked middle 0) middle_first h
    none (suc i) l h = omega arith

middle_leaves : IsLeaving worked middle 1 1
middle_leaves = record {
  place = omega arith;
  positive = above (entry (coordinates worked middle 1) 1) middle_place;
  least = λ k l n h. absurd (none k l n h);
}
  where
    none : (k : ℕ) → k < 2 → k ≢ 1 → zero_ℚ <ℚ entry (coordinates worked middle 1) k → ⊥
    none zero l n h = not_above (entry (coordinates worked middle 1) 0) middle_other h
    none (suc zero) l n h = n refl
    none (suc (suc k)) l n h = omega arith

second_step : IsStrictStep worked middle last
second_step = ratio_steps worked problem middle 1 1 first_step.basis first_step.standing middle_costs middle_enters middle_leaves

-- a budget of one strict step is used up at the columns 0 and 3
one_is_spent : IsSpent worked 1 middle
one_is_spent = record {
  ends = record { earlier = start ∷ []; chain = (first_step, refl); count = refl };
  costs = middle_costs;
  goes_on = λ f. f.prices 1 (omega arith) (beneath (price worked middle 1) middle_price);
}

-- with two the chain is done
two_are_enough : EndsWithin worked 2 last × IsZeroCost worked last
two_are_enough = (record { earlier = middle ∷ start ∷ []; chain = (second_step, (first_step, refl)); count = omega arith }, costs_nothing)
  where
    costs_nothing : IsZeroCost worked last
    costs_nothing zero l h = absurd (omega arith)
    costs_nothing (suc zero) l h = absurd (omega arith)
    costs_nothing (suc (suc k)) l h = absurd (omega arith)
