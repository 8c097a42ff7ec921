-- How many stationary points there are with different values.
use Rattle.std.proofs.Common.{◌≡◌, ◌≢◌, refl, sym, ◌∙◌, ap, subst, ℕ, zero, suc, ◌<◌, ◌≤◌, ◌⊎◌, inl, inr, Bool, true, false, List, [], ◌∷◌, length, map, arith}
use Rattle.std.specs.Prelude.{◌^◌, Contains, All, nat_lt}
use Rattle.std.specs.List.{AllPairs, AllByRecursion}
use Rattle.std.proofs.lemmas.List.Elements.{All-contains, All-from_get_or, All-head, All-tail}
use Rattle.std.proofs.lemmas.Bool.Decides.{nat_tests}
use Rattle.algebra.proofs.Polynomial.{minus, ◌≐◌, ◌≺◌, lit}
use Rattle.algebra.proofs.Certificate.{prove, given, weight, ◌⊞◌, ◌⇐◌}
use Rattle.rational.specs.Rational.{ℚ, zero_ℚ}
use Rattle.rational.specs.Order.{◌<ℚ◌}
use Rattle.rational.specs.Sums.{entry}
use Rattle.rational.specs.Vectors.{dot, IsSymmetric}
use Rattle.rational.proofs.Order.{ordered_rationals, lt_irrefl}
use Rattle.linear_basis_law.proofs.Places.{same_or_other}
use Rattle.linear_simplex_law.proofs.Sets.{few, code, code_below, same_code, same_sets, contains_or, AreDistinct, AreBelow}
use Rattle.equational_law.specs.Form.{Form}
use Rattle.equational_law.specs.Solutions.{IsForm, IsSolution}
use Rattle.face_descent_law.specs.Small.{IsStationary, height, slope, support}
use Rattle.face_descent_law.proofs.Supports.{off_support, support_below, support_nonzero}
use Rattle.face_descent_law.proofs.Stationary.{multipliers_of}
use Rattle.quad_solve_law.specs.Steps.{LeadsDown, HaveSameSupport}
use Rattle.quad_solve_law.proofs.Doubled.{off_places}
use Rattle.quad_solve_law.proofs.Stationary.{no_slope, lesser_differs}

-- where the support of z is within that of w, z is 0 where w is
zero_there : (z w : List ℚ) (j : ℕ) → (Contains (support z) j → Contains (support w) j) → entry w j ≡ zero_ℚ → entry z j ≡ zero_ℚ
zero_there z w j more e = by (contains_or (support z) j)
  where
    by : Contains (support z) j ⊎ ¬ (Contains (support z) j) → entry z j ≡ zero_ℚ
    by (inl c) = absurd (All-contains (λ m. m ≢ j) (support w) j (off_places 0 w j j (omega arith) e) (more c) refl)
    by (inr n) = off_support z j (All-from_get_or (λ m. m ≢ j) (support z) j (λ i l s. n (i, l, s)))

length-numbers : (g : List ℚ → ℕ) (zs : List (List ℚ)) → length (map g zs) ≡ length zs
length-numbers g [] = refl
length-numbers g (z ∷ zs) = ap suc (length-numbers g zs)

module _ (n : ℕ) (f : Form) (form : IsForm n f) (sy : IsSymmetric n f.quadratic) where
  abbrev number : List ℚ → ℕ
  number z = code n (support z)

  inside : (z : List ℚ) → IsSolution f z → All (λ j. j < n) (support z)
  inside z s = support_below n z (s.width ∙ form.cost)

  same_numbers : (z w : List ℚ) → IsSolution f z → IsSolution f w → number z ≡ number w → HaveSameSupport z w
  same_numbers z w s t e j =
      let h = same_sets n (support z) (support w) (inside z s) (inside w t) e j in
      (zero_there w z j h.1, zero_there z w j h.0)

  avoids : (z : List ℚ) → IsSolution f z → IsStationary f z → (zs : List (List ℚ)) → All (IsSolution f) zs → All (IsStationary f) zs
      → All (λ w. height f z <ℚ height f w) zs → AllByRecursion (λ x. x ≢ number z) (map number zs)
  avoids z s st [] h k l = tt
  avoids z s st (w ∷ zs) h k l = (
    (λ e. let t = All-head (IsSolution f) w zs h in
        lesser_differs n f w z form sy t s (All-head (IsStationary f) w zs k) st (All-head (λ w. height f z <ℚ height f w) w zs l) (same_numbers w z t s e)),
    avoids z s st zs (All-tail (IsSolution f) w zs h) (All-tail (IsStationary f) w zs k) (All-tail (λ w. height f z <ℚ height f w) w zs l),
  )

  later : (z : List ℚ) (zs : List (List ℚ)) → AllPairs (λ z w. height f z <ℚ height f w) (z ∷ zs) → All (λ w. height f z <ℚ height f w) zs
  later z zs h = All-from_get_or (λ w. height f z <ℚ height f w) zs z (λ i l. h 0 (suc i) z (omega arith) (omega arith))

  distinct : (zs : List (List ℚ)) → All (IsSolution f) zs → All (IsStationary f) zs → AllPairs (λ z w. height f z <ℚ height f w) zs → AreDistinct (map number zs)
  distinct [] h k l = tt
  distinct (z ∷ zs) h k l = (
    avoids z (All-head (IsSolution f) z zs h) (All-head (IsStationary f) z zs k) zs (All-tail (IsSolution f) z zs h) (All-tail (IsStationary f) z zs k) (later z zs l),
    distinct zs (All-tail (IsSolution f) z zs h) (All-tail (IsStationary f) z zs k) (λ a b d i m. l (suc a) (suc b) d (omega arith) (omega arith)),
  )

  numbers_below : (zs : List (List ℚ)) → AreBelow (2 ^ n) (map number zs)
  numbers_below [] = tt
  numbers_below (z ∷ zs) = (code_below n (support z), numbers_below zs)

pub stationary_few : (n : ℕ) (f : Form) (zs : List (List ℚ)) → IsForm n f → IsSymmetric n f.quadratic → All (IsSolution f) zs → All (IsStationary f) zs
    → AllPairs (λ z w. height f z <ℚ height f w) zs → length zs ≤ 2 ^ n
stationary_few n f zs form sy h k l =
    subst (λ c. c ≤ 2 ^ n) (length-numbers (number n f form sy) zs) (few (2 ^ n) (map (number n f form sy) zs) (distinct n f form sy zs h k l) (numbers_below n f form sy zs))

-- ---- points that a direction leads down from

-- all places below n
abbrev all_places : ℕ → List ℕ
all_places zero = []
all_places (suc n) = n ∷ all_places n

among_all : (n j : ℕ) → j < n → Contains (all_places n) j
among_all zero j l = absurd (omega arith)
among_all (suc n) j l = by (same_or_other n j) (λ d. among_all n j (grind arith))
  where
    by : (n ≡ j) ⊎ (n ≢ j) → (n ≢ j → Contains (all_places n) j) → Contains (n ∷ all_places n) j
    by (inl e) later = (0, omega arith, e)
    by (inr d) later = let c = later d in let b = c.1 in (suc c.0, omega arith, c.2)

pub past_the_end : (u : List ℚ) (j : ℕ) → length u ≤ j → entry u j ≡ zero_ℚ
past_the_end [] j h = refl
past_the_end (x ∷ u) zero h = absurd (omega arith)
past_the_end (x ∷ u) (suc j) h = past_the_end u j (omega arith)

pub below_or : (j n : ℕ) → (j < n) ⊎ (n ≤ j)
below_or j n = by (nat_lt j n) refl
  where
    by : (t : Bool) → nat_lt j n ≡ t → (j < n) ⊎ (n ≤ j)
    by true e = inl (grind (arith, nat_tests))
    by false e = inr (grind (arith, nat_tests))

-- some direction leads down from z
abbrev pub IsLeft : Form → List ℚ → Type 0
IsLeft f z = (d : List ℚ) × LeadsDown f z d

module _ (n : ℕ) (f : Form) (form : IsForm n f) where
  -- some place of a stationary point is 0, if a direction leads down from it
  not_everywhere : (z : List ℚ) → IsSolution f z → IsStationary f z → IsLeft f z → ((j : ℕ) → j < n → entry z j ≢ zero_ℚ) → ⊥
  not_everywhere z s st left all =
      lt_irrefl zero_ℚ (prove ordered_rationals (dot (slope f z) left.0 ∷ []) (λ g. lit 0 ≺ lit 0 ⇐ given (g ≐ minus (lit 1)) ⊞ given (lit 0 ≐ g) ⊞ weight 1) refl left.1.falls
      (sym (no_slope n f z left.0 form (multipliers_of n f z form (s.width ∙ form.cost) st) left.1.equal (λ j e. off j e (below_or j n)))))
    where
      off : (j : ℕ) → entry z j ≡ zero_ℚ → (j < n) ⊎ (n ≤ j) → entry left.0 j ≡ zero_ℚ
      off j e (inl l) = absurd (all j l e)
      off j e (inr l) = past_the_end left.0 j (omega (arith, l, left.1.size, form.cost))

  not_all : (z : List ℚ) → IsSolution f z → IsStationary f z → IsLeft f z → code n (support z) ≢ code n (all_places n)
  not_all z s st left e =
      not_everywhere z s st left (λ j l. All-contains (λ k. entry z k ≢ zero_ℚ) (support z) j (support_nonzero z) ((same_code n (support z) (all_places n) e j l).1 (among_all n j l)))

  none_is_all : (zs : List (List ℚ)) → All (IsSolution f) zs → All (IsStationary f) zs → All (IsLeft f) zs → AllByRecursion (λ x. x ≢ code n (all_places n)) (map (λ z. code n (support z)) zs)
  none_is_all [] h k l = tt
  none_is_all (z ∷ zs) h k l = (
    not_all z (All-head (IsSolution f) z zs h) (All-head (IsStationary f) z zs k) (All-head (IsLeft f) z zs l),
    none_is_all zs (All-tail (IsSolution f) z zs h) (All-tail (IsStationary f) z zs k) (All-tail (IsLeft f) z zs l),
  )

-- so there are fewer of them than sets of columns
pub left_few : (n : ℕ) (f : Form) (zs : List (List ℚ)) → IsForm n f → IsSymmetric n f.quadratic → All (IsSolution f) zs → All (IsStationary f) zs → All (IsLeft f) zs
    → AllPairs (λ z w. height f z <ℚ height f w) zs → suc (length zs) ≤ 2 ^ n
left_few n f zs form sy h k m l =
    subst (λ c. suc c ≤ 2 ^ n) (length-numbers (number n f form sy) zs)
    (few (2 ^ n) (code n (all_places n) ∷ map (number n f form sy) zs) (none_is_all n f form zs h k m, distinct n f form sy zs h k l) (code_below n (all_places n), numbers_below n f form sy zs))
