-- How chains end: each problem has one that ends, and what it ends at.
use Rattle.std.proofs.Common.{◌≡◌, refl, sym, subst, ℕ, zero, suc, ◌+◌, ◌<◌, ◌≤◌, ◌⊎◌, inl, inr, ⊎_elim, Bool, true, false, List, [], ◌∷◌, length, arith}
use Rattle.std.specs.Prelude.{◌^◌, slice_index_or, nat_lt}
use Rattle.std.proofs.lemmas.Bool.Decides.{nat_tests}
use Rattle.rational.specs.Rational.{ℚ, zero_ℚ}
use Rattle.rational.specs.Order.{◌≤ℚ◌, ◌<ℚ◌, same_fields, same_fields_lem, differ_of_same_fields}
use Rattle.rational.specs.Sums.{entry}
use Rattle.rational.proofs.Order.{le_or_lt}
use Rattle.rational.proofs.OrderLaws.{not-le_of_lt}
use Rattle.linear_basis_law.specs.Problem as linear
use Rattle.linear_basis_law.specs.Basis.{Tableau, IsZeroCost, IsFinal, point, price, unit_basis, solution_of, farkas_of}
use Rattle.linear_basis_law.proofs.Verdicts.{gives_solution, gives_farkas, not_both}
use Rattle.linear_simplex_law.specs.Chain.{IsChain, IsStrictStep, EndsWithin}
use Rattle.linear_simplex_law.proofs.Steps.{last_basis, last_standing, short, goes_on}
use Rattle.quad_solve_law.specs.Walk.{IsSolvedWithin, IsRefutedWithin, IsDecidedWithin}

module _ (p : linear.Problem) where
  -- ---- a basis is zero-cost, or final, or neither

  abbrev Costs : Tableau → ℕ → Type 0
  Costs b k = (p.given ≤ slice_index_or b.columns k 0) × ¬ (entry (point p b) k ≡ zero_ℚ)

  unit_or_given : (a c : ℕ) → (a ≤ c) ⊎ ¬ (a ≤ c)
  unit_or_given a c = by (nat_lt c a) refl
    where
      by : (t : Bool) → nat_lt c a ≡ t → (a ≤ c) ⊎ ¬ (a ≤ c)
      by true e = inr (λ l. grind (arith, nat_tests))
      by false e = inl (grind (arith, nat_tests))

  costs_there : (b : Tableau) (k : ℕ) → Costs b k ⊎ (p.given ≤ slice_index_or b.columns k 0 → entry (point p b) k ≡ zero_ℚ)
  costs_there b k = by (unit_or_given p.given (slice_index_or b.columns k 0)) (same_fields (entry (point p b) k) zero_ℚ) refl
    where
      by : (p.given ≤ slice_index_or b.columns k 0) ⊎ ¬ (p.given ≤ slice_index_or b.columns k 0) → (t : Bool) → same_fields (entry (point p b) k) zero_ℚ ≡ t
          → Costs b k ⊎ (p.given ≤ slice_index_or b.columns k 0 → entry (point p b) k ≡ zero_ℚ)
      by s true e = inr (λ l. same_fields_lem (entry (point p b) k) zero_ℚ e)
      by (inr n) false e = inr (λ l. absurd (n l))
      by (inl l) false e = inl (l, differ_of_same_fields (entry (point p b) k) zero_ℚ e)

  abbrev CostsBelow : Tableau → ℕ → Type 0
  CostsBelow b c = ((k : ℕ) → k < c → p.given ≤ slice_index_or b.columns k 0 → entry (point p b) k ≡ zero_ℚ) ⊎ ((k : ℕ) × (k < c) × Costs b k)

  search_costs : (b : Tableau) (c : ℕ) → CostsBelow b c
  search_costs b zero = inl (λ k h l. absurd (omega arith))
  search_costs b (suc c) = by (search_costs b c) (costs_there b c)
    where
      last : (k : ℕ) → k < suc c → (k < c) ⊎ (k ≡ c)
      last k h = grind arith

      by : CostsBelow b c → Costs b c ⊎ (p.given ≤ slice_index_or b.columns c 0 → entry (point p b) c ≡ zero_ℚ) → CostsBelow b (suc c)
      by (inr r) s = let l = r.1 in inr (r.0, omega arith, r.2)
      by (inl n) (inl u) = inr (c, omega arith, u)
      by (inl n) (inr u) = inl (λ k h l. ⊎_elim (λ a. n k a l) (λ e. there k e l) (last k h))
        where
          there : (k : ℕ) → k ≡ c → p.given ≤ slice_index_or b.columns k 0 → entry (point p b) k ≡ zero_ℚ
          there k e = subst (λ (i : ℕ). p.given ≤ slice_index_or b.columns i 0 → entry (point p b) i ≡ zero_ℚ) (sym e) u

  abbrev FallsBelow : Tableau → ℕ → Type 0
  FallsBelow b c = ((j : ℕ) → j < c → ¬ (price p b j <ℚ zero_ℚ)) ⊎ ((j : ℕ) × (j < c) × (price p b j <ℚ zero_ℚ))

  search_prices : (b : Tableau) (c : ℕ) → FallsBelow b c
  search_prices b zero = inl (λ j h. absurd (omega arith))
  search_prices b (suc c) = by (search_prices b c) (le_or_lt zero_ℚ (price p b c))
    where
      last : (k : ℕ) → k < suc c → (k < c) ⊎ (k ≡ c)
      last k h = grind arith

      by : FallsBelow b c → (zero_ℚ ≤ℚ price p b c) ⊎ (price p b c <ℚ zero_ℚ) → FallsBelow b (suc c)
      by (inr r) u = let l = r.1 in inr (r.0, omega arith, r.2)
      by (inl n) (inl u) = inl (λ j h. ⊎_elim (n j) (λ e f. not-le_of_lt (subst (λ j. price p b j <ℚ zero_ℚ) e f) u) (last j h))
      by (inl n) (inr u) = inr (c, omega arith, u)

  abbrev Kind : Tableau → Type 0
  Kind b = IsZeroCost p b ⊎ (IsFinal p b ⊎ (¬ (IsZeroCost p b) × ¬ (IsFinal p b)))

  kind : (b : Tableau) → Kind b
  kind b = by (search_costs b (linear.height p))
    where
      priced : ¬ (IsZeroCost p b) → Kind b
      priced n = ⊎_elim (λ a. inr (inl (record { costs = n; prices = a }))) (λ r. inr (inr (n, λ f. f.prices r.0 r.1 r.2))) (search_prices b p.given)

      by : CostsBelow b (linear.height p) → Kind b
      by (inl h) = inl h
      by (inr r) = priced (λ z. r.2.1 (z r.0 r.1 r.2.0))

  -- ---- some chain ends

  module _ (problem : linear.IsProblem p) where
    ended_or_goes_on : (b : Tableau) (earlier : List Tableau) → IsChain p (b ∷ earlier) → ((budget : ℕ) × IsDecidedWithin p budget) ⊎ ((c : Tableau) × IsStrictStep p b c)
    ended_or_goes_on b earlier chain = ⊎_elim
        (λ z. inl (length earlier, inl (solution_of p b, record { basis = b; ends = here; zero_cost = z; solution = refl })))
        (λ r. ⊎_elim (λ f. inl (length earlier, inr (farkas_of p b, record { basis = b; ends = here; final = f; farkas = refl })))
        (λ n. inr (goes_on p problem b (last_basis p b earlier chain) (last_standing p problem b earlier chain) n.0 n.1)) r)
        (kind b)
      where
        here : EndsWithin p (length earlier) b
        here = record { earlier = earlier; chain = chain; count = omega arith }

    ends_by : (fuel : ℕ) (b : Tableau) (earlier : List Tableau) → IsChain p (b ∷ earlier) → 2 ^ linear.width p ≤ fuel + length (b ∷ earlier) → (budget : ℕ) × IsDecidedWithin p budget
    ends_by zero b earlier chain room = ⊎_elim (λ e. e)
        (λ s. absurd (full (2 ^ linear.width p) (length (b ∷ earlier)) room (short p (s.0 ∷ b ∷ earlier) (s.1, chain)))) (ended_or_goes_on b earlier chain)
      where
        full : (w k : ℕ) → w ≤ 0 + k → suc k ≤ w → ⊥
        full w k h l = omega (arith, h, l)
    ends_by (suc fuel) b earlier chain room = ⊎_elim (λ e. e)
        (λ s. ends_by fuel s.0 (b ∷ earlier) (s.1, chain) (next (2 ^ linear.width p) fuel (length (b ∷ earlier)) room)) (ended_or_goes_on b earlier chain)
      where
        next : (w f k : ℕ) → w ≤ suc f + k → w ≤ f + suc k
        next w f k h = omega (arith, h)

    pub some_end : (budget : ℕ) × IsDecidedWithin p budget
    some_end = ends_by (2 ^ linear.width p) (unit_basis p) [] refl (room (2 ^ linear.width p) 1)
      where
        room : (w k : ℕ) → w ≤ w + k
        room w k = omega arith

    -- ---- what it ends at

    pub solved_is_solution : (budget : ℕ) (x : List ℚ) → IsSolvedWithin p budget x → linear.IsSolution p x
    solved_is_solution budget x h =
        let b = h.basis in let e = h.ends in
        subst (linear.IsSolution p) (sym h.solution) (gives_solution p b (last_basis p b e.earlier e.chain) (last_standing p problem b e.earlier e.chain) problem h.zero_cost)

    pub refuted_is_farkas : (budget : ℕ) (y : List ℚ) → IsRefutedWithin p budget y → linear.IsFarkas p y
    refuted_is_farkas budget y h =
        let b = h.basis in let e = h.ends in
        subst (linear.IsFarkas p) (sym h.farkas) (gives_farkas p b (last_basis p b e.earlier e.chain) (last_standing p problem b e.earlier e.chain) problem h.final)

    pub not_both_ends : (one other : ℕ) (x y : List ℚ) → IsSolvedWithin p one x → IsRefutedWithin p other y → ⊥
    not_both_ends one other x y h k = not_both p x y problem (solved_is_solution one x h) (refuted_is_farkas other y k)
