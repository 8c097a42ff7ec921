-- A problem has one end, and within a budget either that end or one basis at which the budget is used up.
use Rattle.std.proofs.Common.{◌≡◌, sym, ◌∙◌, ap, subst, ℕ, ◌<◌, ◌≤◌, ◌⊎◌, inl, inr, List, [], ◌∷◌, length, suc, arith}
use Rattle.rational.specs.Rational.{ℚ}
use Rattle.linear_basis_law.specs.Problem as linear
use Rattle.linear_basis_law.specs.Basis.{Tableau, IsZeroCost, IsFinal, solution_of, farkas_of}
use Rattle.linear_simplex_law.specs.Chain.{IsChain, IsStrictStep, IsSpent}
use Rattle.linear_simplex_law.proofs.OneChain.{one_chain}
use Rattle.quad_solve_law.specs.Walk.{IsSolvedWithin, IsRefutedWithin, IsDecidedWithin}
use Rattle.quad_solve_law.proofs.Decided.{some_end}

pub order : (i j : ℕ) → (i ≡ j) ⊎ (i < j) ⊎ (j < i)
order i j = grind arith

module _ (p : linear.Problem) (problem : linear.IsProblem p) where
  Ended : Tableau → Type 0
  Ended b = IsZeroCost p b ⊎ IsFinal p b

  no_step_from : (b c : Tableau) → Ended b → IsStrictStep p b c → ⊥
  unfolding Ended
  no_step_from b c (inl z) step = step.costs z
  no_step_from b c (inr f) step = f.prices step.enter step.entering.given step.entering.falling

  -- a longer chain goes through each basis of the shorter lengths, and on from it
  no_longer : (b : Tableau) (bs : List Tableau) → IsChain p (b ∷ bs) → Ended b → (cs : List Tableau) → IsChain p cs → length (b ∷ bs) < length cs → ⊥
  no_longer b bs h e [] k l = k
  no_longer b bs h e (c ∷ []) k l = absurd (omega arith)
  no_longer b bs h e (c ∷ d ∷ cs) k l = by (order (length (b ∷ bs)) (length (d ∷ cs))) (no_longer b bs h e (d ∷ cs) k.1)
    where
      first : {a b : Tableau} {xs ys : List Tableau} → a ∷ xs ≡ b ∷ ys → a ≡ b
      first e = cc

      by : (length (b ∷ bs) ≡ length (d ∷ cs)) ⊎ (length (b ∷ bs) < length (d ∷ cs)) ⊎ (length (d ∷ cs) < length (b ∷ bs)) → (length (b ∷ bs) < length (d ∷ cs) → ⊥) → ⊥
      by (inl s) later = no_step_from b c e (subst (λ t. IsStrictStep p t c) (sym (first (one_chain p problem (b ∷ bs) (d ∷ cs) h k.1 s))) k.0)
      by (inr (inl m)) later = later m
      by (inr (inr m)) later = absurd (omega arith)

  one_ended : (b c : Tableau) (bs cs : List Tableau) → IsChain p (b ∷ bs) → IsChain p (c ∷ cs) → Ended b → Ended c → b ≡ c
  one_ended b c bs cs h k d e = by (order (length (b ∷ bs)) (length (c ∷ cs)))
    where
      first : {a b : Tableau} {xs ys : List Tableau} → a ∷ xs ≡ b ∷ ys → a ≡ b
      first e = cc

      by : (length (b ∷ bs) ≡ length (c ∷ cs)) ⊎ (length (b ∷ bs) < length (c ∷ cs)) ⊎ (length (c ∷ cs) < length (b ∷ bs)) → b ≡ c
      by (inl s) = first (one_chain p problem (b ∷ bs) (c ∷ cs) h k s)
      by (inr (inl m)) = absurd (no_longer b bs h d (c ∷ cs) k m)
      by (inr (inr m)) = absurd (no_longer c cs k e (b ∷ bs) h m)

  pub one_solution : (a b : ℕ) (x y : List ℚ) → IsSolvedWithin p a x → IsSolvedWithin p b y → x ≡ y
  unfolding Ended
  one_solution a b x y h k =
      h.solution ∙ ap (solution_of p) (one_ended h.basis k.basis h.ends.earlier k.ends.earlier h.ends.chain k.ends.chain (inl h.zero_cost) (inl k.zero_cost)) ∙ sym k.solution

  pub one_farkas : (a b : ℕ) (x y : List ℚ) → IsRefutedWithin p a x → IsRefutedWithin p b y → x ≡ y
  unfolding Ended
  one_farkas a b x y h k =
      h.farkas ∙ ap (farkas_of p) (one_ended h.basis k.basis h.ends.earlier k.ends.earlier h.ends.chain k.ends.chain (inr h.final) (inr k.final)) ∙ sym k.farkas

  -- ---- within a budget

  -- a chain with as many strict steps as the budget has ended where some chain within the budget has
  ends_there : (budget : ℕ) (e : Tableau) (es : List Tableau) → IsChain p (e ∷ es) → Ended e → length es ≤ budget → (b : Tableau) (bs : List Tableau) → IsChain p (b ∷ bs) → budget ≤ length bs → Ended b
  ends_there budget e es k end few b bs h many = by (order (length (e ∷ es)) (length (b ∷ bs)))
    where
      first : {a b : Tableau} {xs ys : List Tableau} → a ∷ xs ≡ b ∷ ys → a ≡ b
      first e = cc

      by : (length (e ∷ es) ≡ length (b ∷ bs)) ⊎ (length (e ∷ es) < length (b ∷ bs)) ⊎ (length (b ∷ bs) < length (e ∷ es)) → Ended b
      by (inl s) = subst Ended (first (one_chain p problem (e ∷ es) (b ∷ bs) k h s)) end
      by (inr (inl m)) = absurd (no_longer e es k end (b ∷ bs) h m)
      by (inr (inr m)) = absurd (omega (arith, few, many, m))

  pub spent_is_undecided : (budget : ℕ) (b : Tableau) → IsSpent p budget b → IsDecidedWithin p budget → ⊥
  unfolding Ended
  spent_is_undecided budget b h d = by (ended d)
    where
      many : (k : ℕ) → k ≡ budget → budget ≤ k
      many k e = omega (arith, e)

      ended : IsDecidedWithin p budget → Ended b
      ended (inl s) = ends_there budget s.1.basis s.1.ends.earlier s.1.ends.chain (inl s.1.zero_cost) s.1.ends.count b h.ends.earlier h.ends.chain (many (length h.ends.earlier) h.ends.count)
      ended (inr r) = ends_there budget r.1.basis r.1.ends.earlier r.1.ends.chain (inr r.1.final) r.1.ends.count b h.ends.earlier h.ends.chain (many (length h.ends.earlier) h.ends.count)

      by : Ended b → ⊥
      by (inl z) = h.costs z
      by (inr f) = h.goes_on f

  pub one_spent : (budget : ℕ) (b c : Tableau) → IsSpent p budget b → IsSpent p budget c → b ≡ c
  one_spent budget b c h k =
      first (one_chain p problem (b ∷ h.ends.earlier) (c ∷ k.ends.earlier) h.ends.chain k.ends.chain (same (length h.ends.earlier) (length k.ends.earlier) h.ends.count k.ends.count))
    where
      first : {a b : Tableau} {xs ys : List Tableau} → a ∷ xs ≡ b ∷ ys → a ≡ b
      first e = cc

      same : (i j : ℕ) → i ≡ budget → j ≡ budget → suc i ≡ suc j
      same i j e f = omega (arith, e, f)

  -- a longer chain passes a basis at which the budget is used up
  passed : (budget : ℕ) (b : Tableau) (bs : List Tableau) → IsChain p (b ∷ bs) → budget < length bs → (c : Tableau) × IsSpent p budget c
  passed budget b [] h l = absurd (none l)
    where
      none : budget < 0 → ⊥
      none l = omega (arith, l)
  passed budget b (c ∷ cs) h l = by (order (length cs) budget) (passed budget c cs h.1)
    where
      by : (length cs ≡ budget) ⊎ (length cs < budget) ⊎ (budget < length cs) → (budget < length cs → (c : Tableau) × IsSpent p budget c) → (c : Tableau) × IsSpent p budget c
      by (inl e) later = (c, record { ends = record { earlier = cs; chain = h.1; count = e }; costs = h.0.costs; goes_on = λ f. f.prices h.0.enter h.0.entering.given h.0.entering.falling })
      by (inr (inl less)) later = absurd (omega (arith, l, less))
      by (inr (inr more)) later = later more

  short_or_passed : (budget : ℕ) (b : Tableau) (bs : List Tableau) → IsChain p (b ∷ bs) → (length bs ≤ budget) ⊎ ((c : Tableau) × IsSpent p budget c)
  short_or_passed budget b bs h = by (order (length bs) budget)
    where
      by : (length bs ≡ budget) ⊎ (length bs < budget) ⊎ (budget < length bs) → (length bs ≤ budget) ⊎ ((c : Tableau) × IsSpent p budget c)
      by (inl e) = inl (omega (arith, e))
      by (inr (inl less)) = inl (omega (arith, less))
      by (inr (inr more)) = inr (passed budget b bs h more)

  pub decided_or_spent : (budget : ℕ) → IsDecidedWithin p budget ⊎ ((b : Tableau) × IsSpent p budget b)
  decided_or_spent budget = by (some_end p problem).1
    where
      solved : (b : ℕ) (x : List ℚ) (h : IsSolvedWithin p b x) → (length h.ends.earlier ≤ budget) ⊎ ((c : Tableau) × IsSpent p budget c) → IsDecidedWithin p budget ⊎ ((b : Tableau) × IsSpent p budget b)
      solved b x h (inl few) = inl (inl (x, record { basis = h.basis; ends = record { earlier = h.ends.earlier; chain = h.ends.chain; count = few }; zero_cost = h.zero_cost; solution = h.solution }))
      solved b x h (inr s) = inr s

      refuted : (b : ℕ) (y : List ℚ) (h : IsRefutedWithin p b y) → (length h.ends.earlier ≤ budget) ⊎ ((c : Tableau) × IsSpent p budget c) → IsDecidedWithin p budget ⊎ ((b : Tableau) × IsSpent p budget b)
      refuted b y h (inl few) = inl (inr (y, record { basis = h.basis; ends = record { earlier = h.ends.earlier; chain = h.ends.chain; count = few }; final = h.final; farkas = h.farkas }))
      refuted b y h (inr s) = inr s

      by : IsDecidedWithin p (some_end p problem).0 → IsDecidedWithin p budget ⊎ ((b : Tableau) × IsSpent p budget b)
      by (inl s) = solved (some_end p problem).0 s.0 s.1 (short_or_passed budget s.1.basis s.1.ends.earlier s.1.ends.chain)
      by (inr r) = refuted (some_end p problem).0 r.0 r.1 (short_or_passed budget r.1.basis r.1.ends.earlier r.1.ends.chain)
