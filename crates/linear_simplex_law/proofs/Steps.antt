-- The laws of chains.
use Rattle.std.proofs.Common.{inl, inr, ⊎_elim, ◌≡◌, ◌≢◌, refl, sym, subst, ℕ, zero, suc, ◌+◌, ◌<◌, ◌≤◌, ◌⊎◌, List, [], ◌∷◌, length, arith, map}
use Rattle.std.specs.Prelude.{◌^◌, All, AllPairs}
use Rattle.std.specs.List.{AllByRecursion}
use Rattle.std.proofs.lemmas.List.Elements.{All-nil, All-cons, All-weaker, recursion_from_All}
use Rattle.std.proofs.lemmas.List.Kept.{AllPairs-cons}
use Rattle.rational.specs.Rational.{zero_ℚ}
use Rattle.rational.specs.Order.{◌<ℚ◌, ◌≤ℚ◌}
use Rattle.rational.proofs.Order.{le_or_lt}
use Rattle.rational.proofs.OrderLaws.{not-le_of_lt}
use Rattle.linear_basis_law.specs.Problem.{Problem, IsProblem, width}
use Rattle.linear_basis_law.specs.Lexicographic.{IsLexBelow}
use Rattle.linear_basis_law.specs.Basis.{Tableau, IsBasis, IsStanding, IsZeroCost, IsFinal, HasSameColumns, price, level}
use Rattle.linear_basis_law.specs.Exchange.{IsLeaving, exchanged}
use Rattle.linear_basis_law.proofs.Bases.{length-mapped, same_level}
use Rattle.linear_basis_law.proofs.Changes.{exchange_basis}
use Rattle.linear_basis_law.proofs.Leaving.{some_place, stays_standing, level_falls}
use Rattle.linear_basis_law.proofs.Units.{units_basis, units_standing}
use Rattle.linear_basis_law.proofs.Lexicographic.{below_trans, below_irrefl}
use Rattle.rational.proofs.OrderLaws.{ne_of_lt}
use Rattle.linear_simplex_law.specs.Chain.{IsEntering, IsStrictStep, IsChain, IsSpent}
use Rattle.linear_simplex_law.proofs.Sets.{code, code_below, same_sets, few, AreDistinct, AreBelow}

module _ (p : Problem) where
  -- ---- what stands in a chain

  pub last_basis : (b : Tableau) (bs : List Tableau) → IsChain p (b ∷ bs) → IsBasis p b
  last_basis b [] h = subst (IsBasis p) (sym h) (units_basis p)
  last_basis b (c ∷ bs) h = h.0.basis

  pub last_standing : IsProblem p → (b : Tableau) (bs : List Tableau) → IsChain p (b ∷ bs) → IsStanding p b
  last_standing problem b [] h = subst (IsStanding p) (sym h) (units_standing p problem)
  last_standing problem b (c ∷ bs) h = h.0.standing

  pub all_bases : (bs : List Tableau) → IsChain p bs → All (IsBasis p) bs
  all_bases [] h = absurd h
  all_bases (b ∷ []) h = All-cons (IsBasis p) b [] (last_basis b [] h) (All-nil (IsBasis p))
  all_bases (b ∷ c ∷ bs) h = All-cons (IsBasis p) b (c ∷ bs) h.0.basis (all_bases (c ∷ bs) h.1)

  pub all_standing : IsProblem p → (bs : List Tableau) → IsChain p bs → All (IsStanding p) bs
  all_standing problem [] h = absurd h
  all_standing problem (b ∷ []) h = All-cons (IsStanding p) b [] (last_standing problem b [] h) (All-nil (IsStanding p))
  all_standing problem (b ∷ c ∷ bs) h = All-cons (IsStanding p) b (c ∷ bs) h.0.standing (all_standing problem (c ∷ bs) h.1)

  -- none but the last is zero-cost
  pub earlier_cost : (b : Tableau) (bs : List Tableau) → IsChain p (b ∷ bs) → All (λ c. ¬ (IsZeroCost p c)) bs
  earlier_cost b [] h = All-nil (λ c. ¬ (IsZeroCost p c))
  earlier_cost b (c ∷ bs) h = All-cons (λ c. ¬ (IsZeroCost p c)) c bs h.0.costs (earlier_cost c bs h.1)

  -- ---- the levels fall

  abbrev Lower : Tableau → Tableau → Type 0
  Lower b c = IsLexBelow (level p b) (level p c)

  later_lower : (b : Tableau) (bs : List Tableau) → IsChain p (b ∷ bs) → All (Lower b) bs
  later_lower b [] h = All-nil (Lower b)
  later_lower b (c ∷ bs) h =
      All-cons (Lower b) c bs h.0.falls
      (All-weaker (Lower c) (Lower b) (λ d l. below_trans (level p b) (level p c) (level p d) h.0.falls l) bs (later_lower c bs h.1))

  pub levels_fall : (bs : List Tableau) → IsChain p bs → AllPairs Lower bs
  levels_fall [] h = absurd h
  levels_fall (b ∷ []) h = λ i j d l m. absurd (omega arith)
  levels_fall (b ∷ c ∷ bs) h = AllPairs-cons Lower b (c ∷ bs) (later_lower b (c ∷ bs) h) (levels_fall (c ∷ bs) h.1)

  -- so the bases differ as sets
  abbrev Differ : Tableau → Tableau → Type 0
  Differ b c = ¬ (HasSameColumns b c)

  differ : (b c : Tableau) → IsBasis p b → IsBasis p c → Lower b c → Differ b c
  differ b c h k l same = below_irrefl (level p c) (subst (λ v. IsLexBelow v (level p c)) (same_level p b c h k same) l)

  later_differ : (b : Tableau) → IsBasis p b → (bs : List Tableau) → All (IsBasis p) bs → All (Lower b) bs → All (Differ b) bs
  later_differ b h bs k l = λ i d n. differ b _ h (k i d n) (l i d n)

  pub bases_differ : (bs : List Tableau) → IsChain p bs → AllPairs Differ bs
  bases_differ [] h = absurd h
  bases_differ (b ∷ []) h = λ i j d l m. absurd (omega arith)
  bases_differ (b ∷ c ∷ bs) h =
      AllPairs-cons Differ b (c ∷ bs) (later_differ b h.0.basis (c ∷ bs) (all_bases (c ∷ bs) h.1) (later_lower b (c ∷ bs) h)) (bases_differ (c ∷ bs) h.1)

  -- ---- how many there are

  abbrev number : Tableau → ℕ
  number b = code (width p) b.columns

  avoids : (b : Tableau) → IsBasis p b → (bs : List Tableau) → AllByRecursion (IsBasis p) bs → AllByRecursion (Differ b) bs → AllByRecursion (λ x. x ≢ number b) (map number bs)
  avoids b h [] k d = tt
  avoids b h (c ∷ bs) k d =
      ((λ e. d.0 (same_sets (width p) b.columns c.columns h.within k.0.within (sym e))), avoids b h bs k.1 d.1)

  numbers_distinct : (bs : List Tableau) → IsChain p bs → AreDistinct (map number bs)
  numbers_distinct [] h = absurd h
  numbers_distinct (b ∷ []) h = (tt, tt)
  numbers_distinct (b ∷ c ∷ bs) h = (
    avoids b h.0.basis (c ∷ bs) (recursion_from_All (IsBasis p) (c ∷ bs) (all_bases (c ∷ bs) h.1))
        (recursion_from_All (Differ b) (c ∷ bs) (later_differ b h.0.basis (c ∷ bs) (all_bases (c ∷ bs) h.1) (later_lower b (c ∷ bs) h))),
    numbers_distinct (c ∷ bs) h.1,
  )

  numbers_below : (bs : List Tableau) → AreBelow (2 ^ width p) (map number bs)
  numbers_below [] = tt
  numbers_below (b ∷ bs) = (code_below (width p) b.columns, numbers_below bs)

  pub short : (bs : List Tableau) → IsChain p bs → length bs ≤ 2 ^ width p
  short bs h = subst (λ k. k ≤ 2 ^ width p) (length-mapped number bs) (few (2 ^ width p) (map number bs) (numbers_distinct bs h) (numbers_below bs))

  -- ---- a chain goes on

  abbrev Found : Tableau → ℕ → Type 0
  Found b c = ((j : ℕ) → j < c → ¬ (price p b j <ℚ zero_ℚ)) ⊎ ((j : ℕ) × (j < c) × (price p b j <ℚ zero_ℚ) × ((i : ℕ) → i < j → ¬ (price p b i <ℚ zero_ℚ)))

  search_first : (b : Tableau) (c : ℕ) → Found b c
  search_first b zero = inl (λ j h. absurd (omega arith))
  search_first b (suc c) = by (search_first b c) (le_or_lt zero_ℚ (price p b c))
    where
      last : (k : ℕ) → k < suc c → (k < c) ⊎ (k ≡ c)
      last k h = grind arith

      by : Found b c → (zero_ℚ ≤ℚ price p b c) ⊎ (price p b c <ℚ zero_ℚ) → Found b (suc c)
      by (inr r) u = let l = r.1 in inr (r.0, omega arith, r.2, r.3)
      by (inl n) (inl u) = inl (λ j h. ⊎_elim (n j) (λ e f. not-le_of_lt (subst (λ j. price p b j <ℚ zero_ℚ) e f) u) (last j h))
      by (inl n) (inr u) = inr (c, omega arith, u, n)

  pub some_entering : (b : Tableau) → ¬ (IsZeroCost p b) → ¬ (IsFinal p b) → (j : ℕ) × IsEntering p b j
  some_entering b costs goes_on = by (search_first b p.given)
    where
      by : Found b p.given → (j : ℕ) × IsEntering p b j
      by (inl n) = absurd (goes_on (record { costs = costs; prices = n }))
      by (inr r) = (r.0, record { given = r.1; falling = r.2; first = r.3 })

  module _ (problem : IsProblem p) where
    -- the exchange by the ratio rule is a strict step
    pub ratio_steps : (b : Tableau) (j l : ℕ) → IsBasis p b → IsStanding p b → ¬ (IsZeroCost p b) → IsEntering p b j → IsLeaving p b j l → IsStrictStep p b (exchanged p b j l)
    ratio_steps b j l h standing costs entering leaving =
        let within : j < width p = let g = entering.given in omega arith in
        record {
          costs = costs;
          enter = j;
          leave = l;
          entering = entering;
          place = leaving.place;
          columns = refl;
          basis = exchange_basis p b problem h j l within leaving.place (ne_of_lt leaving.positive);
          standing = stays_standing p b h j problem within l leaving standing;
          falls = level_falls p b h j problem within l leaving standing entering.falling;
        }

    pub goes_on : (b : Tableau) → IsBasis p b → IsStanding p b → ¬ (IsZeroCost p b) → ¬ (IsFinal p b) → (c : Tableau) × IsStrictStep p b c
    goes_on b h standing costs more =
        let e = some_entering b costs more in
        let l = some_place p b h e.0 e.1.given e.1.falling in
        (exchanged p b e.0 l.0, ratio_steps b e.0 l.0 h standing costs e.1 l.1)

    pub spent_short : (budget : ℕ) (b : Tableau) → IsSpent p budget b → budget + 2 ≤ 2 ^ width p
    spent_short budget b s =
        let bs = s.ends.earlier in
        let n = goes_on b (last_basis b bs s.ends.chain) (last_standing problem b bs s.ends.chain) s.costs s.goes_on in
        count (2 ^ width p) budget (length bs) s.ends.count (short (n.0 ∷ b ∷ bs) (n.1, s.ends.chain))
      where
        count : (w k n : ℕ) → n ≡ k → suc (suc n) ≤ w → k + 2 ≤ w
        count w k n e h = omega (arith, e)
