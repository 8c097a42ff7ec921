-- Chains of bases: the lexicographic simplex method, as a relation. A chain begins with the unit columns and goes from basis to basis by
-- strict steps, until it comes to one that costs nothing or to one that shows that there is none.
use Rattle.std.specs.Prelude.{◌≡◌, ℕ, zero, ◌<◌, ◌≤◌, List, [], ◌∷◌, length, slice_set}
use Rattle.rational.specs.Rational.{zero_ℚ}
use Rattle.rational.specs.Order.{◌<ℚ◌}
use Rattle.linear_basis_law.specs.Problem.{Problem, height}
use Rattle.linear_basis_law.specs.Lexicographic.{IsLexBelow}
use Rattle.linear_basis_law.specs.Basis.{Tableau, IsBasis, IsStanding, IsZeroCost, IsFinal, price, level, unit_basis}

-- column j is the first of M with a price below 0
pub record IsEntering (p : Problem) (b : Tableau) (j : ℕ) : Type 0 where
  pub given : j < p.given
  pub falling : price p b j <ℚ zero_ℚ
  pub first : (i : ℕ) → i < j → ¬ (price p b i <ℚ zero_ℚ)

-- a strict step from a basis that is not zero-cost: the first column of M with a price below 0 takes the place of one column, the new
-- basis is standing, and its level is lexicographically below
pub record IsStrictStep (p : Problem) (before after : Tableau) : Type 0 where
  pub costs : ¬ (IsZeroCost p before)
  pub enter : ℕ
  pub leave : ℕ
  pub entering : IsEntering p before enter
  pub place : leave < height p
  pub columns : after.columns ≡ slice_set before.columns leave enter
  pub basis : IsBasis p after
  pub standing : IsStanding p after
  pub falls : IsLexBelow (level p after) (level p before)

-- a chain, the newest basis first
abbrev pub IsChain : Problem → List Tableau → Type 0
IsChain p [] = ⊥
IsChain p (b ∷ []) = b ≡ unit_basis p
IsChain p (b ∷ c ∷ bs) = IsStrictStep p c b × IsChain p (c ∷ bs)

-- how many strict steps a chain has
abbrev pub strict_steps : List Tableau → ℕ
strict_steps [] = zero
strict_steps (b ∷ bs) = length bs

-- a chain ends at b, with so many strict steps
pub record EndsChain (p : Problem) (steps : ℕ) (b : Tableau) : Type 0 where
  pub earlier : List Tableau
  pub chain : IsChain p (b ∷ earlier)
  pub count : strict_steps (b ∷ earlier) ≡ steps

-- a chain ends at b, with at most so many strict steps
pub record EndsWithin (p : Problem) (budget : ℕ) (b : Tableau) : Type 0 where
  pub earlier : List Tableau
  pub chain : IsChain p (b ∷ earlier)
  pub count : strict_steps (b ∷ earlier) ≤ budget

-- a chain has used up its budget at b, and would go on
pub record IsSpent (p : Problem) (budget : ℕ) (b : Tableau) : Type 0 where
  pub ends : EndsChain p budget b
  pub costs : ¬ (IsZeroCost p b)
  pub goes_on : ¬ (IsFinal p b)
