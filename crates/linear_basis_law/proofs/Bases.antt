-- A basis of a problem: what its point and its multipliers give.
use Rattle.std.proofs.Common.{inl, inr, ◌≡◌, refl, sym, ◌∙◌, ap, ℕ, zero, suc, ◌<◌, ◌≤◌, ◌-◌, List, [], ◌∷◌, length, arith, map}
use Rattle.std.specs.Prelude.{◌⊎◌, Contains, slice_index_or, nat_lt, Bool, true, false}
use Rattle.std.proofs.lemmas.Bool.Decides.{nat_tests}
use Rattle.std.proofs.lemmas.List.Elements.{Contains-get_or}
use Rattle.algebra.proofs.Polynomial.{◌≐◌, ◌⊝◌, lit}
use Rattle.algebra.proofs.Solver.{ring}
use Rattle.rational.specs.Rational.{ℚ, zero_ℚ, one_ℚ, ◌-ℚ◌}
use Rattle.rational.specs.Sums.{entry}
use Rattle.rational.specs.Vectors.{dot, unit_vector, rows_dot, combine, column, row_at}
use Rattle.rational.proofs.Field.{rationals}
use Rattle.rational.proofs.Vectors.{length-combine, length-rows_dot, length-unit_vector, length-column, dot_comm, same_by_entries, entry-rows_dot}
use Rattle.linear_basis_law.specs.Problem.{Problem, IsProblem, height, column_of, cost_of}
use Rattle.linear_basis_law.specs.Basis.{Tableau, IsBasis, basic_columns, basic_costs, point, multipliers, price, level, HasSameColumns}
use Rattle.linear_basis_law.proofs.Inverses.{multipliers_cost, multipliers_only}

pub length-mapped : {X Y : Type 0} (f : X → Y) (xs : List X) → length (map f xs) ≡ length xs
length-mapped f [] = refl
length-mapped f (x ∷ xs) = ap suc (length-mapped f xs)

-- the columns of M are those below n, and the unit columns the others
pub column_of-given : (p : Problem) (j : ℕ) → j < p.given → column_of p j ≡ column j p.rows
column_of-given p j h = by (nat_lt j p.given) refl
  where
    by : (b : Bool) → nat_lt j p.given ≡ b → column_of p j ≡ column j p.rows
    by true e = rw e refl
    by false e = absurd (grind (arith, nat_tests))

pub column_of-unit : (p : Problem) (j : ℕ) → p.given ≤ j → column_of p j ≡ unit_vector (height p) (j - p.given)
column_of-unit p j h = by (nat_lt j p.given) refl
  where
    by : (b : Bool) → nat_lt j p.given ≡ b → column_of p j ≡ unit_vector (height p) (j - p.given)
    by true e = absurd (grind (arith, nat_tests))
    by false e = rw e refl

pub cost_of-given : (p : Problem) (j : ℕ) → j < p.given → cost_of p j ≡ zero_ℚ
cost_of-given p j h = by (nat_lt j p.given) refl
  where
    by : (b : Bool) → nat_lt j p.given ≡ b → cost_of p j ≡ zero_ℚ
    by true e = rw e refl
    by false e = absurd (grind (arith, nat_tests))

pub cost_of-unit : (p : Problem) (j : ℕ) → p.given ≤ j → cost_of p j ≡ one_ℚ
cost_of-unit p j h = by (nat_lt j p.given) refl
  where
    by : (b : Bool) → nat_lt j p.given ≡ b → cost_of p j ≡ one_ℚ
    by true e = absurd (grind (arith, nat_tests))
    by false e = rw e refl

pub given_or_unit : (p : Problem) (j : ℕ) → (p.given ≤ j) ⊎ (j < p.given)
given_or_unit p j = by (nat_lt j p.given) refl
  where
    by : (b : Bool) → nat_lt j p.given ≡ b → (p.given ≤ j) ⊎ (j < p.given)
    by true e = inr (grind (arith, nat_tests))
    by false e = inl (grind (arith, nat_tests))

pub length-column_of : (p : Problem) (j : ℕ) → IsProblem p → length (column_of p j) ≡ height p
length-column_of p j h = by (nat_lt j p.given) refl
  where
    by : (b : Bool) → nat_lt j p.given ≡ b → length (column_of p j) ≡ height p
    by true e = rw e (length-column j p.rows ∙ h.rows)
    by false e = rw e (length-unit_vector (height p) (j - p.given))

pub row_at-map : {X : Type 0} (f : X → List ℚ) (xs : List X) (k : ℕ) (d : X) → k < length xs → row_at (map f xs) k ≡ f (slice_index_or xs k d)
row_at-map f [] k d h = absurd (omega arith)
row_at-map f (x ∷ xs) zero d h = refl
row_at-map f (x ∷ xs) (suc k) d h = row_at-map f xs k d (omega arith)

pub entry-map : {X : Type 0} (f : X → ℚ) (xs : List X) (k : ℕ) (d : X) → k < length xs → entry (map f xs) k ≡ f (slice_index_or xs k d)
entry-map f [] k d h = absurd (omega arith)
entry-map f (x ∷ xs) zero d h = refl
entry-map f (x ∷ xs) (suc k) d h = entry-map f xs k d (omega arith)

module _ (p : Problem) (b : Tableau) (h : IsBasis p b) where
  pub size : length b.columns ≡ height p
  size = sym (length-mapped (column_of p) b.columns) ∙ h.inverse.columns

  pub costs_size : length (basic_costs p b) ≡ height p
  costs_size = length-mapped (cost_of p) b.columns ∙ size

  pub multipliers_size : length (multipliers p b) ≡ height p
  multipliers_size = length-combine (height p) (basic_costs p b) b.inverse h.inverse.widths

  pub point_size : length (point p b) ≡ height p
  point_size = length-rows_dot b.inverse p.right ∙ h.inverse.rows

  -- the multipliers give each basic column its cost
  pub basic_cost : (j : ℕ) → Contains b.columns j → dot (multipliers p b) (column_of p j) ≡ cost_of p j
  basic_cost j c =
      ap (dot (multipliers p b)) (sym (row_at-map (column_of p) b.columns c.0 j c.1 ∙ ap (column_of p) c.2))
      ∙ multipliers_cost (height p) (basic_columns p b) b.inverse h.inverse (basic_costs p b) c.0 costs_size (omega (arith, c.1, size))
      ∙ entry-map (cost_of p) b.columns c.0 j c.1 ∙ ap (cost_of p) c.2

  pub basic_price : (j : ℕ) → Contains b.columns j → price p b j ≡ zero_ℚ
  basic_price j c = ap (λ s. cost_of p j -ℚ s) (basic_cost j c) ∙ ring rationals (cost_of p j ∷ []) (λ c. c ⊝ c ≐ lit 0) refl

  -- the values sum the basic columns to r
  pub point_sums : combine (height p) (point p b) (basic_columns p b) ≡ p.right
  point_sums = h.inverse.spans p.right refl

  -- no other multipliers give these costs
  pub only_multipliers : (y : List ℚ) → length y ≡ height p → ((j : ℕ) → Contains b.columns j → dot y (column_of p j) ≡ cost_of p j) → y ≡ multipliers p b
  only_multipliers y e f =
      multipliers_only (height p) (basic_columns p b) b.inverse h.inverse (basic_costs p b) y e
      (same_by_entries _ _ (length-rows_dot (basic_columns p b) y ∙ h.inverse.columns ∙ sym costs_size)
      (λ k l. at k (omega (arith, l, length-rows_dot (basic_columns p b) y, h.inverse.columns, size))))
    where
      at : (k : ℕ) → k < length b.columns → entry (rows_dot (basic_columns p b) y) k ≡ entry (basic_costs p b) k
      at k l =
          let j = slice_index_or b.columns k 0 in
          entry-rows_dot (basic_columns p b) y k ∙ ap (λ u. dot u y) (row_at-map (column_of p) b.columns k 0 l)
          ∙ dot_comm (column_of p j) y ∙ f j (Contains-get_or b.columns k 0 l) ∙ sym (entry-map (cost_of p) b.columns k 0 l)

-- so they depend on the columns as a set alone
pub same_multipliers : (p : Problem) (b c : Tableau) → IsBasis p b → IsBasis p c → HasSameColumns b c → multipliers p b ≡ multipliers p c
same_multipliers p b c h k e =
    only_multipliers p c k (multipliers p b) (multipliers_size p b h) (λ j i. basic_cost p b h j ((e j).1 i))

pub same_level : (p : Problem) (b c : Tableau) → IsBasis p b → IsBasis p c → HasSameColumns b c → level p b ≡ level p c
same_level p b c h k e = ap (λ y. dot y p.right ∷ y) (same_multipliers p b c h k e)
