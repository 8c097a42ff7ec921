-- What a zero-cost basis and a final one say of the problem.
use Rattle.std.proofs.Common.{inl, inr, ⊎_elim, ◌≡◌, ◌≢◌, refl, sym, subst, ◌∙◌, ap, ℕ, zero, suc, ◌<◌, ◌≤◌, ◌⊎◌, List, [], ◌∷◌, length, arith, map}
use Rattle.std.specs.Prelude.{slice_index_or}
use Rattle.std.proofs.lemmas.List.Elements.{All-get_or, All-from_get_or}
use Rattle.algebra.proofs.Ring as laws
use Rattle.algebra.proofs.Polynomial.{minus, ◌⊕◌, ◌⊗◌, ◌⊝◌, ◌≐◌, ◌≼◌, ◌≺◌, lit}
use Rattle.algebra.proofs.Solver.{ring}
use Rattle.algebra.proofs.Certificate.{prove, given, scaled, ◌⊞◌, ◌⊠◌, ◌⇐◌}
use Rattle.rational.specs.Rational.{ℚ, zero_ℚ, one_ℚ, ◌+ℚ◌, ◌*ℚ◌, neg_ℚ}
use Rattle.rational.specs.Order.{◌≤ℚ◌, ◌<ℚ◌}
use Rattle.rational.specs.Sums.{entry}
use Rattle.rational.specs.Vectors.{dot, scale, unit_vector, rows_dot, combine, column, row_at, put_at, HasColumns}
use Rattle.rational.proofs.Field.{rationals}
use Rattle.rational.proofs.Order.{ordered_rationals, le_or_lt, le_refl, le_antisymm}
use Rattle.rational.proofs.OrderLaws.{not-le_of_lt, le_of_eq}
use Rattle.rational.proofs.Vectors.{length-rows_dot, length-combine, length-unit_vector, length-scale, length-add_each, dot_comm, dot-nil_right, dot-zeros_right, dot-unit_vector, dot-add_scale_right, dot-scale_left, dot-add_left, transpose, same_by_dot, entry-combine, entry-zeros, entry-add_each, entry-scale, entry-unit_vector_same, entry-unit_vector_other}
use Rattle.rational.proofs.Supports.{length-put_at}
use Rattle.elimination_law.proofs.Vectors.{length-right_beside}
use Rattle.linear_basis_law.specs.Problem.{Problem, IsProblem, height, column_of, cost_of, IsSolution, IsFarkas}
use Rattle.linear_basis_law.specs.Lexicographic.{IsLexPositive}
use Rattle.linear_basis_law.specs.Basis.{Tableau, IsBasis, IsStanding, basic_columns, basic_costs, point, multipliers, price, tableau_rows, IsZeroCost, IsFinal, solution_of, farkas_of}
use Rattle.linear_basis_law.proofs.Places.{same_or_other, row_at-beside}
use Rattle.linear_basis_law.proofs.Inverses.{dot-multipliers}
use Rattle.linear_basis_law.proofs.Bases.{size, costs_size, point_size, multipliers_size, cost_of-given, cost_of-unit, column_of-given, given_or_unit, entry-map, point_sums}
use Rattle.linear_basis_law.proofs.Leaving.{All-row_at, basic_costs_nonneg}

-- ---- sums of terms that are not below 0

pub dot-zero : (c x : List ℚ) → ((k : ℕ) → k < length x → entry c k *ℚ entry x k ≡ zero_ℚ) → dot c x ≡ zero_ℚ
dot-zero [] x h = refl
dot-zero (a ∷ c) [] h = refl
dot-zero (a ∷ c) (y ∷ x) h = ap (λ s. s +ℚ dot c x) (h 0 (omega arith)) ∙ laws.zero_add rationals (dot c x) ∙ dot-zero c x (λ k l. h (suc k) (omega arith))

pub dot-nonneg : (c x : List ℚ) → ((k : ℕ) → k < length x → zero_ℚ ≤ℚ (entry c k *ℚ entry x k)) → zero_ℚ ≤ℚ dot c x
dot-nonneg [] x h = le_refl zero_ℚ
dot-nonneg (a ∷ c) [] h = le_refl zero_ℚ
dot-nonneg (a ∷ c) (y ∷ x) h =
    prove ordered_rationals ((a *ℚ y) ∷ dot c x ∷ []) (λ p s. lit 0 ≼ p ⊕ s ⇐ given (lit 0 ≼ p) ⊞ given (lit 0 ≼ s)) refl
    (h 0 (omega arith)) (dot-nonneg c x (λ k l. h (suc k) (omega arith)))

-- where they sum to 0 each is 0
pub terms_zero : (c x : List ℚ) → length c ≡ length x → ((k : ℕ) → k < length x → zero_ℚ ≤ℚ (entry c k *ℚ entry x k)) → dot c x ≤ℚ zero_ℚ
    → (k : ℕ) → k < length x → entry c k *ℚ entry x k ≡ zero_ℚ
terms_zero c [] e h s k l = absurd (omega arith)
terms_zero [] (y ∷ x) e h s k l = absurd (omega arith)
terms_zero (a ∷ c) (y ∷ x) e h s zero l =
    le_antisymm (a *ℚ y) zero_ℚ
    (prove ordered_rationals ((a *ℚ y) ∷ dot c x ∷ []) (λ p s. p ≼ lit 0 ⇐ given (p ⊕ s ≼ lit 0) ⊞ given (lit 0 ≼ s)) refl s (dot-nonneg c x (λ k l. h (suc k) (omega arith))))
    (h 0 (omega arith))
terms_zero (a ∷ c) (y ∷ x) e h s (suc k) l =
    terms_zero c x (omega arith) (λ k l. h (suc k) (omega arith))
    (prove ordered_rationals ((a *ℚ y) ∷ dot c x ∷ []) (λ p s. s ≼ lit 0 ⇐ given (p ⊕ s ≼ lit 0) ⊞ given (lit 0 ≼ p)) refl s (h 0 (omega arith))) k (omega arith)

-- the first entry of a positive list is not below 0
first_nonneg : (x : ℚ) (u : List ℚ) → IsLexPositive (x ∷ u) → zero_ℚ ≤ℚ x
first_nonneg x u (inl h) = prove ordered_rationals (x ∷ []) (λ x. lit 0 ≼ x ⇐ given (lit 0 ≺ x)) refl h
first_nonneg x u (inr h) = le_of_eq (sym h.0)

-- ---- vectors put together from places

dot-put_at : (n : ℕ) (u : List ℚ) (s : List ℕ) (x : List ℚ) → length u ≤ n → length s ≡ length x → dot u (put_at n s x) ≡ dot (map (entry u) s) x
dot-put_at n u [] [] e f = dot-zeros_right u n
dot-put_at n u [] (y ∷ x) e f = absurd (omega arith)
dot-put_at n u (j ∷ s) [] e f = absurd (omega arith)
dot-put_at n u (j ∷ s) (y ∷ x) e f =
    Rattle.rational.proofs.Vectors.dot-add_right u (scale y (unit_vector n j)) (put_at n s x) (length-scale y (unit_vector n j) ∙ length-unit_vector n j ∙ sym (length-put_at n s x))
    ∙ ap (λ t. t +ℚ dot u (put_at n s x)) (Rattle.rational.proofs.Vectors.dot-scale_right u y (unit_vector n j)
    ∙ ap (λ t. y *ℚ t) (dot_comm u (unit_vector n j) ∙ dot-unit_vector n j u e) ∙ rationals.mul_comm y (entry u j))
    ∙ ap (λ t. entry u j *ℚ y +ℚ t) (dot-put_at n u s x e (omega arith))

unit_nonneg : (n j i : ℕ) → i < n → zero_ℚ ≤ℚ entry (unit_vector n j) i
unit_nonneg n j i l = by (same_or_other j i)
  where
    by : (j ≡ i) ⊎ (j ≢ i) → zero_ℚ ≤ℚ entry (unit_vector n j) i
    by (inl e) = subst (λ j. zero_ℚ ≤ℚ entry (unit_vector n j) i) (sym e) (subst (λ x. zero_ℚ ≤ℚ x) (sym (entry-unit_vector_same n i l))
        (prove ordered_rationals (zero_ℚ ∷ []) (λ z. lit 0 ≼ lit 1 ⇐ Rattle.algebra.proofs.Certificate.weight 1) refl))
    by (inr m) = le_of_eq (sym (entry-unit_vector_other n j i m))

put_at_nonneg : (n : ℕ) (s : List ℕ) (x : List ℚ) → ((k : ℕ) → k < length x → zero_ℚ ≤ℚ entry x k) → (i : ℕ) → i < n → zero_ℚ ≤ℚ entry (put_at n s x) i
put_at_nonneg n [] x h i l = le_of_eq (sym (entry-zeros n i))
put_at_nonneg n (j ∷ s) [] h i l = le_of_eq (sym (entry-zeros n i))
put_at_nonneg n (j ∷ s) (y ∷ x) h i l =
    let e : entry (put_at n (j ∷ s) (y ∷ x)) i ≡ y *ℚ entry (unit_vector n j) i +ℚ entry (put_at n s x) i =
    entry-add_each (scale y (unit_vector n j)) (put_at n s x) i (length-scale y (unit_vector n j) ∙ length-unit_vector n j ∙ sym (length-put_at n s x))
    ∙ ap (λ t. t +ℚ entry (put_at n s x) i) (entry-scale y (unit_vector n j) i) in
    subst (λ z. zero_ℚ ≤ℚ z) (sym e)
    (prove ordered_rationals (y ∷ entry (unit_vector n j) i ∷ entry (put_at n s x) i ∷ [])
    (λ y u z. lit 0 ≼ y ⊗ u ⊕ z ⇐ (given (lit 0 ≼ y) ⊠ given (lit 0 ≼ u)) ⊞ given (lit 0 ≼ z)) refl
    (h 0 (omega arith)) (unit_nonneg n j i l) (put_at_nonneg n s x (λ k l. h (suc k) (omega arith)) i l))

-- the sum of the basic columns and the given matrix agree where the other columns do not count
same_sums : (p : Problem) (w : List ℚ) (s : List ℕ) (x : List ℚ) → HasColumns p.given p.rows
    → ((k : ℕ) → k < length x → p.given ≤ slice_index_or s k 0 → entry x k ≡ zero_ℚ) → length s ≡ length x
    → dot (map (entry (combine p.given w p.rows)) s) x ≡ dot x (rows_dot (map (column_of p) s) w)
same_sums p w [] [] g h e = refl
same_sums p w [] (y ∷ x) g h e = absurd (omega arith)
same_sums p w (j ∷ s) [] g h e = absurd (omega arith)
same_sums p w (j ∷ s) (y ∷ x) g h e =
    ap (λ t. t +ℚ dot (map (entry (combine p.given w p.rows)) s) x) (here (given_or_unit p j))
    ∙ ap (λ t. y *ℚ dot (column_of p j) w +ℚ t) (same_sums p w s x g (λ k l. h (suc k) (omega arith)) (omega arith))
  where
    here : (p.given ≤ j) ⊎ (j < p.given) → entry (combine p.given w p.rows) j *ℚ y ≡ y *ℚ dot (column_of p j) w
    here (inr l) = rationals.mul_comm (entry (combine p.given w p.rows) j) y
        ∙ ap (λ t. y *ℚ t) (entry-combine p.given w p.rows j g ∙ dot_comm w (column j p.rows) ∙ ap (λ c. dot c w) (sym (column_of-given p j l)))
    here (inl l) =
        let nothing : y ≡ zero_ℚ = h 0 (omega arith) l in
        ap (λ y. entry (combine p.given w p.rows) j *ℚ y) nothing ∙ ring rationals (entry (combine p.given w p.rows) j ∷ dot (column_of p j) w ∷ []) (λ a b. a ⊗ lit 0 ≐ lit 0 ⊗ b) refl
        ∙ ap (λ y. y *ℚ dot (column_of p j) w) (sym nothing)

module _ (p : Problem) (b : Tableau) (h : IsBasis p b) (standing : IsStanding p b) where
  rows_size : length (tableau_rows p b) ≡ height p
  rows_size = length-right_beside (point p b) b.inverse (length-rows_dot b.inverse p.right) ∙ h.inverse.rows

  -- no value is below 0
  pub point_nonneg : (k : ℕ) → k < height p → zero_ℚ ≤ℚ entry (point p b) k
  point_nonneg k l =
      let q : k < length b.inverse = omega (arith, l, h.inverse.rows) in
      let e : row_at (tableau_rows p b) k ≡ entry (point p b) k ∷ row_at b.inverse k =
      row_at-beside b.inverse p.right k q ∙ ap (λ s. s ∷ row_at b.inverse k) (sym (Rattle.rational.proofs.Vectors.entry-rows_dot b.inverse p.right k)) in
      first_nonneg (entry (point p b) k) (row_at b.inverse k)
      (subst IsLexPositive e (All-row_at IsLexPositive (tableau_rows p b) k (omega (arith, l, rows_size)) standing))

  cost_is : dot (multipliers p b) p.right ≡ dot (basic_costs p b) (point p b)
  cost_is = dot-multipliers (height p) (basic_columns p b) b.inverse h.inverse (basic_costs p b) p.right

  terms : (k : ℕ) → k < length (point p b) → zero_ℚ ≤ℚ (entry (basic_costs p b) k *ℚ entry (point p b) k)
  terms k l =
      let i : k < height p = omega (arith, l, point_size p b h) in
      prove ordered_rationals (entry (basic_costs p b) k ∷ entry (point p b) k ∷ []) (λ c x. lit 0 ≼ c ⊗ x ⇐ given (lit 0 ≼ c) ⊠ given (lit 0 ≼ x)) refl
      (basic_costs_nonneg p b h k i) (point_nonneg k i)

  pub cost_nonneg : zero_ℚ ≤ℚ dot (multipliers p b) p.right
  cost_nonneg = subst (λ s. zero_ℚ ≤ℚ s) (sym cost_is) (dot-nonneg (basic_costs p b) (point p b) terms)

  cost_at : (k : ℕ) → k < height p → entry (basic_costs p b) k ≡ cost_of p (slice_index_or b.columns k 0)
  cost_at k l = entry-map (cost_of p) b.columns k 0 (omega (arith, l, size p b h))

  pub cost_of_zero_cost : IsZeroCost p b → dot (multipliers p b) p.right ≡ zero_ℚ
  cost_of_zero_cost z = cost_is ∙ dot-zero (basic_costs p b) (point p b) (λ k l. at k (omega (arith, l, point_size p b h)) (given_or_unit p (slice_index_or b.columns k 0)))
    where
      at : (k : ℕ) → k < height p → (p.given ≤ slice_index_or b.columns k 0) ⊎ (slice_index_or b.columns k 0 < p.given) → entry (basic_costs p b) k *ℚ entry (point p b) k ≡ zero_ℚ
      at k l (inl u) = ap (λ x. entry (basic_costs p b) k *ℚ x) (z k l u) ∙ laws.mul_zero rationals (entry (basic_costs p b) k)
      at k l (inr g) = ap (λ c. c *ℚ entry (point p b) k) (cost_at k l ∙ cost_of-given p (slice_index_or b.columns k 0) g) ∙ laws.zero_mul rationals (entry (point p b) k)

  pub zero_cost_of_cost : dot (multipliers p b) p.right ≡ zero_ℚ → IsZeroCost p b
  zero_cost_of_cost e k l u =
      let c : entry (basic_costs p b) k ≡ one_ℚ = cost_at k l ∙ cost_of-unit p (slice_index_or b.columns k 0) u in
      ring rationals (entry (point p b) k ∷ []) (λ x. x ≐ lit 1 ⊗ x) refl ∙ ap (λ c. c *ℚ entry (point p b) k) (sym c)
      ∙ terms_zero (basic_costs p b) (point p b) (costs_size p b h ∙ sym (point_size p b h)) terms (le_of_eq (sym cost_is ∙ e)) k (omega (arith, l, point_size p b h))

  -- a basis that is not zero-cost costs something
  pub cost_positive : ¬ (IsZeroCost p b) → zero_ℚ <ℚ dot (multipliers p b) p.right
  cost_positive n = ⊎_elim (λ u. absurd (n (zero_cost_of_cost (le_antisymm (dot (multipliers p b) p.right) zero_ℚ u cost_nonneg)))) (λ u. u)
      (le_or_lt (dot (multipliers p b) p.right) zero_ℚ)

  module _ (problem : IsProblem p) where
    -- a zero-cost basis gives a solution
    pub gives_solution : IsZeroCost p b → IsSolution p (solution_of p b)
    gives_solution z = record {
      size = length-put_at p.given b.columns (point p b);
      same = same_by_dot _ _ (length-rows_dot p.rows (solution_of p b) ∙ problem.rows) (λ w e. at w (e ∙ length-rows_dot p.rows (solution_of p b) ∙ problem.rows));
      nonneg = All-from_get_or (λ x. zero_ℚ ≤ℚ x) (solution_of p b) zero_ℚ (λ i l.
          put_at_nonneg p.given b.columns (point p b) (λ k o. point_nonneg k (omega (arith, o, point_size p b h))) i (omega (arith, l, length-put_at p.given b.columns (point p b))));
    }
      where
        at : (w : List ℚ) → length w ≡ height p → dot w (rows_dot p.rows (solution_of p b)) ≡ dot w p.right
        at w e =
            transpose p.given w p.rows (solution_of p b) problem.columns
            ∙ dot-put_at p.given (combine p.given w p.rows) b.columns (point p b) (omega (arith, length-combine p.given w p.rows problem.columns)) (size p b h ∙ sym (point_size p b h))
            ∙ same_sums p w b.columns (point p b) problem.columns (λ k l. z k (omega (arith, l, point_size p b h))) (size p b h ∙ sym (point_size p b h))
            ∙ transpose (height p) (point p b) (basic_columns p b) w h.inverse.heights
            ∙ ap (λ v. dot v w) (point_sums p b h) ∙ dot_comm p.right w

    -- a final basis shows that there is none
    pub gives_farkas : IsFinal p b → IsFarkas p (farkas_of p b)
    gives_farkas f = record {
      size = Rattle.linear_basis_law.proofs.Bases.length-mapped neg_ℚ (multipliers p b) ∙ multipliers_size p b h;
      nonneg = All-from_get_or (λ x. zero_ℚ ≤ℚ x) (combine p.given (farkas_of p b) p.rows) zero_ℚ (λ j l.
          at j (omega (arith, l, length-combine p.given (farkas_of p b) p.rows problem.columns)));
      below = subst (λ s. s <ℚ zero_ℚ) (sym (negated (multipliers p b) p.right))
          (prove ordered_rationals (dot (multipliers p b) p.right ∷ []) (λ s. minus s ≺ lit 0 ⇐ given (lit 0 ≺ s)) refl (cost_positive f.costs));
    }
      where
        negated : (u v : List ℚ) → dot (map neg_ℚ u) v ≡ neg_ℚ (dot u v)
        negated [] v = ring rationals [] (lit 0 ≐ minus (lit 0)) refl
        negated (x ∷ u) [] = ring rationals [] (lit 0 ≐ minus (lit 0)) refl
        negated (x ∷ u) (y ∷ v) = ap (λ t. neg_ℚ x *ℚ y +ℚ t) (negated u v) ∙ ring rationals (x ∷ y ∷ dot u v ∷ []) (λ x y t. minus x ⊗ y ⊕ minus t ≐ minus (x ⊗ y ⊕ t)) refl

        at : (j : ℕ) → j < p.given → zero_ℚ ≤ℚ entry (combine p.given (farkas_of p b) p.rows) j
        at j l =
            let e : entry (combine p.given (farkas_of p b) p.rows) j ≡ neg_ℚ (dot (multipliers p b) (column_of p j)) =
            entry-combine p.given (farkas_of p b) p.rows j problem.columns ∙ negated (multipliers p b) (column j p.rows)
            ∙ ap (λ c. neg_ℚ (dot (multipliers p b) c)) (sym (column_of-given p j l)) in
            let not_below : zero_ℚ ≤ℚ price p b j = ⊎_elim (λ u. u) (λ u. absurd (f.prices j l u)) (le_or_lt zero_ℚ (price p b j)) in
            subst (λ s. zero_ℚ ≤ℚ s) (sym e) (prove ordered_rationals (cost_of p j ∷ dot (multipliers p b) (column_of p j) ∷ [])
            (λ c s. lit 0 ≼ minus s ⇐ given (lit 0 ≼ c ⊝ s) ⊞ given (c ≐ lit 0)) refl not_below (cost_of-given p j l))

-- a problem never has both
pub not_both : (p : Problem) (z y : List ℚ) → IsProblem p → IsSolution p z → IsFarkas p y → ⊥
not_both p z y problem s f =
    let e : dot y p.right ≡ dot (combine p.given y p.rows) z = ap (dot y) (sym s.same) ∙ transpose p.given y p.rows z problem.columns in
    let n : zero_ℚ ≤ℚ dot (combine p.given y p.rows) z = dot-nonneg (combine p.given y p.rows) z (λ k l.
    prove ordered_rationals (entry (combine p.given y p.rows) k ∷ entry z k ∷ []) (λ a x. lit 0 ≼ a ⊗ x ⇐ given (lit 0 ≼ a) ⊠ given (lit 0 ≼ x)) refl
    (All-get_or (λ x. zero_ℚ ≤ℚ x) (combine p.given y p.rows) k zero_ℚ (omega (arith, l, s.size, length-combine p.given y p.rows problem.columns)) f.nonneg)
    (All-get_or (λ x. zero_ℚ ≤ℚ x) z k zero_ℚ l s.nonneg)) in
    not-le_of_lt f.below (subst (λ s. zero_ℚ ≤ℚ s) (sym e) n)
