-- A problem has one chain of each length.
use Rattle.std.proofs.Common.{inl, inr, ◌≡◌, ◌≢◌, refl, sym, subst, ◌∙◌, ap, ℕ, ◌<◌, List, [], ◌∷◌, length, arith}
use Rattle.std.specs.Prelude.{◌⊎◌, slice_set}
use Rattle.algebra.proofs.Ring as laws
use Rattle.algebra.proofs.Polynomial.{◌≐◌, ◌≺◌, lit}
use Rattle.algebra.proofs.Certificate.{prove, given, weight, ◌⊞◌, ◌⇐◌}
use Rattle.rational.specs.Rational.{ℚ, zero_ℚ, one_ℚ, ◌*ℚ◌}
use Rattle.rational.specs.Sums.{entry}
use Rattle.rational.specs.Vectors.{dot, rows_dot, combine, row_at}
use Rattle.rational.proofs.Field.{rationals}
use Rattle.rational.proofs.Order.{ordered_rationals, lt_irrefl}
use Rattle.rational.proofs.Vectors.{length-rows_dot, dot_comm, transpose, entry-rows_dot, entry-unit_vector_same, entry-unit_vector_other}
use Rattle.elimination_law.proofs.Vectors.{dot-one_place}
use Rattle.linear_basis_law.specs.Problem.{Problem, IsProblem, height, width, column_of}
use Rattle.linear_basis_law.specs.Basis.{Tableau, IsBasis, IsStanding, IsInverseOf, basic_columns}
use Rattle.linear_basis_law.specs.Exchange.{IsLeaving, coordinates, exchanged}
use Rattle.linear_basis_law.proofs.Places.{map-slice_set, row_at-set_same, row_at-set_other}
use Rattle.linear_basis_law.proofs.Inverses.{inverse_only}
use Rattle.linear_basis_law.proofs.Bases.{length-column_of}
use Rattle.linear_basis_law.proofs.Changes.{exchange_basis}
use Rattle.linear_basis_law.proofs.Leaving.{one_place}
use Rattle.linear_basis_law.proofs.Only.{only_leaving}
use Rattle.linear_simplex_law.specs.Chain.{IsEntering, IsStrictStep, IsChain}
use Rattle.linear_simplex_law.proofs.Steps.{last_basis, last_standing}

one_not_zero : one_ℚ ≡ zero_ℚ → ⊥
one_not_zero e = lt_irrefl zero_ℚ (prove ordered_rationals (zero_ℚ ∷ []) (λ z. lit 0 ≺ lit 0 ⇐ given (lit 1 ≐ lit 0) ⊞ weight 1) refl e)

-- where the changed columns have an inverse, the new column counts at its place
place_counts : (m : ℕ) (B N K : List (List ℚ)) (a : List ℚ) (l : ℕ) → IsInverseOf m B N → IsInverseOf m (slice_set B l a) K → length a ≡ m → l < m
    → ¬ (entry (rows_dot N a) l ≡ zero_ℚ)
place_counts m B N K a l h k e place nothing =
    one_not_zero (sym (entry-unit_vector_same m l place) ∙ ap (λ u. entry u l) (sym (k.left l place) ∙ ap (rows_dot K) (row_at-set_same B l a (omega (arith, place, h.columns))))
    ∙ entry-rows_dot K a l ∙ ap (dot row) (sym (h.spans a e)) ∙ dot_comm row (combine m t B) ∙ sym (transpose m t B row h.heights)
    ∙ dot-one_place l t (rows_dot B row) (λ c n o. ap (λ s. entry t c *ℚ s) (other c (omega (arith, n, length-rows_dot B row, h.columns)) o) ∙ laws.mul_zero rationals (entry t c))
    ∙ ap (λ s. s *ℚ entry (rows_dot B row) l) nothing ∙ laws.zero_mul rationals (entry (rows_dot B row) l))
  where
    t : List ℚ
    t = rows_dot N a

    row : List ℚ
    row = row_at K l

    other : (c : ℕ) → c < m → c ≢ l → entry (rows_dot B (row_at K l)) c ≡ zero_ℚ
    other c n o =
        entry-rows_dot B (row_at K l) c ∙ dot_comm (row_at B c) (row_at K l) ∙ ap (dot (row_at K l)) (sym (row_at-set_other B l a c o))
        ∙ sym (entry-rows_dot K (row_at (slice_set B l a) c) l) ∙ ap (λ u. entry u l) (k.left c n) ∙ entry-unit_vector_other m c l o

same_tableau : (b c : Tableau) → b.columns ≡ c.columns → b.inverse ≡ c.inverse → b ≡ c
same_tableau b c e f =
    let with_columns : List ℕ → Tableau = λ x. record { columns = x; inverse = b.inverse } in
    let with_inverse : List (List ℚ) → Tableau = λ y. record { columns = c.columns; inverse = y } in
    ap with_columns e ∙ ap with_inverse f

module _ (p : Problem) (problem : IsProblem p) where
  module _ (b : Tableau) (h : IsBasis p b) (standing : IsStanding p b) where
    -- a strict step is the exchange by the ratio rule
    module _ (c : Tableau) (step : IsStrictStep p b c) where
      within : step.enter < width p
      within = let g = step.entering.given in omega arith

      columns_are : basic_columns p c ≡ slice_set (basic_columns p b) step.leave (column_of p step.enter)
      columns_are = ap (λ x. basic_columns p (record { columns = x; inverse = c.inverse })) step.columns ∙ map-slice_set (column_of p) b.columns step.leave step.enter

      counts : ¬ (entry (coordinates p b step.enter) step.leave ≡ zero_ℚ)
      counts = place_counts (height p) (basic_columns p b) b.inverse c.inverse (column_of p step.enter) step.leave h.inverse
          (subst (λ C. IsInverseOf (height p) C c.inverse) columns_are step.basis.inverse) (length-column_of p step.enter problem) step.place

      pub is_exchange : c ≡ exchanged p b step.enter step.leave
      is_exchange = same_tableau c (exchanged p b step.enter step.leave) step.columns
          (inverse_only (height p) (basic_columns p c) c.inverse (exchanged p b step.enter step.leave).inverse step.basis.inverse
          (subst (λ C. IsInverseOf (height p) C (exchanged p b step.enter step.leave).inverse)
          (map-slice_set (column_of p) b.columns step.leave step.enter ∙ sym columns_are)
          (exchange_basis p b problem h step.enter step.leave within step.place counts).inverse))

      pub is_leaving : IsLeaving p b step.enter step.leave
      is_leaving = only_leaving p b problem h standing step.enter step.leave within step.place counts (subst (IsStanding p) is_exchange step.standing)

    one_entering : (i j : ℕ) → IsEntering p b i → IsEntering p b j → i ≡ j
    one_entering i j h k = by (order i j)
      where
        order : (i j : ℕ) → (i ≡ j) ⊎ (i < j) ⊎ (j < i)
        order i j = grind arith

        by : (i ≡ j) ⊎ (i < j) ⊎ (j < i) → i ≡ j
        by (inl e) = e
        by (inr (inl l)) = absurd (k.first i l h.falling)
        by (inr (inr l)) = absurd (h.first j l k.falling)

    -- so there is one
    pub one_step : (c d : Tableau) → IsStrictStep p b c → IsStrictStep p b d → c ≡ d
    one_step c d s t =
        let enters : s.enter ≡ t.enter = one_entering s.enter t.enter s.entering t.entering in
        let leaves : s.leave ≡ t.leave = one_place p b h t.enter s.leave t.leave (subst (λ j. IsLeaving p b j s.leave) enters (is_leaving c s)) (is_leaving d t) in
        is_exchange c s ∙ ap (λ j. exchanged p b j s.leave) enters ∙ ap (exchanged p b t.enter) leaves ∙ sym (is_exchange d t)

  abbrev head_of : Tableau → List Tableau → Tableau
  head_of d [] = d
  head_of d (b ∷ bs) = b

  -- and one chain of each length
  pub one_chain : (bs cs : List Tableau) → IsChain p bs → IsChain p cs → length bs ≡ length cs → bs ≡ cs
  one_chain [] cs h k e = absurd h
  one_chain (b ∷ []) [] h k e = absurd k
  one_chain (b ∷ []) (c ∷ []) h k e = ap (λ x. x ∷ []) (h ∙ sym k)
  one_chain (b ∷ []) (c ∷ d ∷ cs) h k e = absurd (omega arith)
  one_chain (b ∷ a ∷ bs) [] h k e = absurd k
  one_chain (b ∷ a ∷ bs) (c ∷ []) h k e = absurd (omega arith)
  one_chain (b ∷ a ∷ bs) (c ∷ d ∷ cs) h k e =
      let rest : a ∷ bs ≡ d ∷ cs = one_chain (a ∷ bs) (d ∷ cs) h.1 k.1 (omega arith) in
      let first : d ≡ a = sym (ap (head_of a) rest) in
      ap (λ x. x ∷ a ∷ bs) (one_step a (last_basis p a bs h.1) (last_standing p problem a bs h.1) b c h.0 (subst (λ d. IsStrictStep p d c) first k.0)) ∙ ap (λ x. c ∷ x) rest
