-- Columns with and without a pivot: those with one are independent, and each other is a combination of them.
use Rattle.std.proofs.Common.{◌≡◌, ℕ, suc, ◌+◌, ◌<◌, ◌≤◌, List, [], ◌∷◌, length, take, drop, Option, Some, None, sym, ap, ◌∙◌, subst, refl, arith}
use Rattle.std.specs.Prelude.{pos}
use Rattle.std.specs.List.{AllByRecursion}
use Rattle.std.proofs.lemmas.List.Elements.{recursion_from_All}
use Rattle.algebra.proofs.Ring as laws
use Rattle.algebra.proofs.Polynomial.{minus, ◌⊕◌, ◌⊗◌, ◌≐◌, lit}
use Rattle.algebra.proofs.Solver.{ring}
use Rattle.rational.specs.Rational.{ℚ, zero_ℚ, one_ℚ, ◌+ℚ◌, ◌*ℚ◌, neg_ℚ}
use Rattle.rational.specs.Sums.{entry}
use Rattle.rational.specs.Vectors.{dot, add_each, scale, zeros, unit_vector, HasColumns, rows_dot}
use Rattle.rational.proofs.Field.{rationals}
use Rattle.rational.proofs.Wholes.{num-whole}
use Rattle.rational.proofs.Vectors.{length-scale, length-add_each, length-unit_vector, length-rows_dot, dot_comm, dot-zeros_left, dot-zeros_right, dot-scale_right, dot-add_right, dot-unit_vector, zeros_by_entries, entry-zeros, entry-scale, entry-add_each, entry-unit_vector_same}
use Rattle.elimination_law.specs.Elimination.{Line, used, pivot_row, eliminated}
use Rattle.elimination_law.specs.Answers.{beside, right_beside, unit_matrix, solve_rows, lines_of, row_of_pivot, entry_in, solution_from, Solution, answer_by, solved}
use Rattle.elimination_law.specs.Meaning.{Shaped, Depends, IsFree}
use Rattle.elimination_law.proofs.Lines.{each_weaker}
use Rattle.elimination_law.proofs.Pivots.{AreShaped, shaped, line_of_pivot, other_column}
use Rattle.elimination_law.proofs.Vectors.{entry-take, length-front, dot-one_place, rows_dot-zeros, width-beside, width-right_beside, length-right_beside, length-unit_rows, width-unit_rows}
use Rattle.elimination_law.proofs.Solved.{length-solution_from, entry-solution, used_row_holds, unused_front}
use Rattle.elimination_law.proofs.Tailed as tailed

one_is_not_zero : one_ℚ ≡ zero_ℚ → ⊥
one_is_not_zero e = absurd (let bad : pos 1 ≡ pos 0 = sym (num-whole (pos 1)) ∙ ap (λ (q : ℚ). q.num) e ∙ num-whole (pos 0) in cc)

add-zeros : (a : List ℚ) → add_each a (zeros (length a)) ≡ a
add-zeros [] = refl
add-zeros (x ∷ a) = ap (λ t. t ∷ add_each a (zeros (length a))) (rationals.add_zero x) ∙ ap (λ s. x ∷ s) (add-zeros a)

-- ---- M with any columns X beside it

module _ (n x : ℕ) (M X : List (List ℚ)) (m_width : AllByRecursion (λ r. length r ≡ n) M) (x_width : AllByRecursion (λ r. length r ≡ x) X) (heights : length M ≡ length X) where
  abbrev w : ℕ
  w = n + x

  abbrev final : List Line
  final = eliminated n (lines_of (beside M X))

  shapes : AreShaped w n final
  shapes = shaped w n (beside M X) (width-beside n x M X m_width x_width)

  n_within : n ≤ w
  n_within = omega arith

  -- M z is 0 exactly where each row is
  sum_is : (z : List ℚ) → add_each (rows_dot M z) (rows_dot X (zeros x)) ≡ rows_dot M z
  sum_is z =
      ap (add_each (rows_dot M z)) (rows_dot-zeros X x ∙ ap zeros (sym heights ∙ sym (length-rows_dot M z))) ∙ add-zeros (rows_dot M z)

  without_tail : (a b : ℚ) → b ≡ zero_ℚ → a +ℚ b ≡ a
  without_tail a b e = ap (λ t. a +ℚ t) e ∙ rationals.add_zero a

  pub each_nothing : (z : List ℚ) → length z ≡ n → rows_dot M z ≡ zeros (length M) → AllByRecursion (λ l. dot (take n l.entries) z ≡ zero_ℚ) final
  each_nothing z e h =
      each_weaker (λ l. dot (take n l.entries) z +ℚ dot (drop n l.entries) (zeros x) ≡ zero_ℚ) (λ l. dot (take n l.entries) z ≡ zero_ℚ) final
      (λ l f. sym (without_tail (dot (take n l.entries) z) (dot (drop n l.entries) (zeros x)) (dot-zeros_right (drop n l.entries) x)) ∙ f)
      (tailed.there n x M X m_width x_width heights z (zeros x) e (sum_is z ∙ h))

  pub all_nothing : (z : List ℚ) → length z ≡ n → AllByRecursion (λ l. dot (take n l.entries) z ≡ zero_ℚ) final → rows_dot M z ≡ zeros (length M)
  all_nothing z e h =
      sym (sum_is z) ∙ tailed.back n x M X m_width x_width heights z (zeros x) e
      (each_weaker (λ l. dot (take n l.entries) z ≡ zero_ℚ) (λ l. dot (take n l.entries) z +ℚ dot (drop n l.entries) (zeros x) ≡ zero_ℚ) final
      (λ l f. without_tail (dot (take n l.entries) z) (dot (drop n l.entries) (zeros x)) (dot-zeros_right (drop n l.entries) x) ∙ f) h)

  -- a vector that M takes to 0, and that is 0 in each column without a pivot, is 0
  pub independent : (z : List ℚ) → length z ≡ n → rows_dot M z ≡ zeros (length M) → ((c : ℕ) → c < n → row_of_pivot c final ≡ None → entry z c ≡ zero_ℚ) → z ≡ zeros n
  independent z e h off = zeros_by_entries z n e (λ c b. by c b (row_of_pivot c final) refl)
    where
      zero_right : (a b : ℚ) → b ≡ zero_ℚ → a *ℚ b ≡ zero_ℚ
      zero_right a b f = ap (λ t. a *ℚ t) f ∙ laws.mul_zero rationals a

      zero_left : (a b : ℚ) → a ≡ zero_ℚ → a *ℚ b ≡ zero_ℚ
      zero_left a b f = ap (λ t. t *ℚ b) f ∙ laws.zero_mul rationals b

      product : (c i : ℕ) (row : List ℚ) → Shaped w n final (used c row) → (i < n) → ¬ (i ≡ c) → (o : Option (List ℚ)) → row_of_pivot i final ≡ o → entry row i *ℚ entry z i ≡ zero_ℚ
      product c i row s l d None f = zero_right (entry row i) (entry z i) (off i l f)
      product c i row s l d (Some r) f = zero_left (entry row i) (entry z i) (s.other i r f (other_column c i (λ g. d (sym g))))

      by : (c : ℕ) → c < n → (o : Option (List ℚ)) → row_of_pivot c final ≡ o → entry z c ≡ zero_ℚ
      by c b None f = off c b f
      by c b (Some row) f =
          let s = line_of_pivot (Shaped w n final) c final row f shapes in
          sym (dot-one_place c (take n row) z (λ i l d.
          let g : i < n = subst (λ t. i < t) e l in
          ap (λ t. t *ℚ entry z i) (entry-take n row i g) ∙ product c i row s g d (row_of_pivot i final) refl)
          ∙ ap (λ t. t *ℚ entry z c) (entry-take n row c b ∙ s.one c refl) ∙ ring rationals (entry z c ∷ []) (λ y. lit 1 ⊗ y ≐ y) refl)
          ∙ line_of_pivot (λ l. dot (take n l.entries) z ≡ zero_ℚ) c final row f (each_nothing z e h)

  -- a column without a pivot

  module _ (c : ℕ) (within : c < n) (free : row_of_pivot c final ≡ None) where
    abbrev others : List ℚ
    others = solution_from n 0 c final

    abbrev combination : List ℚ
    combination = add_each (unit_vector n c) (scale (neg_ℚ one_ℚ) others)

    length-others : length (scale (neg_ℚ one_ℚ) others) ≡ n
    length-others = length-scale (neg_ℚ one_ℚ) others ∙ length-solution_from n 0 c final

    same : length (unit_vector n c) ≡ length (scale (neg_ℚ one_ℚ) others)
    same = length-unit_vector n c ∙ sym length-others

    -- a row gives its own entry at column c of the others
    gives : (l : Line) → Shaped w n final l → dot (take n l.entries) others ≡ entry l.entries c
    gives l s = by l.pivot refl
      where
        by : (o : Option ℕ) → l.pivot ≡ o → dot (take n l.entries) others ≡ entry l.entries c
        by None p = ap (λ u. dot u others) (unused_front w n final l n_within s p) ∙ dot-zeros_left n others ∙ sym (s.cleared p c within)
        by (Some k) p = used_row_holds w n c final l k s p

    row_nothing : (l : Line) → Shaped w n final l → dot (take n l.entries) combination ≡ zero_ℚ
    row_nothing l s =
        let u = take n l.entries in
        let f : length u ≡ n = length-front n l.entries (let t = s.width in omega arith) in
        dot-add_right u (unit_vector n c) (scale (neg_ℚ one_ℚ) others) same
        ∙ ap (λ t. t +ℚ dot u (scale (neg_ℚ one_ℚ) others)) (dot_comm u (unit_vector n c) ∙ dot-unit_vector n c u (omega arith) ∙ entry-take n l.entries c within)
        ∙ ap (λ t. entry l.entries c +ℚ t) (dot-scale_right u (neg_ℚ one_ℚ) others ∙ ap (λ t. neg_ℚ one_ℚ *ℚ t) (gives l s))
        ∙ ring rationals (entry l.entries c ∷ []) (λ x. x ⊕ minus (lit 1) ⊗ x ≐ lit 0) refl

    at_column : entry combination c ≡ one_ℚ
    at_column =
        entry-add_each (unit_vector n c) (scale (neg_ℚ one_ℚ) others) c same
        ∙ ap (λ t. t +ℚ entry (scale (neg_ℚ one_ℚ) others) c) (entry-unit_vector_same n c within)
        ∙ ap (λ t. one_ℚ +ℚ t) (entry-scale (neg_ℚ one_ℚ) others c ∙ ap (λ t. neg_ℚ one_ℚ *ℚ t) (entry-solution n c final c within ∙ ap (λ o. entry_in o c) free))
        ∙ ring rationals [] (lit 1 ⊕ minus (lit 1) ⊗ lit 0 ≐ lit 1) refl

    combination_depends : Depends n M combination
    combination_depends = record {
      size = length-add_each (unit_vector n c) (scale (neg_ℚ one_ℚ) others) same ∙ length-unit_vector n c;
      combined = all_nothing combination (length-add_each (unit_vector n c) (scale (neg_ℚ one_ℚ) others) same ∙ length-unit_vector n c)
          (each_weaker (Shaped w n final) (λ l. dot (take n l.entries) combination ≡ zero_ℚ) final row_nothing shapes);
      nonzero = λ e. one_is_not_zero (sym at_column ∙ ap (λ u. entry u c) e ∙ entry-zeros n c);
    }

    pub depends : (z : List ℚ) × Depends n M z
    depends = (combination, combination_depends)

-- ---- the rows of [M | r | I]

module _ (n : ℕ) (M : List (List ℚ)) (r : List ℚ) (columns : HasColumns n M) (sides : length r ≡ length M) where
  abbrev X : List (List ℚ)
  X = right_beside r (unit_matrix (length M))

  m_width : AllByRecursion (λ row. length row ≡ n) M
  m_width = recursion_from_All (λ row. length row ≡ n) M columns

  x_width : AllByRecursion (λ row. length row ≡ suc (length M)) X
  x_width = width-right_beside (length M) r (unit_matrix (length M)) (width-unit_rows (length M) 0 (length M))

  heights : length M ≡ length X
  heights = sym (length-right_beside r (unit_matrix (length M)) (sides ∙ sym (length-unit_rows (length M) 0 (length M))) ∙ length-unit_rows (length M) 0 (length M))

  pub solve_independent : (z : List ℚ) → length z ≡ n → rows_dot M z ≡ zeros (length M) → ((c : ℕ) → c < n → IsFree n M r c → entry z c ≡ zero_ℚ) → z ≡ zeros n
  solve_independent = independent n (suc (length M)) M X m_width x_width heights

  pub solve_depends : (c : ℕ) → c < n → IsFree n M r c → (z : List ℚ) × Depends n M z
  solve_depends = depends n (suc (length M)) M X m_width x_width heights

-- a solution is 0 in each column without a pivot
pub solution_off : (n : ℕ) (M : List (List ℚ)) (r z : List ℚ) → solved n M r ≡ Solution z → (c : ℕ) → c < n → IsFree n M r c → entry z c ≡ zero_ℚ
solution_off n M r z e c b free = by (pivot_row n (eliminated n (lines_of (solve_rows M r)))) e
  where
    same_vector : (u : List ℚ) → Solution u ≡ Solution z → u ≡ z
    same_vector u e = cc

    by : (o : Option (List ℚ)) → answer_by n (eliminated n (lines_of (solve_rows M r))) o ≡ Solution z → entry z c ≡ zero_ℚ
    by None e =
        let ls = eliminated n (lines_of (solve_rows M r)) in
        ap (λ u. entry u c) (sym (same_vector (solution_from n 0 n ls) e)) ∙ entry-solution n n ls c b ∙ ap (λ o. entry_in o n) free
    by (Some row) e = absurd cc
