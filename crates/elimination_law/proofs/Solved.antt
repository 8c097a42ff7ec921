-- The answer on M z = r: a solution solves it, and a refutation refutes it.
use Rattle.std.proofs.Common.{◌≡◌, ◌≢◌, ℕ, zero, suc, ◌+◌, ◌<◌, ◌≤◌, List, [], ◌∷◌, length, take, drop, Option, Some, None, Bool, true, false, not, ◌&&◌, sym, ap, ◌∙◌, subst, refl, arith}
use Rattle.std.specs.List.{AllByRecursion}
use Rattle.std.proofs.lemmas.List.Elements.{recursion_from_All}
use Rattle.algebra.proofs.Ring as laws
use Rattle.algebra.proofs.Polynomial.{minus, ◌⊕◌, ◌⊗◌, ◌≐◌, lit}
use Rattle.algebra.proofs.Solver.{ring}
use Rattle.algebra.proofs.Certificate.{prove, given, ◌⇐◌}
use Rattle.rational.specs.Rational.{ℚ, zero_ℚ, one_ℚ, ◌+ℚ◌, ◌*ℚ◌, neg_ℚ}
use Rattle.rational.specs.Order.{same_fields, same_fields_lem, differ_of_same_fields}
use Rattle.rational.specs.Sums.{entry}
use Rattle.rational.specs.Vectors.{dot, add_each, scale, zeros, HasColumns, rows_dot, combine}
use Rattle.rational.proofs.Field.{rationals}
use Rattle.rational.proofs.Order.{ordered_rationals}
use Rattle.rational.proofs.Vectors.{length-zeros, length-scale, length-rows_dot, length-combine, dot_comm, dot-zeros_left, dot-zeros_right, dot-scale_right, same_by_dot, zeros_by_entries, transpose}
use Rattle.elimination_law.specs.Elimination.{Line, unused, is_unused, is_pivot, may_pivot, pivot_row, eliminated}
use Rattle.elimination_law.specs.Answers.{right_beside, unit_matrix, solve_rows, lines_of, row_of_pivot, entry_in, solution_from, answer_by, solved}
use Rattle.elimination_law.specs.Meaning.{Shaped, IsCombined, Solves, Refutes, IsRight}
use Rattle.elimination_law.proofs.Lines.{each_both, each_weaker, each_parts, each_all, found, not_found}
use Rattle.elimination_law.proofs.Pivots.{AreShaped, shaped, other_column}
use Rattle.elimination_law.proofs.Vectors.{entry-take, length-front, length-back, drop-entry, dot-one_place, length-unit_rows, width-unit_rows, rows_dot-unit, length-right_beside, width-right_beside, rows_dot-right_beside, width-beside, zero_and_less, one_less_one, same_of_difference, same_beside_zero, rows_dot-zeros}
use Rattle.elimination_law.proofs.Tailed as tailed

-- ---- the vector of the solution

pub length-solution_from : (k j n : ℕ) (ls : List Line) → length (solution_from k j n ls) ≡ k
length-solution_from zero j n ls = refl
length-solution_from (suc k) j n ls = ap suc (length-solution_from k (suc j) n ls)

pub entry-solution_from : (k j n : ℕ) (ls : List Line) (c : ℕ) → c < k → entry (solution_from k j n ls) c ≡ entry_in (row_of_pivot (j + c) ls) n
entry-solution_from zero j n ls c h = absurd (omega arith)
entry-solution_from (suc k) j n ls zero h = ap (λ i. entry_in (row_of_pivot i ls) n) (at j)
  where
    at : (j : ℕ) → j ≡ j + zero
    at j = omega arith
entry-solution_from (suc k) j n ls (suc c) h = entry-solution_from k (suc j) n ls c (omega arith) ∙ ap (λ i. entry_in (row_of_pivot i ls) n) (at j c)
  where
    at : (j c : ℕ) → suc j + c ≡ j + suc c
    at j c = omega arith

pub entry-solution : (n i : ℕ) (ls : List Line) (c : ℕ) → c < n → entry (solution_from n 0 i ls) c ≡ entry_in (row_of_pivot c ls) i
entry-solution n i ls c h = entry-solution_from n 0 i ls c h ∙ ap (λ k. entry_in (row_of_pivot k ls) i) (at c)
  where
    at : (c : ℕ) → 0 + c ≡ c
    at c = omega arith

zero_right : (a b : ℚ) → b ≡ zero_ℚ → a *ℚ b ≡ zero_ℚ
zero_right a b e = ap (λ t. a *ℚ t) e ∙ laws.mul_zero rationals a

zero_left : (a b : ℚ) → a ≡ zero_ℚ → a *ℚ b ≡ zero_ℚ
zero_left a b e = ap (λ t. t *ℚ b) e ∙ laws.zero_mul rationals b

-- off the pivot k of a line, its entry or the entry at column i of the row of that column's pivot is 0
off_pivot : (w n i : ℕ) (ls : List Line) (l : Line) (k c : ℕ) → Shaped w n ls l → l.pivot ≡ Some k → c ≢ k → entry l.entries c *ℚ entry_in (row_of_pivot c ls) i ≡ zero_ℚ
off_pivot w n i ls l k c s e d = by (row_of_pivot c ls) refl
  where
    by : (o : Option (List ℚ)) → row_of_pivot c ls ≡ o → entry l.entries c *ℚ entry_in o i ≡ zero_ℚ
    by None h = zero_right (entry l.entries c) zero_ℚ refl
    by (Some row) h = zero_left (entry l.entries c) (entry row i) (s.other c row h (subst (λ o. is_pivot c o ≡ false) (sym e) (other_column k c (λ f. d (sym f)))))

-- a row that is used gives, of the entries at column i of the rows of the pivots, its own entry there
pub used_row_holds : (w n i : ℕ) (ls : List Line) (l : Line) (k : ℕ) → Shaped w n ls l → l.pivot ≡ Some k → dot (take n l.entries) (solution_from n 0 i ls) ≡ entry l.entries i
used_row_holds w n i ls l k s e =
    let z = solution_from n 0 i ls in
    let b = s.below k e in
    dot-one_place k (take n l.entries) z (λ c l1 d.
    let c_below : c < n = subst (λ t. c < t) (length-solution_from n 0 i ls) l1 in
    ap (λ t. t *ℚ entry z c) (entry-take n l.entries c c_below) ∙ ap (λ t. entry l.entries c *ℚ t) (entry-solution n i ls c c_below) ∙ off_pivot w n i ls l k c s e d)
    ∙ ap (λ t. t *ℚ entry z k) (entry-take n l.entries k b ∙ s.one k e)
    ∙ ap (λ t. one_ℚ *ℚ t) (entry-solution n i ls k b ∙ ap (λ o. entry_in o i) (s.own k e))
    ∙ ring rationals (entry l.entries i ∷ []) (λ x. lit 1 ⊗ x ≐ x) refl

-- a row that is not used has nothing before column n
pub unused_front : (w n : ℕ) (ls : List Line) (l : Line) → n ≤ w → Shaped w n ls l → l.pivot ≡ None → take n l.entries ≡ zeros n
unused_front w n ls l h s e =
    zeros_by_entries (take n l.entries) n (length-front n l.entries (let t = s.width in omega arith)) (λ c b. entry-take n l.entries c b ∙ s.cleared e c b)

-- each row holds of the solution, where none refutes
row_holds : (w n : ℕ) (ls : List Line) (l : Line) → n ≤ w → Shaped w n ls l → may_pivot n l ≡ false → dot (take n l.entries) (solution_from n 0 n ls) ≡ entry l.entries n
row_holds w n ls l h s m = by l.pivot refl
  where
    z : List ℚ
    z = solution_from n 0 n ls

    last : (o : Option ℕ) (b : ℚ) → o ≡ None → (is_unused o && not (same_fields b zero_ℚ)) ≡ false → b ≡ zero_ℚ
    last None b e f = same_fields_lem b zero_ℚ (turned (same_fields b zero_ℚ) f)
      where
        turned : (t : Bool) → (true && not t) ≡ false → t ≡ true
        turned true f = refl
        turned false f = absurd cc
    last (Some k) b e f = absurd cc

    by : (o : Option ℕ) → l.pivot ≡ o → dot (take n l.entries) z ≡ entry l.entries n
    by None e = ap (λ u. dot u z) (unused_front w n ls l h s e) ∙ dot-zeros_left n z ∙ sym (last l.pivot (entry l.entries n) e m)
    by (Some k) e = used_row_holds w n n ls l k s e

-- ---- the rows of [M | r | I]

module _ (n : ℕ) (M : List (List ℚ)) (r : List ℚ) (columns : HasColumns n M) (sides : length r ≡ length M) where
  abbrev m : ℕ
  m = length M

  abbrev X : List (List ℚ)
  X = right_beside r (unit_matrix m)

  abbrev w : ℕ
  w = n + suc m

  abbrev pub final : List Line
  final = eliminated n (lines_of (solve_rows M r))

  m_width : AllByRecursion (λ row. length row ≡ n) M
  m_width = recursion_from_All (λ row. length row ≡ n) M columns

  x_width : AllByRecursion (λ row. length row ≡ suc m) X
  x_width = width-right_beside m r (unit_matrix m) (width-unit_rows m 0 m)

  heights : length M ≡ length X
  heights = sym (length-right_beside r (unit_matrix m) (sides ∙ sym (length-unit_rows m 0 m)) ∙ length-unit_rows m 0 m)

  shapes : AreShaped w n final
  shapes = shaped w n (solve_rows M r) (width-beside n (suc m) M X m_width x_width)

  n_within : n ≤ w
  n_within = omega arith

  tail : (t : ℚ) (u : List ℚ) → length u ≡ m → rows_dot X (t ∷ u) ≡ add_each (scale t r) u
  tail t u h = rows_dot-right_beside r (unit_matrix m) t u (sides ∙ sym (length-unit_rows m 0 m)) ∙ ap (add_each (scale t r)) (rows_dot-unit m u h)

  abbrev Gives : List ℚ → ℚ → List ℚ → Line → Type 0
  Gives z t u l = dot (take n l.entries) z +ℚ (entry l.entries n *ℚ t +ℚ dot (drop (suc n) l.entries) u) ≡ zero_ℚ

  three_parts : (l : Line) (z : List ℚ) (t : ℚ) (u : List ℚ) → length l.entries ≡ w
      → dot (take n l.entries) z +ℚ dot (drop n l.entries) (t ∷ u) ≡ dot (take n l.entries) z +ℚ (entry l.entries n *ℚ t +ℚ dot (drop (suc n) l.entries) u)
  three_parts l z t u h = ap (λ d. dot (take n l.entries) z +ℚ dot d (t ∷ u)) (drop-entry n l.entries (omega arith))

  there : (z : List ℚ) (t : ℚ) (u : List ℚ) → length z ≡ n → length u ≡ m → add_each (rows_dot M z) (add_each (scale t r) u) ≡ zeros m → AllByRecursion (Gives z t u) final
  there z t u e f h =
      each_weaker (λ l. (length l.entries ≡ w) × (dot (take n l.entries) z +ℚ dot (drop n l.entries) (t ∷ u) ≡ zero_ℚ)) (Gives z t u) final
      (λ l s. sym (three_parts l z t u s.0) ∙ s.1)
      (each_both (λ l. length l.entries ≡ w) (λ l. dot (take n l.entries) z +ℚ dot (drop n l.entries) (t ∷ u) ≡ zero_ℚ) final
      (tailed.kernel n (suc m) M X m_width x_width heights []).width
      (tailed.there n (suc m) M X m_width x_width heights z (t ∷ u) e (ap (add_each (rows_dot M z)) (tail t u f) ∙ h)))

  back : (z : List ℚ) (t : ℚ) (u : List ℚ) → length z ≡ n → length u ≡ m → AllByRecursion (Gives z t u) final → add_each (rows_dot M z) (add_each (scale t r) u) ≡ zeros m
  back z t u e f h =
      ap (add_each (rows_dot M z)) (sym (tail t u f))
      ∙ tailed.back n (suc m) M X m_width x_width heights z (t ∷ u) e
      (each_weaker (λ l. (length l.entries ≡ w) × Gives z t u l) (λ l. dot (take n l.entries) z +ℚ dot (drop n l.entries) (t ∷ u) ≡ zero_ℚ) final
      (λ l s. three_parts l z t u s.0 ∙ s.1)
      (each_both (λ l. length l.entries ≡ w) (Gives z t u) final (tailed.kernel n (suc m) M X m_width x_width heights []).width h))

  -- what a row has before column n is a combination of the rows of M, by its part under the unit matrix
  pub front_is : (z : List ℚ) → length z ≡ n → AllByRecursion (λ l. dot (take n l.entries) z ≡ dot (drop (suc n) l.entries) (rows_dot M z)) final
  front_is z e =
      let a = rows_dot M z in
      let la : length a ≡ m = length-rows_dot M z in
      let u = scale (neg_ℚ one_ℚ) a in
      each_weaker (Gives z zero_ℚ u) (λ l. dot (take n l.entries) z ≡ dot (drop (suc n) l.entries) a) final
      (λ l h. less_is (dot (take n l.entries) z) (entry l.entries n) (dot (drop (suc n) l.entries) a) (dot (drop (suc n) l.entries) u) (dot-scale_right (drop (suc n) l.entries) (neg_ℚ one_ℚ) a) h)
      (there z zero_ℚ u e (length-scale (neg_ℚ one_ℚ) a ∙ la) (zero_and_less a r (la ∙ sym sides) ∙ ap zeros la))
    where
      less_is : (d x b u : ℚ) → u ≡ neg_ℚ one_ℚ *ℚ b → d +ℚ (x *ℚ zero_ℚ +ℚ u) ≡ zero_ℚ → d ≡ b
      less_is d x b u f h = prove ordered_rationals (d ∷ x ∷ b ∷ []) (λ d x b. d ≐ b ⇐ given (d ⊕ (x ⊗ lit 0 ⊕ minus (lit 1) ⊗ b) ≐ lit 0)) refl (ap (λ t. d +ℚ (x *ℚ zero_ℚ +ℚ t)) (sym f) ∙ h)

  -- and so is its entry of r
  pub right_is : AllByRecursion (λ l. entry l.entries n ≡ dot (drop (suc n) l.entries) r) final
  right_is =
      let u = scale (neg_ℚ one_ℚ) r in
      each_weaker (Gives (zeros n) one_ℚ u) (λ l. entry l.entries n ≡ dot (drop (suc n) l.entries) r) final
      (λ l h. less_is (dot (take n l.entries) (zeros n)) (entry l.entries n) (dot (drop (suc n) l.entries) r) (dot (drop (suc n) l.entries) u)
      (dot-zeros_right (take n l.entries) n) (dot-scale_right (drop (suc n) l.entries) (neg_ℚ one_ℚ) r) h)
      (there (zeros n) one_ℚ u (length-zeros n) (length-scale (neg_ℚ one_ℚ) r ∙ sides)
      (ap (λ a. add_each a (add_each (scale one_ℚ r) u)) (rows_dot-zeros M n ∙ ap zeros (sym sides)) ∙ one_less_one r ∙ ap zeros sides))
    where
      less_is : (d x b u : ℚ) → d ≡ zero_ℚ → u ≡ neg_ℚ one_ℚ *ℚ b → d +ℚ (x *ℚ one_ℚ +ℚ u) ≡ zero_ℚ → x ≡ b
      less_is d x b u g f h =
          prove ordered_rationals (x ∷ b ∷ []) (λ x b. x ≐ b ⇐ given (lit 0 ⊕ (x ⊗ lit 1 ⊕ minus (lit 1) ⊗ b) ≐ lit 0)) refl
          (ap (λ t. t +ℚ (x *ℚ one_ℚ +ℚ neg_ℚ one_ℚ *ℚ b)) (sym g) ∙ ap (λ t. d +ℚ (x *ℚ one_ℚ +ℚ t)) (sym f) ∙ h)

  -- each row is its own combination
  pub rows_combined : AllByRecursion (λ l. IsCombined n M r l.entries) final
  rows_combined =
      each_weaker (λ l. (Shaped w n final l × (entry l.entries n ≡ dot (drop (suc n) l.entries) r)) × ((z : List ℚ) → length z ≡ n → dot (take n l.entries) z ≡ dot (drop (suc n) l.entries) (rows_dot M z)))
      (λ l. IsCombined n M r l.entries) final (λ l t. combined l t.0.0 t.0.1 t.1)
      (each_both (λ l. Shaped w n final l × (entry l.entries n ≡ dot (drop (suc n) l.entries) r)) (λ l. (z : List ℚ) → length z ≡ n → dot (take n l.entries) z ≡ dot (drop (suc n) l.entries) (rows_dot M z)) final
      (each_both (Shaped w n final) (λ l. entry l.entries n ≡ dot (drop (suc n) l.entries) r) final shapes right_is)
      (each_weaker (λ l. (z : (z : List ℚ) × (length z ≡ n)) → dot (take n l.entries) z.0 ≡ dot (drop (suc n) l.entries) (rows_dot M z.0)) (λ l. (z : List ℚ) → length z ≡ n → dot (take n l.entries) z ≡ dot (drop (suc n) l.entries) (rows_dot M z)) final
      (λ l f z e. f (z, e))
      (each_all (λ (z : (z : List ℚ) × (length z ≡ n)) l. dot (take n l.entries) z.0 ≡ dot (drop (suc n) l.entries) (rows_dot M z.0)) final (λ z. front_is z.0 z.1))))
    where
      at : (n m : ℕ) → n + suc m ≡ suc n + m
      at n m = omega arith

      combined : (l : Line) → Shaped w n final l → entry l.entries n ≡ dot (drop (suc n) l.entries) r
          → ((z : List ℚ) → length z ≡ n → dot (take n l.entries) z ≡ dot (drop (suc n) l.entries) (rows_dot M z)) → IsCombined n M r l.entries
      combined l s e f =
          let y = drop (suc n) l.entries in
          let g : length (take n l.entries) ≡ n = length-front n l.entries (let t = s.width in omega arith) in
          record {
            size = length-back (suc n) l.entries m (s.width ∙ at n (length M));
            front = same_by_dot (take n l.entries) (combine n y M) (g ∙ sym (length-combine n y M columns)) (λ z k.
                dot_comm z (take n l.entries) ∙ f z (k ∙ g) ∙ transpose n y M z columns ∙ dot_comm (combine n y M) z);
            right = e;
          }

  -- what solves each row solves M z = r
  pub rows_solve : (z : List ℚ) → length z ≡ n → AllByRecursion (λ l. dot (take n l.entries) z ≡ entry l.entries n) final → rows_dot M z ≡ r
  rows_solve z e h =
      same_of_difference (rows_dot M z) r (length-rows_dot M z ∙ sym sides)
      (ap (λ k. add_each (rows_dot M z) (add_each (scale (neg_ℚ one_ℚ) r) (zeros k))) sides
      ∙ back z (neg_ℚ one_ℚ) (zeros m) e (length-zeros m)
      (each_weaker (λ l. dot (take n l.entries) z ≡ entry l.entries n) (Gives z (neg_ℚ one_ℚ) (zeros m)) final
      (λ l f. none_left (dot (take n l.entries) z) (entry l.entries n) (dot (drop (suc n) l.entries) (zeros m)) f (dot-zeros_right (drop (suc n) l.entries) m)) h)
      ∙ ap zeros (sym (length-rows_dot M z)))
    where
      none_left : (d x u : ℚ) → d ≡ x → u ≡ zero_ℚ → d +ℚ (x *ℚ neg_ℚ one_ℚ +ℚ u) ≡ zero_ℚ
      none_left d x u f g =
          ap (λ t. t +ℚ (x *ℚ neg_ℚ one_ℚ +ℚ u)) f ∙ ap (λ t. x +ℚ (x *ℚ neg_ℚ one_ℚ +ℚ t)) g
          ∙ ring rationals (x ∷ []) (λ x. x ⊕ (x ⊗ minus (lit 1) ⊕ lit 0) ≐ lit 0) refl

  -- what each row gives of v, M gives
  pub rows_give : (z v : List ℚ) → length z ≡ n → length v ≡ length M → AllByRecursion (λ l. dot (take n l.entries) z ≡ dot (drop (suc n) l.entries) v) final → rows_dot M z ≡ v
  rows_give z v e f h =
      let u = scale (neg_ℚ one_ℚ) v in
      same_beside_zero (rows_dot M z) r v (length-rows_dot M z ∙ sym sides) (length-rows_dot M z ∙ sym f)
      (back z zero_ℚ u e (length-scale (neg_ℚ one_ℚ) v ∙ f)
      (each_weaker (λ l. dot (take n l.entries) z ≡ dot (drop (suc n) l.entries) v) (Gives z zero_ℚ u) final
      (λ l g. none_left (dot (take n l.entries) z) (entry l.entries n) (dot (drop (suc n) l.entries) v) (dot (drop (suc n) l.entries) u) g (dot-scale_right (drop (suc n) l.entries) (neg_ℚ one_ℚ) v)) h)
      ∙ ap zeros (sym (length-rows_dot M z)))
    where
      none_left : (d x b u : ℚ) → d ≡ b → u ≡ neg_ℚ one_ℚ *ℚ b → d +ℚ (x *ℚ zero_ℚ +ℚ u) ≡ zero_ℚ
      none_left d x b u g f =
          ap (λ t. t +ℚ (x *ℚ zero_ℚ +ℚ u)) g ∙ ap (λ t. b +ℚ (x *ℚ zero_ℚ +ℚ t)) f
          ∙ ring rationals (x ∷ b ∷ []) (λ x b. b ⊕ (x ⊗ lit 0 ⊕ minus (lit 1) ⊗ b) ≐ lit 0) refl

  -- where no row refutes, the solution solves
  pub solution_solves : pivot_row n final ≡ None → rows_dot M (solution_from n 0 n final) ≡ r
  solution_solves e =
      rows_solve (solution_from n 0 n final) (length-solution_from n 0 n final)
      (each_weaker (λ l. Shaped w n final l × (may_pivot n l ≡ false)) (λ l. dot (take n l.entries) (solution_from n 0 n final) ≡ entry l.entries n) final
      (λ l t. row_holds w n final l n_within t.0 t.1) (each_both (Shaped w n final) (λ l. may_pivot n l ≡ false) final shapes (not_found n final e)))

  -- the refuting row
  at_row : (P : Line → Type 0) (row : List ℚ) → pivot_row n final ≡ Some row → AllByRecursion P final → P (unused row)
  at_row P row e h = let f = found n final row e in (each_parts P f.before (unused row) f.after (subst (AllByRecursion P) f.is h)).1

  pub refutation_length : (row : List ℚ) → pivot_row n final ≡ Some row → length (drop (suc n) row) ≡ m
  refutation_length row e = length-back (suc n) row m ((at_row (Shaped w n final) row e shapes).width ∙ at n (length M))
    where
      at : (n m : ℕ) → n + suc m ≡ suc n + m
      at n m = omega arith

  pub refutation_nothing : (row : List ℚ) → pivot_row n final ≡ Some row → combine n (drop (suc n) row) M ≡ zeros n
  refutation_nothing row e =
      let v = drop (suc n) row in
      let s = at_row (Shaped w n final) row e shapes in
      same_by_dot (combine n v M) (zeros n) (length-combine n v M columns ∙ sym (length-zeros n)) (λ z l.
      let f : length z ≡ n = l ∙ length-combine n v M columns in
      dot_comm z (combine n v M) ∙ sym (transpose n v M z columns)
      ∙ sym (at_row (λ l. dot (take n l.entries) z ≡ dot (drop (suc n) l.entries) (rows_dot M z)) row e (front_is z f))
      ∙ ap (λ u. dot u z) (unused_front w n final (unused row) n_within s refl) ∙ dot-zeros_left n z ∙ sym (dot-zeros_right z n))

  pub refutation_number : (row : List ℚ) → pivot_row n final ≡ Some row → dot (drop (suc n) row) r ≡ entry row n
  refutation_number row e = sym (at_row (λ l. entry l.entries n ≡ dot (drop (suc n) l.entries) r) row e right_is)

  pub refutation_nonzero : (row : List ℚ) → pivot_row n final ≡ Some row → ¬ (entry row n ≡ zero_ℚ)
  refutation_nonzero row e = differ_of_same_fields (entry row n) zero_ℚ (found n final row e).nonzero

  -- the answer is right
  pub answer_is_right : IsRight n M r (solved n M r)
  answer_is_right = by (pivot_row n final) refl
    where
      by : (o : Option (List ℚ)) → pivot_row n final ≡ o → IsRight n M r (answer_by n final o)
      by None e = record { size = length-solution_from n 0 n final; same = solution_solves e }
      by (Some row) e = record { size = refutation_length row e; nothing = refutation_nothing row e; number = refutation_number row e; nonzero = refutation_nonzero row e }

-- what is refuted has no solution
pub refuted_has_none : (n : ℕ) (M : List (List ℚ)) (r w z : List ℚ) (v : ℚ) → HasColumns n M → Refutes n M r w v → Solves n M r z → ⊥
refuted_has_none n M r w z v h f s =
    f.nonzero (sym f.number ∙ ap (dot w) (sym s.same) ∙ transpose n w M z h ∙ ap (λ u. dot u z) f.nothing ∙ dot-zeros_left n z)
