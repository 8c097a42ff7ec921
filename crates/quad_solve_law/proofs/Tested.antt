-- Tests that compute, for worked chains: each step and each end of a chain is shown by one test.
use Rattle.std.proofs.Common.{◌≡◌, ◌≢◌, refl, sym, ◌∙◌, ap, subst, ℕ, zero, suc, ◌+◌, ◌<◌, ◌≤◌, ◌⊎◌, inl, inr, ⊎_elim, Bool, true, false, List, [], ◌∷◌, length, ◌&&◌, ◌||◌, ◌==◌, if◌then◌else◌, arith}
use Rattle.std.specs.Prelude.{slice_index_or, nat_lt, nat_le, not, All, Option, Some, None}
use Rattle.std.proofs.lemmas.List.Elements.{All-nil, All-cons}
use Rattle.std.proofs.lemmas.Bool.Decides.{nat_tests}
use Rattle.rational.specs.Rational.{ℚ, zero_ℚ}
use Rattle.rational.specs.Order.{◌≤ℚ◌, ◌<ℚ◌, same_fields, same_fields_lem, differ_of_same_fields}
use Rattle.rational.specs.Sums.{entry}
use Rattle.rational.specs.Vectors.{HasColumns, rows_dot, row_at, combine, gradient, IsSymmetric, IsSemidefinite}
use Rattle.rational.specs.Tests.{is_negative, is_positive, is_le}
use Rattle.program_law.proofs.Numbers.{negative_below, below_negative, positive_above, above_positive, le_tested, lt_tested}
use Rattle.linear_basis_law.specs.Problem.{Problem, IsProblem, height}
use Rattle.linear_basis_law.specs.Lexicographic.{IsLexBelow}
use Rattle.linear_basis_law.specs.Basis.{Tableau, IsBasis, IsStanding, IsZeroCost, IsFinal, point, price, tableau_rows, unit_basis, solution_of, farkas_of}
use Rattle.linear_basis_law.proofs.Units.{units_basis, units_standing}
use Rattle.linear_basis_law.specs.Exchange.{IsLeaving, coordinates, quotient_row, exchanged}
use Rattle.linear_simplex_law.specs.Chain.{IsEntering, IsStrictStep, IsChain, EndsWithin}
use Rattle.linear_simplex_law.proofs.Steps.{ratio_steps}
use Rattle.program_law.specs.Region.{Region}
use Rattle.program_law.specs.Program.{Program}
use Rattle.program_law.specs.Columns.{value}
use Rattle.equational_law.specs.Form.{Form, width, form_of, point_of, multipliers_of}
use Rattle.equational_law.specs.Solutions.{IsForm, IsSolution}
use Rattle.face_descent_law.specs.Small.{IsStationary}
use Rattle.face_descent_law.specs.Step.{moved}
use Rattle.face_descent_law.proofs.Stationary.{stationary_of}
use Rattle.quad_solve_law.specs.Problems.{feasible_problem, ray_problem, price_problem, price_multipliers, direction}
use Rattle.quad_solve_law.specs.Steps.{LeadsDown, IsPriceStep, curvature}
use Rattle.quad_solve_law.specs.Walk.{IsSolved, IsPriced, IsSolvedWithin, IsRefutedWithin, IsDecidedWithin, Start, Price}
use Rattle.quad_solve_law.specs.Answer.{IsBest}
use Rattle.quad_solve_law.specs.Operations.{price_length}
use Rattle.quad_solve_law.proofs.Few.{past_the_end, below_or}
use Rattle.quad_solve_law.proofs.WalkSteps.{priced_down, start_solves, goes_further}
use Rattle.quad_solve_law.proofs.Lengths.{length_is}

both : (a b : Bool) → (a && b) ≡ true → (a ≡ true) × (b ≡ true)
both true b e = (refl, e)
both false b e = absurd (bad e)
  where
    bad : false ≡ true → ⊥
    bad e = cc

either : (a b : Bool) → (a || b) ≡ true → (a ≡ true) ⊎ (b ≡ true)
either true b e = inl refl
either false b e = inr e

none_both : (b : Bool) → b ≡ true → not b ≡ true → ⊥
none_both true e f = bad f
  where
    bad : false ≡ true → ⊥
    bad e = cc
none_both false e f = bad e
  where
    bad : false ≡ true → ⊥
    bad e = cc

none : {b : Bool} → b ≡ true → not b ≡ true → ⊥
none {b} e f = none_both b e f

-- a test of all numbers below a bound
abbrev all_below : (ℕ → Bool) → ℕ → Bool
all_below test zero = true
all_below test (suc k) = test k && all_below test k

each_below : (test : ℕ → Bool) (n : ℕ) → all_below test n ≡ true → (k : ℕ) → k < n → test k ≡ true
each_below test zero e k l = absurd (omega arith)
each_below test (suc n) e k l = by (last k l) (λ m. each_below test n (both (test n) (all_below test n) e).1 k m)
  where
    last : (k : ℕ) → k < suc n → (k < n) ⊎ (k ≡ n)
    last k h = grind arith

    by : (k < n) ⊎ (k ≡ n) → (k < n → test k ≡ true) → test k ≡ true
    by (inl m) rest = rest m
    by (inr d) rest = subst (λ (i : ℕ). test i ≡ true) (sym d) (both (test n) (all_below test n) e).0

below_is : (a b : ℕ) → nat_lt a b ≡ true → a < b
below_is a b e = grind (arith, nat_tests)

same_is : (a b : ℕ) → (a == b) ≡ true → a ≡ b
same_is a b e = grind (arith, nat_tests)

-- ---- lists

abbrev pub same_list : List ℚ → List ℚ → Bool
same_list [] [] = true
same_list [] (y ∷ v) = false
same_list (x ∷ u) [] = false
same_list (x ∷ u) (y ∷ v) = same_fields x y && same_list u v

bad : {A : Type 0} → false ≡ true → A
bad e = absurd (let c : false ≡ true = e in cc)

pub list_is : (u v : List ℚ) → same_list u v ≡ true → u ≡ v
list_is [] [] e = refl
list_is [] (y ∷ v) e = bad e
list_is (x ∷ u) [] e = bad e
list_is (x ∷ u) (y ∷ v) e = let b = both (same_fields x y) (same_list u v) e in ap (λ t. t ∷ u) (same_fields_lem x y b.0) ∙ ap (λ t. y ∷ t) (list_is u v b.1)

abbrev pub same_rows : List (List ℚ) → List (List ℚ) → Bool
same_rows [] [] = true
same_rows [] (v ∷ N) = false
same_rows (u ∷ M) [] = false
same_rows (u ∷ M) (v ∷ N) = same_list u v && same_rows M N

pub rows_are : (M N : List (List ℚ)) → same_rows M N ≡ true → M ≡ N
rows_are [] [] e = refl
rows_are [] (v ∷ N) e = bad e
rows_are (u ∷ M) [] e = bad e
rows_are (u ∷ M) (v ∷ N) e = let b = both (same_list u v) (same_rows M N) e in ap (λ t. t ∷ M) (list_is u v b.0) ∙ ap (λ t. v ∷ t) (rows_are M N b.1)

abbrev lex_below : List ℚ → List ℚ → Bool
lex_below [] v = false
lex_below (x ∷ u) [] = false
lex_below (x ∷ u) (y ∷ v) = if is_le y x then same_fields x y && lex_below u v else true

lex_is : (u v : List ℚ) → lex_below u v ≡ true → IsLexBelow u v
lex_is [] v e = bad e
lex_is (x ∷ u) [] e = bad e
lex_is (x ∷ u) (y ∷ v) e = by (is_le y x) refl e (λ k. lex_is u v k)
  where
    by : (b : Bool) → is_le y x ≡ b → (if b then same_fields x y && lex_below u v else true) ≡ true → (lex_below u v ≡ true → IsLexBelow u v) → (x <ℚ y) ⊎ ((x ≡ y) × IsLexBelow u v)
    by false l h rest = inl (lt_tested y x l)
    by true l h rest = let b = both (same_fields x y) (lex_below u v) h in inr (same_fields_lem x y b.0, rest b.1)

-- ---- bases

module _ (p : Problem) (b : Tableau) where
  abbrev pub enters : ℕ → Bool
  enters j = nat_lt j p.given && (is_negative (price p b j) && all_below (λ i. not (is_negative (price p b i))) j)

  entering : (j : ℕ) → enters j ≡ true → IsEntering p b j
  entering j e =
      let first = both (nat_lt j p.given) (is_negative (price p b j) && all_below (λ i. not (is_negative (price p b i))) j) e in
      let second = both (is_negative (price p b j)) (all_below (λ i. not (is_negative (price p b i))) j) first.1 in
      record {
        given = below_is j p.given first.0;
        falling = negative_below (price p b j) second.0;
        first = λ i l h. none (below_negative (price p b i) h) (each_below (λ i. not (is_negative (price p b i))) j second.1 i l);
      }

  abbrev is_least : ℕ → ℕ → ℕ → Bool
  is_least j l k = (k == l) || (not (is_positive (entry (coordinates p b j) k)) || lex_below (quotient_row (coordinates p b j) (tableau_rows p b) l) (quotient_row (coordinates p b j) (tableau_rows p b) k))

  abbrev pub leaves : ℕ → ℕ → Bool
  leaves j l = nat_lt l (height p) && (is_positive (entry (coordinates p b j) l) && all_below (is_least j l) (height p))

  leaving : (j l : ℕ) → leaves j l ≡ true → IsLeaving p b j l
  leaving j l e =
      let first = both (nat_lt l (height p)) (is_positive (entry (coordinates p b j) l) && all_below (is_least j l) (height p)) e in
      let second = both (is_positive (entry (coordinates p b j) l)) (all_below (is_least j l) (height p)) first.1 in
      record {
        place = below_is l (height p) first.0;
        positive = positive_above (entry (coordinates p b j) l) second.0;
        least = λ k m n h. ⊎_elim (λ s. absurd (n (same_is k l s)))
            (λ r. ⊎_elim (λ s. absurd (none (above_positive (entry (coordinates p b j) k) h) s)) (λ s. lex_is _ _ s)
            (either (not (is_positive (entry (coordinates p b j) k))) (lex_below (quotient_row (coordinates p b j) (tableau_rows p b) l) (quotient_row (coordinates p b j) (tableau_rows p b) k)) r))
            (either (k == l) (not (is_positive (entry (coordinates p b j) k)) || lex_below (quotient_row (coordinates p b j) (tableau_rows p b) l) (quotient_row (coordinates p b j) (tableau_rows p b) k))
            (each_below (is_least j l) (height p) second.1 k m));
      }

  abbrev pub is_free : ℕ → Bool
  is_free k = nat_lt (slice_index_or b.columns k 0) p.given || same_fields (entry (point p b) k) zero_ℚ

  abbrev pub costs_nothing : Bool
  costs_nothing = all_below is_free (height p)

  pub zero_cost : costs_nothing ≡ true → IsZeroCost p b
  zero_cost e k l u = ⊎_elim (λ s. let m = below_is (slice_index_or b.columns k 0) p.given s in absurd (omega arith)) (λ s. same_fields_lem (entry (point p b) k) zero_ℚ s)
      (either (nat_lt (slice_index_or b.columns k 0) p.given) (same_fields (entry (point p b) k) zero_ℚ) (each_below is_free (height p) e k l))

  -- the unit column at k costs something
  abbrev pub costs_at : ℕ → Bool
  costs_at k = nat_lt k (height p) && (not (nat_lt (slice_index_or b.columns k 0) p.given) && not (same_fields (entry (point p b) k) zero_ℚ))

  pub costly : (k : ℕ) → costs_at k ≡ true → ¬ (IsZeroCost p b)
  costly k e z =
      let first = both (nat_lt k (height p)) (not (nat_lt (slice_index_or b.columns k 0) p.given) && not (same_fields (entry (point p b) k) zero_ℚ)) e in
      let second = both (not (nat_lt (slice_index_or b.columns k 0) p.given)) (not (same_fields (entry (point p b) k) zero_ℚ)) first.1 in
      none (Rattle.rational.specs.Order.same_fields_self (entry (point p b) k) zero_ℚ (z k (below_is k (height p) first.0) (unit_there (slice_index_or b.columns k 0) p.given second.0))) second.1
    where
      unit_there : (c g : ℕ) → not (nat_lt c g) ≡ true → g ≤ c
      unit_there c g e = by (nat_lt c g) refl e
        where
          by : (t : Bool) → nat_lt c g ≡ t → not t ≡ true → g ≤ c
          by true s f = bad f
          by false s f = grind (arith, nat_tests)

  abbrev pub ends_at : ℕ → Bool
  ends_at k = costs_at k && all_below (λ j. not (is_negative (price p b j))) p.given

  pub final : (k : ℕ) → ends_at k ≡ true → IsFinal p b
  final k e =
      let parts = both (costs_at k) (all_below (λ j. not (is_negative (price p b j))) p.given) e in
      record {
        costs = costly k parts.0;
        prices = λ j l h. none (below_negative (price p b j) h) (each_below (λ j. not (is_negative (price p b j))) p.given parts.1 j l);
      }

-- a strict step: the unit column at k costs something, and column j comes in at the place l
pub record Pivot : Type 0 where
  pub costly : ℕ
  pub enter : ℕ
  pub leave : ℕ

abbrev pub pivot : ℕ → ℕ → ℕ → Pivot
pivot k j l = record { costly = k; enter = j; leave = l }

abbrev pub after : Problem → Tableau → Pivot → Tableau
after p b s = exchanged p b s.enter s.leave

abbrev pub steps_by : Problem → Tableau → Pivot → Bool
steps_by p b s = costs_at p b s.costly && (enters p b s.enter && leaves p b s.enter s.leave)

stepped : (p : Problem) → IsProblem p → (b : Tableau) → IsBasis p b → IsStanding p b → (s : Pivot) → steps_by p b s ≡ true → IsStrictStep p b (after p b s)
stepped p fits b basis standing s e =
    let first = both (costs_at p b s.costly) (enters p b s.enter && leaves p b s.enter s.leave) e in
    let second = both (enters p b s.enter) (leaves p b s.enter s.leave) first.1 in
    ratio_steps p fits b s.enter s.leave basis standing (costly p b s.costly first.0) (entering p b s.enter second.0) (leaving p b s.enter s.leave second.1)

-- ---- problems

abbrev all_long : ℕ → List (List ℚ) → Bool
all_long n [] = true
all_long n (row ∷ rows) = (length row == n) && all_long n rows

all_are_long : (n : ℕ) (rows : List (List ℚ)) → all_long n rows ≡ true → HasColumns n rows
all_are_long n [] e = All-nil (λ r. length r ≡ n)
all_are_long n (row ∷ rows) e = let b = both (length row == n) (all_long n rows) e in All-cons (λ r. length r ≡ n) row rows (same_is (length row) n b.0) (all_are_long n rows b.1)

abbrev all_nonneg : List ℚ → Bool
all_nonneg [] = true
all_nonneg (x ∷ u) = is_le zero_ℚ x && all_nonneg u

pub all_are_nonneg : (u : List ℚ) → all_nonneg u ≡ true → All (λ x. zero_ℚ ≤ℚ x) u
all_are_nonneg [] e = All-nil (λ x. zero_ℚ ≤ℚ x)
all_are_nonneg (x ∷ u) e = let b = both (is_le zero_ℚ x) (all_nonneg u) e in All-cons (λ x. zero_ℚ ≤ℚ x) x u (le_tested zero_ℚ x b.0) (all_are_nonneg u b.1)

abbrev pub is_problem : Problem → Bool
is_problem p = (length p.rows == height p) && (all_long p.given p.rows && all_nonneg p.right)

pub problem : (p : Problem) → is_problem p ≡ true → IsProblem p
problem p e =
    let a = both (length p.rows == height p) (all_long p.given p.rows && all_nonneg p.right) e in
    let b = both (all_long p.given p.rows) (all_nonneg p.right) a.1 in
    record { rows = same_is (length p.rows) (height p) a.0; columns = all_are_long p.given p.rows b.0; nonneg = all_are_nonneg p.right b.1 }

-- ---- chains

abbrev pub after_all : Problem → Tableau → List Pivot → Tableau
after_all p b [] = b
after_all p b (s ∷ pivots) = after_all p (after p b s) pivots

abbrev pub passes : Problem → Tableau → List Pivot → Bool
passes p b [] = true
passes p b (s ∷ pivots) = steps_by p b s && passes p (after p b s) pivots

-- a chain that ends at b, with so many strict steps
record IsChainOf (p : Problem) (b : Tableau) (count : ℕ) : Type 0 where
  earlier : List Tableau
  chain : IsChain p (b ∷ earlier)
  size : length earlier ≡ count

goes_through : (p : Problem) → IsProblem p → (b : Tableau) (k : ℕ) (pivots : List Pivot) → IsBasis p b → IsStanding p b → IsChainOf p b k → passes p b pivots ≡ true
    → IsChainOf p (after_all p b pivots) (length pivots + k)
goes_through p fits b k [] basis standing h e = record { earlier = h.earlier; chain = h.chain; size = h.size ∙ omega arith }
goes_through p fits b k (s ∷ pivots) basis standing h e =
    let t = both (steps_by p b s) (passes p (after p b s) pivots) e in
    let step = stepped p fits b basis standing s t.0 in
    let rest = goes_through p fits (after p b s) (suc k) pivots step.basis step.standing (record { earlier = b ∷ h.earlier; chain = (step, h.chain); size = ap suc h.size }) t.1 in
    record { earlier = rest.earlier; chain = rest.chain; size = rest.size ∙ omega arith }

-- the chain of a problem by these pivots, from its unit basis on
abbrev pub is_chain : Problem → List Pivot → ℕ → Bool
is_chain p pivots budget = is_problem p && (passes p (unit_basis p) pivots && nat_le (length pivots) budget)

ends_within : (p : Problem) (pivots : List Pivot) (budget : ℕ) → is_chain p pivots budget ≡ true → EndsWithin p budget (after_all p (unit_basis p) pivots)
ends_within p pivots budget e =
    let a = both (is_problem p) (passes p (unit_basis p) pivots && nat_le (length pivots) budget) e in
    let b = both (passes p (unit_basis p) pivots) (nat_le (length pivots) budget) a.1 in
    let fits = problem p a.0 in
    let h = goes_through p fits (unit_basis p) 0 pivots (units_basis p) (units_standing p fits) (record { earlier = []; chain = refl; size = refl }) b.0 in
    record { earlier = h.earlier; chain = h.chain; count = at_most (length h.earlier) (length pivots) budget h.size b.1 }
  where
    at_most : (m l b : ℕ) → m ≡ l + 0 → nat_le l b ≡ true → m ≤ b
    at_most m l b e f = let g : l ≤ b = grind (arith, nat_tests) in omega (arith, e, g)

abbrev pub solves_by : Problem → List Pivot → ℕ → List ℚ → Bool
solves_by p pivots budget x =
    is_chain p pivots budget && (costs_nothing p (after_all p (unit_basis p) pivots) && same_list (solution_of p (after_all p (unit_basis p) pivots)) x)

pub solved_by : (p : Problem) (pivots : List Pivot) (budget : ℕ) (x : List ℚ) → solves_by p pivots budget x ≡ true → IsSolvedWithin p budget x
solved_by p pivots budget x e =
    let b = after_all p (unit_basis p) pivots in
    let s = both (is_chain p pivots budget) (costs_nothing p b && same_list (solution_of p b) x) e in
    let t = both (costs_nothing p b) (same_list (solution_of p b) x) s.1 in
    record { basis = b; ends = ends_within p pivots budget s.0; zero_cost = zero_cost p b t.0; solution = sym (list_is (solution_of p b) x t.1) }

-- the unit column at k costs something at the end
abbrev pub refutes_by : Problem → List Pivot → ℕ → ℕ → List ℚ → Bool
refutes_by p pivots k budget y =
    is_chain p pivots budget && (ends_at p (after_all p (unit_basis p) pivots) k && same_list (farkas_of p (after_all p (unit_basis p) pivots)) y)

pub refuted_by : (p : Problem) (pivots : List Pivot) (k budget : ℕ) (y : List ℚ) → refutes_by p pivots k budget y ≡ true → IsRefutedWithin p budget y
refuted_by p pivots k budget y e =
    let b = after_all p (unit_basis p) pivots in
    let s = both (is_chain p pivots budget) (ends_at p b k && same_list (farkas_of p b) y) e in
    let t = both (ends_at p b k) (same_list (farkas_of p b) y) s.1 in
    record { basis = b; ends = ends_within p pivots budget s.0; final = final p b k t.0; farkas = sym (list_is (farkas_of p b) y t.1) }

-- ---- forms and solutions

abbrev pub is_form : ℕ → Form → Bool
is_form n f =
    all_long n f.matrix && ((length f.right == length f.matrix) && (all_nonneg f.right && ((length f.quadratic == n) && (all_long n f.quadratic && (length f.cost == n)))))

pub form : (n : ℕ) (f : Form) → is_form n f ≡ true → IsForm n f
form n f e =
    let a = both (all_long n f.matrix) ((length f.right == length f.matrix) && (all_nonneg f.right && ((length f.quadratic == n) && (all_long n f.quadratic && (length f.cost == n))))) e in
    let b = both (length f.right == length f.matrix) (all_nonneg f.right && ((length f.quadratic == n) && (all_long n f.quadratic && (length f.cost == n)))) a.1 in
    let c = both (all_nonneg f.right) ((length f.quadratic == n) && (all_long n f.quadratic && (length f.cost == n))) b.1 in
    let d = both (length f.quadratic == n) (all_long n f.quadratic && (length f.cost == n)) c.1 in
    let g = both (all_long n f.quadratic) (length f.cost == n) d.1 in
    record {
      columns = all_are_long n f.matrix a.0;
      right = same_is (length f.right) (length f.matrix) b.0;
      not_negative = all_are_nonneg f.right c.0;
      pairs_height = same_is (length f.quadratic) n d.0;
      pairs_width = all_are_long n f.quadratic g.0;
      cost = same_is (length f.cost) n g.1;
    }

abbrev pub same_form : Form → Form → Bool
same_form f g = same_rows f.matrix g.matrix && (same_list f.right g.right && (same_rows f.quadratic g.quadratic && (same_list f.cost g.cost && same_fields f.constant g.constant)))

pub form_is : (f g : Form) → same_form f g ≡ true → f ≡ g
form_is f g e =
    let a = both (same_rows f.matrix g.matrix) (same_list f.right g.right && (same_rows f.quadratic g.quadratic && (same_list f.cost g.cost && same_fields f.constant g.constant))) e in
    let b = both (same_list f.right g.right) (same_rows f.quadratic g.quadratic && (same_list f.cost g.cost && same_fields f.constant g.constant)) a.1 in
    let c = both (same_rows f.quadratic g.quadratic) (same_list f.cost g.cost && same_fields f.constant g.constant) b.1 in
    let d = both (same_list f.cost g.cost) (same_fields f.constant g.constant) c.1 in
    ap (λ M. made M f.right f.quadratic f.cost f.constant) (rows_are f.matrix g.matrix a.0) ∙ ap (λ r. made g.matrix r f.quadratic f.cost f.constant) (list_is f.right g.right b.0)
    ∙ ap (λ Q. made g.matrix g.right Q f.cost f.constant) (rows_are f.quadratic g.quadratic c.0) ∙ ap (λ c. made g.matrix g.right g.quadratic c f.constant) (list_is f.cost g.cost d.0)
    ∙ ap (made g.matrix g.right g.quadratic g.cost) (same_fields_lem f.constant g.constant d.1)
  where
    made : List (List ℚ) → List ℚ → List (List ℚ) → List ℚ → ℚ → Form
    made M r Q c k = record { matrix = M; right = r; quadratic = Q; cost = c; constant = k }

abbrev pub is_solution : Form → List ℚ → Bool
is_solution f z = (length z == length f.cost) && (same_list (rows_dot f.matrix z) f.right && all_nonneg z)

pub solution : (f : Form) (z : List ℚ) → is_solution f z ≡ true → IsSolution f z
solution f z e =
    let a = both (length z == length f.cost) (same_list (rows_dot f.matrix z) f.right && all_nonneg z) e in
    let b = both (same_list (rows_dot f.matrix z) f.right) (all_nonneg z) a.1 in
    record { width = same_is (length z) (length f.cost) a.0; equal = list_is (rows_dot f.matrix z) f.right b.0; not_negative = all_are_nonneg z b.1 }

abbrev pub is_symmetric : ℕ → List (List ℚ) → Bool
is_symmetric n Q = (length Q == n) && (all_long n Q && all_below (λ i. all_below (λ j. same_fields (entry (row_at Q i) j) (entry (row_at Q j) i)) n) n)

pub symmetric : (n : ℕ) (Q : List (List ℚ)) → is_symmetric n Q ≡ true → IsSymmetric n Q
symmetric n Q e =
    let test = λ (i : ℕ). all_below (λ j. same_fields (entry (row_at Q i) j) (entry (row_at Q j) i)) n in
    let a = both (length Q == n) (all_long n Q && all_below test n) e in
    let b = both (all_long n Q) (all_below test n) a.1 in
    record {
      rows = same_is (length Q) n a.0;
      columns = all_are_long n Q b.0;
      same = λ i j l m. same_fields_lem (entry (row_at Q i) j) (entry (row_at Q j) i)
          (each_below (λ j. same_fields (entry (row_at Q i) j) (entry (row_at Q j) i)) n (each_below test n b.1 i l) j m);
    }

-- ---- stationary points and price steps

-- multipliers that give the gradient where z is not 0
abbrev pub gives_slope : ℕ → Form → List ℚ → List ℚ → Bool
gives_slope n f z y =
    (length y == length f.matrix)
    && all_below (λ j. same_fields (entry z j) zero_ℚ || same_fields (entry (combine n y f.matrix) j) (entry (gradient f.quadratic f.cost z) j)) n

pub stationary : (n : ℕ) (f : Form) (z y : List ℚ) → IsForm n f → IsSemidefinite n f.quadratic → length z ≡ n → gives_slope n f z y ≡ true → IsStationary f z
stationary n f z y fits semi wide e = stationary_of n f z fits wide semi (record { multipliers = y; size = same_is (length y) (length f.matrix) a.0; same = same })
  where
    a : ((length y == length f.matrix) ≡ true) × (all_below (λ j. same_fields (entry z j) zero_ℚ || same_fields (entry (combine n y f.matrix) j) (entry (gradient f.quadratic f.cost z) j)) n ≡ true)
    a = both (length y == length f.matrix) (all_below (λ j. same_fields (entry z j) zero_ℚ || same_fields (entry (combine n y f.matrix) j) (entry (gradient f.quadratic f.cost z) j)) n) e

    here : (j : ℕ) → j < n → entry z j ≢ zero_ℚ → entry (combine n y f.matrix) j ≡ entry (gradient f.quadratic f.cost z) j
    here j l d = ⊎_elim (λ s. absurd (d (same_fields_lem (entry z j) zero_ℚ s))) (λ s. same_fields_lem _ _ s)
        (either (same_fields (entry z j) zero_ℚ) (same_fields (entry (combine n y f.matrix) j) (entry (gradient f.quadratic f.cost z) j))
        (each_below (λ j. same_fields (entry z j) zero_ℚ || same_fields (entry (combine n y f.matrix) j) (entry (gradient f.quadratic f.cost z) j)) n a.1 j l))

    same : (j : ℕ) → entry z j ≢ zero_ℚ → entry (combine n y f.matrix) j ≡ entry (gradient f.quadratic f.cost z) j
    same j d = ⊎_elim (λ l. here j l d) (λ l. absurd (d (past_the_end z j (omega (arith, l, wide))))) (below_or j n)

abbrev same_some : Option ℚ → ℚ → Bool
same_some None s = false
same_some (Some t) s = same_fields t s

some_is : (o : Option ℚ) (s : ℚ) → same_some o s ≡ true → o ≡ Some s
some_is None s e = bad e
some_is (Some t) s e = ap Some (same_fields_lem t s e)

-- a price step from z by s along the direction d of a solution x of the price problem
abbrev pub is_priced : Form → List ℚ → List ℚ → List ℚ → ℚ → List ℚ → Bool
is_priced f z x d s next = same_list (direction f z x) d && (same_some (price_length (curvature f d) z d) s && same_list (moved z d s) next)

pub priced : (n : ℕ) (f : Form) (z x d : List ℚ) (s : ℚ) (next : List ℚ) → IsForm n f → IsSemidefinite n f.quadratic → IsSolution f z → IsStationary f z → IsSolved (price_problem f z) x
    → is_priced f z x d s next ≡ true → IsPriced f z next
priced n f z x d s next fits semi at still solved e =
    let a = both (same_list (direction f z x) d) (same_some (price_length (curvature f d) z d) s && same_list (moved z d s) next) e in
    let b = both (same_some (price_length (curvature f d) z d) s) (same_list (moved z d s) next) a.1 in
    let way : direction f z x ≡ d = list_is (direction f z x) d a.0 in
    record {
      stationary = still;
      solution = x;
      solved = solved;
      step = s;
      goes = subst (λ w. IsPriceStep f z w s) (sym way)
          ((length_is n f z d fits semi at (subst (LeadsDown f z) way (priced_down n f fits semi z x at solved)) s).1 (some_is (price_length (curvature f d) z d) s b.0));
      end = sym (list_is (moved z d s) next b.1) ∙ ap (λ w. moved z w s) (sym way);
    }

-- ---- answers

-- the answer of a form whose walk has one price step, from start to end
pub record IsOneStep (n : ℕ) (f : Form) (budget : ℕ) (start end farkas : List ℚ) : Type 0 where
  pub fits : IsForm n f
  pub convex : IsSemidefinite n f.quadratic
  pub solved : IsSolvedWithin (feasible_problem f) budget start
  pub no_ray : (w : List ℚ) × IsRefutedWithin (ray_problem f) budget w
  pub direction : (x : List ℚ) × IsSolvedWithin (price_problem f start) budget x
  pub step : IsPriced f start end
  pub still : IsStationary f end
  pub refuted : IsRefutedWithin (price_problem f end) budget farkas
  pub room : 1 ≤ budget

-- what is carried back of it, in a region with this form
pub best_by : (p : Program) (region : Region) (f : Form) (n budget : ℕ) (start end farkas x : List ℚ) (least : ℚ) (y : List ℚ) → form_of p region ≡ f → width p region ≡ n
    → IsOneStep n f budget start end farkas → x ≡ point_of region end → least ≡ value p x → y ≡ multipliers_of p region (price_multipliers f farkas) → IsBest p region budget x least y
best_by p region f n budget start end farkas x least y e w h at v m =
    by (subst (λ f. IsOneStep (width p region) f budget start end farkas) (sym e) (subst (λ (k : ℕ). IsOneStep k f budget start end farkas) (sym w) h))
    (subst (λ f. y ≡ multipliers_of p region (price_multipliers f farkas)) (sym e) m)
  where
    by : IsOneStep (width p region) (form_of p region) budget start end farkas → y ≡ multipliers_of p region (price_multipliers (form_of p region) farkas) → IsBest p region budget x least y
    by h m =
        let f = form_of p region in
        let solves = start_solves (width p region) f start h.fits (budget, h.solved) in
        record {
          start = start;
          solved = h.solved;
          no_ray = h.no_ray;
          newest = record { point = end; way = Price };
          earlier = record { point = start; way = Start } ∷ [];
          walk = goes_further (width p region) f h.fits h.convex start solves (record { point = start; way = Start }) [] Price end refl h.step;
          stationary = h.still;
          farkas = farkas;
          refuted = h.refuted;
          prices = All-cons (λ v. IsStationary f v.point → IsDecidedWithin (price_problem f v.point) budget) (record { point = end; way = Price }) (record { point = start; way = Start } ∷ [])
              (λ st. inr (farkas, h.refuted))
              (All-cons (λ v. IsStationary f v.point → IsDecidedWithin (price_problem f v.point) budget) (record { point = start; way = Start }) [] (λ st. inl h.direction)
              (All-nil (λ v. IsStationary f v.point → IsDecidedWithin (price_problem f v.point) budget)));
          count = let r = h.room in omega arith;
          point = at;
          value = v;
          multipliers = m;
        }
