-- A point is stationary exactly where some multipliers give the gradient on its support.
use Rattle.std.proofs.Common.{◌≡◌, ◌≢◌, refl, sym, ◌∙◌, ap, subst, ℕ, zero, suc, ◌+◌, ◌<◌, List, [], ◌∷◌, ◌++◌, length, map, take, drop, arith, length-append}
use Rattle.std.specs.List.{All}
use Rattle.std.proofs.lemmas.List.{take-append-drop, length-map}
use Rattle.std.proofs.lemmas.List.Elements.{All-weaker}
use Rattle.algebra.proofs.Polynomial.{minus, ◌⊗◌, ◌≐◌, lit}
use Rattle.algebra.proofs.Certificate.{prove, scaled, ◌⇐◌}
use Rattle.algebra.proofs.Solver.{ring}
use Rattle.rational.specs.Rational.{ℚ, zero_ℚ, one_ℚ, ◌*ℚ◌, neg_ℚ}
use Rattle.rational.specs.Sums.{entry}
use Rattle.rational.specs.Vectors.{HasColumns, dot, add_each, scale, zeros, rows_dot, combine, gradient, pick, put_at, IsSemidefinite}
use Rattle.rational.proofs.Field.{rationals}
use Rattle.rational.proofs.Order.{ordered_rationals}
use Rattle.rational.proofs.Vectors.{length-combine, same_by_dot, dot-zeros_left, dot-zeros_right, transpose, length-zeros, length-scale, length-add_each, length-rows_dot, dot_comm, dot-scale_left, entry-scale, entry-zeros, combine-scale}
use Rattle.rational.proofs.Forms.{null_of_form}
use Rattle.rational.proofs.Supports.{dot-pick, length-pick, length-put_at}
use Rattle.elimination_law.specs.Answers.{Answer, Solution, Refutation}
use Rattle.elimination_law.specs.Meaning.{IsRight, Solves}
use Rattle.elimination_law.proofs.Vectors.{length-front, length-back, rows_dot-zeros}
use Rattle.elimination_law.proofs.Solved.{answer_is_right, refuted_has_none}
use Rattle.elimination_law.proofs.Free.{solve_independent, solution_off}
use Rattle.equational_law.specs.Form.{Form}
use Rattle.equational_law.specs.Solutions.{IsForm}
use Rattle.face_descent_law.specs.Small.{support, small_rows, small_right, small_width, small_answer, IsStationary, HasMultipliers}
use Rattle.face_descent_law.proofs.Supports.{at_place, same_picked, same_of_picked, pick-zeros, put_at-zeros, support_below, support_nonzero, off_support}
use Rattle.face_descent_law.proofs.Small.{sum_of, small_gives, at_places, at_equations, multipliers_flat, form_is, small_columns, small_height, first_part}

-- the negated vector
abbrev pub less : List ℚ → List ℚ
less u = scale (neg_ℚ one_ℚ) u

pub minus_one : (x : ℚ) → neg_ℚ x ≡ neg_ℚ one_ℚ *ℚ x
minus_one x = ring rationals (x ∷ []) (λ x. minus x ≐ minus (lit 1) ⊗ x) refl

-- the right sides at the places are picked from -g
pub right_is_picked : (S : List ℕ) (g : List ℚ) → map (λ i. neg_ℚ (entry g i)) S ≡ pick S (less g)
right_is_picked [] g = refl
right_is_picked (i ∷ S) g =
    ap (λ x. x ∷ map (λ i. neg_ℚ (entry g i)) S) (minus_one (entry g i) ∙ sym (entry-scale (neg_ℚ one_ℚ) g i))
    ∙ ap (λ v. entry (less g) i ∷ v) (right_is_picked S g)

pub pick-scale : (S : List ℕ) (t : ℚ) (u : List ℚ) → pick S (scale t u) ≡ scale t (pick S u)
pick-scale [] t u = refl
pick-scale (i ∷ S) t u = ap (λ x. x ∷ pick S (scale t u)) (entry-scale t u i) ∙ ap (λ v. (t *ℚ entry u i) ∷ v) (pick-scale S t u)

pub zeros_append : (k m : ℕ) → zeros k ++ zeros m ≡ zeros (k + m)
zeros_append zero m = ap zeros (omega arith)
zeros_append (suc k) m =
    let e : suc (k + m) ≡ suc k + m = omega arith in
    ap (λ v. zero_ℚ ∷ v) (zeros_append k m) ∙ ap zeros e

-- before zeros the entries stand as in the part that they are taken from
padded_off : (k m : ℕ) (x : List ℚ) (c : ℕ) → entry x c ≡ zero_ℚ → entry (take k x ++ zeros m) c ≡ zero_ℚ
padded_off zero m x c h = entry-zeros m c
padded_off (suc k) m [] c h = entry-zeros m c
padded_off (suc k) m (a ∷ x) zero h = h
padded_off (suc k) m (a ∷ x) (suc c) h = padded_off k m x c h

pub add-zeros : (a : List ℚ) (n : ℕ) → length a ≡ n → add_each a (zeros n) ≡ a
add-zeros [] n e = refl
add-zeros (x ∷ a) zero e = absurd (omega (arith, e))
add-zeros (x ∷ a) (suc n) e =
    let f : length a ≡ n = omega (arith, e) in
    ap (λ t. t ∷ add_each a (zeros n)) (rationals.add_zero x) ∙ ap (λ s. x ∷ s) (add-zeros a n f)

zeros-add : (a : List ℚ) (n : ℕ) → length a ≡ n → add_each (zeros n) a ≡ a
zeros-add [] zero e = refl
zeros-add [] (suc n) e = absurd (omega (arith, e))
zeros-add (x ∷ a) zero e = absurd (omega (arith, e))
zeros-add (x ∷ a) (suc n) e =
    let f : length a ≡ n = omega (arith, e) in
    ap (λ t. t ∷ add_each (zeros n) a) (rationals.add_comm zero_ℚ x ∙ rationals.add_zero x) ∙ ap (λ s. x ∷ s) (zeros-add a n f)

combine-zeros : (n m : ℕ) (M : List (List ℚ)) → HasColumns n M → combine n (zeros m) M ≡ zeros n
combine-zeros n m M h =
    let a = length-combine n (zeros m) M h in
    same_by_dot _ _ (a ∙ sym (length-zeros n)) (λ w l. dot_comm w (combine n (zeros m) M) ∙ sym (transpose n (zeros m) M w h) ∙ dot-zeros_left m (rows_dot M w) ∙ sym (dot-zeros_right w n))

module _ (n : ℕ) (f : Form) (z : List ℚ) (is : IsForm n f) (wide : length z ≡ n) where
  abbrev pub S : List ℕ
  S = support z

  abbrev pub g : List ℚ
  g = gradient f.quadratic f.cost z

  abbrev pub K : List (List ℚ)
  K = small_rows f S

  abbrev pub k : ℕ
  k = length S

  abbrev pub m : ℕ
  m = length f.matrix

  abbrev pub rhs : List ℚ
  rhs = small_right f S g

  pub below : All (λ j. j < n) S
  below = support_below n z wide

  pub length-g : length g ≡ n
  length-g = length-add_each (rows_dot f.quadratic z) f.cost (length-rows_dot f.quadratic z ∙ is.pairs_height ∙ sym is.cost) ∙ length-rows_dot f.quadratic z ∙ is.pairs_height

  pub length-rhs : length rhs ≡ length K
  length-rhs =
      length-append (map (λ i. neg_ℚ (entry g i)) S) (zeros m) ∙ ap (λ t. t + length (zeros m)) (length-map S (λ i. neg_ℚ (entry g i)))
      ∙ ap (λ t. k + t) (length-zeros m) ∙ sym (small_height n f is S)

  pub answer_right : IsRight (small_width f S) K rhs (small_answer f z)
  answer_right = answer_is_right (small_width f S) K rhs (small_columns n f is S) length-rhs

  pub right_is : rhs ≡ pick S (less g) ++ zeros m
  right_is = ap (λ v. v ++ zeros m) (right_is_picked S g)

  -- a solution, in its two parts
  module _ (x : List ℚ) (solves : Solves (small_width f S) K rhs x) where
    abbrev pub e : List ℚ
    e = take k x

    abbrev pub l : List ℚ
    l = drop k x

    pub length-e : length e ≡ k
    length-e = let a = solves.size in length-front k x (omega arith)

    pub length-l : length l ≡ m
    length-l = length-back k x m solves.size

    pub gives : rows_dot K (e ++ l) ≡ pick S (less g) ++ zeros m
    gives = ap (rows_dot K) (take-append-drop k x) ∙ solves.same ∙ right_is

    abbrev pub d : List ℚ
    d = put_at n S e

    pub keeps : rows_dot f.matrix d ≡ zeros m
    keeps = at_equations n f is S below e l (pick S (less g)) length-e (length-pick S (less g)) gives

    pub sums : pick S (sum_of n f is d l) ≡ pick S (less g)
    sums = at_places n f is S below e l (pick S (less g)) length-e (length-pick S (less g)) gives

    pub form_of_d : dot d (rows_dot f.quadratic d) ≡ dot (pick S (less g)) e
    form_of_d = form_is n f is S below e l (pick S (less g)) length-e (length-pick S (less g)) gives

    -- the form of d is -g d
    pub form_falls : dot d (rows_dot f.quadratic d) ≡ neg_ℚ (dot g d)
    form_falls = form_of_d ∙ dot-pick n S (less g) e (length-scale (neg_ℚ one_ℚ) g ∙ length-g) ∙ dot-scale_left (neg_ℚ one_ℚ) g d ∙ sym (minus_one (dot g d))

    pub flat_of : (y : List ℚ) → dot d (combine n y f.matrix) ≡ zero_ℚ
    flat_of y = multipliers_flat n f is S below e l (pick S (less g)) length-e (length-pick S (less g)) gives y

    -- with multipliers, d has no form, and so e is 0
    module _ (has : HasMultipliers n f z) (half_definite : IsSemidefinite n f.quadratic) (answered : small_answer f z ≡ Solution x) where
      same_on : pick S (combine n has.multipliers f.matrix) ≡ pick S g
      same_on = same_picked S (combine n has.multipliers f.matrix) g
          (All-weaker (λ j. entry z j ≢ zero_ℚ) (λ j. entry (combine n has.multipliers f.matrix) j ≡ entry g j) has.same S (support_nonzero z))

      no_slope : dot g d ≡ zero_ℚ
      no_slope =
          sym (dot-pick n S g e length-g) ∙ ap (λ v. dot v e) (sym same_on)
          ∙ dot-pick n S (combine n has.multipliers f.matrix) e (length-combine n has.multipliers f.matrix is.columns)
          ∙ dot_comm (combine n has.multipliers f.matrix) d ∙ flat_of has.multipliers

      no_form : dot d (rows_dot f.quadratic d) ≡ zero_ℚ
      no_form = form_falls ∙ ap neg_ℚ no_slope ∙ ring rationals [] (minus (lit 0) ≐ lit 0) refl

      no_pairs : rows_dot f.quadratic d ≡ zeros n
      no_pairs = null_of_form n f.quadratic half_definite d (length-put_at n S e) no_form

      no_sum : sum_of n f is d (zeros m) ≡ zeros n
      no_sum = ap (λ v. add_each v (combine n (zeros m) f.matrix)) no_pairs ∙ ap (add_each (zeros n)) (combine-zeros n m f.matrix is.columns) ∙ add-zeros (zeros n) n (length-zeros n)

      killed : rows_dot K (e ++ zeros m) ≡ zeros (length K)
      killed =
          small_gives n f is S e (zeros m) below length-e
          ∙ ap (λ v. pick S v ++ rows_dot f.matrix d) no_sum ∙ ap (λ v. v ++ rows_dot f.matrix d) (pick-zeros S n) ∙ ap (λ v. zeros k ++ v) keeps
          ∙ zeros_append k m ∙ ap zeros (sym (small_height n f is S))

      padded_length : length (e ++ zeros m) ≡ small_width f S
      padded_length = length-append e (zeros m) ∙ ap (λ t. t + length (zeros m)) length-e ∙ ap (λ t. k + t) (length-zeros m)

      pub no_step : e ≡ zeros k
      no_step = first_part e (zeros m) (zeros k) (zeros m) (length-e ∙ sym (length-zeros k))
          (solve_independent (small_width f S) K rhs (small_columns n f is S) length-rhs (e ++ zeros m) padded_length killed
          (λ c b free. padded_off k m x c (solution_off (small_width f S) K rhs x answered c b free)) ∙ sym (zeros_append k m))

    -- without a step, the negated multipliers give the gradient
    module _ (still : e ≡ zeros k) where
      only_multipliers : sum_of n f is d l ≡ combine n l f.matrix
      only_multipliers =
          ap (λ v. sum_of n f is (put_at n S v) l) still ∙ ap (λ v. sum_of n f is v l) (put_at-zeros n S k)
          ∙ ap (λ v. add_each v (combine n l f.matrix)) (rows_dot-zeros f.quadratic n ∙ ap zeros is.pairs_height)
          ∙ zeros-add (combine n l f.matrix) n (length-combine n l f.matrix is.columns)

      turned : (a b : ℚ) → a ≡ neg_ℚ one_ℚ *ℚ b → neg_ℚ one_ℚ *ℚ a ≡ b
      turned a b e = prove ordered_rationals (a ∷ b ∷ []) (λ a b. minus (lit 1) ⊗ a ≐ b ⇐ scaled (minus (lit 1)) a (minus (lit 1) ⊗ b)) refl e

      pub multipliers_there : HasMultipliers n f z
      multipliers_there = record {
        multipliers = less l;
        size = length-scale (neg_ℚ one_ℚ) l ∙ length-l;
        same = λ j there.
            let a = at_place (λ i. entry (combine n l f.matrix) i ≡ entry (less g) i) S j
            (same_of_picked S (combine n l f.matrix) (less g) (ap (pick S) (sym only_multipliers) ∙ sums)) (λ off. there (off_support z j off)) in
            ap (λ v. entry v j) (combine-scale n (neg_ℚ one_ℚ) l f.matrix is.columns) ∙ entry-scale (neg_ℚ one_ℚ) (combine n l f.matrix) j
            ∙ turned _ _ (a ∙ entry-scale (neg_ℚ one_ℚ) g j);
      }

  -- with multipliers the small system has a solution
  solution_there : (has : HasMultipliers n f z) → Solves (small_width f S) K rhs (zeros k ++ less has.multipliers)
  solution_there has =
      let y = has.multipliers in
      let c = combine n y f.matrix in
      record {
        size = length-append (zeros k) (less y) ∙ ap (λ t. t + length (less y)) (length-zeros k) ∙ ap (λ t. k + t) (length-scale (neg_ℚ one_ℚ) y ∙ has.size);
        same = small_gives n f is S (zeros k) (less y) below (length-zeros k)
            ∙ ap (λ v. pick S (sum_of n f is v (less y)) ++ rows_dot f.matrix v) (put_at-zeros n S k)
            ∙ ap (λ v. pick S (add_each v (combine n (less y) f.matrix)) ++ rows_dot f.matrix (zeros n)) (rows_dot-zeros f.quadratic n ∙ ap zeros is.pairs_height)
            ∙ ap (λ v. pick S v ++ rows_dot f.matrix (zeros n)) (zeros-add (combine n (less y) f.matrix) n (length-combine n (less y) f.matrix is.columns) ∙ combine-scale n (neg_ℚ one_ℚ) y f.matrix is.columns)
            ∙ ap (λ v. pick S (less c) ++ v) (rows_dot-zeros f.matrix n)
            ∙ ap (λ v. v ++ zeros m) (pick-scale S (neg_ℚ one_ℚ) c
            ∙ ap less (same_picked S c g (All-weaker (λ j. entry z j ≢ zero_ℚ) (λ j. entry c j ≡ entry g j) has.same S (support_nonzero z))) ∙ sym (pick-scale S (neg_ℚ one_ℚ) g))
            ∙ sym right_is;
      }

  pub multipliers_of : IsStationary f z → HasMultipliers n f z
  multipliers_of h = multipliers_there h.unknowns (subst (IsRight (small_width f S) K rhs) h.solved answer_right) h.still

  pub stationary_of : IsSemidefinite n f.quadratic → HasMultipliers n f z → IsStationary f z
  stationary_of definite has = by (small_answer f z) refl
    where
      by : (a : Answer) → small_answer f z ≡ a → IsStationary f z
      by (Solution x) e = record { unknowns = x; solved = e; still = no_step x (subst (IsRight (small_width f S) K rhs) e answer_right) has definite e }
      by (Refutation w v) e = absurd (refuted_has_none (small_width f S) K rhs w (zeros k ++ less has.multipliers) v (small_columns n f is S) (subst (IsRight (small_width f S) K rhs) e answer_right) (solution_there has))
