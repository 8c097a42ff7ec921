-- The ray problem and the price problem, as they are assembled, and how many columns they have.
use Rattle.std.proofs.Common.{◌≡◌, refl, sym, subst, ap, ◌∙◌, ℕ, ◌+◌, ◌*◌, ◌<◌, ◌≤◌, ◌^◌, List, [], ◌∷◌, ◌++◌, length, map, arith, append_assoc}
use Rattle.std.specs.Prelude.{All, OnOk, Result, Ok, Err}
use Rattle.std.proofs.lemmas.List.{append-nil, length-append, length-map}
use Rattle.std.proofs.lemmas.List.Elements.{All-nil, All-cons, All-append}
use Rattle.algebra.proofs.Polynomial.{◌≐◌, minus}
use Rattle.algebra.proofs.Solver.{ring}
use Rattle.rational.specs.Rational.{ℚ, one_ℚ, neg_ℚ}
use Rattle.rational.specs.Sums.{entry}
use Rattle.rational.specs.Vectors.{pick, zeros, HasColumns}
use Rattle.rational.proofs.Field.{rationals}
use Rattle.exact_matrix.specs.Grid.{Grid, rows_of}
use Rattle.exact_matrix.specs.Systems.{joined}
use Rattle.program_law.specs.Region.{Region}
use Rattle.program_law.specs.Program.{Program, IsProgram}
use Rattle.linear_basis_law.specs.Problem.{Problem, width, IsProblem}
use Rattle.linear_basis.specs.Kept.{problem}
use Rattle.equational_law.specs.Form.{Form, form_of}
use Rattle.equational_law.specs.Form as form
use Rattle.equational_law.specs.Solutions.{IsForm}
use Rattle.equational_law.proofs.Shapes.{shape}
use Rattle.equational.specs.Formed.{Formed}
use Rattle.face_descent_law.specs.Small.{slope, support}
use Rattle.face_descent_law.proofs.Supports.{support_below}
use Rattle.face_descent.proofs.Systems.{joined-append}
use Rattle.quad_solve_law.specs.Problems.{doubled, price_problem, price_rows, ray_problem}
use Rattle.quad_solve_law.proofs.Counts.{price_height, ray_size}
use Rattle.quad_solve_law.proofs.Descents.{length-slope, prices_form_a_problem, wide_matrix}
use Rattle.quad_solve_law.proofs.Directions.{rays_form_a_problem}
use Rattle.quad_solve_law.proofs.Doubled.{length-places, wide_doubled}
use Rattle.quad_solve_law.proofs.Lists.{entry-negated, length-negated}
use Rattle.form_problems.specs.Chains.{IsFormOf}
use Rattle.form_problems.proofs.Lists.{made, zeros_together}
use Rattle.form_problems.proofs.Sizes.{few_columns, few_equations}

-- ---- the matrix of the ray problem

pub ray_entries : {A E : Type 0} (answer : Result A E) (f : Form) (M Q : List (List ℚ)) (c first one two all : List ℚ) → M ≡ f.matrix → Q ≡ f.quadratic → c ≡ f.cost
    → one ≡ first ++ joined M → two ≡ one ++ joined Q → OnOk answer (all ≡ two ++ map neg_ℚ c) → OnOk answer (all ≡ first ++ joined (ray_problem f).rows)
ray_entries (Err stop) f M Q c first one two all matrix quadratic cost second third last = tt
ray_entries (Ok done) f M Q c first one two all matrix quadratic cost second third last =
    last ∙ ap (λ u. u ++ map neg_ℚ c) (third ∙ ap (λ u. u ++ joined Q) second)
    ∙ ap (λ c. ((first ++ joined M) ++ joined Q) ++ map neg_ℚ c) cost ∙ ap (λ M. ((first ++ joined M) ++ joined Q) ++ map neg_ℚ f.cost) matrix
    ∙ ap (λ Q. ((first ++ joined f.matrix) ++ joined Q) ++ map neg_ℚ f.cost) quadratic
    ∙ append_assoc (first ++ joined f.matrix) (joined f.quadratic) (map neg_ℚ f.cost) ∙ append_assoc first (joined f.matrix) (joined f.quadratic ++ map neg_ℚ f.cost)
    ∙ ap (λ u. first ++ (joined f.matrix ++ u)) (ap (λ u. joined f.quadratic ++ u) (sym (append-nil (map neg_ℚ f.cost))) ∙ sym (joined-append f.quadratic (map neg_ℚ f.cost ∷ [])))
    ∙ ap (λ u. first ++ u) (sym (joined-append f.matrix (f.quadratic ++ map neg_ℚ f.cost ∷ [])))

module _ (f : Form) (is : IsForm (length f.cost) f) (w n : ℕ) (none all : List ℚ)
    (wide : w ≡ length f.cost) (high : n ≡ length f.matrix + length f.quadratic + 1) (start : none ≡ []) (last : all ≡ none ++ joined (ray_problem f).rows) where
  pub ray_made : (length all ≡ n * w) × (rows_of w n all ≡ (ray_problem f).rows)
  ray_made = made w n all (ray_problem f).rows
      (subst (λ w. HasColumns w (ray_problem f).rows) (sym wide) (rays_form_a_problem (length f.cost) f is).columns)
      (omega (arith, high, length-append f.matrix (f.quadratic ++ map neg_ℚ f.cost ∷ []), length-append f.quadratic (map neg_ℚ f.cost ∷ [])))
      (last ∙ ap (λ u. u ++ joined (ray_problem f).rows) start)

-- ---- the matrix of the price problem

twice_negated : (s : List ℕ) (g : List ℚ) → map neg_ℚ (pick s (map neg_ℚ g)) ≡ pick s g
twice_negated [] g = refl
twice_negated (j ∷ s) g = both (ap neg_ℚ (entry-negated g j) ∙ ring rationals (entry g j ∷ []) (λ x. minus (minus x) ≐ x) refl) (twice_negated s g)
  where
    both : {x y : ℚ} {xs ys : List ℚ} → x ≡ y → xs ≡ ys → x ∷ xs ≡ y ∷ ys
    both e f = cc

map_append : (s : List ℕ) (M : List (List ℚ)) (row : List ℚ) → map (doubled s) (M ++ row ∷ []) ≡ map (doubled s) M ++ doubled s row ∷ []
map_append s [] row = refl
map_append s (r ∷ M) row = ap (λ rows. doubled s r ∷ rows) (map_append s M row)

pub price_entries : {A E : Type 0} (answer : Result A E) (f : Form) (g : List ℚ) (s : List ℕ) (M : List (List ℚ)) (first one two all : List ℚ) → M ≡ f.matrix
    → one ≡ first ++ joined (map (doubled s) M) → two ≡ one ++ map neg_ℚ g → OnOk answer (all ≡ two ++ pick s g) → OnOk answer (all ≡ first ++ joined (map (doubled s) (price_rows f g)))
price_entries (Err stop) f g s M first one two all matrix second third last = tt
price_entries (Ok done) f g s M first one two all matrix second third last =
    last ∙ ap (λ u. u ++ pick s g) (third ∙ ap (λ u. u ++ map neg_ℚ g) second)
    ∙ ap (λ M. ((first ++ joined (map (doubled s) M)) ++ map neg_ℚ g) ++ pick s g) matrix
    ∙ append_assoc (first ++ joined (map (doubled s) f.matrix)) (map neg_ℚ g) (pick s g) ∙ append_assoc first (joined (map (doubled s) f.matrix)) (map neg_ℚ g ++ pick s g)
    ∙ ap (λ u. first ++ (joined (map (doubled s) f.matrix) ++ (map neg_ℚ g ++ u))) (sym (twice_negated s g))
    ∙ ap (λ u. first ++ (joined (map (doubled s) f.matrix) ++ u)) (sym (append-nil (doubled s (map neg_ℚ g))))
    ∙ ap (λ u. first ++ u) (sym (ap joined (map_append s f.matrix (map neg_ℚ g)) ∙ joined-append (map (doubled s) f.matrix) (doubled s (map neg_ℚ g) ∷ [])))

module _ (f : Form) (is : IsForm (length f.cost) f) (g : List ℚ) (s : List ℕ) (w n : ℕ) (none all : List ℚ)
    (gradient : length g ≡ length f.cost) (wide : w ≡ length f.cost + length s) (high : n ≡ length f.matrix + 1)
    (start : none ≡ []) (last : all ≡ none ++ joined (map (doubled s) (price_rows f g))) where
  columns : HasColumns (length f.cost + length s) (map (doubled s) (price_rows f g))
  columns = wide_doubled (length f.cost) s (price_rows f g)
      (All-append row_fits f.matrix (map neg_ℚ g ∷ []) (wide_matrix (length f.cost) f is) (All-cons row_fits (map neg_ℚ g) [] (length-negated g ∙ gradient) (All-nil row_fits)))
    where
      row_fits : List ℚ → Type 0
      row_fits r = length r ≡ length f.cost

  pub price_made : (length all ≡ n * w) × (rows_of w n all ≡ map (doubled s) (price_rows f g))
  price_made = made w n all (map (doubled s) (price_rows f g)) (subst (λ w. HasColumns w (map (doubled s) (price_rows f g))) (sym wide) columns)
      (omega (arith, high, length-map (price_rows f g) (doubled s), length-append f.matrix (map neg_ℚ g ∷ [])))
      (last ∙ ap (λ u. u ++ joined (map (doubled s) (price_rows f g))) start)

pub wide_of : (f : Form) (s : List ℕ) (c : List ℚ) (w a b : ℕ) → c ≡ f.cost → a ≡ length c → b ≡ length s → w ≡ a + b → w ≡ length f.cost + length s
wide_of f s c w a b cost e g h = h ∙ ap (λ a. a + b) (e ∙ ap length cost) ∙ ap (λ b. length f.cost + b) g

pub high_of : (f : Form) (M : List (List ℚ)) (n a : ℕ) → M ≡ f.matrix → a ≡ length M → n ≡ a + 1 → n ≡ length f.matrix + 1
high_of f M n a matrix e h = h ∙ ap (λ a. a + 1) (e ∙ ap length matrix)

-- ---- the problems

same_parts : (m : Grid ℚ) (r : List ℚ) (p : Problem) → m.columns ≡ p.given → m.rows ≡ p.rows → r ≡ p.right → problem m r ≡ p
same_parts m r p e f g = rw (e, f, g) refl

pub ray_exact : (f : Form) (m : Grid ℚ) (r : List ℚ) (a b count : ℕ) → a ≡ length f.matrix → b ≡ length f.quadratic → count ≡ a + b → m.columns ≡ length f.cost → m.rows ≡ (ray_problem f).rows →
    r ≡ zeros count ++ one_ℚ ∷ [] → problem m r ≡ ray_problem f
ray_exact f m r a b count e g k columns rows right =
    same_parts m r (ray_problem f) columns rows
    (right ∙ ap (λ count. zeros count ++ one_ℚ ∷ []) (k ∙ ap (λ a. a + b) e ∙ ap (λ b. length f.matrix + b) g) ∙ zeros_together (length f.matrix) (length f.quadratic) (one_ℚ ∷ []))

pub ray_is : (f : Form) (q : Problem) → IsForm (length f.cost) f → q ≡ ray_problem f → IsProblem q
ray_is f q is e = subst IsProblem (sym e) (rays_form_a_problem (length f.cost) f is)

pub price_exact : (f : Form) (z g : List ℚ) (s : List ℕ) (m : Grid ℚ) (r : List ℚ) (count : ℕ) → g ≡ slope f z → s ≡ support z → count ≡ length f.matrix → m.columns ≡ length f.cost + length s →
    m.rows ≡ map (doubled s) (price_rows f g) → r ≡ zeros count ++ one_ℚ ∷ [] → problem m r ≡ price_problem f z
price_exact f z g s m r count gradient places k columns rows right =
    same_parts m r (price_problem f z) (columns ∙ ap (λ (s : List ℕ). length f.cost + length s) places)
    (rows ∙ ap (λ g. map (doubled s) (price_rows f g)) gradient ∙ ap (λ s. map (doubled s) (price_rows f (slope f z))) places)
    (right ∙ ap (λ count. zeros count ++ one_ℚ ∷ []) k)

pub price_is : (f : Form) (z : List ℚ) (q : Problem) → IsForm (length f.cost) f → q ≡ price_problem f z → IsProblem q
price_is f z q is e = subst IsProblem (sym e) (prices_form_a_problem (length f.cost) f z is)

pub gradient_size : (f : Form) (z g : List ℚ) → IsForm (length f.cost) f → g ≡ slope f z → length g ≡ length f.cost
gradient_size f z g is e = ap length e ∙ length-slope (length f.cost) f z is

pub places_inside : (f : Form) (z : List ℚ) (s : List ℕ) → length z ≡ length f.cost → s ≡ support z → All (λ k. k < length f.cost) s
places_inside f z s e h = subst (All (λ k. k < length f.cost)) (sym h) (support_below (length f.cost) z e)

-- ---- how many columns they have

module _ (p : Program) (region : Region) (is : IsProgram p) (wide : length region ≡ length p.columns) where
  abbrev f : Form
  f = form_of p region

  fits : IsForm (form.width p region) f
  fits = shape p region is wide

  equations : length f.matrix ≤ 384
  equations = omega (arith, few_equations p region is wide, fits.right, is.few_rows, is.few_columns, wide)

  columns_of : length f.cost ≤ 640
  columns_of = omega (arith, few_columns p region is wide, fits.cost, is.few_rows, is.few_columns, wide)

  few_rays : width (ray_problem f) < 2 ^ 32
  few_rays = let size = ray_size (form.width p region) f fits in omega (arith, size.0, size.1, equations, columns_of, fits.cost)

  few_prices : (z : List ℚ) → length z ≡ length f.cost → width (price_problem f z) < 2 ^ 32
  few_prices z e = let places : length (support z) ≤ length z = length-places 0 z in omega (arith, places, price_height f z, equations, columns_of, e)

module _ (kept : Formed) (p : Program) (q : Problem) (h : IsFormOf kept p) where
  pub ray_few : q ≡ ray_problem kept.form → width q < 2 ^ 32
  ray_few e = subst (λ q. width q < 2 ^ 32) (sym (e ∙ ap (λ (f : Formed). ray_problem f.form) h.exact)) (few_rays p kept.region h.program h.wide)

  pub price_few : (z : List ℚ) → length z ≡ length kept.form.cost → q ≡ price_problem kept.form z → width q < 2 ^ 32
  price_few z size e =
      subst (λ q. width q < 2 ^ 32) (sym (e ∙ ap (λ (f : Formed). price_problem f.form z) h.exact))
      (few_prices p kept.region h.program h.wide z (size ∙ ap (λ (f : Formed). length f.form.cost) h.exact))
