-- The ray problem and the rays of a form.
use Rattle.std.proofs.Common.{◌≡◌, refl, sym, ◌∙◌, ap, subst, ℕ, zero, suc, ◌+◌, List, [], ◌∷◌, ◌++◌, length, map}
use Rattle.std.specs.Prelude.{All, ◌↔◌}
use Rattle.std.proofs.lemmas.List.{length-append}
use Rattle.std.proofs.lemmas.List.Elements.{All-nil, All-cons, All-append}
use Rattle.algebra.proofs.Polynomial.{minus, ◌⊕◌, ◌⊗◌, ◌≼◌, ◌≐◌, lit}
use Rattle.algebra.proofs.Certificate.{prove, weight, ◌⇐◌}
use Rattle.algebra.proofs.Solver.{ring}
use Rattle.rational.specs.Rational.{ℚ, zero_ℚ, one_ℚ, neg_ℚ}
use Rattle.rational.specs.Order.{◌≤ℚ◌}
use Rattle.rational.specs.Vectors.{dot, zeros, rows_dot, combine, HasColumns}
use Rattle.rational.proofs.Field.{rationals}
use Rattle.rational.proofs.Order.{ordered_rationals, le_refl}
use Rattle.rational.proofs.Vectors.{length-rows_dot, length-zeros, rows_dot-append}
use Rattle.linear_basis_law.specs.Problem as linear
use Rattle.linear_basis_law.proofs.Verdicts.{not_both}
use Rattle.equational_law.specs.Form.{Form}
use Rattle.equational_law.specs.Solutions.{IsForm, IsSolution, IsFormRay}
use Rattle.equational_law.specs.Optimal.{IsRefutation}
use Rattle.quad_solve_law.specs.Problems.{ray_problem, feasible_problem, falling_form}
use Rattle.quad_solve_law.proofs.Lists.{parts_same, only_same, dot-negated, length-negated}

pub zeros_nonneg : (m : ℕ) → All (λ x. zero_ℚ ≤ℚ x) (zeros m)
zeros_nonneg zero = All-nil (λ x. zero_ℚ ≤ℚ x)
zeros_nonneg (suc m) = All-cons (λ x. zero_ℚ ≤ℚ x) zero_ℚ (zeros m) (le_refl zero_ℚ) (zeros_nonneg m)

pub one_nonneg : All (λ x. zero_ℚ ≤ℚ x) (one_ℚ ∷ [])
one_nonneg = All-cons (λ x. zero_ℚ ≤ℚ x) one_ℚ [] (prove ordered_rationals (zero_ℚ ∷ []) (λ z. lit 0 ≼ lit 1 ⇐ weight 1) refl) (All-nil (λ x. zero_ℚ ≤ℚ x))

pub rays_form_a_problem : (n : ℕ) (f : Form) → IsForm n f → linear.IsProblem (ray_problem f)
rays_form_a_problem n f h = record {
  rows = length-append f.matrix (f.quadratic ++ map neg_ℚ f.cost ∷ []) ∙ ap (λ k. length f.matrix + k) (length-append f.quadratic (map neg_ℚ f.cost ∷ []))
      ∙ sym (length-append (zeros (length f.matrix)) (zeros (length f.quadratic) ++ one_ℚ ∷ [])
      ∙ ap (λ k. k + length (zeros (length f.quadratic) ++ one_ℚ ∷ [])) (length-zeros (length f.matrix))
      ∙ ap (λ k. length f.matrix + k) (length-append (zeros (length f.quadratic)) (one_ℚ ∷ []) ∙ ap (λ k. k + 1) (length-zeros (length f.quadratic))));
  columns = All-append wide f.matrix (f.quadratic ++ map neg_ℚ f.cost ∷ []) (subst (λ k. HasColumns k f.matrix) (sym h.cost) h.columns)
      (All-append wide f.quadratic (map neg_ℚ f.cost ∷ []) (subst (λ k. HasColumns k f.quadratic) (sym h.cost) h.pairs_width)
      (All-cons wide (map neg_ℚ f.cost) [] (length-negated f.cost) (All-nil wide)));
  nonneg = All-append (λ x. zero_ℚ ≤ℚ x) (zeros (length f.matrix)) (zeros (length f.quadratic) ++ one_ℚ ∷ []) (zeros_nonneg (length f.matrix))
      (All-append (λ x. zero_ℚ ≤ℚ x) (zeros (length f.quadratic)) (one_ℚ ∷ []) (zeros_nonneg (length f.quadratic)) one_nonneg);
}
  where
    wide : List ℚ → Type 0
    wide r = length r ≡ length f.cost

-- the three parts of its product
products : (f : Form) (d : List ℚ) → rows_dot (ray_problem f).rows d ≡ rows_dot f.matrix d ++ (rows_dot f.quadratic d ++ dot (map neg_ℚ f.cost) d ∷ [])
products f d = rows_dot-append f.matrix (f.quadratic ++ map neg_ℚ f.cost ∷ []) d
    ∙ ap (λ l. rows_dot f.matrix d ++ l) (rows_dot-append f.quadratic (map neg_ℚ f.cost ∷ []) d)

pub solution_is_ray : (f : Form) (d : List ℚ) → linear.IsSolution (ray_problem f) d → IsFormRay f d
solution_is_ray f d s =
    let first = parts_same (rows_dot f.matrix d) (zeros (length f.matrix)) _ _ (length-rows_dot f.matrix d ∙ sym (length-zeros (length f.matrix))) (sym (products f d) ∙ s.same) in
    let second = parts_same (rows_dot f.quadratic d) (zeros (length f.quadratic)) _ _ (length-rows_dot f.quadratic d ∙ sym (length-zeros (length f.quadratic))) first.1 in
    record {
      width = s.size;
      equal = first.0;
      flat = second.0;
      falls = ring rationals (dot f.cost d ∷ []) (λ c. c ≐ minus (minus c)) refl
          ∙ ap neg_ℚ (sym (dot-negated f.cost d) ∙ only_same (dot (map neg_ℚ f.cost) d) one_ℚ second.1);
      not_negative = s.nonneg;
    }

pub ray_is_solution : (f : Form) (d : List ℚ) → IsFormRay f d → linear.IsSolution (ray_problem f) d
ray_is_solution f d r = record {
  size = r.width;
  same = products f d ∙ ap (λ l. l ++ (rows_dot f.quadratic d ++ dot (map neg_ℚ f.cost) d ∷ [])) r.equal
      ∙ ap (λ l. zeros (length f.matrix) ++ (l ++ dot (map neg_ℚ f.cost) d ∷ [])) r.flat
      ∙ ap (λ x. zeros (length f.matrix) ++ (zeros (length f.quadratic) ++ x ∷ [])) (dot-negated f.cost d ∙ ap neg_ℚ r.falls
      ∙ ring rationals [] (minus (minus (lit 1)) ≐ lit 1) refl);
  nonneg = r.not_negative;
}

pub refuted_has_none : (n : ℕ) (f : Form) (d y : List ℚ) → IsForm n f → linear.IsFarkas (ray_problem f) y → IsFormRay f d → ⊥
refuted_has_none n f d y h k r = not_both (ray_problem f) d y (rays_form_a_problem n f h) (ray_is_solution f d r) k

-- minimise -x has the ray 1
pub falling_form_falls : linear.IsSolution (ray_problem falling_form) (one_ℚ ∷ [])
falling_form_falls = ray_is_solution falling_form (one_ℚ ∷ []) (record {
  width = refl;
  equal = refl;
  flat = ap (λ x. x ∷ []) (ring rationals [] (lit 0 ⊗ lit 1 ⊕ lit 0 ≐ lit 0) refl);
  falls = ring rationals [] (minus (lit 1) ⊗ lit 1 ⊕ lit 0 ≐ minus (lit 1)) refl;
  not_negative = one_nonneg;
})

-- ---- the feasible problem

pub feasible_is_a_problem : (n : ℕ) (f : Form) → IsForm n f → linear.IsProblem (feasible_problem f)
feasible_is_a_problem n f h = record { rows = sym h.right; columns = subst (λ k. HasColumns k f.matrix) (sym h.cost) h.columns; nonneg = h.not_negative }

pub feasible_solutions : (f : Form) (z : List ℚ) → linear.IsSolution (feasible_problem f) z ↔ IsSolution f z
feasible_solutions f z = (λ s. record { width = s.size; equal = s.same; not_negative = s.nonneg }, λ s. record { size = s.width; same = s.equal; nonneg = s.not_negative })

pub feasible_refutations : (n : ℕ) (f : Form) (y : List ℚ) → IsForm n f → linear.IsFarkas (feasible_problem f) y ↔ IsRefutation n f y
feasible_refutations n f y h = (
  λ k. record { size = k.size; not_negative = subst (λ m. All (λ x. zero_ℚ ≤ℚ x) (combine m y f.matrix)) h.cost k.nonneg; below = k.below },
  λ k. record { size = k.size; nonneg = subst (λ m. All (λ x. zero_ℚ ≤ℚ x) (combine m y f.matrix)) (sym h.cost) k.not_negative; below = k.below },
)

pub never_both : (n : ℕ) (f : Form) (z y : List ℚ) → IsForm n f → IsSolution f z → IsRefutation n f y → ⊥
never_both n f z y h s k = not_both (feasible_problem f) z y (feasible_is_a_problem n f h) ((feasible_solutions f z).1 s) ((feasible_refutations n f y h).1 k)
