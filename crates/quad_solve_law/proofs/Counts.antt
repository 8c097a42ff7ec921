-- How large the problems of a form are.
use Rattle.std.proofs.Common.{◌≡◌, ◌∙◌, ap, ℕ, ◌+◌, ◌≤◌, List, [], ◌∷◌, ◌++◌, length, arith}
use Rattle.std.specs.Prelude.{◌^◌}
use Rattle.std.proofs.lemmas.List.{length-append}
use Rattle.std.proofs.Math.Nat.{pow-le-pow_right}
use Rattle.rational.specs.Rational.{ℚ, one_ℚ}
use Rattle.rational.specs.Vectors.{zeros}
use Rattle.rational.proofs.Vectors.{length-zeros}
use Rattle.linear_basis_law.specs.Problem as linear
use Rattle.linear_basis_law.specs.Basis.{Tableau}
use Rattle.linear_simplex_law.specs.Chain.{IsChain, IsSpent}
use Rattle.linear_simplex_law.proofs.Steps.{short, spent_short}
use Rattle.equational_law.specs.Form.{Form}
use Rattle.equational_law.specs.Solutions.{IsForm, IsSolution}
use Rattle.face_descent_law.specs.Small.{support}
use Rattle.quad_solve_law.specs.Problems.{feasible_problem, ray_problem, price_problem}
use Rattle.quad_solve_law.proofs.Doubled.{length-places}
use Rattle.quad_solve_law.proofs.Directions.{feasible_is_a_problem, rays_form_a_problem}
use Rattle.quad_solve_law.proofs.Descents.{prices_form_a_problem}

powers : (i j : ℕ) → i ≤ j → 2 ^ i ≤ 2 ^ j
powers i j h = pow-le-pow_right {n = 2} (omega arith) h

pub feasible_width : (n : ℕ) (f : Form) → IsForm n f → linear.width (feasible_problem f) ≡ n + length f.matrix
feasible_width n f h = ap (λ k. k + length f.right) h.cost ∙ ap (λ k. n + k) h.right

pub ray_height : (n : ℕ) (f : Form) → IsForm n f → linear.height (ray_problem f) ≡ length f.matrix + n + 1
ray_height n f h =
    let a = length-append (zeros (length f.matrix)) (zeros (length f.quadratic) ++ one_ℚ ∷ []) in
    let b = length-append (zeros (length f.quadratic)) (one_ℚ ∷ []) in
    omega (arith, a, b, length-zeros (length f.matrix), length-zeros (length f.quadratic), h.pairs_height)

pub ray_size : (n : ℕ) (f : Form) → IsForm n f → ((ray_problem f).given ≡ n) × (linear.height (ray_problem f) ≡ length f.matrix + n + 1)
ray_size n f h = (h.cost, ray_height n f h)

pub price_given : (n : ℕ) (f : Form) (z : List ℚ) → IsForm n f → IsSolution f z → (price_problem f z).given ≤ n + n
price_given n f z h s = let a : length (support z) ≤ length z = length-places 0 z in omega (arith, a, s.width, h.cost)

pub price_height : (f : Form) (z : List ℚ) → linear.height (price_problem f z) ≡ length f.matrix + 1
price_height f z = length-append (zeros (length f.matrix)) (one_ℚ ∷ []) ∙ ap (λ k. k + 1) (length-zeros (length f.matrix))

pub price_size : (n : ℕ) (f : Form) (z : List ℚ) → IsForm n f → IsSolution f z → ((price_problem f z).given ≤ n + n) × (linear.height (price_problem f z) ≡ length f.matrix + 1)
price_size n f z h s = (price_given n f z h s, price_height f z)

room : (m : ℕ) (p : linear.Problem) (n : ℕ) → linear.width p ≤ n + n + m + 1 → 2 ^ linear.width p ≤ 2 ^ (n + n + m + 1)
room m p n h = powers (linear.width p) (n + n + m + 1) h

feasible_room : (n : ℕ) (f : Form) → IsForm n f → 2 ^ linear.width (feasible_problem f) ≤ 2 ^ (n + n + length f.matrix + 1)
feasible_room n f h = room (length f.matrix) (feasible_problem f) n (let a = feasible_width n f h in omega (arith, a))

ray_room : (n : ℕ) (f : Form) → IsForm n f → 2 ^ linear.width (ray_problem f) ≤ 2 ^ (n + n + length f.matrix + 1)
ray_room n f h = room (length f.matrix) (ray_problem f) n (let a = ray_height n f h in omega (arith, a, h.cost))

price_room : (n : ℕ) (f : Form) (z : List ℚ) → IsForm n f → IsSolution f z → 2 ^ linear.width (price_problem f z) ≤ 2 ^ (n + n + length f.matrix + 1)
price_room n f z h s = room (length f.matrix) (price_problem f z) n (let a = price_height f z in let b = price_given n f z h s in omega (arith, a, b))

both : (a b c : ℕ) → a ≤ b → b ≤ c → a ≤ c
both a b c h k = omega (arith, h, k)

pub feasible_short : (n : ℕ) (f : Form) (chain : List Tableau) → IsForm n f → IsChain (feasible_problem f) chain → length chain ≤ 2 ^ (n + n + length f.matrix + 1)
feasible_short n f chain h k = both _ _ _ (short (feasible_problem f) chain k) (feasible_room n f h)

pub ray_short : (n : ℕ) (f : Form) (chain : List Tableau) → IsForm n f → IsChain (ray_problem f) chain → length chain ≤ 2 ^ (n + n + length f.matrix + 1)
ray_short n f chain h k = both _ _ _ (short (ray_problem f) chain k) (ray_room n f h)

pub price_short : (n : ℕ) (f : Form) (z : List ℚ) (chain : List Tableau) → IsForm n f → IsSolution f z → IsChain (price_problem f z) chain → length chain ≤ 2 ^ (n + n + length f.matrix + 1)
price_short n f z chain h s k = both _ _ _ (short (price_problem f z) chain k) (price_room n f z h s)

pub feasible_spent : (n : ℕ) (f : Form) (budget : ℕ) (b : Tableau) → IsForm n f → IsSpent (feasible_problem f) budget b → budget + 2 ≤ 2 ^ (n + n + length f.matrix + 1)
feasible_spent n f budget b h k = both _ _ _ (spent_short (feasible_problem f) (feasible_is_a_problem n f h) budget b k) (feasible_room n f h)

pub ray_spent : (n : ℕ) (f : Form) (budget : ℕ) (b : Tableau) → IsForm n f → IsSpent (ray_problem f) budget b → budget + 2 ≤ 2 ^ (n + n + length f.matrix + 1)
ray_spent n f budget b h k = both _ _ _ (spent_short (ray_problem f) (rays_form_a_problem n f h) budget b k) (ray_room n f h)

pub price_spent : (n : ℕ) (f : Form) (z : List ℚ) (budget : ℕ) (b : Tableau) → IsForm n f → IsSolution f z → IsSpent (price_problem f z) budget b → budget + 2 ≤ 2 ^ (n + n + length f.matrix + 1)
price_spent n f z budget b h s k = both _ _ _ (spent_short (price_problem f z) (prices_form_a_problem n f z h) budget b k) (price_room n f z h s)
