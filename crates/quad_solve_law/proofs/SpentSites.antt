-- Where a budget is used up, it is small; and how far a price step goes.
use Rattle.std.proofs.Common.{◌≡◌, ℕ, ◌+◌, ◌≤◌, List, length, arith}
use Rattle.std.specs.Prelude.{◌^◌}
use Rattle.std.proofs.Math.Nat.{pow-le-pow_right}
use Rattle.rational.specs.Rational.{ℚ}
use Rattle.rational.specs.Vectors.{IsSemidefinite}
use Rattle.program_law.specs.Region.{Region}
use Rattle.program_law.specs.Program.{Program, IsProgram}
use Rattle.equational_law.specs.Form.{Form, width, form_of}
use Rattle.equational_law.specs.Solutions.{IsForm, IsSolution}
use Rattle.equational_law.proofs.Shapes.{shape, semidefinite}
use Rattle.quad_solve_law.specs.Walk.{IsOnWalk}
use Rattle.quad_solve_law.specs.Sites.{RegionSite, AtForm, AtFeasible, AtRay, AtFace, AtPrice, IsReached, IsSpentAt}
use Rattle.quad_solve_law.proofs.Counts.{feasible_spent, ray_spent, price_spent}
use Rattle.quad_solve_law.proofs.WalkSteps.{start_solves, newest_solves}
use Rattle.quad_solve_law.proofs.WalkLengths.{spent_few}

on_walk_solves : (n : ℕ) (f : Form) (z : List ℚ) → IsForm n f → IsSemidefinite n f.quadratic → IsOnWalk n f z → IsSolution f z
on_walk_solves n f z form semi h = newest_solves n f form semi h.walk.start (start_solves n f h.walk.start form h.walk.solved) (record { point = z; way = h.way }) h.earlier h.walk.steps

pub spent_is_small : (p : Program) (region : Region) (budget : ℕ) (site : RegionSite) → IsProgram p → length region ≡ length p.columns → IsSemidefinite (length p.columns) p.pairs
    → IsReached p region site → IsSpentAt p region budget site → budget + 2 ≤ 2 ^ (width p region + width p region + length (form_of p region).matrix + 1)
spent_is_small p region budget AtForm is wide semi reached spent = absurd spent
spent_is_small p region budget (AtFeasible b) is wide semi reached spent = feasible_spent (width p region) (form_of p region) budget b (shape p region is wide) spent
spent_is_small p region budget (AtRay b) is wide semi reached spent = ray_spent (width p region) (form_of p region) budget b (shape p region is wide) spent
spent_is_small p region budget (AtFace z) is wide semi reached spent =
    by (width p region) (length (form_of p region).matrix) (spent_few (width p region) (form_of p region) budget z (shape p region is wide) (semidefinite p region is wide semi) spent)
  where
    by : (n m : ℕ) → budget + 2 ≤ 2 ^ n → budget + 2 ≤ 2 ^ (n + n + m + 1)
    by n m h = let w : 2 ^ n ≤ 2 ^ (n + n + m + 1) = pow-le-pow_right {n = 2} (omega arith) (omega arith) in omega (arith, h, w)
spent_is_small p region budget (AtPrice z b) is wide semi reached spent =
    price_spent (width p region) (form_of p region) z budget b (shape p region is wide)
    (on_walk_solves (width p region) (form_of p region) z (shape p region is wide) (semidefinite p region is wide semi) reached.1) spent
