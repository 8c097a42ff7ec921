use Rattle.std.proofs.Common.{◌≡◌, ◌+◌, drop, length, take}
use Rattle.face_descent_law.specs.Small.{support, support_from}
use Rattle.face_descent.specs.Parts.{spread}
use Rattle.quad_solve_law.specs.Problems.{difference}
use Rattle.form_problems.proofs.PriceSteps.{negative}
use Rattle.form_problems.proofs.price.set_direction.Given as goal

-- the direction so far; the numbers from k on belong to the places that are left
abbrev pub invariant-loop-j : goal.invariant-loop-j
invariant-loop-j l = record {
  done : take l.j l.d ≡ take l.j (difference (length l.z) (support l.z) l.x);
  size : length l.d ≡ length l.z;
  rest : drop l.j (negative l.z l.x) ≡ spread (drop l.j l.z) (drop l.k l.x);
  room : l.k + length (support_from l.j (drop l.j l.z)) ≡ length l.x;
}
