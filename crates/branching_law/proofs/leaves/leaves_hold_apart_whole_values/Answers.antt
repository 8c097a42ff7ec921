use Rattle.std.specs.Prelude.{[], ◌∷◌}
use Rattle.std.proofs.Common.{arith}
use Rattle.branching_law.proofs.ApartLeaves.{earned_apart, earned_has}
use Rattle.branching_law.proofs.Choices.{leaves_count}
use Rattle.branching_law.proofs.leaves.leaves_hold_apart_whole_values.Goals as goal

pub returns : goal.returns
returns c = record {
  apart = λ aim p bases. earned_apart p aim bases;
  some = λ aim p bases turns nodes open_paths is. earned_has p is aim bases turns nodes open_paths;
  count = λ aim p bases turns nodes open_paths earned. let e = leaves_count aim p bases [] (turns ∷ []) open_paths nodes earned.taken in omega (arith, e);
}
