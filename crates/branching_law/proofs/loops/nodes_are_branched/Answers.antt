use Rattle.branching_law.proofs.Turning.{go_on, spent, inner_best, inner_point}
use Rattle.std.specs.Prelude.{◌∷◌}
use Rattle.branching_law.specs.Nodes.{ForBest, ForPoint}
use Rattle.branching_law.specs.Search.{points_of}
use Rattle.branching_law.proofs.loops.nodes_are_branched.Goals as goal

pub returns : goal.returns
returns c = record {
  best = λ p bases boxes turns nodes path rest incumbent x v y j k h less uncrossed b below branch.
      go_on ForBest p bases boxes turns nodes path rest incumbent h j k (inner_best p bases (points_of nodes) incumbent path x v y j k h.best uncrossed b below branch) less;
  point = λ p bases boxes turns nodes path rest incumbent x j k h less uncrossed found branch.
      go_on ForPoint p bases boxes turns nodes path rest incumbent h j k (inner_point p bases boxes turns nodes (path ∷ rest) path x j k h.earned uncrossed found branch) less;
  best_spent = λ p bases boxes turns nodes path rest incumbent x v y j k h e uncrossed b below branch.
      spent ForBest p bases boxes turns nodes path rest incumbent h j k (inner_best p bases (points_of nodes) incumbent path x v y j k h.best uncrossed b below branch) e;
  point_spent = λ p bases boxes turns nodes path rest incumbent x j k h e uncrossed found branch.
      spent ForPoint p bases boxes turns nodes path rest incumbent h j k (inner_point p bases boxes turns nodes (path ∷ rest) path x j k h.earned uncrossed found branch) e;
}
