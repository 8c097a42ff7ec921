use Rattle.std.proofs.Common.{refl, arith}
use Rattle.branching_law.proofs.Incumbents.{no_incumbent}
use Rattle.branching_law.proofs.loops.searches_begin.Goals as goal

pub returns : goal.returns
returns c = record {
  best = λ p bases boxes turns convex rounding. record {
    earned = record { convex = convex; rounding = rounding; root = tt; taken = refl };
    count = omega arith;
    best = no_incumbent p;
  };
  point = λ p bases boxes turns x d convex rounding marked uncrossed falling. record {
    earned = record { convex = convex; rounding = rounding; root = (marked, uncrossed, (x, d, falling)); taken = refl };
    count = omega arith;
    best = no_incumbent p;
  };
}
