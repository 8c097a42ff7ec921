use Rattle.branching_law.proofs.Turning.{close_crossed, close_empty, close_not_below, close_better}
use Rattle.branching_law.proofs.loops.nodes_are_closed.Goals as goal

pub returns : goal.returns
returns c = record {
  crossed = λ aim p bases boxes turns nodes path rest incumbent j h. close_crossed aim p bases boxes turns nodes path rest incumbent h j;
  empty = λ aim p bases boxes turns nodes path rest incumbent y h. close_empty aim p bases boxes turns nodes path rest incumbent h y;
  not_below = close_not_below;
  better = λ p bases boxes turns nodes path rest incumbent x v y h. close_better p bases boxes turns nodes path rest incumbent h x v y;
}
