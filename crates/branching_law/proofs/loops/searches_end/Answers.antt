use Rattle.std.proofs.Common.{refl, inl, inr}
use Rattle.branching_law.proofs.loops.searches_end.Goals as goal

pub returns : goal.returns
returns c = record {
  decided = λ aim p bases boxes turns nodes incumbent squares h.
      inr (inr (record { aim = aim; turns = turns; nodes = nodes; earned = h.earned; count = h.count; incumbent = incumbent; best = h.best; certificate = refl }));
  falling = λ p bases boxes turns nodes path rest incumbent start x d squares h uncrossed found whole falling.
      inr (inl (record {
        turns = turns;
        nodes = nodes;
        path = path;
        open_paths = rest;
        earned = h.earned;
        count = h.count;
        uncrossed = uncrossed;
        point = x;
        found = found;
        whole = whole;
        start = start;
        ray = d;
        falling = falling;
        certificate = refl;
      }));
  unmarked = λ p bases boxes x d squares unmarked uncrossed falling.
      inl (record { unmarked = unmarked; uncrossed = uncrossed; point = x; ray = d; falling = falling; certificate = refl });
}
