use Rattle.branching_law.proofs.Decisions.{some_rounding}
use Rattle.branching_law.proofs.SearchEnds.{some_end}
use Rattle.branching_law.proofs.ends.searches_find_a_certificate.Goals as goal

pub returns : goal.returns
returns c = record {
  rounding = some_rounding;
  found = λ p squares bases boxes is sum large room.
      let r = some_rounding p in
      some_end p squares bases boxes is sum r.0 r.1 large room;
}
