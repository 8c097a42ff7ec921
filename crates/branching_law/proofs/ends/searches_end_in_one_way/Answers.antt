use Rattle.branching_law.proofs.Convex.{convex_by_squares}
use Rattle.branching_law.proofs.Decisions.{some_rounding}
use Rattle.branching_law.proofs.SearchEnds.{some_outcome, found_unless}
use Rattle.branching_law.proofs.OneStop.{one_spent_site, no_tree_beside, no_certificate_at_site, no_certificate_beside_tree}
use Rattle.branching_law.proofs.ends.searches_end_in_one_way.Goals as goal

pub returns : goal.returns
returns c = record {
  some = λ p squares bases boxes is sum.
      let r = some_rounding p in
      some_outcome p squares bases boxes is sum r.0 r.1;
  site = λ p bases boxes path other site place is h. one_spent_site p is h.reached.comes.earned.convex bases boxes path other site place h;
  not_both = λ p bases boxes path site is h. no_tree_beside p is h.reached.comes.earned.convex bases boxes path site h;
  found = λ p squares bases boxes is sum.
      let r = some_rounding p in
      let convex = convex_by_squares p squares is sum in (
        λ found. (
          λ path site h. no_certificate_at_site p is convex bases squares boxes found.0 path site h found.1,
          λ tree. no_certificate_beside_tree p is convex bases squares boxes found.0 tree found.1,
        ),
        λ none. found_unless p squares bases boxes is sum r.0 r.1 none.0 none.1,
      );
}
