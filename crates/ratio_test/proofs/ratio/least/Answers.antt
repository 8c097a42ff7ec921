use Rattle.elimination_law.specs.Answers.{right_beside}
use Rattle.ratio_test.specs.Ratio.{IsLeast}
use Rattle.std.proofs.Common.{subst}
use Rattle.ratio_test.proofs.Ratios.{positive_entry, least_first, best_changes, best_stays, test_less, test_not_less}
use Rattle.ratio_test.proofs.ratio.least.Goals as goal

pub compare_places-requires-clause-first : goal.compare_places-requires-clause-first
compare_places-requires-clause-first c = positive_entry c.args.coordinates.now c.args.k c.at.result c.is_positive.result c.at.ensures c.is_positive.ensures c.if-not-is_positive.false

pub returns-in_default : goal.returns-in_default
returns-in_default c =
    let rows = right_beside c.args.point.now c.args.inverse.now.rows in
    least_first c.args.coordinates.now rows c.args.k (subst (IsLeast c.args.coordinates.now rows c.args.k) c.in_default.is c.requires.best)
    (positive_entry c.args.coordinates.now c.args.k c.at.result c.is_positive.result c.at.ensures c.is_positive.ensures c.if-not-is_positive.false)

pub returns-then-eq : goal.returns-then-eq
returns-then-eq c =
    best_changes c.args.coordinates.now c.args.point.now c.args.inverse.now c.args.k c.in-Some.l c.args.best c.requires.best c.in-Some.is c.requires.coordinates c.requires.point c.requires.shape c.requires.k
    (positive_entry c.args.coordinates.now c.args.k c.at.result c.is_positive.result c.at.ensures c.is_positive.ensures c.if-not-is_positive.false)
    c.compare_places.result c.compare_places.ensures (test_less c.compare_places.result c.eq.result c.eq.ensures c.if-eq.true)

pub returns : goal.returns
returns c =
    best_stays c.args.coordinates.now c.args.point.now c.args.inverse.now c.args.k c.in-Some.l c.args.best c.requires.best c.in-Some.is c.requires.coordinates c.requires.point c.requires.shape c.requires.k
    (positive_entry c.args.coordinates.now c.args.k c.at.result c.is_positive.result c.at.ensures c.is_positive.ensures c.if-not-is_positive.false)
    c.compare_places.result c.compare_places.ensures (test_not_less c.compare_places.result c.eq.result c.eq.ensures c.if-eq.false)
