use Rattle.ratio_test.proofs.Ratios.{places_order}
use Rattle.ratio_test.proofs.ratio.compare_places.Goals as goal

pub returns : goal.returns
returns c =
    places_order c.args.coordinates.now c.args.point.now c.args.inverse.now.rows c.args.k c.args.l c.at-s.result c.at-t.result c.at.result c.at-2.result c.row.result.now c.row-2.result.now
    c.requires.coordinates c.requires.point c.at-s.ensures c.at-t.ensures c.at.ensures c.at-2.ensures c.row.ensures.value c.row-2.ensures.value
    c.compare_values.result c.compare_values.ensures
