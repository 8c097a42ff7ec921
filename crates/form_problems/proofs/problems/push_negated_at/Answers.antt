use Rattle.std.proofs.Common.{arith, refl}
use Rattle.std.proofs.lemmas.Option.{slice_get_read}
use Rattle.face_descent.proofs.Lists.{place_below}
use Rattle.form_problems.proofs.Lists.{negated_pick_next, negated_pick_all}
use Rattle.form_problems.proofs.problems.push_negated_at.Goals as goal

pub loop-k-preserved : goal.loop-k-preserved
loop-k-preserved c =
    negated_pick_next c.args.places.now c.args.row.now c.args.entries.now.items c.loop-k.entries.items c.push.new.self.items c.loop-k.k c.at.result c.index-row-at.result c.neg.result c.at.ensures
    (slice_get_read c.args.row.now _ c.at.result c.index-row-at.result refl (place_below _ c.args.places.now c.loop-k.k c.at.result c.requires c.at.ensures) c.index-row-at.is)
    c.neg.ensures c.loop-k.invariant c.in_ok-push.ensures.items

pub returns : goal.returns
returns c = negated_pick_all c.args.places.now c.args.row.now c.args.entries.now.items c.loop-k.entries.items c.loop-k.k (omega arith) c.loop-k.invariant
