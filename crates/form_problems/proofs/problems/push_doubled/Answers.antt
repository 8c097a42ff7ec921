use Rattle.rational.specs.Rational.{neg_ℚ}
use Rattle.rational.specs.Vectors.{pick}
use Rattle.std.specs.Prelude.{map}
use Rattle.face_descent.proofs.Systems.{two_parts}
use Rattle.form_problems.proofs.problems.push_doubled.Goals as goal

pub returns : goal.returns
returns c =
    two_parts c.push_negated_at.result c.args.entries.now.items c.extend_from_slice.new.self.items c.push_negated_at.new.entries.items c.args.row.now (map neg_ℚ (pick c.args.places.now c.args.row.now))
    c.in_ok-extend_from_slice.ensures.items c.push_negated_at.ensures
