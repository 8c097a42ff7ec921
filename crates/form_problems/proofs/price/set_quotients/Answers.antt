use Rattle.std.proofs.Common.{arith, length}
use Rattle.std.proofs.lemmas.List.{length-set}
use Rattle.std.proofs.lemmas.Result.{err_from_is_err_and}
use Rattle.std.specs.Prelude.{map, take}
use Rattle.rational.specs.Rational.{◌/ℚ◌}
use Rattle.face_descent.proofs.Lists.{set_next}
use Rattle.form_problems.proofs.PriceSteps.{quotient_get, quotient_past, quotients_end}
use Rattle.form_problems.proofs.price.set_quotients.Goals as goal

pub returns-in_err-entry-clause-past : goal.returns-in_err-entry-clause-past
returns-in_err-entry-clause-past c =
    let p = err_from_is_err_and c.from_residual.result c.from_residual.ensures.1 in
    rw (p.1, p.2) (quotient_past c.args.w.now c.args.q (length c.args.y.now) c.loop-i.i c.at.result _ (omega (arith, c.loop-i.invariant.size)) c.at.ensures c.in_err-entry.ensures.past)

pub loop-i-preserved : goal.loop-i-preserved
loop-i-preserved c = record {
  done = set_next (map (λ x. x /ℚ c.args.q) (take (length c.args.y.now) c.args.w.now)) c.loop-i.y c.set.new.self c.loop-i.i c.in_ok-entry.entry
      (quotient_get c.args.w.now c.args.q (length c.args.y.now) c.loop-i.i c.at.result c.in_ok-entry.entry (omega (arith, c.loop-i.invariant.size)) c.at.ensures c.in_ok-entry.ensures.value)
      (omega arith) c.loop-i.invariant.done c.set.ensures;
  size = rw c.set.ensures (simp length-set c.loop-i.invariant.size);
}

pub returns-clause-value : goal.returns-clause-value
returns-clause-value c =
    quotients_end c.args.w.now c.loop-i.y c.args.q (length c.args.y.now) c.loop-i.i c.loop-i.invariant.size c.requires.size (omega (arith, c.loop-i.invariant.size)) c.loop-i.invariant.done
