use Rattle.std.specs.Prelude.{◌≡◌, ℕ}
use Rattle.std.proofs.Common.{ap, sym, ◌∙◌, arith}
use Rattle.std.proofs.lemmas.Result.{err_from_is_err_and}
use Rattle.std.proofs.Math.ListN.{length-set}
use Rattle.convexity.specs.Places.{answer_found}
use Rattle.convexity.proofs.Steps.{carried_more, carried_refused, carried_all}
use Rattle.convexity.proofs.reduction.carry_back.Goals as goal

pub returns-in_err-entry : goal.returns-in_err-entry
returns-in_err-entry c =
    let p = err_from_is_err_and c.from_residual.result c.from_residual.ensures.1 in
    rw (p.1, p.2) (sym c.loop-i.invariant.answer
    ∙ carried_refused c.loop-i.i c.args.half.now c.loop-i.z _ c.loop-i-test.true (omega (arith, c.loop-i.invariant.place, c.requires.place))
    (rw (← c.row.ensures.row) c.in_err-entry.ensures))

pub loop-i-preserved : goal.loop-i-preserved
loop-i-preserved c = record {
  answer = rw c.set.ensures (carried_more c.loop-i.i c.args.half.now c.loop-i.z c.in_ok-entry.entry c.loop-i-test.true (omega (arith, c.loop-i.invariant.place, c.requires.place))
      (omega (arith, c.loop-i.invariant.place, c.loop-i.invariant.length, c.requires.place)) (rw (← c.row.ensures.row) c.in_ok-entry.ensures) ∙ c.loop-i.invariant.answer);
  place = omega (arith, c.loop-i.invariant.place);
  length = rw c.set.ensures (rw length-set c.loop-i.invariant.length);
}

pub returns : goal.returns
returns c =
    let none : c.loop-i.i ≡ 0 = omega arith in
    sym c.loop-i.invariant.answer ∙ ap (λ (k : ℕ). answer_found k c.args.half.now c.loop-i.z) none ∙ carried_all c.args.half.now c.loop-i.z
