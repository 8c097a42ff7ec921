use Rattle.std.proofs.Common.{arith, length, refl}
use Rattle.std.proofs.lemmas.List.{length-set}
use Rattle.std.proofs.lemmas.Result.{err_from_is_err_and}
use Rattle.face_descent_law.specs.Small.{support}
use Rattle.quad_solve_law.specs.Problems.{difference}
use Rattle.face_descent.proofs.Lists.{set_next}
use Rattle.form_problems.proofs.PriceSteps.{rest_first, room_first, part_fits, next_fits, room_next, rest_next, difference_get, difference_past, difference_end}
use Rattle.form_problems.proofs.price.set_direction.Goals as goal

pub loop-j-init : goal.loop-j-init
loop-j-init c = record {
  done = refl;
  size = c.requires.size;
  rest = rest_first c.args.z.now c.args.x.now c.len-k.result c.len-k.ensures c.requires.numbers;
  room = room_first c.args.z.now c.args.x.now c.len-k.result c.len-k.ensures c.requires.numbers;
}

pub part-requires : goal.part-requires
part-requires c = part_fits c.args.z.now c.args.x.now c.loop-j.j c.loop-j.k c.at-y.result c.at-y.ensures c.loop-j.invariant.room

pub returns-in_err-entry-clause-past : goal.returns-in_err-entry-clause-past
returns-in_err-entry-clause-past c =
    let p = err_from_is_err_and c.from_residual.result c.from_residual.ensures.1 in
    rw (p.1, p.2) (difference_past c.args.z.now c.args.x.now c.loop-j.j c.loop-j.k c.at-y.result c.at-y.ensures c.loop-j.invariant.room c.loop-j.invariant.rest
    c.at.result c.part.result c.at.ensures c.part.ensures (omega arith) _ c.in_err-entry.ensures.past)

pub overflow_add-k : goal.overflow_add-k
overflow_add-k c =
    let h = next_fits c.args.z.now c.args.x.now c.loop-j.j c.loop-j.k c.at-y.result c.at-y.ensures c.loop-j.invariant.room c.parts-k.result c.len-numbers.result c.parts-k.ensures c.len-numbers.ensures in
    omega (arith, h, c.len-numbers.type_inv)

pub loop-j-preserved : goal.loop-j-preserved
loop-j-preserved c = record {
  done = set_next (difference (length c.args.z.now) (support c.args.z.now) c.args.x.now) c.loop-j.d c.set.new.self c.loop-j.j c.in_ok-entry.entry
      (difference_get c.args.z.now c.args.x.now c.loop-j.j c.loop-j.k c.at-y.result c.at-y.ensures c.loop-j.invariant.room c.loop-j.invariant.rest
      c.at.result c.part.result c.at.ensures c.part.ensures (omega arith) c.in_ok-entry.entry c.in_ok-entry.ensures.value)
      (omega (arith, c.loop-j.invariant.size)) c.loop-j.invariant.done c.set.ensures;
  size = rw c.set.ensures (simp length-set c.loop-j.invariant.size);
  rest = rest_next c.args.z.now c.args.x.now c.loop-j.j c.loop-j.k c.at-y.result c.at-y.ensures c.loop-j.invariant.room c.loop-j.invariant.rest c.parts-k.result c.parts-k.ensures;
  room = room_next c.args.z.now c.args.x.now c.loop-j.j c.loop-j.k c.at-y.result c.at-y.ensures c.loop-j.invariant.room c.parts-k.result c.parts-k.ensures;
}

pub returns-clause-value : goal.returns-clause-value
returns-clause-value c =
    difference_end c.args.z.now c.args.x.now c.loop-j.d c.loop-j.j c.requires.numbers c.loop-j.invariant.size (omega arith) c.loop-j.invariant.done
