use Rattle.std.proofs.Common.{◌-◌, ◌*◌, ◌/◌, ◌^◌, arith, ap}
use Rattle.std.proofs.lemmas.Nat.{and_le_r}
use Rattle.word_arithmetic.proofs.Bitwise.{next_step, doubled_fits, doubled}
use Rattle.word_arithmetic.proofs.wide.divide.Goals as goal
use Rattle.word_arithmetic.proofs.wide.divide.Goals.{then-rest-m, else-rest-m}

pub overflow_mul-quotient : goal.overflow_mul-quotient
overflow_mul-quotient c = record { fits = omega (arith, doubled_fits c.loop-i.quotient c.loop-i.i c.loop-i-test.true c.loop-i.invariant.1) }

pub overflow_add-quotient : goal.overflow_add-quotient
overflow_add-quotient c = record { fits = doubled_fits c.loop-i.quotient c.loop-i.i c.loop-i-test.true c.loop-i.invariant.1 }

pub loop-i-preserved : goal.loop-i-preserved
loop-i-preserved c =
    let e = next_step c.args.high c.args.low c.args.m c.loop-i.rest c.loop-i.quotient c.loop-i.i c.loop-i-test.true c.loop-i.invariant.2 in
    let p = doubled c.loop-i.i in
    let b = and_le_r (c.args.low / 2 ^ (127 - c.loop-i.i)) 1 in
    elim c.if-rest-m.branch [ then-rest-m w ↦ omega (arith, ap (λ t. t * c.args.m) w.quotient-is) | else-rest-m w ↦ omega (arith, ap (λ t. t * c.args.m) w.quotient-is) ]
