use Rattle.std.proofs.Common.{◌≡◌, arith, rules, sym, subst, ap, ◌∙◌, pos, FitsSigned}
use Rattle.std.specs.Prelude.{unsigned_abs, slice_index_or, int_div}
use Rattle.std.specs.Int.{w128, ◌∣◌}
use Rattle.std.proofs.lemmas.Int.{to_z-of_z}
use Rattle.row_arithmetic.specs.Rows.{number}
use Rattle.row_arithmetic.proofs.Divided.{divided_before, divided_after}
use Rattle.row_arithmetic.proofs.row.divide.Goals as goal

pub quotient-requires-clause-divides : goal.quotient-requires-clause-divides
quotient-requires-clause-divides c =
    let f : FitsSigned w128 (slice_index_or c.loop-k.numbers c.loop-k.k (pos 0)) = search rules in
    rw (to_z-of_z w128 (slice_index_or c.loop-k.numbers c.loop-k.k (pos 0)) f)
    (subst (λ x. c.args.g ∣ unsigned_abs x) (sym (c.loop-k.invariant.1 c.loop-k.k (omega arith))) (c.requires.divides c.loop-k.k (omega arith)))

pub loop-k-preserved : goal.loop-k-preserved
loop-k-preserved c =
    let f : FitsSigned w128 c.quotient.result = search rules in
    let e : FitsSigned w128 (slice_index_or c.loop-k.numbers c.loop-k.k (pos 0)) = search rules in
    let q : c.quotient.result ≡ int_div (number c.loop-k.numbers c.loop-k.k) (pos c.args.g) =
    c.quotient.ensures ∙ ap (λ x. int_div x (pos c.args.g)) (to_z-of_z w128 (slice_index_or c.loop-k.numbers c.loop-k.k (pos 0)) e) in
    let old = c.args.numbers.now in
    let divides = c.requires.divides c.loop-k.k (omega arith) in
    rw (to_z-of_z w128 c.quotient.result f) (
      divided_before old c.loop-k.numbers c.loop-k.k c.args.g c.quotient.result (omega arith) c.loop-k.invariant.0 c.loop-k.invariant.1 divides q,
      divided_after old c.loop-k.numbers c.loop-k.k c.args.g c.quotient.result (omega arith) c.loop-k.invariant.0 c.loop-k.invariant.1 divides q,
    )
