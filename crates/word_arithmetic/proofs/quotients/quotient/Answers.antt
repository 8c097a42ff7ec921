use Rattle.std.proofs.Common.{sym, subst}
use Rattle.std.specs.Int.{◌∣◌}
use Rattle.std.proofs.lemmas.Int.{to_z-of_z}
use Rattle.word_arithmetic.proofs.quotients.quotient.Goals as goal

pub size_quotient-size-requires-clause-divides : goal.size_quotient-size-requires-clause-divides
size_quotient-size-requires-clause-divides c =
    let f = c.ranges.n in
    let e = simp to_z-of_z at c.unsigned_abs.ensures.value in
    subst (λ t. c.args.g ∣ t) (sym e) c.requires.divides
