use Rattle.std.proofs.Common.{◌≡◌, ◌+◌, ◌*◌, ◌%◌, ap, ◌∙◌, sym, arith}
use Rattle.std.proofs.lemmas.Nat.{mod-mul-add}
use Rattle.word_arithmetic.proofs.wide.mul_div.Goals as goal

pub returns-clause-rest : goal.returns-clause-rest
returns-clause-rest c =
    let m = c.args.m in
    let e : c.args.a * c.args.b ≡ c.divide.result.0 * m + c.divide.result.1 = omega arith in
    sym (ap (λ n. n % m) e ∙ mod-mul-add c.divide.result.0 m c.divide.result.1 c.divide.ensures.rest)
