use Rattle.std.proofs.Common.{◌≡◌, subst, sym, ap, ◌∙◌, pos, ◌*ℤ◌, rules, FitsSigned}
use Rattle.std.specs.Prelude.{unsigned_abs, int_div}
use Rattle.std.specs.Int.{w128, ◌∣◌}
use Rattle.std.proofs.lemmas.Int.{to_z-of_z}
use Rattle.rational.proofs.Products.{div_exact}
use Rattle.row_arithmetic.proofs.Divisors.{size_of}
use Rattle.row_arithmetic.proofs.numbers.exact.Goals as goal

pub quotient-requires-clause-divides : goal.quotient-requires-clause-divides
quotient-requires-clause-divides c =
    subst (λ m. c.unsigned_abs-size.result ∣ m) c.unsigned_abs.ensures.value (subst (λ g. g ∣ c.unsigned_abs.result) c.if-gcd-size.true c.gcd.ensures.left)

pub returns-then-gcd-size : goal.returns-then-gcd-size
returns-then-gcd-size c =
    let n = c.args.n in
    let d = c.args.d in
    let s = c.unsigned_abs-size.result in
    let fn : FitsSigned w128 n = search rules in
    let fd : FitsSigned w128 d = search rules in
    let fq : FitsSigned w128 c.quotient.result = search rules in
    let n_is = to_z-of_z w128 n fn in
    let d_is : pos s ≡ d = ap pos (c.unsigned_abs-size.ensures.value ∙ ap unsigned_abs (to_z-of_z w128 d fd)) ∙ size_of d c.requires in
    let divides : s ∣ unsigned_abs n =
    subst (λ m. s ∣ m) (c.unsigned_abs.ensures.value ∙ ap unsigned_abs n_is) (subst (λ g. g ∣ c.unsigned_abs.result) c.if-gcd-size.true c.gcd.ensures.left) in
    ap (λ x. x *ℤ d) (to_z-of_z w128 c.quotient.result fq ∙ c.quotient.ensures ∙ ap (λ x. int_div x (pos s)) n_is)
    ∙ ap (λ x. int_div n (pos s) *ℤ x) (sym d_is) ∙ div_exact n s divides
