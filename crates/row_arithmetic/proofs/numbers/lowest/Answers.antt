use Rattle.std.proofs.Common.{◌≡◌, ◌<◌, rules, sym, subst, ap, ◌∙◌, pos, ◌*ℤ◌, FitsSigned, arith, ℤ, to_z, of_z}
use Rattle.std.specs.Prelude.{unsigned_abs, int_div, ◌<ℤ◌}
use Rattle.std.specs.Int.{w128, ◌∣◌}
use Rattle.std.proofs.lemmas.Int.{to_z-of_z}
use Rattle.rational.specs.Divisors.{gcd_of}
use Rattle.rational.proofs.Products.{div_exact}
use Rattle.row_arithmetic.proofs.Divisors.{size_positive}
use Rattle.row_arithmetic.proofs.numbers.lowest.Goals as goal

pub quotient-requires-clause-positive : goal.quotient-requires-clause-positive
quotient-requires-clause-positive c =
    let f : FitsSigned w128 c.args.bottom = search rules in
    c.gcd-common.ensures.positive (subst (λ n. 0 < n) (sym (c.unsigned_abs-2.ensures.value ∙ ap unsigned_abs (to_z-of_z w128 c.args.bottom f))) (size_positive c.args.bottom c.requires))

pub quotient-requires-clause-divides : goal.quotient-requires-clause-divides
quotient-requires-clause-divides c = subst (λ n. c.gcd-common.result ∣ n) c.unsigned_abs-2.ensures.value c.gcd-common.ensures.right

pub quotient-requires-2-clause-divides : goal.quotient-requires-2-clause-divides
quotient-requires-2-clause-divides c = subst (λ n. c.gcd-common.result ∣ n) c.unsigned_abs.ensures.value c.gcd-common.ensures.left

pub returns : goal.returns
returns c =
    let g = c.gcd-common.result in
    let b = c.args.bottom in
    let t = c.args.t in
    let fb : FitsSigned w128 b = search rules in
    let ft : FitsSigned w128 t = search rules in
    let fp : FitsSigned w128 c.quotient.result = search rules in
    let ff : FitsSigned w128 c.quotient-2.result = search rules in
    let b_is : to_z w128 (of_z w128 b) ≡ b = to_z-of_z w128 b fb in
    let t_is : to_z w128 (of_z w128 t) ≡ t = to_z-of_z w128 t ft in
    let positive : 0 < g = c.gcd-common.ensures.positive (subst (λ n. 0 < n) (sym (c.unsigned_abs-2.ensures.value ∙ ap unsigned_abs b_is)) (size_positive b c.requires)) in
    let in_b : g ∣ unsigned_abs b = subst (λ n. g ∣ n) (c.unsigned_abs-2.ensures.value ∙ ap unsigned_abs b_is) c.gcd-common.ensures.right in
    let in_t : g ∣ unsigned_abs t = subst (λ n. g ∣ n) (c.unsigned_abs.ensures.value ∙ ap unsigned_abs t_is) c.gcd-common.ensures.left in (
      g,
      positive,
      ap (λ n. n *ℤ pos g) (to_z-of_z w128 c.quotient.result fp ∙ c.quotient.ensures ∙ ap (λ n. int_div n (pos g)) b_is) ∙ div_exact b g in_b,
      ap (λ n. n *ℤ pos g) (to_z-of_z w128 c.quotient-2.result ff ∙ c.quotient-2.ensures ∙ ap (λ n. int_div n (pos g)) t_is) ∙ div_exact t g in_t,
      c.gcd-common.ensures.value ∙ ap (λ n. gcd_of n c.unsigned_abs-2.result) (c.unsigned_abs.ensures.value ∙ ap unsigned_abs t_is)
          ∙ ap (gcd_of (unsigned_abs t)) (c.unsigned_abs-2.ensures.value ∙ ap unsigned_abs b_is),
    )
