use Rattle.std.proofs.Common.{◌≡◌, ◌<◌, rules, arith, pos, ℤ, FitsSigned, to_z, of_z, sym, subst, ap, ◌∙◌}
use Rattle.std.specs.Int.{w128, ◌∣◌}
use Rattle.std.proofs.Math.Nat.{one-dvd, dvd_trans}
use Rattle.std.proofs.lemmas.Int.{to_z-of_z}
use Rattle.std.proofs.lemmas.Nat.Gcd.{dvd_refl}
use Rattle.std.specs.Prelude.{unsigned_abs, slice_index_or}
use Rattle.row_arithmetic.specs.Rows.{number}
use Rattle.row_arithmetic.proofs.Divisors.{size_positive}
use Rattle.row_arithmetic.proofs.Divided.{divides_next, greatest_next}
use Rattle.row_arithmetic.proofs.row.divisor.Goals as goal

pub returns-then-common-eq1-clause-numbers : goal.returns-then-common-eq1-clause-numbers
returns-then-common-eq1-clause-numbers c = λ k l. one-dvd (unsigned_abs (number c.args.numbers.now k))

pub returns-then-common-eq1-clause-greatest : goal.returns-then-common-eq1-clause-greatest
returns-then-common-eq1-clause-greatest c =
    let f = c.ranges.bottom in
    λ d in_bottom in_numbers. subst (λ n. d ∣ n) c.if-common-eq1.true
    (c.loop-k.invariant.3 d (subst (λ (b : ℤ). d ∣ unsigned_abs b) (sym (to_z-of_z w128 c.args.bottom f)) in_bottom) (λ i l. in_numbers i (omega (arith, l))))

pub loop-k-init : goal.loop-k-init
loop-k-init c =
    let f = c.ranges.bottom in
    let e = c.unsigned_abs-common.ensures.value in (
      subst (λ n. 0 < n) (sym (e ∙ ap unsigned_abs (to_z-of_z w128 c.args.bottom f))) (size_positive c.args.bottom c.requires),
      subst (λ n. n ∣ unsigned_abs (to_z w128 (of_z w128 c.args.bottom))) (sym e) (dvd_refl _),
      λ i l. absurd (omega (arith, l)),
      λ d in_bottom in_numbers. subst (λ n. d ∣ n) (sym e) in_bottom,
    )

pub loop-k-preserved : goal.loop-k-preserved
loop-k-preserved c =
    let f : FitsSigned w128 (slice_index_or c.args.numbers.now c.loop-k.k (pos 0)) = search rules in
    let e : c.unsigned_abs.result ≡ unsigned_abs (number c.args.numbers.now c.loop-k.k) =
    c.unsigned_abs.ensures.value ∙ ap unsigned_abs (to_z-of_z w128 (slice_index_or c.args.numbers.now c.loop-k.k (pos 0)) f) in
    let below : c.gcd-common.result ∣ c.loop-k.common = c.gcd-common.ensures.right in (
      c.gcd-common.ensures.positive c.loop-k.invariant.0,
      dvd_trans c.gcd-common.result below c.loop-k.invariant.1,
      divides_next c.args.numbers.now c.loop-k.common c.loop-k.k c.gcd-common.result c.loop-k.invariant.2 (subst (λ n. c.gcd-common.result ∣ n) e c.gcd-common.ensures.left) below,
      greatest_next c.args.numbers.now _ c.loop-k.common c.loop-k.k c.gcd-common.result c.unsigned_abs.result c.loop-k.invariant.3 e c.gcd-common.ensures.value,
    )

pub returns-clause-bottom : goal.returns-clause-bottom
returns-clause-bottom c = let f = c.ranges.bottom in let i = simp to_z-of_z at c.loop-k.invariant.1 in i

pub returns-clause-greatest : goal.returns-clause-greatest
returns-clause-greatest c =
    let f = c.ranges.bottom in
    λ d in_bottom in_numbers.
    c.loop-k.invariant.3 d (subst (λ (b : ℤ). d ∣ unsigned_abs b) (sym (to_z-of_z w128 c.args.bottom f)) in_bottom) (λ i l. in_numbers i (omega (arith, l)))
