use Rattle.std.proofs.Common.{◌≡◌, ◌^◌, ◌+◌, ◌*◌, ◌%◌, ◌-◌, ◌≤◌, arith, subst}
use Rattle.std.specs.Int.{◌∣◌}
use Rattle.std.proofs.lemmas.Nat.Gcd.{dvd_of_mod-eq-zero}
use Rattle.std.proofs.Math.Nat.{pow-le-pow_right}
use Rattle.word_arithmetic.proofs.Bitwise.{doubled}
use Rattle.word_arithmetic.proofs.ModularInverses.{newton}
use Rattle.word_arithmetic.proofs.inverses.negative_inverse.Goals as goal

pub loop-init : goal.loop-init
loop-init c = dvd_of_mod-eq-zero 2 (omega (arith, c.requires))

pub loop-preserved : goal.loop-preserved
loop-preserved c =
    let i = c.loop.counter in
    let x = c.loop.inverse in
    let o = c.args.odd in
    let n = (x * ((o * x % 2 ^ 64 + 2) % 2 ^ 64)) % 2 ^ 64 in
    let j = 2 ^ i in
    let small : j ≤ 2 ^ 5 = pow-le-pow_right {n = 2} (omega arith) {i = i} {j = 5} (omega (arith, c.loop-test.true)) in
    let twice : j + j ≡ 2 ^ (i + 1) = omega (arith, doubled i) in
    subst (λ t. 2 ^ t ∣ o * n + 1) twice (newton 64 o x j (64 - (j + j)) (omega arith) c.loop.invariant)

pub returns : goal.returns
returns c =
    let e : c.loop.counter ≡ 6 = omega (arith, c.loop-test.false, c.loop.auto.counter-end) in
    subst (λ t. 2 ^ 2 ^ t ∣ c.args.odd * c.loop.inverse + 1) e c.loop.invariant
