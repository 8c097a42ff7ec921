use Rattle.std.proofs.Common.{◌*ℤ◌, ◌≤◌, ◌-◌, ◌^◌, FitsSigned, arith, refl, rules}
use Rattle.std.specs.Prelude.{unsigned_abs}
use Rattle.std.specs.Int.{w128}
use Rattle.std.proofs.lemmas.Int.{to_z-of_z, fits_signed_mul}
use Rattle.word_arithmetic.proofs.signs.times.Goals as goal

pub overflow_mul-result : goal.overflow_mul-result
overflow_mul-result c =
    let fx : FitsSigned w128 c.args.x = search rules in
    let fy : FitsSigned w128 c.args.y = search rules in
    let hx : unsigned_abs c.args.x ≤ 2 ^ 63 - 1 = let e = simp to_z-of_z at c.is_short.ensures in omega (arith, e.0 c.if-is_short.true) in
    let hy : unsigned_abs c.args.y ≤ 2 ^ 63 - 1 = let e = simp to_z-of_z at c.is_short-then-is_short.ensures in omega (arith, e.0 c.if-is_short-2.true) in
    rw (to_z-of_z w128 c.args.x fx, to_z-of_z w128 c.args.y fy) (fits_signed_mul w128 c.args.x c.args.y (2 ^ 63 - 1) (2 ^ 63 - 1) hx hy (omega arith))

pub returns-then-is_short-2 : goal.returns-then-is_short-2
returns-then-is_short-2 c =
    let fx : FitsSigned w128 c.args.x = search rules in
    let fy : FitsSigned w128 c.args.y = search rules in
    let hx : unsigned_abs c.args.x ≤ 2 ^ 63 - 1 = let e = simp to_z-of_z at c.is_short.ensures in omega (arith, e.0 c.if-is_short.true) in
    let hy : unsigned_abs c.args.y ≤ 2 ^ 63 - 1 = let e = simp to_z-of_z at c.is_short-then-is_short.ensures in omega (arith, e.0 c.if-is_short-2.true) in
    let f : FitsSigned w128 (c.args.x *ℤ c.args.y) = fits_signed_mul w128 c.args.x c.args.y (2 ^ 63 - 1) (2 ^ 63 - 1) hx hy (omega arith) in
    rw (to_z-of_z w128 c.args.x fx, to_z-of_z w128 c.args.y fy, to_z-of_z w128 (c.args.x *ℤ c.args.y) f) (f, refl)
