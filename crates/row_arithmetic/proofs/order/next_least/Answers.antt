use Rattle.std.proofs.Common.{◌≡◌, ℤ, List, ap, ◌∙◌, subst, rules, arith, pos, FitsSigned, to_z, of_z, Some}
use Rattle.std.specs.Int.{w128}
use Rattle.std.specs.Prelude.{◌<ℤ◌, slice_index_or}
use Rattle.std.proofs.lemmas.Int.{to_z-of_z, ints}
use Rattle.std.proofs.lemmas.List.{get_or_default}
use Rattle.row_arithmetic.specs.Rows.{Row, number, row_in}
use Rattle.row_arithmetic.specs.Crosses.{IsCrossBelow, IsLeast}
use Rattle.row_arithmetic.proofs.Below.{least_first, least_below}
use Rattle.row_arithmetic.proofs.order.next_least.Goals as goal

pub returns-in_default : goal.returns-in_default
returns-in_default c =
    let x = slice_index_or c.args.products.now c.args.k (pos 0) in
    let f : FitsSigned w128 x = search rules in
    let p : pos 0 <ℤ x = let h = rw (to_z-of_z w128 x f) at c.if-products-k-le0.false in omega (arith, ints, h) in
    least_first c.args.products.now c.args.rows.now c.args.k p (subst (IsLeast c.args.products.now c.args.rows.now c.args.k) c.in_default.is c.requires.best)

pub returns-then-branch : goal.returns-then-branch
returns-then-branch c =
    let t = c.args.products.now in
    let rows = c.args.rows.now in
    let k = c.args.k in
    let l = c.in-Some.l in
    let best : IsLeast t rows k (Some l) = subst (IsLeast t rows k) c.in-Some.is c.requires.best in
    let y = slice_index_or t l (pos 0) in
    let g : FitsSigned w128 y = search rules in
    let numbers_k : c.deref.result.now ≡ (row_in rows k).numbers = c.deref.ensures.value ∙ ap (λ (r : Row). r.numbers) (c.row.view_is ∙ c.index-rows-k.is ∙ get_or_default rows k _ _ c.requires.rows) in
    let numbers_l : c.deref-2.result.now ≡ (row_in rows l).numbers =
    c.deref-2.ensures.value ∙ ap (λ (r : Row). r.numbers) (c.other.view_is ∙ c.index-rows-l.is ∙ get_or_default rows l _ _ (let u = best.0 in let v = c.requires.rows in omega (arith, u, v))) in
    let x = slice_index_or c.args.products.now c.args.k (pos 0) in
    let f : FitsSigned w128 x = search rules in
    let p : pos 0 <ℤ x = let h = rw (to_z-of_z w128 x f) at c.if-products-k-le0.false in omega (arith, ints, h) in
    least_below t rows k p l best
    (subst (λ (ys : List ℤ). IsCrossBelow x (row_in rows k).numbers (number t l) ys) (numbers_l)
    (subst (λ (xs : List ℤ). IsCrossBelow x xs (number t l) c.deref-2.result.now) (numbers_k)
    (subst (λ n. IsCrossBelow x c.deref.result.now n c.deref-2.result.now) (to_z-of_z w128 y g)
    (subst (λ n. IsCrossBelow n c.deref.result.now (to_z w128 (of_z w128 y)) c.deref-2.result.now) (to_z-of_z w128 x f) (c.in_ok-is_below.ensures.0 c.if-branch.true)))))
