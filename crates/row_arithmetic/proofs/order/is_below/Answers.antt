use Rattle.std.proofs.Common.{◌≡◌, ap, ◌∙◌, refl, sym, subst, rules, arith, pos, ◌*ℤ◌, FitsSigned, to_z, of_z, Less, Equal, Greater}
use Rattle.std.specs.Int.{w128}
use Rattle.std.specs.Prelude.{◌<ℤ◌, slice_index_or, true, false}
use Rattle.std.proofs.lemmas.Int.{to_z-of_z}
use Rattle.std.proofs.lemmas.Cmp.{int_ranked}
use Rattle.row_arithmetic.specs.Crosses.{IsCrossBelow}
use Rattle.row_arithmetic.proofs.Below.{cross_less, cross_greater, cross_equal, cross_end}
use Rattle.row_arithmetic.proofs.order.is_below.Goals as goal

not_so : false ≡ true → ⊥
not_so e = cc

pub returns-in-Less : goal.returns-in-Less
returns-in-Less c =
    let xs = c.args.row.now in
    let ys = c.args.other.now in
    let k = c.loop-k.k in
    let S = to_z w128 (of_z w128 c.args.s) in
    let U = to_z w128 (of_z w128 c.args.u) in
    let x = slice_index_or xs k (pos 0) in
    let y = slice_index_or ys k (pos 0) in
    let fs : FitsSigned w128 c.args.s = search rules in
    let fu : FitsSigned w128 c.args.u = search rules in
    let fx : FitsSigned w128 x = search rules in
    let fy : FitsSigned w128 y = search rules in
    let raw : (to_z w128 (of_z w128 x) *ℤ U) <ℤ (to_z w128 (of_z w128 y) *ℤ S) =
    int_ranked (to_z w128 (of_z w128 x) *ℤ U) (to_z w128 (of_z w128 y) *ℤ S) Less (sym c.in-Less.is ∙ c.in_ok-compare_crosses.ensures) in
    let less : (x *ℤ U) <ℤ (y *ℤ S) = subst (λ z. (x *ℤ U) <ℤ (z *ℤ S)) (to_z-of_z w128 y fy) (subst (λ z. (z *ℤ U) <ℤ (to_z w128 (of_z w128 y) *ℤ S)) (to_z-of_z w128 x fx) raw) in
    let below : IsCrossBelow S xs U ys = c.loop-k.invariant.0 (cross_less S U xs ys k (omega arith) (omega arith) less) in
    ((λ b. subst (λ s. IsCrossBelow s xs c.args.u ys) (to_z-of_z w128 c.args.s fs) (subst (λ u. IsCrossBelow S xs u ys) (to_z-of_z w128 c.args.u fu) below)), (λ b. refl))

pub returns-in-Greater : goal.returns-in-Greater
returns-in-Greater c =
    let xs = c.args.row.now in
    let ys = c.args.other.now in
    let k = c.loop-k.k in
    let S = to_z w128 (of_z w128 c.args.s) in
    let U = to_z w128 (of_z w128 c.args.u) in
    let x = slice_index_or xs k (pos 0) in
    let y = slice_index_or ys k (pos 0) in
    let fs : FitsSigned w128 c.args.s = search rules in
    let fu : FitsSigned w128 c.args.u = search rules in
    let fx : FitsSigned w128 x = search rules in
    let fy : FitsSigned w128 y = search rules in
    let raw : (to_z w128 (of_z w128 y) *ℤ S) <ℤ (to_z w128 (of_z w128 x) *ℤ U) =
    int_ranked (to_z w128 (of_z w128 x) *ℤ U) (to_z w128 (of_z w128 y) *ℤ S) Greater (sym c.in-Greater.is ∙ c.in_ok-compare_crosses.ensures) in
    let less : (y *ℤ S) <ℤ (x *ℤ U) = subst (λ z. (y *ℤ S) <ℤ (z *ℤ U)) (to_z-of_z w128 x fx) (subst (λ z. (z *ℤ S) <ℤ (to_z w128 (of_z w128 x) *ℤ U)) (to_z-of_z w128 y fy) raw) in (
      (λ b. absurd (not_so b)),
      (λ b. absurd (cross_greater S U xs ys k (omega arith) (omega arith) less (c.loop-k.invariant.1
          (subst (λ u. IsCrossBelow S xs u ys) (sym (to_z-of_z w128 c.args.u fu)) (subst (λ s. IsCrossBelow s xs c.args.u ys) (sym (to_z-of_z w128 c.args.s fs)) b))))),
    )

pub loop-k-preserved : goal.loop-k-preserved
loop-k-preserved c =
    let xs = c.args.row.now in
    let ys = c.args.other.now in
    let k = c.loop-k.k in
    let S = to_z w128 (of_z w128 c.args.s) in
    let U = to_z w128 (of_z w128 c.args.u) in
    let x = slice_index_or xs k (pos 0) in
    let y = slice_index_or ys k (pos 0) in
    let fx : FitsSigned w128 x = search rules in
    let fy : FitsSigned w128 y = search rules in
    let same : to_z w128 (of_z w128 x) *ℤ U ≡ to_z w128 (of_z w128 y) *ℤ S =
    int_ranked (to_z w128 (of_z w128 x) *ℤ U) (to_z w128 (of_z w128 y) *ℤ S) Equal (sym c.in-Equal.is ∙ c.in_ok-compare_crosses.ensures) in
    let e : x *ℤ U ≡ y *ℤ S = ap (λ z. z *ℤ U) (sym (to_z-of_z w128 x fx)) ∙ same ∙ ap (λ z. z *ℤ S) (to_z-of_z w128 y fy) in
    let next = cross_equal S U xs ys k (omega arith) (omega arith) e in
    let rest = c.loop-k.invariant in
    ((λ b. rest.0 (next.0 b)), (λ b. next.1 (rest.1 b)))

pub returns : goal.returns
returns c =
    let xs = c.args.row.now in
    let ys = c.args.other.now in
    let S = to_z w128 (of_z w128 c.args.s) in
    let U = to_z w128 (of_z w128 c.args.u) in
    let fs : FitsSigned w128 c.args.s = search rules in
    let fu : FitsSigned w128 c.args.u = search rules in (
      (λ b. absurd (not_so b)),
      (λ b. absurd (cross_end S U xs ys c.loop-k.k (omega arith) (c.loop-k.invariant.1
          (subst (λ u. IsCrossBelow S xs u ys) (sym (to_z-of_z w128 c.args.u fu)) (subst (λ s. IsCrossBelow s xs c.args.u ys) (sym (to_z-of_z w128 c.args.s fs)) b))))),
    )
