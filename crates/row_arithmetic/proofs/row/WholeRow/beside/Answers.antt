use Rattle.std.proofs.Common.{◌≡◌, ◌++◌, ◌∷◌, [], sym, ◌∙◌, ap, rules, arith, pos, ℤ, List, take, FitsSigned, to_z, of_z}
use Rattle.std.specs.Int.{w128}
use Rattle.std.specs.Prelude.{slice_index_or}
use Rattle.std.proofs.lemmas.Int.{to_z-of_z}
use Rattle.std.proofs.lemmas.List.{take_all, take_more}
use Rattle.row_arithmetic.specs.Rows.{Row}
use Rattle.row_arithmetic.proofs.row.WholeRow.beside.Goals as goal

pub loop-number-init : goal.loop-number-init
loop-number-init c = c.in_ok-push.ensures.items ∙ ap (λ xs. xs ++ to_z w128 (of_z w128 c.args.value) ∷ []) c.new-numbers.ensures.items

pub loop-number-preserved : goal.loop-number-preserved
loop-number-preserved c =
    let rest = c.args.rest.now in
    let i = c.loop-number.number-index in
    let x = slice_index_or rest i (pos 0) in
    let f : FitsSigned w128 x = search rules in
    c.in_ok-push-2.ensures.items ∙ ap (λ y. c.loop-number.numbers.items ++ y ∷ []) (to_z-of_z w128 x f) ∙ ap (λ xs. xs ++ x ∷ []) c.loop-number.invariant
    ∙ ap (λ xs. to_z w128 (of_z w128 c.args.value) ∷ xs) (sym (take_more rest i (pos 0) (omega arith)))

pub returns : goal.returns
returns c =
    let fv : FitsSigned w128 c.args.value = search rules in
    let fb : FitsSigned w128 c.args.bottom = search rules in
    let whole : take c.loop-number.number-index c.args.rest.now ≡ c.args.rest.now = take_all c.loop-number.number-index c.args.rest.now (omega arith) in
    ap (λ (xs : List ℤ). let r : Row = record { numbers = xs; bottom = to_z w128 (of_z w128 c.args.bottom) } in r)
    (c.loop-number.invariant ∙ ap (λ v. v ∷ take c.loop-number.number-index c.args.rest.now) (to_z-of_z w128 c.args.value fv) ∙ ap (λ xs. c.args.value ∷ xs) whole)
    ∙ ap (λ b. let r : Row = record { numbers = c.args.value ∷ c.args.rest.now; bottom = b } in r) (to_z-of_z w128 c.args.bottom fb)
