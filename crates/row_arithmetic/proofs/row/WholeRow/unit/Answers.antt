use Rattle.std.proofs.Common.{◌≡◌, ◌++◌, ◌∷◌, [], subst, ◌∙◌, ap, rules, arith, FitsSigned, to_z, of_z}
use Rattle.std.specs.Int.{w128}
use Rattle.std.proofs.lemmas.Int.{to_z-of_z}
use Rattle.row_arithmetic.proofs.Units.{UnitSoFar, unit_first, unit_more, unit_made}
use Rattle.row_arithmetic.proofs.row.WholeRow.unit.Goals as goal

pub loop-i-init : goal.loop-i-init
loop-i-init c =
    unit_first c.args.k (to_z w128 (of_z w128 c.args.value)) c.push.new.self.items (c.in_ok-push.ensures.items ∙ ap (λ xs. xs ++ to_z w128 (of_z w128 c.args.value) ∷ []) c.in_ok-numbers.ensures.items)

pub loop-i-preserved : goal.loop-i-preserved
loop-i-preserved c =
    let x = c.unit_entry.result in
    let fx : FitsSigned w128 x = search rules in
    unit_more c.args.k c.loop-i.i (to_z w128 (of_z w128 c.args.value)) x c.loop-i.numbers.items c.push-in-loop-i.new.self.items c.loop-i.invariant c.unit_entry.ensures.one c.unit_entry.ensures.zero
    (c.in_ok-push-2.ensures.items ∙ ap (λ y. c.loop-i.numbers.items ++ y ∷ []) (to_z-of_z w128 x fx))

pub returns : goal.returns
returns c =
    let fv : FitsSigned w128 c.args.value = search rules in
    let fs : FitsSigned w128 c.args.scale = search rules in
    let n : c.loop-i.i ≡ c.args.count = omega arith in
    unit_made c.args.count c.args.k c.loop-i.i c.args.value c.args.scale _ n
    (subst (λ v. UnitSoFar c.args.k v c.loop-i.i c.loop-i.numbers.items) (to_z-of_z w128 c.args.value fv) c.loop-i.invariant) (to_z-of_z w128 c.args.scale fs)
