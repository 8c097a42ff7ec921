use Rattle.std.proofs.Common.{ap, ◌∙◌, ◌+◌, length}
use Rattle.std.proofs.lemmas.List.{length_push}
use Rattle.std.proofs.lemmas.Result.{err_from_is_err_and}
use Rattle.frac_core.specs.Parts.{max_part}
use Rattle.frac_core.specs.Calculated.{answered}
use Rattle.exact_matrix.specs.declared.systems.Stop.TheVariants.{Past}
use Rattle.equational_rows.proofs.Chains.{list_on, list_stops, list_ends}
use Rattle.equational.proofs.Shifted.{sums_next, sums_end}
use Rattle.equational.proofs.objective.sums.Goals as goal

pub returns-in_err-added-clause-sums : goal.returns-in_err-added-clause-sums
returns-in_err-added-clause-sums c =
    let p = err_from_is_err_and c.from_residual.result c.from_residual.ensures.1 in
    rw (p.1, p.2)
    (list_stops (Past _) _ _ _ _ c.loop-j.sums
    (sums_next max_part c.args.costs.now c.args.products.now c.loop-j.j c.index-costs-j.result c.index-products-j.result c.requires c.loop-j-test.true c.index-costs-j.is c.index-products-j.is)
    (ap answered c.in_err-added.ensures) c.loop-j.invariant.0)

pub loop-j-preserved : goal.loop-j-preserved
loop-j-preserved c = (
  list_on _ c.in_ok-added.field-0 _ _ _ c.loop-j.sums c.push.new.self
      (sums_next max_part c.args.costs.now c.args.products.now c.loop-j.j c.index-costs-j.result c.index-products-j.result c.requires c.loop-j-test.true c.index-costs-j.is c.index-products-j.is)
      (ap answered c.in_ok-added.ensures) c.in_ok-push.ensures.ok c.loop-j.invariant.0,
  ap length c.in_ok-push.ensures.ok ∙ length_push c.loop-j.sums c.in_ok-added.field-0 ∙ ap (λ n. n + 1) c.loop-j.invariant.1,
)

pub returns-clause-sums : goal.returns-clause-sums
returns-clause-sums c =
    list_ends _ _ c.loop-j.sums (sums_end max_part c.args.costs.now _ c.loop-j.j c.loop-j-test.false) c.loop-j.invariant.0
