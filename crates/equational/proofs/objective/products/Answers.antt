use Rattle.std.proofs.Common.{arith, ap, ◌∙◌, ◌+◌, length}
use Rattle.std.proofs.lemmas.List.{length_push}
use Rattle.std.proofs.lemmas.Result.{err_from_is_err_and}
use Rattle.frac_core.specs.Parts.{max_part}
use Rattle.frac_core.specs.Calculated.{answered}
use Rattle.exact_matrix.specs.declared.systems.Stop.TheVariants.{Past}
use Rattle.equational_rows.proofs.Chains.{list_on, list_stops, list_ends}
use Rattle.equational.proofs.Shifted.{products_next, products_end}
use Rattle.equational.proofs.objective.products.Goals as goal

pub returns-in_err-dot_fractions-clause-products : goal.returns-in_err-dot_fractions-clause-products
returns-in_err-dot_fractions-clause-products c =
    let p = err_from_is_err_and c.from_residual.result c.from_residual.ensures.1 in
    rw (p.1, p.2)
    (list_stops (Past _) _ _ _ _ c.loop-j.products
    (products_next max_part c.args.p.now.pairs c.args.h.now c.loop-j.j c.pairs_of.result.now (omega (arith, c.columns-j-end.ensures.program.pairs_height, c.columns-j-end.ensures.count, c.loop-j-test.true)) c.pairs_of.ensures.pairs)
    (ap answered c.in_err-dot_fractions.ensures) c.loop-j.invariant.0)

pub loop-j-preserved : goal.loop-j-preserved
loop-j-preserved c = (
  list_on _ c.in_ok-dot_fractions.field-0 _ _ _ c.loop-j.products c.push.new.self
      (products_next max_part c.args.p.now.pairs c.args.h.now c.loop-j.j c.pairs_of.result.now (omega (arith, c.columns-j-end.ensures.program.pairs_height, c.columns-j-end.ensures.count, c.loop-j-test.true)) c.pairs_of.ensures.pairs)
      (ap answered c.in_ok-dot_fractions.ensures) c.in_ok-push.ensures.ok c.loop-j.invariant.0,
  ap length c.in_ok-push.ensures.ok ∙ length_push c.loop-j.products c.in_ok-dot_fractions.field-0 ∙ ap (λ n. n + 1) c.loop-j.invariant.1,
)

pub returns-clause-products : goal.returns-clause-products
returns-clause-products c =
    list_ends _ _ c.loop-j.products
    (products_end max_part c.args.p.now.pairs c.args.h.now c.loop-j.j (omega (arith, c.columns-j-end.ensures.program.pairs_height, c.columns-j-end.ensures.count, c.loop-j-test.false)))
    c.loop-j.invariant.0
