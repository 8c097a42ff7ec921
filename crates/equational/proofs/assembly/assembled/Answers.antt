use Rattle.std.proofs.Common.{ap, ◌∙◌}
use Rattle.rational.specs.Rational.{ℚ}
use Rattle.exact_matrix.specs.Grid.{Grid}
use Rattle.equational.proofs.Whole.{equations_cut, pairs_cut, form_is, is_kept, formed_is}
use Rattle.equational.proofs.assembly.assembled.Goals as goal

pub of_rows-matrix-requires : goal.of_rows-matrix-requires
of_rows-matrix-requires c =
    (equations_cut c.requires.0 c.requires.1.0 c.args.layout c.args.rows c.args.firsts.items c.args.objective.quadratic.items c.args.objective.cost c.args.objective.constant c.len-height.result c.width-width.result
    c.into_parts-entries.result.0.items c.requires.1.1 c.len-height.ensures c.width-width.ensures.width c.into_parts-entries.ensures.entries).0

pub of_rows-quadratic-requires : goal.of_rows-quadratic-requires
of_rows-quadratic-requires c =
    (pairs_cut c.requires.0 c.requires.1.0 c.args.layout c.args.rows c.args.firsts.items c.args.objective.quadratic.items c.args.objective.cost c.args.objective.constant c.width-width.result c.requires.1.1 c.width-width.ensures.width).0

pub returns : goal.returns
returns c = λ p region made.
    let matrix = ap (λ (m : Grid ℚ). m.rows) c.of_rows-matrix.ensures
    ∙ (equations_cut p region c.args.layout c.args.rows c.args.firsts.items c.args.objective.quadratic.items c.args.objective.cost c.args.objective.constant c.len-height.result c.width-width.result c.into_parts-entries.result.0.items made
    c.len-height.ensures c.width-width.ensures.width c.into_parts-entries.ensures.entries).1 in
    let quadratic = ap (λ (m : Grid ℚ). m.rows) c.of_rows-quadratic.ensures
    ∙ (pairs_cut p region c.args.layout c.args.rows c.args.firsts.items c.args.objective.quadratic.items c.args.objective.cost c.args.objective.constant c.width-width.result made c.width-width.ensures.width).1 in
    formed_is p region c.into_bounds.result.items c.args.layout c.args.rows c.args.firsts.items c.args.objective.quadratic.items c.args.objective.cost c.args.objective.constant _ made c.into_bounds.ensures
    (form_is p region c.args.layout c.args.rows c.args.firsts.items c.args.objective.quadratic.items c.args.objective.cost c.args.objective.constant c.of_rows-matrix.result.rows c.of_rows-quadratic.result.rows c.into_parts-entries.result.1 made matrix
    quadratic c.into_parts-entries.ensures.right)

pub invariant_of-result : goal.invariant_of-result
invariant_of-result c =
    let p = c.requires.0 in
    let region = c.requires.1.0 in
    let made = c.requires.1.1 in
    let matrix = ap (λ (m : Grid ℚ). m.rows) c.of_rows-matrix.ensures
    ∙ (equations_cut p region c.args.layout c.args.rows c.args.firsts.items c.args.objective.quadratic.items c.args.objective.cost c.args.objective.constant c.len-height.result c.width-width.result c.into_parts-entries.result.0.items made
    c.len-height.ensures c.width-width.ensures.width c.into_parts-entries.ensures.entries).1 in
    let quadratic = ap (λ (m : Grid ℚ). m.rows) c.of_rows-quadratic.ensures
    ∙ (pairs_cut p region c.args.layout c.args.rows c.args.firsts.items c.args.objective.quadratic.items c.args.objective.cost c.args.objective.constant c.width-width.result made c.width-width.ensures.width).1 in
    is_kept p region c.into_bounds.result.items c.args.layout c.args.rows c.args.firsts.items c.args.objective.quadratic.items c.args.objective.cost c.args.objective.constant c.of_rows-matrix.result.columns c.of_rows-quadratic.result.columns _ made
    (ap (λ (m : Grid ℚ). m.columns) c.of_rows-matrix.ensures ∙ c.width-width.ensures.width) (ap (λ (m : Grid ℚ). m.columns) c.of_rows-quadratic.ensures ∙ c.width-width.ensures.width) c.into_bounds.ensures
    (form_is p region c.args.layout c.args.rows c.args.firsts.items c.args.objective.quadratic.items c.args.objective.cost c.args.objective.constant c.of_rows-matrix.result.rows c.of_rows-quadratic.result.rows c.into_parts-entries.result.1 made matrix
    quadratic c.into_parts-entries.ensures.right)
