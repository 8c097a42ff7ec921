use Rattle.std.specs.Prelude.{Ok, length}
use Rattle.std.proofs.Common.{◌∙◌, ap, subst}
use Rattle.certificate_law.specs.declared.Certificate.TheVariants.{NotConvex}
use Rattle.cert_check_law.proofs.Checks.{good_passes}
use Rattle.convexity.specs.declared.Curvature.{Curvature}
use Rattle.convexity.specs.Meaning.{HasWidth, IsCurvatureOf}
use Rattle.branching.proofs.Pathed.{path_if}
use Rattle.branching.proofs.Reduced.{squares_for}
use Rattle.branching.proofs.Told.{found_if, good_if, accepted_if, curved_if, curved_found, claims_curved}
use Rattle.branching.proofs.decide.Goals as goal

pub convex-requires-clause-squares : goal.convex-requires-clause-squares
convex-requires-clause-squares c =
    squares_for c.args.p.now _ c.in-Ok-Squares.squares c.columns-columns.ensures.program c.in-Ok-Squares.field-0-is c.in-Ok-Squares.ensures.right c.in-Ok-Squares.ensures.width
    c.in-Ok-Squares.ensures.few

pub returns-in-Ok-Negative-clause-found : goal.returns-in-Ok-Negative-clause-found
returns-in-Ok-Negative-clause-found c =
    curved_found c.args.p.now c.args.limits.bases c.args.limits.boxes c.in-Ok-Negative.vector (c.in-Ok-Negative.ensures.calculation ∙ ap (λ (a : Curvature). Ok a) c.in-Ok-Negative.field-0-is)

pub returns-in-Ok-Negative-clause-curved : goal.returns-in-Ok-Negative-clause-curved
returns-in-Ok-Negative-clause-curved c =
    claims_curved c.args.p.now c.in-Ok-Negative.vector
    (subst (λ (a : Curvature). IsCurvatureOf c.args.p.now.pairs a) c.in-Ok-Negative.field-0-is c.in-Ok-Negative.ensures.right)

pub returns-in-Ok-Negative-clause-accepted : goal.returns-in-Ok-Negative-clause-accepted
returns-in-Ok-Negative-clause-accepted c =
    good_passes c.args.p.now (NotConvex c.in-Ok-Negative.vector) c.columns-columns.ensures.program
    (subst (λ (a : Curvature). HasWidth (length c.args.p.now.columns) a) c.in-Ok-Negative.field-0-is c.in-Ok-Negative.ensures.width)
    (subst (λ (a : Curvature). IsCurvatureOf c.args.p.now.pairs a) c.in-Ok-Negative.field-0-is c.in-Ok-Negative.ensures.right)

pub returns-in-Ok-Squares : goal.returns-in-Ok-Squares
returns-in-Ok-Squares c =
    let p = c.args.p.now in
    let is = c.columns-columns.ensures.program in
    let squares = c.in-Ok-Squares.squares in
    let known = squares_for p _ squares is c.in-Ok-Squares.field-0-is c.in-Ok-Squares.ensures.right c.in-Ok-Squares.ensures.width c.in-Ok-Squares.ensures.few in
    let good = good_if p c.args.limits.bases c.args.limits.boxes squares c.convex.result is known c.convex.ensures.found in
    record {
      found = found_if p c.args.limits.bases c.args.limits.boxes squares c.convex.result (c.in-Ok-Squares.ensures.calculation ∙ ap (λ (a : Curvature). Ok a) c.in-Ok-Squares.field-0-is) c.convex.ensures.found;
      good = good;
      curved = curved_if p squares c.convex.result known good;
      accepted = accepted_if p c.convex.result is good c.convex.ensures.writable;
      writable = c.convex.ensures.writable;
      stop = c.convex.ensures.stop;
      path = path_if p c.args.limits.bases c.args.limits.boxes c.convex.result c.convex.ensures.stop;
    }
