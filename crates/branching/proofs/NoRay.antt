-- A search for the best meets no ray below its root.
use Rattle.std.specs.Prelude.{ℕ, List, ◌∷◌, true}
use Rattle.std.proofs.Common.{refl, subst}
use Rattle.program_law.specs.Region.{Region}
use Rattle.program_law.specs.Program.{Program, IsProgram}
use Rattle.certificate_law.specs.declared.Node.{Node}
use Rattle.quad_solve_law.specs.Answer.{IsFalling}
use Rattle.quad_solve.specs.Relaxation.{IsRelaxedOf}
use Rattle.quad_solve.specs.declared.relaxation.Relaxed.{Relaxed}
use Rattle.quad_solve.specs.declared.relaxation.Relaxed.TheVariants.{Crossed, Empty, Ray, Best}
use Rattle.branching_law.specs.Nodes.{ForBest}
use Rattle.branching_law.specs.Search.{IsEarned}
use Rattle.branching_law.proofs.BelowRoots.{best_meets_no_ray, no_fall}
use Rattle.search_steps.specs.declared.progress.Progress.{Progress}
use Rattle.search_steps.specs.Trails.{path_of, waiting_of}
use Rattle.search_steps.specs.Progressing.{HasBegun}
use Rattle.branching.specs.Rays.{IsNoRay}

pub no_ray_here : (p : Program) (bases boxes : ℕ) (progress : Progress) (answer : Relaxed) → IsProgram p → HasBegun ForBest p bases boxes true progress → IsRelaxedOf p progress.trail.walk.region bases answer
    → IsNoRay answer
no_ray_here p bases boxes progress (Crossed j) is h a = tt
no_ray_here p bases boxes progress (Empty y) is h a = tt
no_ray_here p bases boxes progress (Best x v y) is h a = tt
no_ray_here p bases boxes progress (Ray x d) is h a =
    let trail = h.way.trail refl in
    no_fall p is bases (path_of progress.trail) x d
    (best_meets_no_ray p is bases progress.trail.turns (path_of progress.trail) (waiting_of progress.trail) h.first h.others
    (subst (λ (ns : List Node). IsEarned ForBest p bases progress.trail.turns ns (path_of progress.trail ∷ waiting_of progress.trail)) h.taken h.way.searching.earned))
    (subst (λ (r : Region). IsFalling p r bases x d) trail.region a.1)
