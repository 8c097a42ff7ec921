use Rattle.std.specs.Prelude.{◌≡◌, ℕ, Option, Some, None, IfSome, IfNone}
use Rattle.std.proofs.Common.{sym, ap, ◌∙◌}
use Rattle.program_law.specs.Region.{Region, IsCrossedAt, IsCrossedRegion}
use Rattle.program_regions.specs.Regions.{first_crossed}
use Rattle.program_regions.proofs.RegionLemmas.{crossed_there, crossed_nowhere}
use Rattle.program_regions.proofs.regions.Region.crossed.Goals as goal

there : (region : Region) (answer : Option ℕ) → answer ≡ first_crossed region → IfSome answer (λ j. IsCrossedAt region j)
there region None e = tt
there region (Some j) e = crossed_there region j (sym e)

nowhere : (region : Region) (answer : Option ℕ) → answer ≡ first_crossed region → IfNone answer (IsCrossedRegion region → ⊥)
nowhere region None e = λ c. crossed_nowhere region c.column (sym e) c.crossed
nowhere region (Some j) e = tt

pub returns-clause-crossed : goal.returns-clause-crossed
returns-clause-crossed c = there c.args.self.now c.first_crossed.result (c.first_crossed.ensures ∙ ap (λ (r : Region). first_crossed r) (c.deref.ensures.value ∙ c.self.view_is))

pub returns-clause-none : goal.returns-clause-none
returns-clause-none c = nowhere c.args.self.now c.first_crossed.result (c.first_crossed.ensures ∙ ap (λ (r : Region). first_crossed r) (c.deref.ensures.value ∙ c.self.view_is))
