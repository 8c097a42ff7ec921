use Rattle.branching_law.specs.Paths.{region_of}
use Rattle.branching_law.proofs.Trees.{wide}
use Rattle.branching_law.proofs.BelowRoots.{spent_site_small}
use Rattle.branching_law.proofs.FormSizes.{width_small, height_small, size_small}
use Rattle.branching_law.proofs.roots.large_budgets_are_enough.Goals as goal

pub returns : goal.returns
returns c = record {
  site = spent_site_small;
  columns = λ p path. width_small p (region_of p path) (wide p path);
  equations = λ p path. height_small p (region_of p path) (wide p path);
  always = size_small;
}
