use Rattle.quad_solve_law.proofs.WalkLengths.{some_walk}
use Rattle.quad_solve_law.proofs.walks.walks_end.Goals as goal

pub returns : goal.returns
returns c = λ n f x form semi start rayless. let w = some_walk n f form semi x start rayless in (w.newest, w.earlier, w.walk, w.stationary, w.farkas, w.refuted)
