use Rattle.quad_solve_law.proofs.WorkedHill as hill
use Rattle.quad_solve_law.proofs.WorkedPortfolio as portfolio
use Rattle.quad_solve_law.proofs.WorkedValley as valley
use Rattle.quad_solve_law.proofs.WorkedSlope as slope
use Rattle.quad_solve_law.proofs.answers.worked_programs_have_their_answers.Goals as goal

pub returns : goal.returns
returns c = record { hill = hill.answer; portfolio = portfolio.answer; valley = valley.answer; slope = slope.answer }
