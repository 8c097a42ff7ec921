use Rattle.quad_solve_law.proofs.Refuted.{last_below, multipliers_optimal, multipliers_stationary, not_both_prices}
use Rattle.quad_solve_law.proofs.Every.{none_leads_down}
use Rattle.quad_solve_law.proofs.prices.refuted_price_is_optimal.Goals as goal

pub returns : goal.returns
returns c = record { below = last_below; optimal = multipliers_optimal; stationary = multipliers_stationary; not_both = not_both_prices; none = none_leads_down }
