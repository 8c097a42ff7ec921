use Rattle.branching_law.proofs.Incumbents.{no_incumbent, stays, better, below_all, not_below, first_is_kept, first_is_least}
use Rattle.branching_law.proofs.steps.incumbents_go_on.Goals as goal

pub returns : goal.returns
returns c = record {
  none = no_incumbent;
  stays = stays;
  better = better;
  below = below_all;
  not_below = λ p points x v. not_below p points x v;
  kept = first_is_kept;
  least = λ p points x w h k. first_is_least p points x h w k;
}
