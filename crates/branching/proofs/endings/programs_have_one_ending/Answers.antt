use Rattle.branching.proofs.OneEnding.{some_ending, one_certificate, one_stop, not_both}
use Rattle.branching.proofs.endings.programs_have_one_ending.Goals as goal

pub returns : goal.returns
returns c = record {
  some = λ p bases boxes reduced is. some_ending p is bases boxes reduced;
  certificate = λ p bases boxes c d is. one_certificate p is bases boxes c d;
  stop = λ p bases boxes one other is. one_stop p is bases boxes one other;
  not_both = λ p bases boxes c stop is. not_both p is bases boxes c stop;
}
