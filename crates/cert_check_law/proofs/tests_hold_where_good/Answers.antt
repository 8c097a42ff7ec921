use Rattle.cert_check_law.proofs.Checks.{good_holds, held_is_good}
use Rattle.cert_check_law.proofs.tests_hold_where_good.Goals as goal

pub returns : goal.returns
returns c = record { good = good_holds; no_other = held_is_good }
