use Rattle.cert_check_law.proofs.Dots.{one_product as lemma}
use Rattle.cert_check_law.proofs.products_are_those_of_fractions.Goals as goal

pub returns : goal.returns
returns c = lemma
