use Rattle.cert_text_law.proofs.Fronts.{not_before, front_before, none_with, no_line_left}
use Rattle.cert_text_law.proofs.laws.faults_leave_the_grammar.Goals as goal

pub returns : goal.returns
returns c = record { within = not_before; before = front_before; with = none_with; end = no_line_left }
