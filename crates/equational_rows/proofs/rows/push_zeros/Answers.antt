use Rattle.std.proofs.lemmas.Result.{on_ok_weaker}
use Rattle.equational_rows.proofs.Appended.{zeros_pushed}
use Rattle.equational_rows.proofs.rows.push_zeros.Goals as goal

pub returns : goal.returns
returns c =
    on_ok_weaker c.push_repeated.result (λ e. zeros_pushed c.args.entries.now.items c.push_repeated.new.entries.items c.whole.result c.args.count c.whole.ensures e) c.push_repeated.ensures
