use Rattle.std.proofs.Common.{ap, ◌∙◌, ◌++◌}
use Rattle.std.proofs.lemmas.Result.{on_ok_weaker}
use Rattle.program_law.specs.Region.{Region}
use Rattle.equational_law.specs.Standing.{spread}
use Rattle.equational_rows.specs.Built.{all_slacks, signed}
use Rattle.equational.proofs.Pairs.{padded_pushed}
use Rattle.equational.proofs.quadratic.push_padded.Goals as goal

pub returns : goal.returns
returns c =
    on_ok_weaker c.push_zeros.result (λ e. padded_pushed c.args.entries.now.items c.push_spread.new.entries.items c.push_zeros.new.entries.items c.args.negated (spread c.args.layout.now.region c.args.row.now)
    (all_slacks c.args.layout.now) c.slacks.result
    (c.in_ok-push_spread.ensures ∙ ap (λ (bs : Region). c.args.entries.now.items ++ signed c.args.negated (spread bs c.args.row.now)) c.bounds.ensures.bounds) e c.slacks.ensures.slacks) c.push_zeros.ensures
