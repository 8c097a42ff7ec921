use Rattle.std.proofs.lemmas.Result.{on_ok_weaker}
use Rattle.equational_law.specs.Standing.{spread}
use Rattle.equational_rows.specs.Built.{all_slacks}
use Rattle.equational.proofs.Pairs.{below_pairs, free_pairs}
use Rattle.equational.proofs.quadratic.push_pairs.Goals as goal

pub returns-in-Some-high : goal.returns-in-Some-high
returns-in-Some-high c =
    on_ok_weaker c.push_padded-in-Some-high.result (λ e. below_pairs c.args.entries.now.items c.push_padded-in-Some-high.new.entries.items (all_slacks c.args.layout.now) c.args.bounds
    (spread c.args.layout.now.region c.args.row.now) c.in-Some-high.field-0 c.in-None.is c.in-Some-high.is e) c.push_padded-in-Some-high.ensures

pub returns-in_ok-push_padded-in-None-high : goal.returns-in_ok-push_padded-in-None-high
returns-in_ok-push_padded-in-None-high c =
    on_ok_weaker c.push_padded-in-None-high-2.result (λ e. free_pairs c.args.entries.now.items c.push_padded-in-None-high.new.entries.items c.push_padded-in-None-high-2.new.entries.items (all_slacks c.args.layout.now)
    c.args.bounds (spread c.args.layout.now.region c.args.row.now) c.in-None.is c.in-None-high.is c.in_ok-push_padded-in-None-high.ensures e) c.push_padded-in-None-high-2.ensures
