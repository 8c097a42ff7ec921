use Rattle.std.proofs.Common.{sym, ◌∙◌}
use Rattle.std.proofs.lemmas.Result.{on_ok_weaker}
use Rattle.face_descent.proofs.Systems.{none_there, one_there}
use Rattle.face_descent.proofs.system.push_nonzero.Goals as goal

pub returns-then-is_zero : goal.returns-then-is_zero
returns-then-is_zero c = none_there c.args.j c.args.x c.args.places.now (sym c.is_zero.ensures ∙ c.if-is_zero.true)

pub returns : goal.returns
returns c = on_ok_weaker c.push.result (λ e. one_there c.args.j c.args.x c.args.places.now c.push.new.self (sym c.is_zero.ensures ∙ c.if-is_zero.false) e) c.push.ensures.ok
