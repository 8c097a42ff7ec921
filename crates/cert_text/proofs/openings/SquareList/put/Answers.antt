use Rattle.cert_text_law.specs.Told.{with_coef}
use Rattle.cert_text_law.proofs.LastOf.{last_changed, none_changed}
use Rattle.cert_text.proofs.openings.SquareList.put.Goals as goal
use Rattle.cert_text.proofs.openings.SquareList.put.Goals.{in-Some, in_default}

pub returns : goal.returns
returns c = elim c.match-self.branch [
  | in-Some w ↦ rw w.self-inside-is (last_changed (with_coef c.args.column c.args.value) c.self.inside.done w.in-Some.last _ _ (rw w.in-Some.is at c.self.view_is) w.put_coef.ensures)
  | in_default w ↦
      let none = c.self.invariant w.in_default.is in
      rw (w.self-inside-is, w.in_default.is, none) (none_changed (with_coef c.args.column c.args.value) c.args.self.now (rw (w.in_default.is, none) at c.self.view_is))
]
