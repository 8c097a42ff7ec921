use Rattle.std.proofs.Common.{◌≡◌, drop}
use Rattle.cert_check_law.specs.Value.{form_of}
use Rattle.program_model.proofs.ValueLemmas.{form_from}
use Rattle.program_model.proofs.points.form.Given as goal

-- what is done so far and what is left give the whole
abbrev pub invariant-loop-j : goal.invariant-loop-j
invariant-loop-j l = form_from l.total (drop l.j l.p.pairs) (drop l.j l.x) l.x ≡ form_of l.p.pairs l.x
