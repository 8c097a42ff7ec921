use Rattle.std.proofs.Common.{subst, ◌≤◌}
use Rattle.std.specs.Prelude.{unsigned_abs, ℤ}
use Rattle.frac_core.specs.Parts.{max_part}
use Rattle.mps_tables.proofs.GoodSides.{IsRow-plain, IsRow-ranged}
use Rattle.mps_tables.proofs.row_sides.sides.Goals as goal

pub returns-in_default-clause-good : goal.returns-in_default-clause-good
returns-in_default-clause-good c = λ e. rw c.plain_sides-row.ensures (IsRow-plain c.args.kind c.args.right e)

pub returns-clause-good : goal.returns-clause-good
returns-clause-good c = λ e.
    let num = subst (λ (n : ℤ). unsigned_abs n ≤ max_part) c.num-num.ensures.value c.num-num.ensures.fits in
    rw c.sides_beside-row.ensures (IsRow-ranged c.args.kind c.args.right c.in-Some.range e (num, c.den-den.ensures.fits))
