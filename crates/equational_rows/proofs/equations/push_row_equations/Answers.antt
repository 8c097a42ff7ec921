use Rattle.std.specs.Prelude.{◌≡◌, Bool, true, false, not}
use Rattle.std.proofs.Common.{ap, sym, refl, ◌∙◌}
use Rattle.rational.specs.Rational.{ℚ, neg_ℚ}
use Rattle.equational_law.specs.Standing.{spread}
use Rattle.equational_rows.specs.Built.{all_slacks, taken}
use Rattle.equational_rows.proofs.Gathered.{answers_as, by_same, by_others, by_low, by_high, by_none}
use Rattle.equational_rows.proofs.equations.push_row_equations.Goals as goal

differ : (b : Bool) → not b ≡ true → b ≡ false
differ false e = refl
differ true e = cc

agree : (b : Bool) → not b ≡ false → b ≡ true
agree true e = refl
agree false e = cc

pub returns-then-ne : goal.returns-then-ne
returns-then-ne c =
    answers_as _ c.push_two_sides.result _ _
    (ap (taken (all_slacks c.args.layout.now) c.args.rows.now) (by_others c.args.sides.low c.args.sides.high c.in-Some.low c.in-Some-high.high c.args.before (spread c.args.layout.now.region c.args.row.now) c.args.product
    c.in-Some.is c.in-Some-high.is (differ _ (sym c.ne.ensures ∙ c.if-ne.true)))) c.push_two_sides.ensures

pub returns-else-ne : goal.returns-else-ne
returns-else-ne c =
    answers_as _ c.push_side.result _ _
    (ap (taken (all_slacks c.args.layout.now) c.args.rows.now) (by_same c.args.sides.low c.args.sides.high c.in-Some.low c.in-Some-high.high c.args.before (spread c.args.layout.now.region c.args.row.now) c.args.product
    c.whole-entry.result c.in-Some.is c.in-Some-high.is (agree _ (sym c.ne.ensures ∙ c.if-ne.false)))) c.push_side.ensures

pub returns-in-None-high : goal.returns-in-None-high
returns-in-None-high c =
    answers_as _ c.push_side-in-None-high.result _ _
    (ap (taken (all_slacks c.args.layout.now) c.args.rows.now) (by_low c.args.sides.low c.args.sides.high c.in-Some.low c.args.before (spread c.args.layout.now.region c.args.row.now) c.args.product
    c.neg.result c.in-Some.is c.in-None-high.is (c.neg.ensures ∙ ap (λ (x : ℚ). neg_ℚ x) c.whole-entry.ensures))) c.push_side-in-None-high.ensures

pub returns-in-Some-high-2 : goal.returns-in-Some-high-2
returns-in-Some-high-2 c =
    answers_as _ c.push_side-in-Some-high-2.result _ _
    (ap (taken (all_slacks c.args.layout.now) c.args.rows.now) (by_high c.args.sides.low c.args.sides.high c.in-Some-high-2.high c.args.before (spread c.args.layout.now.region c.args.row.now) c.args.product
    c.whole-entry.result c.in-None.is c.in-Some-high-2.is c.whole-entry.ensures)) c.push_side-in-Some-high-2.ensures

pub returns-in-None-high-2 : goal.returns-in-None-high-2
returns-in-None-high-2 c =
    by_none (all_slacks c.args.layout.now) c.args.rows.now c.args.sides.low c.args.sides.high c.args.before (spread c.args.layout.now.region c.args.row.now) c.args.product c.in-None.is c.in-None-high-2.is
